-- The items that are read from written slots.
use Rattle.std.proofs.Common.{◌≡◌, ℕ, List, [], ◌∷◌, map, Some, refl, ◌∙◌, ap}
use Rattle.std.specs.List.{AllByRecursion}
use Rattle.psu_map.specs.Map.{Item, item_of, get, IsSorted}
use Rattle.psu_map.proofs.Maps.{all_own}
use Rattle.psu_pages.specs.Image.{keys}
use Rattle.psu_pages.specs.Shown.{item_in}
use Rattle.psu_pages.specs.Shown as shown
use Rattle.psu_pages.specs.Writing.{IsWritten}
use Rattle.psu_items.specs.Image.{as_item, listed}
use Rattle.psu_items.specs.declared.layout.Slot.{Slot}
use Rattle.psu_items.specs.Layout.{heads_of, keys_in, value_of, value_at}

-- the items of the target at these keys
abbrev by_keys : List Item → List (List ℕ) → List Item
by_keys target ks = map (λ (k : List ℕ). item_of k (value_at target k)) ks

by_own : (target items : List Item) → AllByRecursion (λ (i : Item). get target i.key ≡ Some i.value) items → by_keys target (keys_in items) ≡ items
by_own target [] own = refl
by_own target (i ∷ items) own =
    let first : item_of i.key (value_at target i.key) ≡ i = ap (λ (v : List ℕ). item_of i.key v) (ap value_of own.0) in
    ap (λ (j : Item). j ∷ by_keys target (keys_in items)) first ∙ ap (λ (l : List Item). i ∷ l) (by_own target items own.1)

module _ {A : Type 0} where
  listed_keys : (image : List ℕ) (target : List Item) (slots : List (Slot A)) → AllByRecursion (λ (o : Slot A). IsWritten image o.head (value_at target o.head.key)) slots → listed image (heads_of slots) ≡ by_keys target (keys (heads_of slots))
  listed_keys image target [] all = refl
  listed_keys image target (s ∷ slots) all =
      ap (λ (i : shown.Item). as_item i ∷ listed image (heads_of slots)) (let w = all.0 in w.item_is) ∙ ap (λ (l : List Item). item_of s.head.key (value_at target s.head.key) ∷ l) (listed_keys image target slots all.1)

  pub listed_is : (image : List ℕ) (target : List Item) (slots : List (Slot A)) → IsSorted target → keys (heads_of slots) ≡ keys_in target → AllByRecursion (λ (o : Slot A). IsWritten image o.head (value_at target o.head.key)) slots → listed image (heads_of slots) ≡ target
  listed_is image target slots sorted are all = listed_keys image target slots all ∙ ap (by_keys target) are ∙ by_own target target (all_own target sorted)
