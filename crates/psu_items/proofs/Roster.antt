-- A root may name the heads of a target's slots, and those that are not new hold the target's values already.
use Rattle.std.proofs.Common.{◌≡◌, ℕ, zero, suc, ◌+◌, ◌*◌, ◌/◌, ◌<◌, ◌≤◌, List, [], ◌∷◌, ◌++◌, length, get_or, Option, Bool, true, false, Some, cond, refl, sym, ◌∙◌, ap, subst, arith, length-append}
use Rattle.std.specs.List.{AllByRecursion}
use Rattle.psu_disk.specs.Ranges.{reads_left}
use Rattle.psu_disk.specs.declared.disk.Disk.{Ghosts}
use Rattle.psu_map.specs.Map.{Item, get, cost, Before, IsSorted}
use Rattle.psu_map.specs.Capacity.{CanHold, Fits, IsMapOf}
use Rattle.psu_map.proofs.Keys.{same_true, other_key, never_before_itself}
use Rattle.psu_map.proofs.Maps.{all_own}
use Rattle.psu_pages.specs.declared.pages.Pages.{Pages}
use Rattle.psu_pages.specs.Image.{Head, IsHead, IsNone, IsInPool, AreApart, value_in, head_at, pages_of, taken, keys}
use Rattle.psu_pages.specs.Free.{is_free, AreClaimed, IsRoster}
use Rattle.psu_pages.specs.Shown.{item_of}
use Rattle.psu_pages.proofs.Lists.{all_at, all_map}
use Rattle.psu_pages.proofs.Taken.{key_differs}
use Rattle.psu_pages.proofs.Encoding.{heads_there}
use Rattle.psu_items.specs.Image.{listed}
use Rattle.psu_items.specs.Standing.{ShowsMap}
use Rattle.psu_items.specs.declared.layout.Slot.{Slot}
use Rattle.psu_items.specs.Layout.{heads_of, keys_in, value_of, value_at, IsSlot, AreSlots, IsSized, StandsWritten}
use Rattle.psu_items.proofs.Standing.{surely}
use Rattle.psu_items.proofs.Laying.{join_pages, one_all}
use Rattle.psu_items.proofs.Putting.{as_many}

-- no key occurs twice in a map
none_after : (key : List ℕ) (items : List Item) → AllByRecursion (λ (j : Item). Before key j.key) items → IsNone (keys_in items) key
none_after key [] all = tt
none_after key (i ∷ items) all = (λ same. never_before_itself key (subst (Before key) (sym same) all.0), none_after key items all.1)

sorted_apart : (items : List Item) → IsSorted items → AreApart (keys_in items)
sorted_apart [] sorted = tt
sorted_apart (i ∷ items) sorted = (none_after i.key items sorted.0, sorted_apart items sorted.1)

-- the cost of the values at these keys
keys_cost : List Item → List (List ℕ) → ℕ
keys_cost target [] = 0
keys_cost target (key ∷ ks) = (1 + (length (value_at target key) + 511) / 512) + keys_cost target ks

own_cost : (target items : List Item) → AllByRecursion (λ (i : Item). get target i.key ≡ Some i.value) items → keys_cost target (keys_in items) ≡ cost items
unfolding keys_cost
own_cost target [] own = refl
own_cost target (i ∷ items) own =
    let value : value_at target i.key ≡ i.value = ap value_of own.0 in
    ap (λ (v : List ℕ). (1 + (length v + 511) / 512) + keys_cost target (keys_in items)) value ∙ ap (λ (n : ℕ). (1 + (length i.value + 511) / 512) + n) (own_cost target items own.1)

-- an item costs at least two pages
two_each : (items : List Item) → AllByRecursion Fits items → 2 * length items ≤ cost items
two_each [] all = omega arith
two_each (i ∷ items) all = let rest = two_each items all.1 in let some = all.0.value in omega arith

-- the value of a head is the listed one at its key
pub listed_value : (image : List ℕ) (heads : List Head) (i : ℕ) (d : Head) → i < length heads → AreApart (keys heads) → get (listed image heads) (let h = get_or heads i d in h.key) ≡ Some (value_in image (get_or heads i d))
listed_value image [] i d lt apart = absurd (omega (arith, lt))
listed_value image (h ∷ heads) zero d lt apart = ap (λ (b : Bool). cond b (Some (value_in image h)) (get (listed image heads) h.key)) (same_true h.key h.key refl)
listed_value image (h ∷ heads) (suc i) d lt apart =
    let within : i < length heads = omega (arith, lt) in
    let k = (let one = get_or heads i d in one.key) in
    ap (λ (b : Bool). cond b (Some (value_in image h)) (get (listed image heads) k)) (other_key h.key k (key_differs h.key heads i d within apart.0)) ∙ listed_value image heads i d within apart.1

abbrev had : List ℕ → Option (List ℕ)
had v = Some v

had_is : (v w : List ℕ) → had v ≡ had w → v ≡ w
had_is v w e = cc

module _ {A : Type 0} where
  all_heads : (P : Head → Type 0) (slots : List (Slot A)) → AllByRecursion (λ (s : Slot A). P s.head) slots → AllByRecursion P (heads_of slots)
  all_heads P [] all = tt
  all_heads P (s ∷ slots) all = (all.0, all_heads P slots all.1)

  taken_cost : (target : List Item) (slots : List (Slot A)) → AllByRecursion (λ (s : Slot A). IsHead s.head × (s.head.size ≡ length (value_at target s.head.key))) slots → length (taken (heads_of slots)) ≡ keys_cost target (keys (heads_of slots))
  unfolding keys_cost
  taken_cost target [] all = refl
  taken_cost target (s ∷ slots) all =
      let head : IsHead s.head = all.0.0 in
      let count : length s.head.pages ≡ (length (value_at target s.head.key) + 511) / 512 = head.count ∙ ap (λ (n : ℕ). (n + 511) / 512) all.0.1 in
      let rest = taken_cost target slots all.1 in
      let total : length (pages_of s.head ++ taken (heads_of slots)) ≡ (1 + (length (value_at target s.head.key) + 511) / 512) + keys_cost target (keys (heads_of slots)) = omega (arith, length-append (pages_of s.head) (taken (heads_of slots)), count, rest) in
      total

module _ {D A : Type 0} {G : Ghosts D} (pages : Pages D A G) (before target : List Item) where
  is_head : (s : Slot A) → IsSlot pages before target s → IsHead s.head
  is_head s is = by_kind s.is_new refl
    where
      by_kind : (b : Bool) → s.is_new ≡ b → IsHead s.head
      by_kind true e = (is.planned e).is_head
      by_kind false e = let one = is.kept e in subst IsHead one.2 (all_at IsHead pages.heads.items one.0 s.head one.1 pages.roster.each)

  in_pool : (s : Slot A) → IsSlot pages before target s → AllByRecursion (IsInPool pages.limit) (pages_of s.head)
  in_pool s is = by_kind s.is_new refl
    where
      by_kind : (b : Bool) → s.is_new ≡ b → AllByRecursion (IsInPool pages.limit) (pages_of s.head)
      by_kind true e = (is.planned e).pool
      by_kind false e = one_all (IsInPool pages.limit) pages.heads.items s.head (is.kept e) pages.roster.pool

  are_claimed : (s : Slot A) → IsSlot pages before target s → AreClaimed pages.free (pages_of s.head)
  are_claimed s is = by_kind s.is_new refl
    where
      by_kind : (b : Bool) → s.is_new ≡ b → AreClaimed pages.free (pages_of s.head)
      by_kind true e = (is.planned e).claimed
      by_kind false e = one_all (λ (p : ℕ). is_free pages.free p ≡ false) pages.heads.items s.head (is.kept e) pages.claimed

  -- the slots for these items have as many pages as the items cost
  pub part_cost : (items : List Item) (slots : List (Slot A)) → AreSlots pages before target items slots → AllByRecursion (λ (i : Item). get target i.key ≡ Some i.value) items → length (taken (heads_of slots)) ≡ cost items
  part_cost items slots so own =
      taken_cost target slots (all_map (IsSlot pages before target) (λ (s : Slot A). IsHead s.head × (s.head.size ≡ length (value_at target s.head.key))) (λ s is. (is_head s is, is.size_is)) slots so.each)
      ∙ ap (keys_cost target) so.keys_are ∙ own_cost target items own

  module _ (slots : List (Slot A)) (so : AreSlots pages before target target slots) where
    pub slots_sized : AllByRecursion (IsSized target) slots
    slots_sized = all_map (IsSlot pages before target) (IsSized target) (λ s is. record { has = is.has; size_is = is.size_is }) slots so.each

    pub slots_claimed : AreClaimed pages.free (taken (heads_of slots))
    slots_claimed = join_pages (λ (p : ℕ). is_free pages.free p ≡ false) slots (all_map (IsSlot pages before target) (λ (s : Slot A). AreClaimed pages.free (pages_of s.head)) are_claimed slots so.each)

    cost_is : IsSorted target → length (taken (heads_of slots)) ≡ cost target
    cost_is sorted = part_cost target slots so (all_own target sorted)

    pub slots_roster : (limit : ℕ) → pages.limit ≡ limit → CanHold limit target → IsSorted target → IsRoster pages.limit (heads_of slots)
    slots_roster limit limit_is can sorted = record {
      each = all_heads IsHead slots (all_map (IsSlot pages before target) (λ (s : Slot A). IsHead s.head) is_head slots so.each);
      pool = join_pages (IsInPool pages.limit) slots (all_map (IsSlot pages before target) (λ (s : Slot A). AllByRecursion (IsInPool pages.limit) (pages_of s.head)) in_pool slots so.each);
      apart = so.apart;
      count = omega (arith, two_each target can.fits, can.cost, limit_is, pages.limit_most, as_many slots target so.keys_are, length_heads slots);
      cost = omega (arith, can.cost, cost_is sorted, limit_is);
      distinct = subst (λ (ks : List (List ℕ)). AreApart ks) (sym so.keys_are) (sorted_apart target sorted);
    }
      where
        length_heads : (ss : List (Slot A)) → length (heads_of ss) ≡ length ss
        length_heads [] = refl
        length_heads (s ∷ ss) = ap suc (length_heads ss)

    -- slots that are not new hold the values that the target has
    pub slots_stand : ShowsMap pages before → Ghosts.honest G → AllByRecursion (StandsWritten (Ghosts.state G pages.disk).bytes target) slots
    slots_stand shows h = all_map (IsSlot pages before target) (StandsWritten (Ghosts.state G pages.disk).bytes target) one_stands slots so.each
      where
        one_stands : (s : Slot A) → IsSlot pages before target s → StandsWritten (Ghosts.state G pages.disk).bytes target s
        one_stands s is old =
            let image = (Ghosts.state G pages.disk).bytes in
            let heads = pages.heads.items in
            let encodes = pages.encodes h (surely pages.standing shows.one) image (reads_left (Ghosts.state G pages.disk)) in
            let one = is.kept old in
            let value : get (listed image heads) s.head.key ≡ Some (value_in image s.head) = subst (λ (hd : Head). get (listed image heads) hd.key ≡ Some (value_in image hd)) one.2 (listed_value image heads one.0 s.head one.1 pages.roster.distinct) in
            let map_of : IsMapOf before (listed image heads) = subst (λ (hs : List Head). IsMapOf before (listed image hs)) encodes.has_contents.heads_are (shows.holds h) in
            let same : had (value_in image s.head) ≡ had (value_at target s.head.key) = sym value ∙ sym (map_of s.head.key) ∙ is.stands old ∙ is.has in
            let there : head_at image s.head.at ≡ s.head = subst (λ (hd : Head). head_at image hd.at ≡ hd) one.2 (all_at (λ (hd : Head). head_at image hd.at ≡ hd) heads one.0 s.head one.1 (heads_there pages.root image heads encodes.has_contents.heads_are)) in
            record { head_is = there; item_is = ap (item_of s.head.key) (had_is (value_in image s.head) (value_at target s.head.key) same) }
