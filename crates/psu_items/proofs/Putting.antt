-- From the map on the disk to the target: the images that are possible at each moment of a commit.
use Rattle.std.proofs.Common.{◌≡◌, inl, inr, ⊎_elim, ℕ, ◌+◌, List, [], ◌∷◌, length, map, suc, refl, sym, ◌∙◌, ap, subst}
use Rattle.std.specs.List.{AllByRecursion}
use Rattle.psu_disk.specs.Disk.{LeavesOnly}
use Rattle.psu_disk.specs.Moments.{and_then, weaken}
use Rattle.psu_disk.specs.declared.disk.Disk.{Ghosts}
use Rattle.psu_map.specs.Map.{Item, get, IsSorted}
use Rattle.psu_map.specs.Capacity.{IsMapOf}
use Rattle.psu_pages.specs.declared.pages.Pages.{Pages}
use Rattle.psu_pages.specs.Image.{Head, other, head_at, keys}
use Rattle.psu_pages.specs.Outcome.{EncodesPages, EncodesPagesOrHeads, HasSameHeads, HasPublished}
use Rattle.psu_pages.specs.Shown.{item_in, items_in}
use Rattle.psu_pages.specs.Shown as shown
use Rattle.psu_pages.specs.Writing.{IsWritten}
use Rattle.psu_items.specs.Image.{as_item, listed, shown_in, RepresentsAs, IsEitherRoot}
use Rattle.psu_items.specs.Standing.{ShowsMap}
use Rattle.psu_items.specs.declared.layout.Slot.{Slot}
use Rattle.psu_items.specs.Layout.{heads_of, keys_in, value_at, StandsWritten}
use Rattle.psu_items.proofs.Standing.{encodes_as}
use Rattle.psu_items.proofs.Writing.{listed_is}

pub length-keys_in : (items : List Item) → length (keys_in items) ≡ length items
length-keys_in [] = refl
length-keys_in (i ∷ items) = ap suc (length-keys_in items)

module _ {A : Type 0} where
  there : (image : List ℕ) (target : List Item) (slots : List (Slot A)) → AllByRecursion (λ (o : Slot A). IsWritten image o.head (value_at target o.head.key)) slots → AllByRecursion (λ (head : Head). head_at image head.at ≡ head) (heads_of slots)
  there image target [] all = tt
  there image target (s ∷ slots) all = (let w = all.0 in w.head_is, there image target slots all.1)

  -- slots, of which those that are not new were written before
  module _ (was image : List ℕ) (target : List Item) (slots ss : List (Slot A)) (heads : List Head) (are : ss ≡ slots) (named : heads ≡ heads_of slots) (kept : AllByRecursion (StandsWritten was target) slots)
      (clause : AllByRecursion (StandsWritten was target) ss → AllByRecursion (λ (o : Slot A). IsWritten image o.head (value_at target o.head.key)) ss) where
    written : AllByRecursion (λ (o : Slot A). IsWritten image o.head (value_at target o.head.key)) slots
    written = subst (AllByRecursion (λ (o : Slot A). IsWritten image o.head (value_at target o.head.key))) are (clause (subst (AllByRecursion (StandsWritten was target)) (sym are) kept))

    pub heads_there : AllByRecursion (λ (head : Head). head_at image head.at ≡ head) heads
    heads_there = subst (AllByRecursion (λ (head : Head). head_at image head.at ≡ head)) (sym named) (there image target slots written)

    pub heads_list : IsSorted target → keys (heads_of slots) ≡ keys_in target → listed image heads ≡ target
    heads_list sorted keys_are = ap (listed image) named ∙ listed_is image target slots sorted keys_are written

  length-keys : (slots : List (Slot A)) → length (keys (heads_of slots)) ≡ length slots
  length-keys [] = refl
  length-keys (s ∷ slots) = ap suc (length-keys slots)

  pub as_many : (slots : List (Slot A)) (target : List Item) → keys (heads_of slots) ≡ keys_in target → length slots ≡ length target
  as_many slots target are = sym (length-keys slots) ∙ ap (λ (ks : List (List ℕ)). length ks) are ∙ length-keys_in target

module _ {D A : Type 0} {G : Ghosts D} (old mid : Pages D A G) (before target : List Item) (h : Ghosts.honest G) (shows : ShowsMap old before) where
  -- the map before, under its version and its number, or the target, as version 2 and under the next number
  abbrev Renews : List ℕ → Type 0
  Renews = IsEitherRoot old.version old.number old.limit before target

  pub from_encodes : (x : List ℕ) → EncodesPages old x → Renews x
  from_encodes x encodes = inl (encodes_as old.root old.version old.limit old.number old.heads.items (items_in old.root (Ghosts.state G old.disk).bytes) before x shows.sorted (shows.holds h) encodes)

  pub run_one : LeavesOnly (Ghosts.moment G) (Ghosts.left_since G) old.disk mid.disk (EncodesPages old) → LeavesOnly (Ghosts.moment G) (Ghosts.left_since G) old.disk mid.disk Renews
  run_one run = weaken (Ghosts.moment G) (Ghosts.left_since G) old.disk mid.disk (EncodesPages old) Renews run from_encodes

  module _ (same : HasSameHeads old mid) (items : items_in mid.root (Ghosts.state G mid.disk).bytes ≡ items_in old.root (Ghosts.state G old.disk).bytes) (sorted : IsSorted target)
      (heads : List Head) (are : listed (Ghosts.state G mid.disk).bytes heads ≡ target) where
    abbrev Switches : List ℕ → Type 0
    Switches = EncodesPagesOrHeads mid heads

    of_target : IsMapOf target (listed (Ghosts.state G mid.disk).bytes heads)
    of_target k = ap (λ (m : List Item). get m k) (sym are)

    of_before : IsMapOf before (map as_item (items_in mid.root (Ghosts.state G mid.disk).bytes))
    of_before = subst (λ (is : List shown.Item). IsMapOf before (map as_item is)) (sym items) (shows.holds h)

    pub from_either : (x : List ℕ) → Switches x → Renews x
    from_either x either = subst (λ (n : ℕ). IsEitherRoot n old.number old.limit before target x) same.version (subst (λ (n : ℕ). IsEitherRoot mid.version n old.limit before target x) same.number (subst (λ (n : ℕ). IsEitherRoot mid.version mid.number n before target x) same.limit (⊎_elim
        (λ encodes. inl (encodes_as (other (other mid.root)) mid.version mid.limit mid.number mid.heads.items (items_in mid.root (Ghosts.state G mid.disk).bytes) before x shows.sorted of_before encodes))
        (λ encodes. inr (encodes_as (other mid.root) 2 mid.limit (mid.number + 1) heads (map (item_in (Ghosts.state G mid.disk).bytes) heads) target x sorted of_target encodes))
        either)))

    pub run_two : (new : D) → LeavesOnly (Ghosts.moment G) (Ghosts.left_since G) old.disk mid.disk (EncodesPages old) → LeavesOnly (Ghosts.moment G) (Ghosts.left_since G) mid.disk new Switches → LeavesOnly (Ghosts.moment G) (Ghosts.left_since G) old.disk new Renews
    run_two new first second = and_then (Ghosts.moment G) (Ghosts.left_since G) old.disk mid.disk new Renews Switches (run_one first) second from_either

    module _ (two : Pages D A G) (published : HasPublished mid two heads) (limit_is : two.limit ≡ mid.limit) (now : items_in two.root (Ghosts.state G two.disk).bytes ≡ map (item_in (Ghosts.state G mid.disk).bytes) heads) where
      of_two : IsMapOf target (map as_item (items_in two.root (Ghosts.state G two.disk).bytes))
      of_two = subst (λ (is : List shown.Item). IsMapOf target (map as_item is)) (sym now) of_target

      pub from_two : (x : List ℕ) → EncodesPages two x → Renews x
      from_two x encodes = inr (
          subst (λ (n : ℕ). RepresentsAs 2 n x old.limit target) (published.number ∙ ap (λ (n : ℕ). n + 1) same.number)
          (subst (λ (n : ℕ). RepresentsAs n two.number x old.limit target) published.version
          (subst (λ (n : ℕ). RepresentsAs two.version two.number x n target) (limit_is ∙ same.limit)
          (encodes_as two.root two.version two.limit two.number two.heads.items (items_in two.root (Ghosts.state G two.disk).bytes) target x sorted of_two encodes))))

      pub run_three : (new : D) → LeavesOnly (Ghosts.moment G) (Ghosts.left_since G) old.disk mid.disk (EncodesPages old) → LeavesOnly (Ghosts.moment G) (Ghosts.left_since G) mid.disk two.disk Switches
          → LeavesOnly (Ghosts.moment G) (Ghosts.left_since G) two.disk new (EncodesPages two) → LeavesOnly (Ghosts.moment G) (Ghosts.left_since G) old.disk new Renews
      run_three new first second third = and_then (Ghosts.moment G) (Ghosts.left_since G) old.disk two.disk new Renews (EncodesPages two) (run_two two.disk first second) third from_two

-- the items that the root shows after the last step
pub shown_last : {D A : Type 0} {G : Ghosts D} (mid two last : Pages D A G) (target : List Item) (heads : List Head) → listed (Ghosts.state G mid.disk).bytes heads ≡ target
    → items_in two.root (Ghosts.state G two.disk).bytes ≡ map (item_in (Ghosts.state G mid.disk).bytes) heads → items_in last.root (Ghosts.state G last.disk).bytes ≡ items_in two.root (Ghosts.state G two.disk).bytes → IsMapOf target (shown_in last.root (Ghosts.state G last.disk).bytes)
shown_last mid two last target heads are now then k = ap (λ (m : List Item). get m k) (sym (ap (map as_item) (then ∙ now) ∙ are))
