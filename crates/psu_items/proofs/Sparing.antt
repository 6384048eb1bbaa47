-- No page stays claimed but those of the current root's heads.
use Rattle.std.proofs.Common.{◌≡◌, ◌≢◌, ⊎_elim, refl, ℕ, List, [], ◌∷◌, ◌++◌, map, true, false, sym, ◌∙◌, ap, subst}
use Rattle.std.specs.List.{AllByRecursion}
use Rattle.psu_disk.specs.declared.disk.Disk.{Ghosts}
use Rattle.psu_pages.specs.declared.pages.Pages.{Pages}
use Rattle.psu_pages.specs.Free.{is_free, Marks}
use Rattle.psu_pages.specs.Image.{Head, IsInPool, IsNone, pages_of, taken}
use Rattle.psu_pages.specs.Outcome.{HasSameHeads, HasClosed, HasPublished, HasSameRoots}
use Rattle.psu_pages.proofs.Lists.{all_left, all_right, all_join, all_map}
use Rattle.psu_pages.proofs.Marking.{none_or}
use Rattle.psu_items.specs.Standing.{IsSpare, AreSpare}
use Rattle.psu_items.specs.declared.layout.Slot.{Slot}
use Rattle.psu_items.specs.Layout.{IsOneOf, heads_of, IsSlot, AreSlots}
use Rattle.psu_items.specs.Image.{as_item, shown_in}
use Rattle.psu_map.specs.Map.{Item, get}
use Rattle.psu_map.specs.Capacity.{IsMapOf}
use Rattle.psu_pages.specs.declared.root.Root.{Root}
use Rattle.psu_pages.specs.Shown.{items_in}
use Rattle.psu_items.proofs.Laying.{pages_more, one_all}

-- what holds of a page that differs from all of these, and of each of these, holds of the page
apply : (P : ℕ → Type 0) (p : ℕ) (ys : List ℕ) → (IsNone ys p → P p) → AllByRecursion P ys → P p
apply P p ys none all = ⊎_elim none (λ inside. inside P all) (none_or p ys)

module _ {D A : Type 0} {G : Ghosts D} (old new : Pages D A G) where
  pub spare_same : HasSameHeads old new → old.older.items ≡ [] → IsSpare old old.heads.items → AreSpare new (taken new.heads.items) (taken new.older.items)
  spare_same same none spare page pool not_head not_older =
      let heads = ap (λ v. v.items) same.heads in
      ap (λ f. is_free f page) same.free ∙ spare page (subst (λ (n : ℕ). IsInPool n page) same.limit pool) (subst (λ (hs : List Head). IsNone (taken hs) page) heads not_head)

  -- the gate of the older root is closed
  pub spare_closed : HasClosed old new → new.limit ≡ old.limit → AreSpare old (taken old.heads.items) (taken old.older.items) → IsSpare new new.heads.items
  spare_closed closed limit spare page pool not_head =
      let heads = ap (λ v. v.items) closed.heads in
      let none : IsNone (taken old.heads.items) page = subst (λ (hs : List Head). IsNone (taken hs) page) heads not_head in
      let mine : IsInPool old.limit page = subst (λ (n : ℕ). IsInPool n page) limit pool in
      let given : IsNone (taken old.heads.items) page → is_free new.free page ≡ true = apply (λ (p : ℕ). IsNone (taken old.heads.items) p → is_free new.free p ≡ true) page (taken old.older.items) (λ not_older n. closed.free.others page not_older ∙ spare page mine n not_older) closed.free.released in
      given none

  -- a root that names the heads of slots is published
  pub spare_published : (two : Pages D A G) (heads named : List Head) → HasSameHeads old new → HasPublished new two heads → two.limit ≡ new.limit → heads ≡ named → AreSpare old (taken old.heads.items) (taken named) → AreSpare two (taken two.heads.items) (taken two.older.items)
  spare_published two heads named same published limit is spare page pool not_head not_older =
      let older : two.older.items ≡ old.heads.items = ap (λ v. v.items) (published.older ∙ same.heads) in
      ap (λ f. is_free f page) (published.free ∙ same.free)
      ∙ spare page (subst (λ (n : ℕ). IsInPool n page) (limit ∙ same.limit) pool) (subst (λ (hs : List Head). IsNone (taken hs) page) older not_older) (subst (λ (hs : List Head). IsNone (taken hs) page) (published.heads_are ∙ is) not_head)

  -- slots were laid out
  pub laid_spare : HasSameRoots old new → (slots : List (Slot A)) → ((page : ℕ) → IsNone (taken (heads_of slots)) page → is_free new.free page ≡ is_free old.free page) → IsSpare old old.heads.items → AreSpare new (taken new.heads.items) (taken (heads_of slots))
  laid_spare roots slots claims spare page pool not_head not_slot =
      claims page not_slot ∙ spare page (subst (λ (n : ℕ). IsInPool n page) roots.limit pool) (subst (λ (hs : List Head). IsNone (taken hs) page) (ap (λ v. v.items) roots.heads) not_head)

  -- the pages of one slot are freed
  module _ (roots : HasSameRoots old new) (slots rest : List (Slot A)) (s : Slot A) (are : slots ≡ rest ++ s ∷ []) (spare : AreSpare old (taken old.heads.items) (taken (heads_of slots))) where
    before : (page : ℕ) → IsInPool new.limit page → IsNone (taken new.heads.items) page → IsNone (taken (heads_of rest)) page → IsNone (pages_of s.head) page → is_free old.free page ≡ true
    before page pool not_head not_rest not_one =
        let both : IsNone (taken (heads_of (rest ++ s ∷ []))) page = subst (λ (l : List ℕ). IsNone l page) (sym (pages_more rest s)) (all_join (λ (q : ℕ). page ≢ q) (taken (heads_of rest)) (pages_of s.head) not_rest not_one) in
        spare page (subst (λ (n : ℕ). IsInPool n page) roots.limit pool) (subst (λ (hs : List Head). IsNone (taken hs) page) (ap (λ v. v.items) roots.heads) not_head) (subst (λ (l : List (Slot A)). IsNone (taken (heads_of l)) page) (sym are) both)

    pub given_step : Marks true (pages_of s.head) old.free new.free → AreSpare new (taken new.heads.items) (taken (heads_of rest))
    given_step marks page pool not_head not_rest = apply (λ (p : ℕ). is_free new.free p ≡ true) page (pages_of s.head) (λ not_one. marks.others page not_one ∙ before page pool not_head not_rest not_one) marks.marked

    pub kept_step : IsOneOf new.heads.items s.head → new.free ≡ old.free → AreSpare new (taken new.heads.items) (taken (heads_of rest))
    kept_step one free page pool not_head not_rest =
        let inside : IsNone (taken new.heads.items) page → is_free new.free page ≡ true = apply (λ (p : ℕ). IsNone (taken new.heads.items) p → is_free new.free p ≡ true) page (pages_of s.head)
        (λ not_one n. ap (λ f. is_free f page) free ∙ before page pool n not_rest not_one)
        (all_map (λ (p : ℕ). IsNone (taken new.heads.items) p → ⊥) (λ (p : ℕ). IsNone (taken new.heads.items) p → is_free new.free p ≡ true) (λ p no n. absurd (no n)) (pages_of s.head) (one_all (λ (p : ℕ). IsNone (taken new.heads.items) p → ⊥) new.heads.items s.head one (members (taken new.heads.items)))) in
        inside not_head
      where
        members : (ys : List ℕ) → AllByRecursion (λ (p : ℕ). IsNone ys p → ⊥) ys
        members [] = tt
        members (y ∷ ys) = ((λ none. none.0 refl), all_map (λ (p : ℕ). IsNone ys p → ⊥) (λ (p : ℕ). IsNone (y ∷ ys) p → ⊥) (λ p no none. no none.1) ys (members ys))

-- the pages claimed for the slots, and for one more
pub claims_step : {D A : Type 0} {G : Ghosts D} (old mid new : Pages D A G) (slots after : List (Slot A)) (s : Slot A) → after ≡ slots ++ s ∷ []
    → ((page : ℕ) → IsNone (taken (heads_of slots)) page → is_free mid.free page ≡ is_free old.free page) → ((page : ℕ) → IsNone (pages_of s.head) page → is_free new.free page ≡ is_free mid.free page)
    → (page : ℕ) → IsNone (taken (heads_of after)) page → is_free new.free page ≡ is_free old.free page
claims_step {D} {A} {G} old mid new slots after s are first second page none =
    let both : IsNone (taken (heads_of slots) ++ pages_of s.head) page = subst (λ (l : List ℕ). IsNone l page) (pages_more slots s) (subst (λ (l : List (Slot A)). IsNone (taken (heads_of l)) page) are none) in
    second page (all_right (λ (q : ℕ). page ≢ q) (taken (heads_of slots)) (pages_of s.head) both) ∙ first page (all_left (λ (q : ℕ). page ≢ q) (taken (heads_of slots)) (pages_of s.head) both)

-- where a root shows nothing, its map is empty
pub none_shown : (root : Root) (image : List ℕ) → items_in root image ≡ [] → IsMapOf [] (shown_in root image)
none_shown root image empty k = ap (λ is. get (map as_item is) k) (sym empty)

-- slots that are not new have heads that the current root names
pub slots_kept : {D A : Type 0} {G : Ghosts D} (pages : Pages D A G) (before target items : List Item) (slots : List (Slot A)) → AreSlots pages before target items slots → AllByRecursion (λ (o : Slot A). o.is_new ≡ false → IsOneOf pages.heads.items o.head) slots
slots_kept {D} {A} pages before target items slots so = all_map (IsSlot pages before target) (λ (o : Slot A). o.is_new ≡ false → IsOneOf pages.heads.items o.head) (λ o is. is.kept) slots so.each

pub kept_still : {D A : Type 0} {G : Ghosts D} (old new : Pages D A G) → HasSameRoots old new → (slots : List (Slot A)) → AllByRecursion (λ (o : Slot A). o.is_new ≡ false → IsOneOf old.heads.items o.head) slots → AllByRecursion (λ (o : Slot A). o.is_new ≡ false → IsOneOf new.heads.items o.head) slots
kept_still {D} {A} old new roots slots all = subst (λ (hs : List Head). AllByRecursion (λ (o : Slot A). o.is_new ≡ false → IsOneOf hs o.head) slots) (sym (ap (λ v. v.items) roots.heads)) all

module _ {A : Type 0} (heads : List Head) (slots rest : List (Slot A)) (s : Slot A) (are : slots ≡ rest ++ s ∷ []) (kept : AllByRecursion (λ (o : Slot A). o.is_new ≡ false → IsOneOf heads o.head) slots) where
  pub left_kept : AllByRecursion (λ (o : Slot A). o.is_new ≡ false → IsOneOf heads o.head) rest
  left_kept = all_left (λ (o : Slot A). o.is_new ≡ false → IsOneOf heads o.head) rest (s ∷ []) (subst (AllByRecursion (λ (o : Slot A). o.is_new ≡ false → IsOneOf heads o.head)) are kept)

  pub last_kept : s.is_new ≡ false → IsOneOf heads s.head
  last_kept = let last = all_right (λ (o : Slot A). o.is_new ≡ false → IsOneOf heads o.head) rest (s ∷ []) (subst (AllByRecursion (λ (o : Slot A). o.is_new ≡ false → IsOneOf heads o.head)) are kept) in last.0

pub roots_none : {D A : Type 0} {G : Ghosts D} (pages : Pages D A G) → HasSameRoots pages pages
roots_none pages = record { disk = refl; root = refl; version = refl; limit = refl; number = refl; standing = refl; heads = refl; older = refl }
