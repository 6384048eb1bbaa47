-- The entries of a target, edit by edit.
use Rattle.std.proofs.Common.{◌≡◌, ℕ, zero, suc, ◌<◌, Bool, true, false, List, [], ◌∷◌, length, map, set, get_or, Option, Some, refl, sym, ◌∙◌, ap, subst, arith}
use Rattle.std.specs.List.{insert, remove, AllByRecursion}
use Rattle.std.proofs.lemmas.List.{length-map, map-set}
use Rattle.psu_map.proofs.Lists.{all_at}
use Rattle.psu_map.specs.Map.{Item, get, put, without, IsSorted}
use Rattle.psu_map.specs.Place.{key_at, IsAt, IsGap}
use Rattle.psu_map.specs.Target.{Entry, item_in, items_in, IsOf}
use Rattle.psu_map.proofs.Maps.{all_own, sorted-put, sorted-without}
use Rattle.psu_map.proofs.Sorted.{get-at, insert-put, remove-without, set-put, without-gap}

map_insert : {X Y : Type 0} (f : X → Y) (xs : List X) (i : ℕ) (x : X) → map f (insert xs i x) ≡ insert (map f xs) i (f x)
map_insert f [] zero x = refl
map_insert f [] (suc i) x = refl
map_insert f (y ∷ xs) zero x = refl
map_insert f (y ∷ xs) (suc i) x = ap (λ l. f y ∷ l) (map_insert f xs i x)

map_remove : {X Y : Type 0} (f : X → Y) (xs : List X) (i : ℕ) → map f (remove xs i) ≡ remove (map f xs) i
map_remove f [] zero = refl
map_remove f [] (suc i) = refl
map_remove f (y ∷ xs) zero = refl
map_remove f (y ∷ xs) (suc i) = ap (λ l. f y ∷ l) (map_remove f xs i)

all_set : {X : Type 0} (P : X → Type 0) (xs : List X) (i : ℕ) (x : X) → AllByRecursion P xs → P x → AllByRecursion P (set xs i x)
all_set P [] i x all here = tt
all_set P (y ∷ xs) zero x all here = (here, all.1)
all_set P (y ∷ xs) (suc i) x all here = (all.0, all_set P xs i x all.1 here)

all_insert : {X : Type 0} (P : X → Type 0) (xs : List X) (i : ℕ) (x : X) → AllByRecursion P xs → P x → AllByRecursion P (insert xs i x)
all_insert P [] zero x all here = (here, tt)
all_insert P [] (suc i) x all here = (here, tt)
all_insert P (y ∷ xs) zero x all here = (here, all)
all_insert P (y ∷ xs) (suc i) x all here = (all.0, all_insert P xs i x all.1 here)

all_remove : {X : Type 0} (P : X → Type 0) (xs : List X) (i : ℕ) → AllByRecursion P xs → AllByRecursion P (remove xs i)
all_remove P [] zero all = tt
all_remove P [] (suc i) all = tt
all_remove P (y ∷ xs) zero all = all.1
all_remove P (y ∷ xs) (suc i) all = (all.0, all_remove P xs i all.1)

-- entries whose items the map before has are of it
entries_of : (before : List Item) (entries : List Entry) → AllByRecursion (λ (i : Item). get before i.key ≡ Some i.value) (items_in entries) → AllByRecursion (IsOf before) entries
entries_of before [] own = tt
entries_of before (e ∷ entries) own = (λ stands. own.0, entries_of before entries own.1)

pub all_stand : (before : List Item) (entries : List Entry) → IsSorted before → items_in entries ≡ before → AllByRecursion (IsOf before) entries
all_stand before entries sorted are = entries_of before entries (subst (AllByRecursion (λ (i : Item). get before i.key ≡ Some i.value)) (sym are) (all_own before sorted))

-- ---- an edit at the index of its key

pub key_there : (entries : List Entry) (at : ℕ) (d : Entry) → at < length entries → key_at (items_in entries) at ≡ (let e = get_or entries at d in e.key)
key_there [] at d within = absurd (omega (arith, within))
key_there (e ∷ entries) zero d within = refl
key_there (e ∷ entries) (suc at) d within = key_there entries at d (omega (arith, within))

pub in_entries : (entries : List Entry) (key : List ℕ) (at : ℕ) → IsAt (items_in entries) key at → at < length entries
in_entries entries key at found = let within = found.in_range in omega (arith, within, length-map entries item_in)

-- the item of the entry at an index
pub item_there : (entries : List Entry) (n : ℕ) (e : Entry) → n < length (items_in entries) → e ≡ get_or entries n e → item_in e ≡ get_or (items_in entries) n (item_in e)
item_there entries n e within is = ap item_in is ∙ sym (there entries n e)
  where
    there : (es : List Entry) (i : ℕ) (x : Entry) → get_or (items_in es) i (item_in x) ≡ item_in (get_or es i x)
    there [] i x = refl
    there (y ∷ es) zero x = refl
    there (y ∷ es) (suc i) x = there es i x

pub its_own : (before : List Item) (entries : List Entry) (n : ℕ) (e : Entry) → n < length (items_in entries) → e ≡ get_or entries n e → AllByRecursion (IsOf before) entries → IsOf before e
its_own before entries n e within is all = subst (IsOf before) (sym is) (all_at (IsOf before) entries n e (omega (arith, within, length-map entries item_in)) all)

abbrev pub value_in : Entry → Option (List ℕ)
value_in e = Some e.value

-- the entry at the index of its key
pub got_at : (entries : List Entry) (key : List ℕ) (at : ℕ) (d : Entry) → IsAt (items_in entries) key at → d ≡ get_or entries at d → get (items_in entries) key ≡ value_in d
got_at entries key at d found is =
    get-at (items_in entries) key at (item_in d) found ∙ ap (λ (i : Item). Some i.value) (sym (item_there entries at d found.in_range is))

module _ (before : List Item) (entries : List Entry) (sorted : IsSorted (items_in entries)) (all : AllByRecursion (IsOf before) entries) (key : List ℕ) (at : ℕ) where
  -- it is unchanged if it was unchanged and had this value
  set_stands : (value : List ℕ) (old : Entry) (stands : Bool) → IsAt (items_in entries) key at → old ≡ get_or entries at old → (stands ≡ true → (old.stands ≡ true) × (old.value ≡ value))
      → IsOf before (record { key = key; value = value; stands = stands })
  set_stands value old stands found is same e =
      let within = in_entries entries key at found in
      let one : IsOf before old = subst (IsOf before) (sym is) (all_at (IsOf before) entries at old within all) in
      let key_is : old.key ≡ key = ap (λ (x : Entry). x.key) is ∙ sym (key_there entries at old within) ∙ found.same in
      let both = same e in
      ap (get before) (sym key_is) ∙ one both.0 ∙ ap (λ (v : List ℕ). Some v) both.1

  pub put_at : (e : Entry) → IsAt (items_in entries) e.key at → items_in (set entries at e) ≡ put (items_in entries) e.key e.value
  put_at e found = map-set item_in entries at e ∙ set-put (items_in entries) e.key e.value at found

  pub put_in : (e : Entry) → IsGap (items_in entries) e.key at → items_in (insert entries at e) ≡ put (items_in entries) e.key e.value
  put_in e gap = map_insert item_in entries at e ∙ insert-put (items_in entries) e.key e.value at gap

  pub taken_out : IsAt (items_in entries) key at → items_in (remove entries at) ≡ without (items_in entries) key
  taken_out found = map_remove item_in entries at ∙ remove-without (items_in entries) key at sorted found

  pub none_out : IsGap (items_in entries) key at → items_in entries ≡ without (items_in entries) key
  none_out gap = sym (without-gap (items_in entries) key at sorted gap)

  -- what holds of the entries then
  pub set_holds : (value : List ℕ) (old : Entry) (stands : Bool) → IsAt (items_in entries) key at → old ≡ get_or entries at old → (stands ≡ true → (old.stands ≡ true) × (old.value ≡ value))
      → (let new = set entries at (record { key = key; value = value; stands = stands }) in IsSorted (items_in new) × AllByRecursion (IsOf before) new)
  set_holds value old stands found is same =
      let e : Entry = record { key = key; value = value; stands = stands } in (
        subst IsSorted (sym (put_at e found)) (sorted-put (items_in entries) key value sorted),
        all_set (IsOf before) entries at e all (set_stands value old stands found is same),
      )

  pub insert_holds : (value : List ℕ) (after : List Entry) → IsGap (items_in entries) key at → after ≡ insert entries at (record { key = key; value = value; stands = false }) → IsSorted (items_in after) × AllByRecursion (IsOf before) after
  insert_holds value after gap is =
      let e : Entry = record { key = key; value = value; stands = false } in
      subst (λ (new : List Entry). IsSorted (items_in new) × AllByRecursion (IsOf before) new) (sym is) (
        subst IsSorted (sym (put_in e gap)) (sorted-put (items_in entries) key value sorted),
        all_insert (IsOf before) entries at e all (λ yes_not. cc),
      )

  pub remove_holds : (after : List Entry) → IsAt (items_in entries) key at → after ≡ remove entries at → IsSorted (items_in after) × AllByRecursion (IsOf before) after
  remove_holds after found is =
      subst (λ (new : List Entry). IsSorted (items_in new) × AllByRecursion (IsOf before) new) (sym is) (
        subst IsSorted (sym (taken_out found)) (sorted-without (items_in entries) key sorted),
        all_remove (IsOf before) entries at all,
      )
