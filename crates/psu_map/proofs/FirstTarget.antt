-- The entries of a target after its first edit, which is made while they are listed.
use Rattle.std.proofs.Common.{◌≡◌, ℕ, zero, suc, ◌+◌, ◌-◌, ◌<◌, ◌≤◌, Bool, true, false, List, [], ◌∷◌, ◌++◌, length, length-drop, map, take, drop, set, get_or, Option, Some, None, refl, sym, ◌∙◌, ap, subst, arith}
use Rattle.std.proofs.lemmas.List.{take_all}
use Rattle.std.specs.List.{insert, remove, AllByRecursion}
use Rattle.std.specs.Str.{bytes_eq}
use Rattle.psu_map.specs.Map.{Item, get, IsSorted}
use Rattle.psu_map.specs.Batch.{Edit, edited, KeepsValue}
use Rattle.psu_map.specs.Place.{IsAt, IsGap}
use Rattle.psu_map.specs.Target.{Entry, IsOf, items_in, stand, standing}
use Rattle.psu_map.proofs.Aiming.{all_stand, insert_holds, put_at, put_in, remove_holds, set_holds, taken_out}
use Rattle.psu_map.proofs.Keeping.{all_standing, stands_insert, stands_remove, stands_set}
use Rattle.psu_map.proofs.Keys.{same_key, same_true}

items_stand : (before : List Item) → items_in (map stand before) ≡ before
items_stand [] = refl
items_stand (i ∷ before) = ap (λ (l : List Item). i ∷ l) (items_stand before)

stand_all : (before : List Item) → AllByRecursion (λ (e : Entry). e.stands ≡ true) (map stand before)
stand_all [] = tt
stand_all (i ∷ before) = (refl, stand_all before)

there : (before : List Item) (n : ℕ) (i : Item) → get_or (map stand before) n (stand i) ≡ stand (get_or before n i)
there [] n i = refl
there (j ∷ before) zero i = refl
there (j ∷ before) (suc n) i = there before n i

set_between : (before : List Item) (n : ℕ) (e : Entry) → n < length before → set (map stand before) n e ≡ map stand (take n before) ++ (e ∷ map stand (drop (suc n) before))
set_between [] n e lt = absurd (omega (arith, lt))
set_between (i ∷ before) zero e lt = refl
set_between (i ∷ before) (suc n) e lt = ap (λ (l : List Entry). stand i ∷ l) (set_between before n e (omega (arith, lt)))

insert_between : (before : List Item) (n : ℕ) (e : Entry) → n ≤ length before → insert (map stand before) n e ≡ map stand (take n before) ++ (e ∷ map stand (drop n before))
insert_between [] zero e le = refl
insert_between [] (suc n) e le = absurd (omega (arith, le))
insert_between (i ∷ before) zero e le = refl
insert_between (i ∷ before) (suc n) e le = ap (λ (l : List Entry). stand i ∷ l) (insert_between before n e (omega (arith, le)))

remove_between : (before : List Item) (n : ℕ) → n < length before → remove (map stand before) n ≡ map stand (take n before) ++ map stand (drop (suc n) before)
remove_between [] n lt = absurd (omega (arith, lt))
remove_between (i ∷ before) zero lt = refl
remove_between (i ∷ before) (suc n) lt = ap (λ (l : List Entry). stand i ∷ l) (remove_between before n (omega (arith, lt)))

-- the entries are those of the map before after one edit
pub record IsBegun (before : List Item) (key : List ℕ) (value : Option (List ℕ)) (entries : List Entry) : Type 0 where
  pub sorted : IsSorted (items_in entries)
  pub each : AllByRecursion (IsOf before) entries
  pub aimed : items_in entries ≡ edited before key value
  pub stands : (other its : List ℕ) → get before other ≡ Some its → (key ≡ other → value ≡ Some its) → standing entries other ≡ Some its

-- the items from an index on, as a slice has them
pub from_place : (before : List Item) (n : ℕ) → take (length before - n) (drop n before) ≡ drop n before
from_place before n = take_all (length before - n) (drop n before) (omega (arith, length-drop n before))

had : (v w : List ℕ) → Some v ≡ Some w → v ≡ w
had v w e = cc

module _ (before : List Item) (sorted : IsSorted before) (key : List ℕ) (at : ℕ) where
  all : List Entry
  all = map stand before

  same : items_in (map stand before) ≡ before
  same = items_stand before

  in_order : IsSorted (items_in (map stand before))
  in_order = subst IsSorted (sym (items_stand before)) sorted

  of_before : AllByRecursion (IsOf before) (map stand before)
  of_before = all_stand before (map stand before) sorted (items_stand before)

  stood : (other its : List ℕ) → get before other ≡ Some its → standing (map stand before) other ≡ Some its
  stood other its had = all_standing (map stand before) (stand_all before) other ∙ (ap (λ (items : List Item). get items other) (items_stand before) ∙ had)

  pub begun_set : (value : List ℕ) (i : Item) (stands : Bool) (entries : List Entry) → IsAt before key at → i ≡ get_or before at i → stands ≡ bytes_eq i.value value
      → entries ≡ map stand (take at before) ++ (record { key = key; value = value; stands = stands } ∷ map stand (take (length before - (at + 1)) (drop (at + 1) before))) → IsBegun before key (Some value) entries
  begun_set value i stands entries found is test are =
      let e : Entry = record { key = key; value = value; stands = stands } in
      let here : IsAt (items_in (map stand before)) key at = subst (λ (items : List Item). IsAt items key at) (sym (items_stand before)) found in
      let its : stand i ≡ get_or (map stand before) at (stand i) = ap stand is ∙ sym (there before at i) in
      let whole : entries ≡ set (map stand before) at e =
      are ∙ ap (λ (items : List Item). map stand (take at before) ++ (e ∷ map stand items)) (from_place before (at + 1)) ∙ ap (λ (n : ℕ). map stand (take at before) ++ (e ∷ map stand (drop n before))) (let more : at + 1 ≡ suc at = omega arith in more) ∙ sym (set_between before at e (let within = found.in_range in omega (arith, within))) in
      let holds = set_holds before (map stand before) in_order of_before key at value (stand i) stands here its (λ yes. (refl, same_key i.value value (sym test ∙ yes))) in
      record {
        sorted = subst (λ (es : List Entry). IsSorted (items_in es)) (sym whole) holds.0;
        each = subst (AllByRecursion (IsOf before)) (sym whole) holds.1;
        aimed = ap items_in whole ∙ put_at before (map stand before) in_order of_before key at e here ∙ ap (λ (items : List Item). edited items key (Some value)) (items_stand before);
        stands = λ other its_value was keeps. ap (λ (es : List Entry). standing es other) whole
            ∙ stands_set (map stand before) key at other its_value (stood other its_value was) value (stand i) stands here its (λ both. test ∙ same_true i.value value both.1) (λ one. had value its_value (keeps one));
      }

  pub begun_insert : (value : List ℕ) (entries : List Entry) → IsGap before key at → entries ≡ map stand (take at before) ++ (record { key = key; value = value; stands = false } ∷ map stand (take (length before - at) (drop at before)))
      → IsBegun before key (Some value) entries
  begun_insert value entries gap are =
      let e : Entry = record { key = key; value = value; stands = false } in
      let here : IsGap (items_in (map stand before)) key at = subst (λ (items : List Item). IsGap items key at) (sym (items_stand before)) gap in
      let whole : entries ≡ insert (map stand before) at e = are ∙ ap (λ (items : List Item). map stand (take at before) ++ (e ∷ map stand items)) (from_place before at) ∙ sym (insert_between before at e (let bound = gap.place.bound in omega (arith, bound))) in
      let holds = insert_holds before (map stand before) in_order of_before key at value entries here whole in
      record {
        sorted = holds.0;
        each = holds.1;
        aimed = ap items_in whole ∙ put_in before (map stand before) in_order of_before key at e here ∙ ap (λ (items : List Item). edited items key (Some value)) (items_stand before);
        stands = λ other its was keeps. ap (λ (es : List Entry). standing es other) whole ∙ stands_insert (map stand before) key at other its (stood other its was) value false here in_order;
      }

  pub begun_remove : (i : Item) (entries : List Entry) → IsAt before key at → entries ≡ map stand (take at before) ++ map stand (take (length before - (at + 1)) (drop (at + 1) before)) → IsBegun before key None entries
  begun_remove i entries found are =
      let here : IsAt (items_in (map stand before)) key at = subst (λ (items : List Item). IsAt items key at) (sym (items_stand before)) found in
      let whole : entries ≡ remove (map stand before) at =
      are ∙ ap (λ (items : List Item). map stand (take at before) ++ map stand items) (from_place before (at + 1)) ∙ ap (λ (n : ℕ). map stand (take at before) ++ map stand (drop n before)) (let more : at + 1 ≡ suc at = omega arith in more) ∙ sym (remove_between before at (let within = found.in_range in omega (arith, within))) in
      let holds = remove_holds before (map stand before) in_order of_before key at entries here whole in
      record {
        sorted = holds.0;
        each = holds.1;
        aimed = ap items_in whole ∙ taken_out before (map stand before) in_order of_before key at here ∙ ap (λ (items : List Item). edited items key None) (items_stand before);
        stands = λ other its was keeps. ap (λ (es : List Entry). standing es other) whole
            ∙ stands_remove (map stand before) key at other its (stood other its was) (stand i) here (λ one. let bad = keeps one in cc);
      }

-- what all edits keep the first one keeps, and so do the others
pub keeps_first : (edits : List Edit) (first : Edit) (key value : List ℕ) → 1 ≤ length edits → first ≡ get_or edits 0 first → KeepsValue edits key value → first.key ≡ key → first.value ≡ Some value
keeps_first [] first key value some is keeps = absurd (omega (arith, some))
keeps_first (e ∷ edits) first key value some is keeps = subst (λ (x : Edit). x.key ≡ key → x.value ≡ Some value) (sym is) keeps.0

pub keeps_rest : (edits : List Edit) (key value : List ℕ) → KeepsValue edits key value → KeepsValue (take (length edits - 1) (drop 1 edits)) key value
keeps_rest [] key value keeps = tt
keeps_rest (e ∷ edits) key value keeps = subst (λ (es : List Edit). KeepsValue es key value) (sym (take_all (length (e ∷ edits) - 1) edits (omega arith))) keeps.1
