-- Planned edits against the batch that leads to a map.
use Rattle.std.proofs.Common.{◌≡◌, ◌<◌, ◌≤◌, ◌-◌, ◌||◌, ℕ, zero, suc, true, Option, Some, None, is_some, cond, List, [], ◌∷◌, ◌++◌, length, take, drop, get_or, refl, sym, ap, ◌∙◌, subst, arith, append-nil}
use Rattle.std.proofs.lemmas.List.{append_assoc, append_cancel_left, take_all}
use Rattle.std.proofs.lemmas.Grind.{flat_map-append}
use Rattle.std.specs.List.{flat_map, AllByRecursion}
use Rattle.psu_map.specs.Map.{Item, get, IsSorted}
use Rattle.psu_map.specs.Batch.{Edit, changed}
use Rattle.psu_map.specs.Plan.{Planned}
use Rattle.psu_map.proofs.Maps.{all_own}
use Rattle.psu_pages.proofs.Lists.{all_left, all_right}
use Rattle.psu_exec.specs.Batch.{batch, removal, assignment}
use Rattle.psu_exec.specs.Between.{AreBetween}
use Rattle.psu_exec.specs.Consistent.{HasEdits, IsConsistent}
use Rattle.psu_exec.specs.Device.{Flush, held_of, is_broken, map_held, target}
use Rattle.psu_exec.proofs.Batches.{changed-batch}
use Rattle.psu_exec.proofs.Touching.{there}

-- edits with this first edit
pub with_first : (edits : List Edit) (first : Edit) (key : List ℕ) (value : Option (List ℕ)) → 1 ≤ length edits → first ≡ get_or edits 0 first → first.key ≡ key → first.value ≡ value
    → edits ≡ record { key = key; value = value } ∷ take (length edits - 1) (drop 1 edits)
with_first [] first key value some at k v = absurd (omega (arith, some))
with_first (e ∷ edits) first key value some at k v =
    let rest : take (length (e ∷ edits) - 1) (drop 1 (e ∷ edits)) ≡ edits = take_all (length (e ∷ edits) - 1) edits (omega arith) in
    let head : e ≡ record { key = key; value = value } = sym at ∙ one first key value k v in
    ap (λ (l : List Edit). e ∷ l) (sym rest) ∙ ap (λ (x : Edit). x ∷ take (length (e ∷ edits) - 1) (drop 1 (e ∷ edits))) head
  where
    one : (first : Edit) (key : List ℕ) (value : Option (List ℕ)) → first.key ≡ key → first.value ≡ value → first ≡ record { key = key; value = value }
    one first key value k v = rw (sym k, sym v) refl

-- if the edits of one item are not next, the edits of all items are not there
pub not_next : {X A : Type 0} (f : X → List A) (xs : List X) (n : ℕ) (x : X) (all rest : List A) → n < length xs → x ≡ get_or xs n x → all ≡ flat_map f (take n xs) ++ rest
    → ((more : List A) → rest ≡ f x ++ more → ⊥) → (more : List A) → all ≡ flat_map f xs ++ more → ⊥
not_next f [] n x all rest lt at done none more e = omega (arith, lt)
not_next f (y ∷ ys) zero x all rest lt at done none more e =
    none (flat_map f ys ++ more) (sym done ∙ (e ∙ (append_assoc (f y) (flat_map f ys) more ∙ ap (λ z. f z ++ (flat_map f ys ++ more)) (sym at))))
not_next f (y ∷ ys) (suc n) x all rest lt at done none more e =
    let front = flat_map f (take n ys) ++ rest in
    let same : f y ++ front ≡ f y ++ (flat_map f ys ++ more) = sym (append_assoc (f y) (flat_map f (take n ys)) rest) ∙ (sym done ∙ (e ∙ append_assoc (f y) (flat_map f ys) more)) in
    not_next f ys n x front rest (omega (arith, lt)) at refl none more (append_cancel_left (f y) front (flat_map f ys ++ more) same)

-- items that a target has need no removal
no_removals : (target items : List Item) → AllByRecursion (λ (i : Item). get target i.key ≡ Some i.value) items → flat_map (removal target) items ≡ []
no_removals target [] own = refl
no_removals target (i ∷ items) own =
    ap (λ (o : Option (List ℕ)). cond (is_some o) [] (record { key = i.key; value = None } ∷ []) ++ flat_map (removal target) items) own.0 ∙ no_removals target items own.1

-- items that the map before has need no assignment
no_assignments : (before items : List Item) → AllByRecursion (λ (i : Item). get before i.key ≡ Some i.value) items → flat_map (assignment before) items ≡ []
no_assignments before [] own = refl
no_assignments before (i ∷ items) own = ap (λ (l : List Edit). l ++ flat_map (assignment before) items) (there before i.key i.value own.0) ∙ no_assignments before items own.1

middle : (f : Item → List Edit) (whole front part back : List Item) → whole ≡ front ++ (part ++ back) → flat_map f front ≡ [] → flat_map f back ≡ [] → flat_map f whole ≡ flat_map f part
middle f whole front part back is in_front behind =
    ap (flat_map f) is ∙ flat_map-append f front (part ++ back) ∙ ap (λ (l : List Edit). l ++ flat_map f (part ++ back)) in_front
    ∙ flat_map-append f part back ∙ ap (λ (l : List Edit). flat_map f part ++ l) behind ∙ append-nil (flat_map f part)

-- the difference of two lists, stated of the maps that they equal
pub between_of : (one before other target gone come : List Item) → one ≡ before → other ≡ target → AreBetween one other gone come → AreBetween before target gone come
between_of one before other target gone come same_before same_target between =
    record { front = between.front; back = between.back; one_is = sym same_before ∙ between.one_is; other_is = sym same_target ∙ between.other_is }

-- the common prefix and suffix of two maps need no edit
module _ (before target gone come : List Item) (between : AreBetween before target gone come) where
  pub removals_between : IsSorted target → flat_map (removal target) before ≡ flat_map (removal target) gone
  removals_between sorted =
      let P : Item → Type 0 = λ (i : Item). get target i.key ≡ Some i.value in
      let own = subst (AllByRecursion P) between.other_is (all_own target sorted) in
      middle (removal target) before between.front gone between.back between.one_is (no_removals target between.front (all_left P between.front (come ++ between.back) own))
      (no_removals target between.back (all_right P come between.back (all_right P between.front (come ++ between.back) own)))

  pub assignments_between : IsSorted before → flat_map (assignment before) target ≡ flat_map (assignment before) come
  assignments_between sorted =
      let P : Item → Type 0 = λ (i : Item). get before i.key ≡ Some i.value in
      let own = subst (AllByRecursion P) between.one_is (all_own before sorted) in
      middle (assignment before) target between.front come between.back between.other_is (no_assignments before between.front (all_left P between.front (gone ++ between.back) own))
      (no_assignments before between.back (all_right P gone between.back (all_right P between.front (gone ++ between.back) own)))

-- the batch in its two parts
pub batch_of : (plan : Planned) (target : List Item) (rest : List Edit) → plan.edits ≡ flat_map (removal target) plan.map ++ rest → rest ≡ flat_map (assignment plan.map) target → plan.edits ≡ batch plan.map target
unfolding batch
batch_of plan target rest e r = e ∙ ap (λ edits. flat_map (removal target) plan.map ++ edits) r

pub rest_of : (plan : Planned) (target : List Item) (rest : List Edit) → plan.edits ≡ flat_map (removal target) plan.map ++ rest → plan.edits ≡ batch plan.map target → rest ≡ flat_map (assignment plan.map) target
unfolding batch
rest_of plan target rest e b = append_cancel_left (flat_map (removal target) plan.map) rest (flat_map (assignment plan.map) target) (sym e ∙ b)

pub no_batch : (plan : Planned) (target : List Item) → ((rest : List Edit) → plan.edits ≡ flat_map (removal target) plan.map ++ rest → ⊥) → plan.edits ≡ batch plan.map target → ⊥
unfolding batch
no_batch plan target none b = none (flat_map (assignment plan.map) target) b

-- the batch by the items between the common prefix and suffix
module _ (plan : Planned) (target gone come : List Item) (between : AreBetween plan.map target gone come) (sorted : IsSorted plan.map) (sorted_target : IsSorted target) (edits : List Edit) (are : edits ≡ plan.edits) where
  with_removals : (rest : List Edit) → edits ≡ flat_map (removal target) gone ++ rest → plan.edits ≡ flat_map (removal target) plan.map ++ rest
  with_removals rest e = sym are ∙ (e ∙ ap (λ (l : List Edit). l ++ rest) (sym (removals_between plan.map target gone come between sorted_target)))

  pub batch_between : (rest : List Edit) → edits ≡ flat_map (removal target) gone ++ rest
      → (rest ≡ flat_map (assignment plan.map) come → plan.edits ≡ batch plan.map target) × (plan.edits ≡ batch plan.map target → rest ≡ flat_map (assignment plan.map) come)
  batch_between rest e =
      let same = assignments_between plan.map target gone come between sorted in
      (λ r. batch_of plan target rest (with_removals rest e) (r ∙ sym same), λ b. rest_of plan target rest (with_removals rest e) b ∙ same)

  pub none_between : ((rest : List Edit) → edits ≡ flat_map (removal target) gone ++ rest → ⊥) → plan.edits ≡ batch plan.map target → ⊥
  none_between none =
      no_batch plan target (λ rest e. none rest (are ∙ (e ∙ ap (λ (l : List Edit). l ++ rest) (removals_between plan.map target gone come between sorted_target))))

pub led : (plan : Planned) (target : List Item) → IsSorted plan.map → IsSorted target → plan.edits ≡ batch plan.map target → changed plan.map plan.edits ≡ target
led plan target sp st b = ap (changed plan.map) b ∙ changed-batch plan.map target sp st

-- the target and the batch of a device that has a target
pub as_planned : (f : Flush) (held : Option ℕ) (plan : Planned) → HasEdits held plan → f.before ≡ plan.map → f.held ≡ held_of held (changed plan.map plan.edits) → is_some f.held ≡ true
    → (target f ≡ changed plan.map plan.edits) × (batch f.before (target f) ≡ plan.edits)
as_planned f None plan has before e some = absurd (let bad = sym some ∙ ap is_some e in cc)
as_planned f (Some k) plan has before e some =
    let goal : target f ≡ changed plan.map plan.edits = ap (map_held f.before) e in
    (goal, ap (λ (b : List Item). batch b (target f)) before ∙ ap (batch plan.map) goal ∙ sym has)

-- the target of a job that is out, compared by the planned edits
pub aimed : (f : Flush) (held : Option ℕ) (plan : Planned) (map : List Item) → HasEdits held plan → f.held ≡ held_of held (changed plan.map plan.edits) → is_some f.held ≡ true
    → (plan.edits ≡ batch plan.map map → changed plan.map plan.edits ≡ map) → (plan.edits ≡ batch plan.map map → map ≡ target f) × (map ≡ target f → plan.edits ≡ batch plan.map map)
aimed f None plan map has e some leads = absurd (let bad = sym some ∙ ap is_some e in cc)
aimed f (Some k) plan map has e some leads =
    let goal : target f ≡ changed plan.map plan.edits = ap (map_held f.before) e in
    (λ b. sym (leads b) ∙ sym goal, λ t. has ∙ ap (batch plan.map) (sym (t ∙ goal)))

pub aimed_now : (f : Flush) (held : Option ℕ) (plan : Planned) (map : List Item) → HasEdits held plan → IsConsistent f → f.held ≡ held_of held (changed plan.map plan.edits) → f.out ≡ true
    → (plan.edits ≡ batch plan.map map → changed plan.map plan.edits ≡ map) → (plan.edits ≡ batch plan.map map → map ≡ target f) × (map ≡ target f → plan.edits ≡ batch plan.map map)
aimed_now f held plan map has c e out leads = aimed f held plan map has e (c.out ∙ ap (λ b. b || is_broken f.store) out) leads
