-- The item at the index of a key, and the effect of a change there on the map.
use Rattle.std.proofs.Common.{◌≡◌, ℕ, zero, suc, ◌+◌, ◌<◌, ◌⊎◌, inl, inr, length, List, [], ◌∷◌, get_or, set, Some, None, true, false, refl, sym, ◌∙◌, ap, subst, arith, ◌++◌}
use Rattle.std.specs.List.{insert, remove, AllByRecursion}
use Rattle.std.proofs.Math.Nat.{eq-or-lt_of_le}
use Rattle.std.proofs.lemmas.Cmp.{nat_list_cmp_total}
use Rattle.psu_map.proofs.Lists.{all_at}
use Rattle.psu_map.specs.Map.{Item, item_of, get, put, without, Before, IsSorted, Sets}
use Rattle.psu_map.specs.Place.{key_at, IsPlace, IsAt, IsGap}
use Rattle.psu_map.proofs.Keys.{other_key, same_true, before_not_same, after_not_same, turned, is_lt-before, is_lt-not_before}
use Rattle.psu_map.proofs.Maps.{all_after, get_before, get-put, sorted-put, sorted-without}

-- of two indices the smaller one has the smaller key
pub key_before : (items : List Item) (i j : ℕ) → IsSorted items → i < j → j < length items → Before (key_at items i) (key_at items j)
key_before [] i j sorted lt within = absurd (omega (arith, within))
key_before (x ∷ items) zero zero sorted lt within = absurd (omega (arith, lt))
key_before (x ∷ items) zero (suc j) sorted lt within = all_at (λ (y : Item). Before x.key y.key) items j (item_of [] []) (omega (arith, within)) sorted.0
key_before (x ∷ items) (suc i) zero sorted lt within = absurd (omega (arith, lt))
key_before (x ∷ items) (suc i) (suc j) sorted lt within = key_before items i j sorted.1 (omega (arith, lt)) (omega (arith, within))

-- a key that comes after one of a map comes after those before it
pub below_too : (items : List Item) (key : List ℕ) (at : ℕ) → IsSorted items → at < length items → Before (key_at items at) key → (j : ℕ) → j < at + 1 → Before (key_at items j) key
below_too items key at sorted within here j lt = by (eq-or-lt_of_le (omega (arith, lt)))
  where
    by : (j ≡ at) ⊎ (j < at) → Before (key_at items j) key
    by (inl e) = subst (λ (n : ℕ). Before (key_at items n) key) (sym e) here
    by (inr less) = nat_list_cmp_total.trans (key_at items j) (key_at items at) key (key_before items j at sorted less within) here

at-tail : (i : Item) (items : List Item) (key : List ℕ) (at : ℕ) → IsPlace (i ∷ items) key (suc at) → IsPlace items key at
at-tail i items key at place = record {
  bound = omega (arith, place.bound);
  below = λ j lt. place.below (suc j) (omega arith);
  end = λ lt. place.end (omega arith);
}

is_at-tail : (i : Item) (items : List Item) (key : List ℕ) (at : ℕ) → IsAt (i ∷ items) key (suc at) → IsAt items key at
is_at-tail i items key at is = record { place = at-tail i items key at is.place; in_range = omega (arith, is.in_range); same = is.same }

is_gap-tail : (i : Item) (items : List Item) (key : List ℕ) (at : ℕ) → IsGap (i ∷ items) key (suc at) → IsGap items key at
is_gap-tail i items key at gap = record { place = at-tail i items key at gap.place; misses = λ lt. gap.misses (omega arith) }

-- removing a key that comes before those of all items removes nothing
without_before : (items : List Item) (k : List ℕ) → AllByRecursion (λ (j : Item). Before k j.key) items → without items k ≡ items
without_before [] k all = refl
without_before (i ∷ items) k all = rw (after_not_same k i.key all.0) (ap (λ (l : List Item). i ∷ l) (without_before items k all.1))

key_of_place : (items : List Item) (at : ℕ) (d : Item) → at < length items → key_at items at ≡ (let found = get_or items at d in found.key)
key_of_place [] at d lt = absurd (omega (arith, lt))
key_of_place (x ∷ items) zero d lt = refl
key_of_place (x ∷ items) (suc at) d lt = key_of_place items at d (omega (arith, lt))

-- an item that has the key is at the key's index
pub at_key : (items : List Item) (key : List ℕ) (at : ℕ) → IsSorted items → at < length items → key_at items at ≡ key → IsAt items key at
at_key items key at sorted within same = record {
  place = record {
    bound = omega (arith, within);
    below = λ j lt. subst (Before (key_at items j)) same (key_before items j at sorted lt within);
    end = λ lt before. absurd (let bad : false ≡ true = sym (before_not_same (key_at items at) key before) ∙ same_true (key_at items at) key same in cc);
  };
  in_range = within;
  same = same;
}

pub key_found : (items : List Item) (key : List ℕ) (at : ℕ) (found : Item) → IsSorted items → at < length items → found ≡ get_or items at found → found.key ≡ key → IsAt items key at
key_found items key at found sorted within there same =
    at_key items key at sorted within (key_of_place items at found within ∙ (ap (λ (i : Item). i.key) (sym there) ∙ same))

-- the item at the index of its key
pub get-at : (items : List Item) (key : List ℕ) (at : ℕ) (d : Item) → IsAt items key at → get items key ≡ Some (get_or items at d).value
get-at [] key at d is = absurd (omega (arith, is.in_range))
get-at (i ∷ items) key zero d is = rw (same_true i.key key is.same) refl
get-at (i ∷ items) key (suc at) d is = rw (before_not_same i.key key (is.place.below 0 (omega arith))) (get-at items key at d (is_at-tail i items key at is))

pub set-put : (items : List Item) (key value : List ℕ) (at : ℕ) → IsAt items key at → set items at (item_of key value) ≡ put items key value
set-put [] key value at is = absurd (omega (arith, is.in_range))
set-put (i ∷ items) key value zero is = rw (same_true i.key key is.same) refl
set-put (i ∷ items) key value (suc at) is =
    let lt = is.place.below 0 (omega arith) in
    rw (before_not_same i.key key lt, is_lt-before i.key key lt) (ap (λ (l : List Item). i ∷ l) (set-put items key value at (is_at-tail i items key at is)))

pub remove-without : (items : List Item) (key : List ℕ) (at : ℕ) → IsSorted items → IsAt items key at → remove items at ≡ without items key
remove-without [] key at sorted is = absurd (omega (arith, is.in_range))
remove-without (i ∷ items) key zero sorted is = rw (same_true i.key key is.same) (sym (without_before items key (subst (λ (k : List ℕ). AllByRecursion (λ (j : Item). Before k j.key) items) is.same sorted.0)))
remove-without (i ∷ items) key (suc at) sorted is =
    rw (before_not_same i.key key (is.place.below 0 (omega arith))) (ap (λ (l : List Item). i ∷ l) (remove-without items key at sorted.1 (is_at-tail i items key at is)))

-- the key of the item after a gap comes after the key that would be inserted
gap_before : (i : Item) (items : List Item) (key : List ℕ) → IsSorted (i ∷ items) → IsGap (i ∷ items) key 0 → AllByRecursion (λ (j : Item). Before key j.key) (i ∷ items)
gap_before i items key sorted gap =
    let lt : Before key i.key = turned i.key key (gap.place.end (omega arith)) (gap.misses (omega arith)) in
    (lt, all_after key i.key items lt sorted.0)

-- the gap at which a key would be inserted
pub get-gap : (items : List Item) (key : List ℕ) (at : ℕ) → IsSorted items → IsGap items key at → get items key ≡ None
get-gap [] key at sorted gap = refl
get-gap (i ∷ items) key zero sorted gap = get_before (i ∷ items) key (gap_before i items key sorted gap)
get-gap (i ∷ items) key (suc at) sorted gap = rw (before_not_same i.key key (gap.place.below 0 (omega arith))) (get-gap items key at sorted.1 (is_gap-tail i items key at gap))

pub insert-put : (items : List Item) (key value : List ℕ) (at : ℕ) → IsGap items key at → insert items at (item_of key value) ≡ put items key value
insert-put [] key value zero gap = refl
insert-put [] key value (suc at) gap = absurd (omega (arith, gap.place.bound))
insert-put (i ∷ items) key value zero gap = rw (other_key i.key key (gap.misses (omega arith)), is_lt-not_before i.key key (gap.place.end (omega arith))) refl
insert-put (i ∷ items) key value (suc at) gap =
    let lt = gap.place.below 0 (omega arith) in
    rw (before_not_same i.key key lt, is_lt-before i.key key lt) (ap (λ (l : List Item). i ∷ l) (insert-put items key value at (is_gap-tail i items key at gap)))

pub without-gap : (items : List Item) (key : List ℕ) (at : ℕ) → IsSorted items → IsGap items key at → without items key ≡ items
without-gap [] key at sorted gap = refl
without-gap (i ∷ items) key zero sorted gap = without_before (i ∷ items) key (gap_before i items key sorted gap)
without-gap (i ∷ items) key (suc at) sorted gap = rw (before_not_same i.key key (gap.place.below 0 (omega arith))) (ap (λ (l : List Item). i ∷ l) (without-gap items key at sorted.1 (is_gap-tail i items key at gap)))

-- the fields of a map after a change at the index of a key
module _ (fields items : List Item) (seen : fields ≡ items) (found key value : List ℕ) (has : found ≡ key) (at : ℕ) (new : Item) (made : new ≡ item_of key value) where
  pub set-is_put : IsAt items found at → set fields at new ≡ put items key value
  set-is_put is = rw (seen, made) (set-put items key value at (subst (λ (k : List ℕ). IsAt items k at) has is))

  pub insert-is_put : IsGap items found at → insert fields at new ≡ put items key value
  insert-is_put gap = rw (seen, made) (insert-put items key value at (subst (λ (k : List ℕ). IsGap items k at) has gap))

-- consequences if the fields hold the items with the new value
pub put_sorted : (fields items after : List Item) (key value : List ℕ) → fields ≡ items → IsSorted fields → after ≡ put items key value → IsSorted after
put_sorted fields items after key value seen sorted is = subst IsSorted (sym is) (sorted-put items key value (subst IsSorted seen sorted))

pub put_sets : (items after : List Item) (key value : List ℕ) → after ≡ put items key value → Sets items after key value
put_sets items after key value is k = ap (λ (l : List Item). get l k) is ∙ get-put items key value k

-- the fields of a map without the item at the index of a key
pub remove-is_without : (fields items : List Item) (key : List ℕ) (at : ℕ) → fields ≡ items → IsSorted fields → IsAt items key at → remove fields at ≡ without items key
remove-is_without fields items key at seen sorted is = rw seen (remove-without items key at (subst IsSorted seen sorted) is)

pub without_sorted : (fields items after : List Item) (key : List ℕ) → fields ≡ items → IsSorted fields → after ≡ without items key → IsSorted after
without_sorted fields items after key seen sorted is = subst IsSorted (sym is) (sorted-without items key (subst IsSorted seen sorted))

all_push : (P : Item → Type 0) (items : List Item) (new : Item) → AllByRecursion P items → P new → AllByRecursion P (items ++ new ∷ [])
all_push P [] new all here = (here, tt)
all_push P (i ∷ items) new all here = (all.0, all_push P items new all.1 here)

-- an item whose key comes after all others
sorted_push : (items : List Item) (new : Item) → IsSorted items → AllByRecursion (λ (i : Item). Before i.key new.key) items → IsSorted (items ++ new ∷ [])
sorted_push [] new sorted above = (tt, tt)
sorted_push (i ∷ items) new sorted above = (all_push (λ (j : Item). Before i.key j.key) items new sorted.0 above.0, sorted_push items new sorted.1 above.1)

pub append_sorted : (fields items after : List Item) (new made : Item) → fields ≡ items → IsSorted fields → after ≡ fields ++ made ∷ [] → made ≡ new → AllByRecursion (λ (i : Item). Before i.key new.key) items → IsSorted after
append_sorted fields items after new made seen sorted is as_made above =
    subst IsSorted (sym (is ∙ ap (λ (i : Item). fields ++ i ∷ []) as_made)) (sorted_push fields new sorted (subst (AllByRecursion (λ (i : Item). Before i.key new.key)) (sym seen) above))
