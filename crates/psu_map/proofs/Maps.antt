-- The laws of the map: what `get` finds after each change, and that `get` determines the map.
use Rattle.std.proofs.Common.{◌≡◌, ℕ, zero, suc, ◌≤◌, drop, Bool, true, false, cond, List, [], ◌∷◌, ◌++◌, length, Option, Some, None, refl, sym, ◌∙◌, ap, subst, arith}
use Rattle.std.specs.List.{AllByRecursion}
use Rattle.std.specs.Str.{bytes_eq}
use Rattle.std.specs.Ordering.{nat_cmp, is_lt}
use Rattle.std.specs.Cmp.Lexicographic.{slice_cmp}
use Rattle.std.proofs.lemmas.Cmp.{nat_list_cmp_total}
use Rattle.psu_map.specs.Map.{Item, item_of, get, put, without, Before, IsSorted, Sets, Removes}
use Rattle.psu_map.specs.Capacity.{IsMapOf}
use Rattle.psu_map.specs.Batch.{Edit, edited, changed, assigned, Assigns}
use Rattle.psu_map.proofs.Keys.{same_key, same_true, before_not_same, after_not_same, before-is_lt, after-tests}
use Rattle.psu_map.proofs.Lists.{all_zip}

-- an item with another key stays
pub skip : (i : Item) (old new : List Item) (key k : List ℕ) (value : Option (List ℕ)) → bytes_eq i.key key ≡ false → get new k ≡ cond (bytes_eq key k) value (get old k)
    → cond (bytes_eq i.key k) (Some i.value) (get new k) ≡ cond (bytes_eq key k) value (cond (bytes_eq i.key k) (Some i.value) (get old k))
skip i old new key k value apart rest = by_tests (bytes_eq i.key k) (bytes_eq key k) refl refl
  where
    by_tests : (a b : Bool) → bytes_eq i.key k ≡ a → bytes_eq key k ≡ b → cond a (Some i.value) (get new k) ≡ cond b value (cond a (Some i.value) (get old k))
    by_tests true true e f = absurd (let one = same_key i.key k e in let two = same_key key k f in let three : bytes_eq i.key key ≡ true = same_true i.key key (one ∙ sym two) in cc)
    by_tests true false e f = refl
    by_tests false true e f = rest ∙ ap (λ b. cond b value (get old k)) f
    by_tests false false e f = rest ∙ ap (λ b. cond b value (get old k)) f

-- an item with the same key isn't seen
hide : (i : Item) (items : List Item) (key k : List ℕ) (value : Option (List ℕ)) → bytes_eq i.key key ≡ true → cond (bytes_eq key k) value (get items k) ≡ cond (bytes_eq key k) value (get (i ∷ items) k)
hide i items key k value e = by_test (bytes_eq key k) refl
  where
    by_test : (b : Bool) → bytes_eq key k ≡ b → cond b value (get items k) ≡ cond b value (get (i ∷ items) k)
    by_test true f = refl
    by_test false f = let other : bytes_eq i.key k ≡ false = subst (λ (x : List ℕ). bytes_eq x k ≡ false) (sym (same_key i.key key e)) f in sym (ap (λ (b : Bool). cond b (Some i.value) (get items k)) other)

-- get (put items key value)
pub get-put : (items : List Item) (key value : List ℕ) → Sets items (put items key value) key value
get-put [] key value k = refl
get-put (i ∷ items) key value k = by_tests (bytes_eq i.key key) (is_lt (slice_cmp nat_cmp i.key key)) refl (get-put items key value k)
  where
    by_tests : (same less : Bool) → bytes_eq i.key key ≡ same → get (put items key value) k ≡ cond (bytes_eq key k) (Some value) (get items k)
        → get (cond same (item_of key value ∷ items) (cond less (i ∷ put items key value) (item_of key value ∷ i ∷ items))) k ≡ cond (bytes_eq key k) (Some value) (get (i ∷ items) k)
    by_tests true less e rest = hide i items key k (Some value) e
    by_tests false true e rest = skip i items (put items key value) key k (Some value) e rest
    by_tests false false e rest = refl

-- get (without items key)
pub get-without : (items : List Item) (key : List ℕ) → Removes items (without items key) key
get-without [] key k = by_test (bytes_eq key k)
  where
    nothing : Option (List ℕ)
    nothing = None

    by_test : (b : Bool) → nothing ≡ cond b nothing nothing
    by_test true = refl
    by_test false = refl
get-without (i ∷ items) key k = by_test (bytes_eq i.key key) refl (get-without items key k)
  where
    by_test : (same : Bool) → bytes_eq i.key key ≡ same → get (without items key) k ≡ cond (bytes_eq key k) None (get items k) → get (cond same (without items key) (i ∷ without items key)) k ≡ cond (bytes_eq key k) None (get (i ∷ items) k)
    by_test true e rest = rest ∙ hide i items key k None e
    by_test false e rest = skip i items (without items key) key k None e rest

-- get (changed items edits)
pub get-changed : (items : List Item) (edits : List Edit) → Assigns items edits (changed items edits)
get-changed items [] k = refl
get-changed items (e ∷ edits) k = get-changed (edited items e.key e.value) edits k ∙ ap (assigned edits k) (by_value e.value)
  where
    by_value : (value : Option (List ℕ)) → get (edited items e.key value) k ≡ cond (bytes_eq e.key k) value (get items k)
    by_value None = get-without items e.key k
    by_value (Some value) = get-put items e.key value k

-- edits after other edits
pub changed-append : (items : List Item) (edits more : List Edit) → changed items (edits ++ more) ≡ changed (changed items edits) more
changed-append items [] more = refl
changed-append items (e ∷ edits) more = changed-append (edited items e.key e.value) edits more

-- a new key adds one item
pub length-put : (items : List Item) (key value : List ℕ) → get items key ≡ None → length (put items key value) ≡ suc (length items)
length-put [] key value none = refl
length-put (i ∷ items) key value none = by_tests (bytes_eq i.key key) (is_lt (slice_cmp nat_cmp i.key key)) none (length-put items key value)
  where
    by_tests : (same less : Bool) → cond same (Some i.value) (get items key) ≡ None → (get items key ≡ None → length (put items key value) ≡ suc (length items))
        → length (cond same (item_of key value ∷ items) (cond less (i ∷ put items key value) (item_of key value ∷ i ∷ items))) ≡ suc (suc (length items))
    by_tests true less found rest = absurd cc
    by_tests false true none rest = ap suc (rest none)
    by_tests false false none rest = refl

-- what holds of all items and of the new one holds of all after each change
all-put : (P : Item → Type 0) (items : List Item) (key value : List ℕ) → AllByRecursion P items → P (item_of key value) → AllByRecursion P (put items key value)
all-put P [] key value all new = (new, tt)
all-put P (i ∷ items) key value all new = by_tests (bytes_eq i.key key) (is_lt (slice_cmp nat_cmp i.key key)) (all-put P items key value all.1 new)
  where
    by_tests : (same less : Bool) → AllByRecursion P (put items key value) → AllByRecursion P (cond same (item_of key value ∷ items) (cond less (i ∷ put items key value) (item_of key value ∷ i ∷ items)))
    by_tests true less rest = (new, all.1)
    by_tests false true rest = (all.0, rest)
    by_tests false false rest = (new, all)

all-without : (P : Item → Type 0) (items : List Item) (key : List ℕ) → AllByRecursion P items → AllByRecursion P (without items key)
all-without P [] key all = tt
all-without P (i ∷ items) key all = by_test (bytes_eq i.key key) (all-without P items key all.1)
  where
    by_test : (same : Bool) → AllByRecursion P (without items key) → AllByRecursion P (cond same (without items key) (i ∷ without items key))
    by_test true rest = rest
    by_test false rest = (all.0, rest)

-- a key before another comes before all that come after that
pub all_after : (a b : List ℕ) (items : List Item) → Before a b → AllByRecursion (λ (j : Item). Before b j.key) items → AllByRecursion (λ (j : Item). Before a j.key) items
all_after a b [] lt all = tt
all_after a b (i ∷ items) lt all = (nat_list_cmp_total.trans a b i.key lt all.0, all_after a b items lt all.1)

-- a key that comes before those of all items isn't found
pub get_before : (items : List Item) (k : List ℕ) → AllByRecursion (λ (j : Item). Before k j.key) items → get items k ≡ None
get_before [] k all = refl
get_before (i ∷ items) k all = rw (after_not_same k i.key all.0) (get_before items k all.1)

-- each change keeps the order
pub sorted-put : (items : List Item) (key value : List ℕ) → IsSorted items → IsSorted (put items key value)
sorted-put [] key value sorted = (tt, tt)
sorted-put (i ∷ items) key value sorted = by_tests (bytes_eq i.key key) (is_lt (slice_cmp nat_cmp i.key key)) refl refl (sorted-put items key value sorted.1) (all-put (λ (j : Item). Before i.key j.key) items key value sorted.0)
  where
    by_tests : (same less : Bool) → bytes_eq i.key key ≡ same → is_lt (slice_cmp nat_cmp i.key key) ≡ less → IsSorted (put items key value)
        → (Before i.key key → AllByRecursion (λ (j : Item). Before i.key j.key) (put items key value))
        → IsSorted (cond same (item_of key value ∷ items) (cond less (i ∷ put items key value) (item_of key value ∷ i ∷ items)))
    by_tests true less e f rest above = (subst (λ (k : List ℕ). AllByRecursion (λ (j : Item). Before k j.key) items) (same_key i.key key e) sorted.0, sorted.1)
    by_tests false true e f rest above = (above (before-is_lt i.key key f), rest)
    by_tests false false e f rest above = let lt = after-tests i.key key e f in ((lt, all_after key i.key items lt sorted.0), sorted)

pub sorted-without : (items : List Item) (key : List ℕ) → IsSorted items → IsSorted (without items key)
sorted-without [] key sorted = tt
sorted-without (i ∷ items) key sorted = by_test (bytes_eq i.key key) (sorted-without items key sorted.1) (all-without (λ (j : Item). Before i.key j.key) items key sorted.0)
  where
    by_test : (same : Bool) → IsSorted (without items key) → AllByRecursion (λ (j : Item). Before i.key j.key) (without items key) → IsSorted (cond same (without items key) (i ∷ without items key))
    by_test true rest above = rest
    by_test false rest above = (above, rest)

pub sorted-edited : (items : List Item) (key : List ℕ) (value : Option (List ℕ)) → IsSorted items → IsSorted (edited items key value)
sorted-edited items key None sorted = sorted-without items key sorted
sorted-edited items key (Some value) sorted = sorted-put items key value sorted

pub sorted-changed : (items : List Item) (edits : List Edit) → IsSorted items → IsSorted (changed items edits)
sorted-changed items [] sorted = sorted
sorted-changed items (e ∷ edits) sorted = sorted-changed (edited items e.key e.value) edits (sorted-edited items e.key e.value sorted)

-- if no edit remains, all are made
pub all_made : (items now : List Item) (batch edits : List Edit) (n : ℕ) → edits ≡ batch → length edits ≤ n → changed now (drop n edits) ≡ changed items edits → Assigns items batch now
all_made items now batch edits n same over made k =
    let none : drop n edits ≡ [] = drop-none n edits over in
    let all : now ≡ changed items batch = sym (ap (changed now) none) ∙ made ∙ ap (changed items) same in
    ap (λ (l : List Item). get l k) all ∙ get-changed items batch k
  where
    drop-none : (n : ℕ) (l : List Edit) → length l ≤ n → drop n l ≡ []
    drop-none zero [] le = refl
    drop-none (suc n) [] le = refl
    drop-none zero (e ∷ l) le = absurd (omega arith)
    drop-none (suc n) (e ∷ l) le = drop-none n l (omega arith)

abbrev had : List ℕ → Option (List ℕ)
had v = Some v

had_is : (v w : List ℕ) → had v ≡ had w → v ≡ w
had_is v w e = cc

get_own : (i : Item) (items : List Item) → get (i ∷ items) i.key ≡ Some i.value
get_own i items = ap (λ (b : Bool). cond b (Some i.value) (get items i.key)) (same_true i.key i.key refl)

below_first : (i j : Item) (a b : List Item) → IsSorted (j ∷ b) → IsMapOf (i ∷ a) (j ∷ b) → Before i.key j.key → ⊥
below_first i j a b sorted same lt =
    let none : get (j ∷ b) i.key ≡ None = get_before (j ∷ b) i.key (lt, all_after i.key j.key b lt sorted.0) in
    let some : had i.value ≡ None = sym (get_own i a) ∙ same i.key ∙ none in
    absurd cc

first_key : (i j : Item) (a b : List Item) → IsSorted (i ∷ a) → IsSorted (j ∷ b) → IsMapOf (i ∷ a) (j ∷ b) → i.key ≡ j.key
first_key i j a b sorted_a sorted_b same = by_tests (bytes_eq i.key j.key) (is_lt (slice_cmp nat_cmp i.key j.key)) refl refl
  where
    by_tests : (equal less : Bool) → bytes_eq i.key j.key ≡ equal → is_lt (slice_cmp nat_cmp i.key j.key) ≡ less → i.key ≡ j.key
    by_tests true less e f = same_key i.key j.key e
    by_tests false true e f = absurd (below_first i j a b sorted_b same (before-is_lt i.key j.key f))
    by_tests false false e f = absurd (below_first j i b a sorted_a (λ k. sym (same k)) (after-tests i.key j.key e f))

-- sorted lists in which each key has the same value are the same
pub same_map : (a b : List Item) → IsSorted a → IsSorted b → IsMapOf a b → a ≡ b
same_map [] [] sa sb same = refl
same_map [] (j ∷ b) sa sb same = let some : had j.value ≡ None = sym (get_own j b) ∙ sym (same j.key) in absurd cc
same_map (i ∷ a) [] sa sb same = let some : had i.value ≡ None = sym (get_own i a) ∙ same i.key in absurd cc
same_map (i ∷ a) (j ∷ b) sa sb same =
    let key : i.key ≡ j.key = first_key i j a b sa sb same in
    let value : i.value ≡ j.value = had_is i.value j.value (sym (get_own i a) ∙ same i.key ∙ ap (get (j ∷ b)) key ∙ get_own j b) in
    let tails : IsMapOf a b = λ k. tail_at k key (bytes_eq i.key k) refl in
    let both : i ≡ j = ap (λ (k : List ℕ). item_of k i.value) key ∙ ap (λ (v : List ℕ). item_of j.key v) value in
    ap (λ (x : Item). x ∷ a) both ∙ ap (λ (l : List Item). j ∷ l) (same_map a b sa.1 sb.1 tails)
  where
    tail_at : (k : List ℕ) → i.key ≡ j.key → (t : Bool) → bytes_eq i.key k ≡ t → get a k ≡ get b k
    tail_at k key true e =
        let here : i.key ≡ k = same_key i.key k e in
        get_before a k (subst (λ x. AllByRecursion (λ (m : Item). Before x m.key) a) here sa.0) ∙ sym (get_before b k (subst (λ x. AllByRecursion (λ (m : Item). Before x m.key) b) (sym key ∙ here) sb.0))
    tail_at k key false e =
        let other : bytes_eq j.key k ≡ false = subst (λ x. bytes_eq x k ≡ false) key e in
        sym (ap (λ (t : Bool). cond t (Some i.value) (get a k)) e) ∙ same k ∙ ap (λ (t : Bool). cond t (Some j.value) (get b k)) other

-- a map has its own items
pub all_own : (items : List Item) → IsSorted items → AllByRecursion (λ (i : Item). get items i.key ≡ Some i.value) items
all_own [] sorted = tt
all_own (i ∷ items) sorted = (
  ap (λ (b : Bool). cond b (Some i.value) (get items i.key)) (same_true i.key i.key refl),
  all_zip (λ (j : Item). Before i.key j.key) (λ (j : Item). get items j.key ≡ Some j.value) (λ (j : Item). get (i ∷ items) j.key ≡ Some j.value) (λ j before own. ap (λ (b : Bool). cond b (Some i.value) (get items j.key)) (before_not_same i.key j.key before) ∙ own) items sorted.0 (all_own items sorted.1),
)
