-- What holds of all items holds of them after a change.
use Rattle.std.proofs.Common.{ℕ, Bool, true, false, cond, List, [], ◌∷◌, bytes_eq}
use Rattle.std.specs.List.{AllByRecursion}
use Rattle.std.specs.Ordering.{nat_cmp, is_lt}
use Rattle.std.specs.Cmp.Lexicographic.{slice_cmp}
use Rattle.psu_map.specs.Map.{Item, item_of, put, without}

pub all_put : (P : Item → Type 0) (items : List Item) (key value : List ℕ) → AllByRecursion P items → P (item_of key value) → AllByRecursion P (put items key value)
all_put P [] key value all here = (here, tt)
all_put P (i ∷ items) key value all here = by_tests (bytes_eq i.key key) (is_lt (slice_cmp nat_cmp i.key key)) (all_put P items key value all.1 here)
  where
    by_tests : (same less : Bool) → AllByRecursion P (put items key value) → AllByRecursion P (cond same (item_of key value ∷ items) (cond less (i ∷ put items key value) (item_of key value ∷ i ∷ items)))
    by_tests true less rest = (here, all.1)
    by_tests false true rest = (all.0, rest)
    by_tests false false rest = (here, all)

pub all_without : (P : Item → Type 0) (items : List Item) (key : List ℕ) → AllByRecursion P items → AllByRecursion P (without items key)
all_without P [] key all = tt
all_without P (i ∷ items) key all = by_test (bytes_eq i.key key) (all_without P items key all.1)
  where
    by_test : (same : Bool) → AllByRecursion P (without items key) → AllByRecursion P (cond same (without items key) (i ∷ without items key))
    by_test true rest = rest
    by_test false rest = (all.0, rest)
