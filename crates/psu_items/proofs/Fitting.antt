-- What follows where an image represents a map: the map costs no more than the limit, and an opening has no cause to
-- refuse the image.
use Rattle.std.proofs.Common.{◌≡◌, ℕ, ◌+◌, ◌/◌, ◌≤◌, Bool, true, false, cond, List, [], ◌∷◌, length, Some, None, sym, ◌∙◌, ap, subst, arith, length-append}
use Rattle.std.specs.List.{AllByRecursion}
use Rattle.std.specs.Str.{bytes_eq}
use Rattle.psu_pages.specs.declared.faults.BadImage.{BadImage}
use Rattle.psu_pages.specs.declared.faults.BadImage.TheVariants.{NoRoot, BadRoot, BadVersion}
use Rattle.psu_pages.specs.Image.{Head, IsHead, bytes_in, value_in, heads_in, pages_of, taken}
use Rattle.std.proofs.lemmas.List.{length-take}
use Rattle.std.proofs.Math.Nat.{min-le_left}
use Rattle.psu_map.specs.Map.{Item, get, without, cost, Before, IsSorted}
use Rattle.psu_items.specs.Image.{current_root, listed, shown_in, HasReadableRoot, Represents, IsRefusal}
use Rattle.psu_pages.proofs.Choosing.{some_root}
use Rattle.psu_map.proofs.Keys.{before_not_same}
use Rattle.psu_map.proofs.Maps.{get-without, all_own}

without_less : (items : List Item) (key : List ℕ) → cost (without items key) ≤ cost items
without_less [] key = omega arith
without_less (i ∷ items) key = by_test (bytes_eq i.key key) (without_less items key)
  where
    by_test : (b : Bool) → cost (without items key) ≤ cost items → cost (cond b (without items key) (i ∷ without items key)) ≤ cost (i ∷ items)
    by_test true rest = omega (arith, rest)
    by_test false rest = omega (arith, rest)

-- removing a key lowers the cost by at least the cost of its item
without_cost : (items : List Item) (key value : List ℕ) → get items key ≡ Some value → (1 + (length value + 511) / 512) + cost (without items key) ≤ cost items
without_cost [] key value e = absurd cc
without_cost (i ∷ items) key value e = by_test (bytes_eq i.key key) e (without_cost items key value)
  where
    by_test : (b : Bool) → cond b (Some i.value) (get items key) ≡ Some value → (get items key ≡ Some value → (1 + (length value + 511) / 512) + cost (without items key) ≤ cost items)
        → (1 + (length value + 511) / 512) + cost (cond b (without items key) (i ∷ without items key)) ≤ cost (i ∷ items)
    by_test true e rest =
        let less = without_less items key in
        let same : i.value ≡ value = cc in
        let long : length i.value ≡ length value = ap length same in
        omega (arith, less, long)
    by_test false e rest = let less = rest e in omega (arith, less)

-- a map costs no more than items among which each of its keys has the same value
map_cost : (map items : List Item) → IsSorted map → AllByRecursion (λ (i : Item). get items i.key ≡ Some i.value) map → cost map ≤ cost items
map_cost [] items sorted has = omega arith
map_cost (i ∷ map) items sorted has =
    let rest = map_cost map (without items i.key) sorted.1 (still map sorted.0 has.1) in
    let first = without_cost items i.key i.value has.0 in
    omega (arith, rest, first)
  where
    still : (js : List Item) → AllByRecursion (λ (j : Item). Before i.key j.key) js → AllByRecursion (λ (j : Item). get items j.key ≡ Some j.value) js
        → AllByRecursion (λ (j : Item). get (without items i.key) j.key ≡ Some j.value) js
    still [] after has = tt
    still (j ∷ js) after has = (get-without items i.key j.key ∙ ap (λ (b : Bool). cond b None (get items j.key)) (before_not_same i.key j.key after.0) ∙ has.0, still js after.1 has.1)

-- a value is no longer than its head says
listed_cost : (image : List ℕ) (heads : List Head) → AllByRecursion IsHead heads → cost (listed image heads) ≤ length (taken heads)
listed_cost image [] all = omega arith
listed_cost image (h ∷ heads) all =
    let rest = listed_cost image heads all.1 in
    let head : IsHead h = all.0 in
    let count = head.count in
    let short : length (value_in image h) ≤ h.size = subst (λ (n : ℕ). n ≤ h.size) (sym (length-take h.size (bytes_in image h.pages))) (min-le_left h.size (length (bytes_in image h.pages))) in
    omega (arith, rest, count, short, length-append (pages_of h) (taken heads))

all_found : (map items js : List Item) → ((k : List ℕ) → get map k ≡ get items k) → AllByRecursion (λ (j : Item). get map j.key ≡ Some j.value) js → AllByRecursion (λ (j : Item). get items j.key ≡ Some j.value) js
all_found map items [] same own = tt
all_found map items (j ∷ js) same own = (sym (same j.key) ∙ own.0, all_found map items js same own.1)

pub represents_within : (image : List ℕ) (limit : ℕ) (map : List Item) → Represents image limit map → cost map ≤ limit
represents_within image limit map represents =
    let root = current_root image in
    let holds = represents.holds in
    let shows = holds.shows in
    let fewer = map_cost map (shown_in root image) holds.sorted (all_found map (shown_in root image) map holds.items (all_own map holds.sorted)) in
    let named = listed_cost image (heads_in root image) shows.heads in
    let cheap = shows.cost in
    omega (arith, fewer, named, cheap)

-- ---- why an image isn't refused

pub represents_readable : (image : List ℕ) (limit : ℕ) (map : List Item) → Represents image limit map → HasReadableRoot image
represents_readable image limit map represents =
    let shows = represents.holds.shows in
    record {
      current = represents.current;
      words = record {
        marked = shows.marked;
        version = shows.version;
        limit_least = omega (arith, shows.limit_least, shows.limit_is);
        limit_most = omega (arith, shows.limit_most, shows.limit_is);
        room = omega (arith, shows.room, shows.limit_is);
        count = shows.count;
      };
    }

pub represents_unrefused : (image : List ℕ) (limit : ℕ) (map : List Item) (bad : BadImage) → Represents image limit map → IsRefusal image bad → ⊥
represents_unrefused image limit map NoRoot represents refusal = let shows = represents.holds.shows in some_root image (current_root image) (omega (arith, shows.room)) represents.current.open_gate refusal
represents_unrefused image limit map BadRoot represents refusal = refusal.represents_none limit map represents
represents_unrefused image limit map BadVersion represents refusal = refusal.version represents.holds.shows.version
