-- The items of contents: their order, and what is found at each key.
use Rattle.std.proofs.Common.{◌≡◌, ℕ, ◌+◌, ◌<◌, ◌≤◌, Bool, true, false, cond, List, [], ◌∷◌, ◌++◌, length, map, Option, Some, None, refl, sym, ap, subst, arith}
use Rattle.std.specs.List.{AllByRecursion}
use Rattle.std.specs.Ordering.{nat_cmp, ordering_then}
use Rattle.std.specs.declared.cmp.Ordering.{Ordering}
use Rattle.std.specs.declared.cmp.Ordering.TheVariants.{Less}
use Rattle.std.specs.Cmp.{nat_cmp_is}
use Rattle.std.specs.Cmp.Lexicographic.{slice_cmp}
use Rattle.psu_map.specs.Map.{Item, item_of, Before, IsSorted}
use Rattle.psu_settings.specs.declared.output_settings.OutputSettings.{OutputSettings}
use Rattle.psu_settings.specs.Settings.{bytes_of, is_reset}
use Rattle.psu_status.specs.declared.groups.Enables.{Enables}
use Rattle.psu_nv.specs.Contents.{Macro, Contents, enables_items, register_items, registers_items, user_items, macros_items, file_item, recall_items, items_of}

-- # Order by the first byte

pub less : (m n : ℕ) → m < n → nat_cmp m n ≡ Less
less m n lt = sym (nat_cmp_is m n Less lt)

pub before_lead : (m n : ℕ) (a b : List ℕ) → m < n → Before (m ∷ a) (n ∷ b)
before_lead m n a b lt = ap (λ (o : Ordering). ordering_then o (slice_cmp nat_cmp a b)) (less m n lt)

-- the first byte of a key is below n, or at least n
abbrev pub LedBelow : ℕ → List ℕ → Type 0
LedBelow n [] = ⊥
LedBelow n (m ∷ rest) = m < n

abbrev pub LedFrom : ℕ → List ℕ → Type 0
LedFrom n [] = ⊥
LedFrom n (m ∷ rest) = n ≤ m

pub before_led : (n : ℕ) (a b : List ℕ) → LedBelow n a → LedFrom n b → Before a b
before_led n [] b below from = absurd below
before_led n (m ∷ a) [] below from = absurd from
before_led n (m ∷ a) (k ∷ b) below from = before_lead m k a b (omega (arith, below, from))

-- all items come before a key
abbrev pub Below : List ℕ → List Item → Type 0
Below key items = AllByRecursion (λ (i : Item). Before i.key key) items

abbrev pub AllBelow : ℕ → List Item → Type 0
AllBelow n items = AllByRecursion (λ (i : Item). LedBelow n i.key) items

abbrev pub AllFrom : ℕ → List Item → Type 0
AllFrom n items = AllByRecursion (λ (i : Item). LedFrom n i.key) items

pub all-append : (P : Item → Type 0) (a b : List Item) → AllByRecursion P a → AllByRecursion P b → AllByRecursion P (a ++ b)
all-append P [] b all_a all_b = all_b
all-append P (i ∷ a) b all_a all_b = (all_a.0, all-append P a b all_a.1 all_b)

pub all-map : (P Q : Item → Type 0) (items : List Item) → ((i : Item) → P i → Q i) → AllByRecursion P items → AllByRecursion Q items
all-map P Q [] each all = tt
all-map P Q (i ∷ items) each all = (each i all.0, all-map P Q items each all.1)

pub below_key : (n : ℕ) (rest : List ℕ) (items : List Item) → AllBelow n items → Below (n ∷ rest) items
below_key n rest items all = all-map (λ (i : Item). LedBelow n i.key) (λ (i : Item). Before i.key (n ∷ rest)) items (λ i led. before_led n i.key (n ∷ rest) led (omega arith)) all

pub sorted-append : (n : ℕ) (a b : List Item) → IsSorted a → IsSorted b → AllBelow n a → AllFrom n b → IsSorted (a ++ b)
sorted-append n [] b sorted_a sorted_b below from = sorted_b
sorted-append n (i ∷ a) b sorted_a sorted_b below from = (
  all-append (λ (j : Item). Before i.key j.key) a b sorted_a.0 (all-map (λ (j : Item). LedFrom n j.key) (λ (j : Item). Before i.key j.key) b (λ j led. before_led n i.key j.key below.0 led) from),
  sorted-append n a b sorted_a.1 sorted_b below.1 from,
)

-- # The parts by their first bytes

pub enables_led : (e : Option Enables) → AllBelow 2 (enables_items e)
enables_led None = tt
enables_led (Some e) = (omega arith, tt)

-- the item of a register with a number of at least q
pub record IsFrom (q : ℕ) (i : Item) : Type 0 where
  pub number : ℕ
  pub key : i.key ≡ 2 ∷ number ∷ []
  pub from : q ≤ number

one_from : (q r : ℕ) (s : List OutputSettings) → q ≤ r → AllByRecursion (IsFrom q) (register_items r s)
one_from q r s le = by_test (is_reset s)
  where
    by_test : (b : Bool) → AllByRecursion (IsFrom q) (cond b [] (item_of (2 ∷ r ∷ []) (bytes_of s) ∷ []))
    by_test true = tt
    by_test false = (record { number = r; key = refl; from = le }, tt)

pub registers_from : (q r : ℕ) (registers : List (List OutputSettings)) → q ≤ r → AllByRecursion (IsFrom q) (registers_items r registers)
registers_from q r [] le = tt
registers_from q r (s ∷ registers) le = all-append (IsFrom q) (register_items r s) (registers_items (r + 1) registers) (one_from q r s le) (registers_from q (r + 1) registers (omega (arith, le)))

pub registers_below : (registers : List (List OutputSettings)) → AllBelow 3 (registers_items 0 registers)
registers_below registers = all-map (IsFrom 0) (λ (i : Item). LedBelow 3 i.key) (registers_items 0 registers) (λ i is. subst (LedBelow 3) (sym is.key) (omega arith)) (registers_from 0 0 registers (omega arith))

pub registers_led : (registers : List (List OutputSettings)) → AllFrom 2 (registers_items 0 registers)
registers_led registers = all-map (IsFrom 0) (λ (i : Item). LedFrom 2 i.key) (registers_items 0 registers) (λ i is. subst (LedFrom 2) (sym is.key) (omega arith)) (registers_from 0 0 registers (omega arith))

pub before_number : (m n : ℕ) → m < n → Before (2 ∷ m ∷ []) (2 ∷ n ∷ [])
before_number m n lt = before_lead m n [] [] lt

-- registers with lower numbers than one have keys before its key
pub registers_before : (q r : ℕ) (registers : List (List OutputSettings)) → q + length registers ≤ r → Below (2 ∷ r ∷ []) (registers_items q registers)
registers_before q r [] le = tt
registers_before q r (s ∷ registers) le = all-append (λ (i : Item). Before i.key (2 ∷ r ∷ [])) (register_items q s) (registers_items (q + 1) registers) (by_test (is_reset s)) (registers_before (q + 1) r registers (omega (arith, le)))
  where
    by_test : (b : Bool) → Below (2 ∷ r ∷ []) (cond b [] (item_of (2 ∷ q ∷ []) (bytes_of s) ∷ []))
    by_test true = tt
    by_test false = (before_number q r (omega (arith, le)), tt)

registers_sorted : (q : ℕ) (registers : List (List OutputSettings)) → IsSorted (registers_items q registers)
registers_sorted q [] = tt
registers_sorted q (s ∷ registers) = by_test (is_reset s) (registers_sorted (q + 1) registers)
  where
    above : (i : Item) → IsFrom (q + 1) i → Before (2 ∷ q ∷ []) i.key
    above i is = subst (Before (2 ∷ q ∷ [])) (sym is.key) (before_number q is.number (omega (arith, is.from)))

    by_test : (b : Bool) → IsSorted (registers_items (q + 1) registers) → IsSorted (cond b [] (item_of (2 ∷ q ∷ []) (bytes_of s) ∷ []) ++ registers_items (q + 1) registers)
    by_test true rest = rest
    by_test false rest = (all-map (IsFrom (q + 1)) (λ (i : Item). Before (2 ∷ q ∷ []) i.key) (registers_items (q + 1) registers) above (registers_from (q + 1) (q + 1) registers (omega arith)), rest)

pub user_below : (user : List ℕ) → AllBelow 4 (user_items user)
user_below [] = tt
user_below (b ∷ user) = (omega arith, tt)

user_led : (user : List ℕ) → AllFrom 3 (user_items user)
user_led [] = tt
user_led (b ∷ user) = (omega arith, tt)

pub macros_below : (macros : List Macro) → AllBelow 5 (macros_items macros)
macros_below [] = tt
macros_below (m ∷ macros) = (omega arith, tt)

macros_led : (macros : List Macro) → AllFrom 4 (macros_items macros)
macros_led [] = tt
macros_led (m ∷ macros) = (omega arith, tt)

pub files_led : (files : List Item) → AllFrom 5 (map file_item files)
files_led [] = tt
files_led (f ∷ files) = (omega arith, files_led files)

pub files_below : (files : List Item) → AllBelow 6 (map file_item files)
files_below [] = tt
files_below (f ∷ files) = (omega arith, files_below files)

pub recall_led : (recall : Bool) → AllFrom 6 (recall_items recall)
recall_led true = (omega arith, tt)
recall_led false = tt

pub files_before : (files : List Item) (name : List ℕ) → Below name files → Below (5 ∷ name) (map file_item files)
files_before [] name below = tt
files_before (f ∷ files) name below = (below.0, files_before files name below.1)

files_sorted : (files : List Item) → IsSorted files → IsSorted (map file_item files)
files_sorted [] sorted = tt
files_sorted (f ∷ files) sorted = (above files sorted.0, files_sorted files sorted.1)
  where
    above : (rest : List Item) → AllByRecursion (λ (j : Item). Before f.key j.key) rest → AllByRecursion (λ (j : Item). Before (5 ∷ f.key) j.key) (map file_item rest)
    above [] all = tt
    above (j ∷ rest) all = (all.0, above rest all.1)

-- # All items

fewer : (m n : ℕ) (items : List Item) → m ≤ n → AllFrom n items → AllFrom m items
fewer m n items le all = all-map (λ (i : Item). LedFrom n i.key) (λ (i : Item). LedFrom m i.key) items (λ i led. by_key i.key led) all
  where
    by_key : (key : List ℕ) → LedFrom n key → LedFrom m key
    by_key [] led = led
    by_key (k ∷ key) led = omega (arith, le, led)

module _ (c : Contents) where
  -- the items after those of the macros
  abbrev pub rest_of : List Item
  rest_of = map file_item c.files ++ recall_items c.recall

  pub from_files : AllFrom 5 rest_of
  from_files = all-append (λ (i : Item). LedFrom 5 i.key) (map file_item c.files) (recall_items c.recall) (files_led c.files) (fewer 5 6 (recall_items c.recall) (omega arith) (recall_led c.recall))

  pub from_macros : AllFrom 4 (macros_items c.macros ++ rest_of)
  from_macros = all-append (λ (i : Item). LedFrom 4 i.key) (macros_items c.macros) rest_of (macros_led c.macros) (fewer 4 5 rest_of (omega arith) from_files)

  pub from_user : AllFrom 3 (user_items c.user ++ (macros_items c.macros ++ rest_of))
  from_user = all-append (λ (i : Item). LedFrom 3 i.key) (user_items c.user) (macros_items c.macros ++ rest_of) (user_led c.user) (fewer 3 4 (macros_items c.macros ++ rest_of) (omega arith) from_macros)

  pub from_registers : AllFrom 2 (registers_items 0 c.registers ++ (user_items c.user ++ (macros_items c.macros ++ rest_of)))
  from_registers = all-append (λ (i : Item). LedFrom 2 i.key) (registers_items 0 c.registers) (user_items c.user ++ (macros_items c.macros ++ rest_of)) (registers_led c.registers) (fewer 2 3 (user_items c.user ++ (macros_items c.macros ++ rest_of)) (omega arith) from_user)

  pub items_sorted : IsSorted c.files → IsSorted (items_of c)
  unfolding items_of
  items_sorted sorted =
      sorted-append 2 (enables_items c.enables) _ (one c.enables)
      (sorted-append 3 (registers_items 0 c.registers) _ (registers_sorted 0 c.registers)
      (sorted-append 4 (user_items c.user) _ (two c.user)
      (sorted-append 5 (macros_items c.macros) _ (three c.macros)
      (sorted-append 6 (map file_item c.files) _ (files_sorted c.files sorted) (four c.recall) (files_below c.files) (recall_led c.recall))
      (macros_below c.macros) from_files)
      (user_below c.user) from_macros)
      (registers_below c.registers) from_user)
      (enables_led c.enables) from_registers
    where
      one : (e : Option Enables) → IsSorted (enables_items e)
      one None = tt
      one (Some e) = (tt, tt)

      two : (user : List ℕ) → IsSorted (user_items user)
      two [] = tt
      two (b ∷ user) = (tt, tt)

      three : (macros : List Macro) → IsSorted (macros_items macros)
      three [] = tt
      three (m ∷ macros) = (tt, tt)

      four : (recall : Bool) → IsSorted (recall_items recall)
      four true = (tt, tt)
      four false = tt
