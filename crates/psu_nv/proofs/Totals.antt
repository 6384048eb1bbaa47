-- The cost of contents is the sum over their parts.
use Rattle.std.proofs.Common.{◌≡◌, ℕ, ◌+◌, ◌-◌, ◌*◌, ◌/◌, ◌≤◌, eqb, Bool, true, false, cond, inl, inr, List, [], ◌∷◌, ◌++◌, length, map, Option, Some, None, refl, sym, ◌∙◌, ap, subst, bytes_eq, arith, length-append}
use Rattle.std.specs.Prelude.{is_some}
use Rattle.std.specs.List.{flat_map, AllByRecursion}
use Rattle.std.proofs.lemmas.Bool.Decides.{nat_tests}
use Rattle.std.specs.Int.{w16, to_be_bytes}
use Rattle.std.proofs.lemmas.Bool.{cases_Bool}
use Rattle.std.proofs.lemmas.List.Sums.{sum_by-cons, sum_by-append}
use Rattle.std.proofs.lemmas.List.Concat.{flat_map-cons}
use Rattle.std.specs.Ordering.{nat_cmp, is_lt}
use Rattle.std.specs.Cmp.Lexicographic.{slice_cmp}
use Rattle.psu_map.specs.Map.{Before}
use Rattle.psu_map.proofs.Maps.{get_before, all_after, get-put, sorted-put}
use Rattle.psu_map.proofs.Keys.{same_key, after-tests}
use Rattle.psu_nv.specs.Labels.{same_label}
use Rattle.psu_nv.proofs.Labels.{label_short}
use Rattle.psu_nv.specs.Commands.{without_label, macro_of}
use Rattle.psu_nv.proofs.Items.{all_put, all_without}
use Rattle.psu_map.specs.Map.{Item, item_of, get, put, without, cost, IsSorted}
use Rattle.psu_settings.specs.declared.output_settings.OutputSettings.{OutputSettings}
use Rattle.psu_settings.specs.Settings.{AreSettings, bytes_of, is_reset}
use Rattle.psu_settings.proofs.Pieces.{size}
use Rattle.psu_nv.specs.Contents.{Macro, Contents, IsMacro, body_at, has_label, enables_items, register_items, registers_items, user_items, macro_bytes, macros_items, file_item, recall_items, items_of, cost_of}
use Rattle.psu_nv.specs.Costs.{page_count, registers_cost, macros_length, macros_cost, size_at, pages_of, IsShort}

pub cost-append : (a b : List Item) → cost (a ++ b) ≡ cost a + cost b
cost-append [] b = omega arith
cost-append (i ∷ a) b = omega (arith, cost-append a b)

-- the bytes of four outputs
pub twenty_eight : (s : List OutputSettings) → length s ≡ 4 → length (bytes_of s) ≡ 28
twenty_eight s e = size s ∙ ap (λ (n : ℕ). 7 * n) e

register-cost : (r : ℕ) (s : List OutputSettings) → AreSettings s → cost (register_items r s) ≡ cond (is_reset s) 0 2
register-cost r s are = elim (cases_Bool (is_reset s)) [
  | inl same ↦ ap (λ (b : Bool). cost (cond b [] (item_of (2 ∷ r ∷ []) (bytes_of s) ∷ []))) same ∙ sym (ap (λ (b : Bool). cond b 0 2) same)
  | inr other ↦ ap (λ (b : Bool). cost (cond b [] (item_of (2 ∷ r ∷ []) (bytes_of s) ∷ []))) other ∙ ap (λ (n : ℕ). (1 + (n + 511) / 512) + 0) (twenty_eight s are.0) ∙ sym (ap (λ (b : Bool). cond b 0 2) other)
]

pub registers-cost : (r : ℕ) (registers : List (List OutputSettings)) → AllByRecursion AreSettings registers → cost (registers_items r registers) ≡ registers_cost registers
registers-cost r [] are = refl
registers-cost r (s ∷ registers) are = cost-append (register_items r s) (registers_items (r + 1) registers) ∙ ap (λ (n : ℕ). n + cost (registers_items (r + 1) registers)) (register-cost r s are.0) ∙ ap (λ (n : ℕ). cond (is_reset s) 0 2 + n) (registers-cost (r + 1) registers are.1) ∙ sym (sum_by-cons (λ (t : List OutputSettings). cond (is_reset t) 0 2) s registers)

length-macro : (m : Macro) → length (macro_bytes m) ≡ 3 + (length m.label + length m.body)
length-macro m = omega (arith, length-append m.label (to_be_bytes w16 (length m.body) ++ m.body), length-append (to_be_bytes w16 (length m.body)) m.body)

length-macros : (macros : List Macro) → length (flat_map macro_bytes macros) ≡ macros_length macros
length-macros [] = refl
length-macros (m ∷ macros) = ap length (flat_map-cons macro_bytes m macros) ∙ length-append (macro_bytes m) (flat_map macro_bytes macros) ∙ (let a = length-macro m in let b = length-macros macros in cc) ∙ sym (sum_by-cons (λ (n : Macro). 3 + (length n.label + length n.body)) m macros)

pub macros-cost : (macros : List Macro) → cost (macros_items macros) ≡ macros_cost macros
macros-cost [] = refl
macros-cost (m ∷ macros) = ap (λ (n : ℕ). (1 + (n + 511) / 512) + 0) (length-macros (m ∷ macros)) ∙ (let same : page_count (macros_length (m ∷ macros)) + 0 ≡ page_count (macros_length (m ∷ macros)) = omega arith in same)

files-cost : (files : List Item) → cost (map file_item files) ≡ cost files
files-cost [] = refl
files-cost (f ∷ files) = ap (λ (n : ℕ). (1 + (length f.value + 511) / 512) + n) (files-cost files)

-- part by part
pub parts_cost : (c : Contents) → AllByRecursion AreSettings c.registers → cost_of c ≡ cost (enables_items c.enables) + (registers_cost c.registers + (cost (user_items c.user) + (macros_cost c.macros + (cost c.files + cost (recall_items c.recall)))))
unfolding items_of
parts_cost c are =
    omega (
      arith,
      cost-append (enables_items c.enables) (registers_items 0 c.registers ++ (user_items c.user ++ (macros_items c.macros ++ (map file_item c.files ++ recall_items c.recall)))),
      cost-append (registers_items 0 c.registers) (user_items c.user ++ (macros_items c.macros ++ (map file_item c.files ++ recall_items c.recall))),
      cost-append (user_items c.user) (macros_items c.macros ++ (map file_item c.files ++ recall_items c.recall)),
      cost-append (macros_items c.macros) (map file_item c.files ++ recall_items c.recall),
      cost-append (map file_item c.files) (recall_items c.recall),
      registers-cost 0 c.registers are,
      macros-cost c.macros,
      files-cost c.files,
    )

-- # A file more or less

pub cost-put : (files : List Item) (name value : List ℕ) → IsSorted files → cost (put files name value) + pages_of (get files name) ≡ cost files + page_count (length value)
cost-put [] name value sorted = omega arith
cost-put (i ∷ files) name value sorted = by_tests (bytes_eq i.key name) (is_lt (slice_cmp nat_cmp i.key name)) refl refl (cost-put files name value sorted.1)
  where
    by_tests : (same less : Bool) → bytes_eq i.key name ≡ same → is_lt (slice_cmp nat_cmp i.key name) ≡ less → cost (put files name value) + pages_of (get files name) ≡ cost files + page_count (length value)
        → cost (cond same (item_of name value ∷ files) (cond less (i ∷ put files name value) (item_of name value ∷ i ∷ files))) + pages_of (cond same (Some i.value) (get files name)) ≡ cost (i ∷ files) + page_count (length value)
    by_tests true less e f rest = omega arith
    by_tests false true e f rest = omega (arith, rest)
    by_tests false false e f rest =
        let none : get files name ≡ None = get_before files name (all_after name i.key files (after-tests i.key name e f) sorted.0) in
        omega (arith, ap pages_of none)

pub cost-without : (files : List Item) (name : List ℕ) → IsSorted files → cost (without files name) + pages_of (get files name) ≡ cost files
cost-without [] name sorted = refl
cost-without (i ∷ files) name sorted = by_test (bytes_eq i.key name) refl (cost-without files name sorted.1)
  where
    by_test : (same : Bool) → bytes_eq i.key name ≡ same → cost (without files name) + pages_of (get files name) ≡ cost files
        → cost (cond same (without files name) (i ∷ without files name)) + pages_of (cond same (Some i.value) (get files name)) ≡ cost (i ∷ files)
    by_test true e rest =
        let none : get files name ≡ None = get_before files name (subst (λ (k : List ℕ). AllByRecursion (λ (j : Item). Before k j.key) files) (same_key i.key name e) sorted.0) in
        omega (arith, rest, ap pages_of none)
    by_test false e rest = omega (arith, rest)

-- a file moved to a name that no file has
pub cost-of-move : (files : List Item) (from to value : List ℕ) → IsSorted files → get files from ≡ Some value → get files to ≡ None → cost (without (put files to value) from) ≡ cost files
cost-of-move files from to value sorted found free =
    let there : get (put files to value) from ≡ Some value = get-put files to value from ∙ ap (λ (o : Option (List ℕ)). cond (bytes_eq to from) (Some value) o) found ∙ either (bytes_eq to from) in
    let put_cost = cost-put files to value sorted in
    let out_cost = cost-without (put files to value) from (sorted-put files to value sorted) in
    omega (arith, put_cost, out_cost, ap pages_of there, ap pages_of free)
  where
    either : (b : Bool) → cond b (Some value) (Some value) ≡ Some value
    either true = refl
    either false = refl

-- # A macro more or less

pub macros_length-push : (macros : List Macro) (m : Macro) → macros_length (macros ++ m ∷ []) ≡ macros_length macros + (3 + (length m.label + length m.body))
macros_length-push macros m = sum_by-append (λ (n : Macro). 3 + (length n.label + length n.body)) macros (m ∷ []) ∙ ap (λ (k : ℕ). macros_length macros + k) (sum_by-cons (λ (n : Macro). 3 + (length n.label + length n.body)) m []) ∙ (let same : macros_length macros + ((3 + (length m.label + length m.body)) + 0) ≡ macros_length macros + (3 + (length m.label + length m.body)) = omega arith in same)

pub length-without_label : (macros : List Macro) (label : List ℕ) → has_label macros label ≡ true → length (without_label macros label) + 1 ≡ length macros
length-without_label [] label has = absurd cc
length-without_label (m ∷ macros) label has = by_test (same_label m.label label) refl (length-without_label macros label)
  where
    by_test : (b : Bool) → same_label m.label label ≡ b → (has_label macros label ≡ true → length (without_label macros label) + 1 ≡ length macros) → length (cond b macros (m ∷ without_label macros label)) + 1 ≡ length (m ∷ macros)
    by_test true e rest = omega arith
    by_test false e rest = let shorter = rest (sym (ap (λ (b : Bool). is_some (cond b (Some m.body) (body_at macros label))) e) ∙ has) in omega (arith, shorter)

pub macros_length-without_label : (macros : List Macro) (label : List ℕ) → macros_length (without_label macros label) + size_at macros label ≡ macros_length macros
macros_length-without_label [] label = refl
macros_length-without_label (m ∷ macros) label = by_test (same_label m.label label) (macros_length-without_label macros label) ∙ sym first
  where
    size : Macro → ℕ
    size n = 3 + (length n.label + length n.body)

    first : macros_length (m ∷ macros) ≡ size m + macros_length macros
    first = sum_by-cons size m macros

    by_test : (b : Bool) → macros_length (without_label macros label) + size_at macros label ≡ macros_length macros
        → macros_length (cond b macros (m ∷ without_label macros label)) + cond b (size m) (size_at macros label) ≡ size m + macros_length macros
    by_test true rest = omega arith
    by_test false rest = omega (arith, rest, sum_by-cons size m (without_label macros label))

-- the cost depends only on the number of macros and their bytes
pub macros_cost_is : (macros : List Macro) (count size : ℕ) → length macros ≡ count → macros_length macros ≡ size → macros_cost macros ≡ cond (eqb count 0) 0 (page_count size)
macros_cost_is [] count size long is = sym (ap (λ (n : ℕ). cond (eqb n 0) 0 (page_count size)) (sym long))
macros_cost_is (m ∷ macros) count size long is = ap page_count is ∙ sym (ap (λ (b : Bool). cond b 0 (page_count size)) (let other : eqb count 0 ≡ false = grind (arith, nat_tests) in other))

-- no macro of contents has more than 1,039 bytes
pub few_bytes : (macros : List Macro) → AllByRecursion IsMacro macros → macros_length macros ≤ 1039 * length macros
few_bytes [] are = omega arith
few_bytes (m ∷ macros) are = omega (arith, sum_by-cons (λ (n : Macro). 3 + (length n.label + length n.body)) m macros, few_bytes macros are.1, are.0.body, label_short m.label are.0.label)

-- # As the code computes it, from kept values that equal those of the contents

module _ (files now : List Item) (name : List ℕ) (same : files ≡ now) (sorted : IsSorted files) (total had : ℕ) (total_is : total ≡ cost files) (had_is : had ≡ pages_of (get now name)) where
  had_was : had ≡ pages_of (get files name)
  had_was = had_is ∙ ap (λ (l : List Item). pages_of (get l name)) (sym same)

  pub had_fits : had ≤ total
  had_fits = omega (arith, cost-without files name sorted, had_was, total_is)

  pub without_is : total - had ≡ cost (without now name)
  without_is = (let found : total - had ≡ cost (without files name) = omega (arith, cost-without files name sorted, had_was, total_is) in found) ∙ ap (λ (l : List Item). cost (without l name)) same

  pub with_is : (value : List ℕ) (size page : ℕ) → length value ≡ size → page ≡ page_count size → total + page - had ≡ cost (put now name value)
  with_is value size page long page_is =
      let its : page_count (length value) ≡ page = ap page_count long ∙ sym page_is in
      (let found : total + page - had ≡ cost (put files name value) = omega (arith, cost-put files name value sorted, had_was, total_is, its) in found) ∙ ap (λ (l : List Item). cost (put l name value)) same

-- one more macro
pub push_is : (macros : List Macro) (label body : List ℕ) (size bytes : ℕ) → length label + length body ≡ size → bytes ≡ macros_length macros → page_count (bytes + (3 + size)) ≡ macros_cost (macros ++ macro_of label body ∷ [])
push_is macros label body size bytes long is = sym (macros_cost_some (macros ++ macro_of label body ∷ []) (bytes + (3 + size)) some (macros_length-push macros (macro_of label body) ∙ (let same : macros_length macros + (3 + (length label + length body)) ≡ bytes + (3 + size) = omega (arith, long, is) in same)))
  where
    some : 1 ≤ length (macros ++ macro_of label body ∷ [])
    some = omega (arith, length-append macros (macro_of label body ∷ []))

    macros_cost_some : (ms : List Macro) (n : ℕ) → 1 ≤ length ms → macros_length ms ≡ n → macros_cost ms ≡ page_count n
    macros_cost_some [] n le e = absurd (omega arith)
    macros_cost_some (m ∷ ms) n le e = ap page_count e

pub size_fits : (macros : List Macro) (label : List ℕ) → size_at macros label ≤ macros_length macros
size_fits macros label = omega (arith, macros_length-without_label macros label)

-- one macro removed
pub shorter_is : (macros : List Macro) (label : List ℕ) (bytes had : ℕ) → bytes ≡ macros_length macros → had ≡ size_at macros label → macros_length (without_label macros label) ≡ bytes - had
shorter_is macros label bytes had is had_is = omega (arith, macros_length-without_label macros label, is, had_is)

pub fewer_is : (macros : List Macro) (label : List ℕ) (count : ℕ) → count ≡ length macros → has_label macros label ≡ true → length (without_label macros label) ≡ count - 1
fewer_is macros label count is has = omega (arith, length-without_label macros label has, is)

pub some_macro : (macros : List Macro) (label : List ℕ) → has_label macros label ≡ true → 1 ≤ length macros
some_macro macros label has = omega (arith, length-without_label macros label has)

pub parts_total : (c : Contents) (e r u m f p total : ℕ) → AllByRecursion AreSettings c.registers → e ≡ cost (enables_items c.enables) → r ≡ registers_cost c.registers → u ≡ cost (user_items c.user) → m ≡ macros_cost c.macros → f ≡ cost c.files
    → p ≡ cost (recall_items c.recall) → total ≡ e + (r + (u + (m + (f + p)))) → total ≡ cost_of c
parts_total c e r u m f p total are ee er eu em ef ep is = omega (arith, parts_cost c are, ee, er, eu, em, ef, ep, is)

-- # Files with their total

pub few_pages : (files : List Item) → AllByRecursion IsShort files → cost files ≤ 66 * length files
few_pages [] short = omega arith
few_pages (f ∷ files) short = omega (arith, few_pages files short.1, short.0)

module _ (files : List Item) (name : List ℕ) (sorted : IsSorted files) (short : AllByRecursion IsShort files) (total had : ℕ) (total_is : total ≡ cost files) (had_is : had ≡ pages_of (get files name)) where
  pub had_within : had ≤ total
  had_within = omega (arith, cost-without files name sorted, had_is, total_is)

  pub total_without : (after : List Item) (left : ℕ) → after ≡ without files name → left ≡ total - had → (left ≡ cost after) × AllByRecursion IsShort after
  total_without after left is left_is =
      let found : left ≡ cost (without files name) = omega (arith, cost-without files name sorted, had_is, total_is, left_is) in
      (found ∙ ap cost (sym is), subst (AllByRecursion IsShort) (sym is) (all_without IsShort files name short))

  pub total_with : (after : List Item) (key value : List ℕ) (page left : ℕ) → length value ≤ 32769 → key ≡ name → after ≡ put files key value → page ≡ page_count (length value) → left ≡ total + page - had → (left ≡ cost after) × AllByRecursion IsShort after
  total_with after key value page left fits same is page_is left_is =
      let put_is : after ≡ put files name value = is ∙ ap (λ (k : List ℕ). put files k value) same in
      let found : left ≡ cost (put files name value) = omega (arith, cost-put files name value sorted, had_is, total_is, page_is, left_is) in
      (found ∙ ap cost (sym put_is), subst (AllByRecursion IsShort) (sym put_is) (all_put IsShort files name value short fits))

-- # Registers with their total

two_most : (b : Bool) → cond b 0 2 ≤ 2
two_most true = omega arith
two_most false = omega arith

pub few_registers : (registers : List (List OutputSettings)) → registers_cost registers ≤ 2 * length registers
few_registers [] = omega arith
few_registers (s ∷ registers) = omega (arith, few_registers registers, two_most (is_reset s), sum_by-cons (λ (t : List OutputSettings). cond (is_reset t) 0 2) s registers)
