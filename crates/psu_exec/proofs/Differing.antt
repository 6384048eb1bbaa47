-- The edits that turn a map into that of contents, part by part.
use Rattle.std.proofs.Common.{◌≡◌, ℕ, zero, suc, ◌+◌, ◌-◌, ◌<◌, ◌≤◌, List, [], ◌∷◌, ◌++◌, length, map, take, slice_index_or, refl, sym, ap, ◌∙◌, subst, arith, append_assoc, append-nil}
use Rattle.std.proofs.Math.Seq.{take-suc}
use Rattle.std.proofs.lemmas.Grind.{flat_map-append}
use Rattle.std.proofs.lemmas.List.{take_all}
use Rattle.std.specs.List.{flat_map}
use Rattle.psu_map.specs.Map.{Item, IsSorted}
use Rattle.psu_map.specs.Batch.{Edit, changed}
use Rattle.psu_settings.specs.declared.output_settings.OutputSettings.{OutputSettings}
use Rattle.psu_nv.specs.Commands.{settings_at}
use Rattle.psu_nv.specs.Contents.{Contents, IsContents, enables_items, file_item, items_of, macros_items, recall_items, register_items, registers_items, user_items}
use Rattle.psu_nv.proofs.Encoding.{prefix}
use Rattle.psu_nv.proofs.Parts.{items_sorted, rest_of}
use Rattle.psu_exec.specs.Batch.{assignment, batch, removal}
use Rattle.psu_exec.proofs.Batches.{changed-batch}

-- the edits of more items
more_edits : (f : Item → List Edit) (r edits : List Edit) (seen more : List Item) → edits ≡ r ++ flat_map f seen → edits ++ flat_map f more ≡ r ++ flat_map f (seen ++ more)
more_edits f r edits seen more is =
    ap (λ (e : List Edit). e ++ flat_map f more) is ∙ append_assoc r (flat_map f seen) (flat_map f more) ∙ ap (λ (e : List Edit). r ++ e) (sym (flat_map-append f seen more))

-- the registers with one more
registers-push : (q r : ℕ) (registers : List (List OutputSettings)) → r < length registers → registers_items q (take (suc r) registers) ≡ registers_items q (take r registers) ++ register_items (q + r) (settings_at registers r)
registers-push q r [] lt = absurd (omega (arith, lt))
registers-push q zero (s ∷ registers) lt = append-nil (register_items q s) ∙ ap (λ (n : ℕ). register_items n s) (let same : q ≡ q + 0 = omega arith in same)
registers-push q (suc r) (s ∷ registers) lt =
    ap (λ (l : List Item). register_items q s ++ l) (registers-push (q + 1) r registers (omega (arith, lt)) ∙ ap (λ (n : ℕ). registers_items (q + 1) (take r registers) ++ register_items n (settings_at registers r)) (let same : (q + 1) + r ≡ q + suc r = omega arith in same))
    ∙ sym (append_assoc (register_items q s) (registers_items (q + 1) (take r registers)) (register_items (q + suc r) (settings_at registers r)))

pub next_number : (f : Item → List Edit) (registers : List (List OutputSettings)) (r edits new : List Edit) (n : ℕ) → n < length registers → edits ≡ r ++ flat_map f (registers_items 0 (take n registers))
    → new ≡ edits ++ flat_map f (register_items n (settings_at registers n)) → new ≡ r ++ flat_map f (registers_items 0 (take (n + 1) registers))
next_number f registers r edits new n within seen added =
    added ∙ more_edits f r edits (registers_items 0 (take n registers)) (register_items n (settings_at registers n)) seen
    ∙ ap (λ (l : List Item). r ++ flat_map f l)
    (ap (λ (k : ℕ). registers_items 0 (take n registers) ++ register_items k (settings_at registers n)) (let same : n ≡ 0 + n = omega arith in same) ∙ sym (registers-push 0 n registers within)
    ∙ ap (λ (k : ℕ). registers_items 0 (take k registers)) (let after : suc n ≡ n + 1 = omega arith in after))

-- registers of which none needs an edit are passed
passed_numbers : (f : Item → List Edit) (registers : List (List OutputSettings)) (r edits : List Edit) (n k : ℕ) → n + k ≤ length registers → edits ≡ r ++ flat_map f (registers_items 0 (take n registers))
    → ((m : ℕ) → n ≤ m → m < n + k → flat_map f (register_items m (settings_at registers m)) ≡ []) → edits ≡ r ++ flat_map f (registers_items 0 (take (n + k) registers))
passed_numbers f registers r edits n zero within seen none = seen ∙ ap (λ (m : ℕ). r ++ flat_map f (registers_items 0 (take m registers))) (let same : n ≡ n + 0 = omega arith in same)
passed_numbers f registers r edits n (suc k) within seen none =
    let before = passed_numbers f registers r edits n k (omega (arith, within)) seen (λ m low high. none m low (omega (arith, high))) in
    let at : flat_map f (register_items (n + k) (settings_at registers (n + k))) ≡ [] = none (n + k) (omega arith) (omega arith) in
    let one = next_number f registers r edits edits (n + k) (omega (arith, within)) before (sym (append-nil edits) ∙ ap (λ (l : List Edit). edits ++ l) (sym at)) in
    one ∙ ap (λ (m : ℕ). r ++ flat_map f (registers_items 0 (take m registers))) (let same : (n + k) + 1 ≡ n + suc k = omega arith in same)

pub passed_to : (f : Item → List Edit) (registers : List (List OutputSettings)) (r edits : List Edit) (n m : ℕ) → n ≤ m → m ≤ length registers → edits ≡ r ++ flat_map f (registers_items 0 (take n registers))
    → ((k : ℕ) → n ≤ k → k < m → flat_map f (register_items k (settings_at registers k)) ≡ []) → edits ≡ r ++ flat_map f (registers_items 0 (take m registers))
passed_to f registers r edits n m later within seen none =
    let same : n + (m - n) ≡ m = omega (arith, later) in
    passed_numbers f registers r edits n (m - n) (omega (arith, later, within)) seen (λ k low high. none k low (omega (arith, later, high)))
    ∙ ap (λ (k : ℕ). r ++ flat_map f (registers_items 0 (take k registers))) same

map-push : (l : List Item) (g : Item) → map file_item (l ++ g ∷ []) ≡ map file_item l ++ file_item g ∷ []
map-push [] g = refl
map-push (i ∷ l) g = ap (λ (m : List Item). file_item i ∷ m) (map-push l g)

one_edit : (f : Item → List Edit) (i : Item) → flat_map f (i ∷ []) ≡ f i
one_edit f i = append-nil (f i)

whole_map : (c : Contents) → (prefix c ++ map file_item c.files) ++ recall_items c.recall ≡ items_of c
unfolding items_of
whole_map c =
    append_assoc (prefix c) (map file_item c.files) (recall_items c.recall)
    ∙ append_assoc ((enables_items c.enables ++ registers_items 0 c.registers) ++ user_items c.user) (macros_items c.macros) (rest_of c)
    ∙ append_assoc (enables_items c.enables ++ registers_items 0 c.registers) (user_items c.user) (macros_items c.macros ++ rest_of c)
    ∙ append_assoc (enables_items c.enables) (registers_items 0 c.registers) (user_items c.user ++ (macros_items c.macros ++ rest_of c))

pub next_file_edits : (f : Item → List Edit) (files : List Item) (r edits new : List Edit) (n : ℕ) (d file : Item) (list : List Item) → list ≡ files → n < length list → file ≡ slice_index_or list n d
    → edits ≡ r ++ flat_map f (map file_item (take n files)) → new ≡ edits ++ f (file_item file) → new ≡ r ++ flat_map f (map file_item (take (n + 1) files))
next_file_edits f files r edits new n d file list same within here seen added =
    added ∙ ap (λ (e : List Edit). edits ++ e) (sym (one_edit f (file_item file)))
    ∙ more_edits f r edits (map file_item (take n files)) (file_item file ∷ []) seen
    ∙ ap (λ (l : List Item). r ++ flat_map f l)
    (sym (map-push (take n files) file) ∙ ap (map file_item)
    (ap (λ (i : Item). take n files ++ i ∷ []) (here ∙ ap (λ (l : List Item). slice_index_or l n d) same) ∙ sym (take-suc files n d (subst (λ (l : List Item). n < length l) same within)) ∙ ap (λ (k : ℕ). take k files) (let after : suc n ≡ n + 1 = omega arith in after)))

pub all_files : (f : Item → List Edit) (files : List Item) (r edits : List Edit) (n : ℕ) (list : List Item) → list ≡ files → length list ≤ n → edits ≡ r ++ flat_map f (map file_item (take n files))
    → edits ≡ r ++ flat_map f (map file_item files)
all_files f files r edits n list same all seen = seen ∙ ap (λ (l : List Item). r ++ flat_map f (map file_item l)) (take_all n files (subst (λ (l : List Item). length l ≤ n) same all))

-- the edits of all parts, one after another
pub all_edits : (before : List Item) (c : Contents) (e0 e1 e2 e3 e4 e5 e6 : List Edit) → e0 ≡ flat_map (removal (items_of c)) before
    → e1 ≡ e0 ++ flat_map (assignment before) (enables_items c.enables) → e2 ≡ e1 ++ flat_map (assignment before) (registers_items 0 c.registers) → e3 ≡ e2 ++ flat_map (assignment before) (user_items c.user)
    → e4 ≡ e3 ++ flat_map (assignment before) (macros_items c.macros) → e5 ≡ e4 ++ flat_map (assignment before) (map file_item c.files) → e6 ≡ e5 ++ flat_map (assignment before) (recall_items c.recall)
    → e6 ≡ batch before (items_of c)
unfolding batch
all_edits before c e0 e1 e2 e3 e4 e5 e6 first enables registers user macros files recall =
    let f = assignment before in
    let r : List Edit = flat_map (removal (items_of c)) before in
    let one : e1 ≡ r ++ flat_map f (enables_items c.enables) = enables ∙ ap (λ (e : List Edit). e ++ flat_map f (enables_items c.enables)) first in
    let two = registers ∙ more_edits f r e1 (enables_items c.enables) (registers_items 0 c.registers) one in
    let three = user ∙ more_edits f r e2 (enables_items c.enables ++ registers_items 0 c.registers) (user_items c.user) two in
    let four = macros ∙ more_edits f r e3 ((enables_items c.enables ++ registers_items 0 c.registers) ++ user_items c.user) (macros_items c.macros) three in
    let five = files ∙ more_edits f r e4 (prefix c) (map file_item c.files) four in
    recall ∙ more_edits f r e5 (prefix c ++ map file_item c.files) (recall_items c.recall) five ∙ ap (λ (l : List Item). r ++ flat_map f l) (whole_map c)

pub edits_lead : (before : List Item) (c : Contents) (edits : List Edit) → IsContents c → IsSorted before → edits ≡ batch before (items_of c) → changed before edits ≡ items_of c
edits_lead before c edits is sorted same = ap (changed before) same ∙ changed-batch before (items_of c) sorted (items_sorted c is.sorted)
