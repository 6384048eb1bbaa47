-- The items of contents determine the contents.
use Rattle.std.proofs.Common.{◌≡◌, ℕ, suc, ◌<◌, Bool, true, false, cond, List, [], ◌∷◌, length, get_or, Option, Some, None, refl, sym, ◌∙◌, ap, arith}
use Rattle.std.specs.List.{flat_map, AllByRecursion}
use Rattle.psu_map.specs.Map.{get}
use Rattle.psu_map.proofs.Keys.{same_key}
use Rattle.psu_map.proofs.Maps.{same_map}
use Rattle.psu_settings.specs.declared.output_settings.OutputSettings.{OutputSettings}
use Rattle.psu_settings.specs.Settings.{AreSettings, reset, bytes_of, is_reset}
use Rattle.psu_settings.proofs.Apart.{same_settings}
use Rattle.psu_status.specs.declared.groups.Enables.{Enables as EnableRegisters}
use Rattle.psu_nv.specs.Contents.{Macro, Contents, contents_of, IsContents, IsMacro, enables_items, user_items, macros_items, macro_bytes, recall_items, items_of}
use Rattle.psu_nv.specs.Commands.{settings_at}
use Rattle.psu_nv.specs.Parts.{Part, Enables, Register, User, Macros, File, Recall, key_of, part_items, value_in}
use Rattle.psu_nv.proofs.Finding.{all_at}
use Rattle.psu_nv.proofs.Gets.{part_found, kept_settings, value_register, value_file}
use Rattle.psu_nv.proofs.MacroBytes.{same_macros}

abbrev had : List ℕ → Option (List ℕ)
had v = Some v

same_had : (x y : List ℕ) → had x ≡ had y → x ≡ y
same_had x y e = cc

same_enables : (e f : Option EnableRegisters) → value_in (enables_items e) ≡ value_in (enables_items f) → e ≡ f
same_enables None None same = refl
same_enables None (Some y) same = absurd cc
same_enables (Some x) None same = absurd cc
same_enables (Some x) (Some y) same =
    let bytes = same_had (x.sre ∷ x.ese ∷ []) (y.sre ∷ y.ese ∷ []) same in
    let sre : x.sre ≡ y.sre = ap (λ (l : List ℕ). get_or l 0 0) bytes in
    let ese : x.ese ≡ y.ese = ap (λ (l : List ℕ). get_or l 1 0) bytes in
    ap (λ (n : ℕ). Some (record x { sre = n })) sre ∙ ap (λ (n : ℕ). Some (record y { ese = n })) ese

same_kept : (s t : List OutputSettings) → AreSettings s → AreSettings t → kept_settings s ≡ kept_settings t → s ≡ t
same_kept s t are_s are_t same = same_settings s t are_s are_t (by_tests (is_reset s) refl (is_reset t) refl same)
  where
    by_tests : (a : Bool) → is_reset s ≡ a → (b : Bool) → is_reset t ≡ b → cond a None (had (bytes_of s)) ≡ cond b None (had (bytes_of t)) → bytes_of s ≡ bytes_of t
    by_tests true e true f same = same_key (bytes_of s) (bytes_of reset) e ∙ sym (same_key (bytes_of t) (bytes_of reset) f)
    by_tests true e false f same = absurd cc
    by_tests false e true f same = absurd cc
    by_tests false e false f same = same_had (bytes_of s) (bytes_of t) same

same_lists : (a b : List (List OutputSettings)) → length a ≡ length b → ((i : ℕ) → i < length a → get_or a i reset ≡ get_or b i reset) → a ≡ b
same_lists [] [] long each = refl
same_lists [] (t ∷ b) long each = absurd (omega (arith, long))
same_lists (s ∷ a) [] long each = absurd (omega (arith, long))
same_lists (s ∷ a) (t ∷ b) long each =
    ap (λ (u : List OutputSettings). u ∷ a) (each 0 (omega arith)) ∙ ap (λ (l : List (List OutputSettings)). t ∷ l) (same_lists a b (omega (arith, long)) (λ i lt. each (suc i) (omega (arith, lt))))

same_user : (a b : List ℕ) → value_in (user_items a) ≡ value_in (user_items b) → a ≡ b
same_user [] [] same = refl
same_user [] (y ∷ b) same = absurd cc
same_user (x ∷ a) [] same = absurd cc
same_user (x ∷ a) (y ∷ b) same = same_had (x ∷ a) (y ∷ b) same

same_defined : (a b : List Macro) → AllByRecursion IsMacro a → AllByRecursion IsMacro b → value_in (macros_items a) ≡ value_in (macros_items b) → a ≡ b
same_defined [] [] all_a all_b same = refl
same_defined [] (n ∷ b) all_a all_b same = absurd cc
same_defined (m ∷ a) [] all_a all_b same = absurd cc
same_defined (m ∷ a) (n ∷ b) all_a all_b same = same_macros (m ∷ a) (n ∷ b) all_a all_b (same_had (flat_map macro_bytes (m ∷ a)) (flat_map macro_bytes (n ∷ b)) same)

same_recall : (a b : Bool) → value_in (recall_items a) ≡ value_in (recall_items b) → a ≡ b
same_recall true true same = refl
same_recall true false same = absurd cc
same_recall false true same = absurd cc
same_recall false false same = refl

-- contents are equal if they agree on each part
pub same_by_parts : (a b : Contents) → IsContents a → IsContents b → ((part : Part) → value_in (part_items a part) ≡ value_in (part_items b part)) → a ≡ b
same_by_parts a b is_a is_b same =
    let enables : a.enables ≡ b.enables = same_enables a.enables b.enables (same Enables) in
    let registers : a.registers ≡ b.registers = same_lists a.registers b.registers (is_a.count ∙ sym is_b.count) register in
    let user : a.user ≡ b.user = same_user a.user b.user (same User) in
    let macros : a.macros ≡ b.macros = same_defined a.macros b.macros is_a.macros is_b.macros (same Macros) in
    let files : a.files ≡ b.files = same_map a.files b.files is_a.sorted is_b.sorted (λ name. sym (value_file name (get a.files name)) ∙ same (File name) ∙ value_file name (get b.files name)) in
    let recall : a.recall ≡ b.recall = same_recall a.recall b.recall (same Recall) in
    ap (λ r. contents_of r a.user a.macros a.enables a.files a.recall) registers
    ∙ ap (λ u. contents_of b.registers u a.macros a.enables a.files a.recall) user
    ∙ ap (λ m. contents_of b.registers b.user m a.enables a.files a.recall) macros
    ∙ ap (λ e. contents_of b.registers b.user b.macros e a.files a.recall) enables
    ∙ ap (λ f. contents_of b.registers b.user b.macros b.enables f a.recall) files
    ∙ ap (λ r. contents_of b.registers b.user b.macros b.enables b.files r) recall
  where
    register : (i : ℕ) → i < length a.registers → get_or a.registers i reset ≡ get_or b.registers i reset
    register i lt =
        same_kept (get_or a.registers i reset) (get_or b.registers i reset) (all_at AreSettings a.registers i reset is_a.settings lt) (all_at AreSettings b.registers i reset is_b.settings (omega (arith, lt, is_a.count, is_b.count)))
        (sym (value_register i (settings_at a.registers i)) ∙ same (Register i) ∙ value_register i (settings_at b.registers i))

pub same_contents : (a b : Contents) → IsContents a → IsContents b → items_of a ≡ items_of b → a ≡ b
same_contents a b is_a is_b same = same_by_parts a b is_a is_b (λ part. sym (part_found a part) ∙ ap (λ l. get l (key_of part)) same ∙ part_found b part)
