-- Which maps encode contents, by the value at each key.
use Rattle.std.proofs.Common.{◌≡◌, ℕ, zero, suc, ◌+◌, ◌<◌, ◌≤◌, Bool, true, false, cond, List, [], ◌∷◌, length, map, replicate, Option, Some, None, Result, Ok, Err, refl, sym, ◌∙◌, ap, subst, bytes_eq, arith}
use Rattle.std.specs.Prelude.{◌&&◌, ◌||◌, ◌==◌, nat_le, bit_and, IfErr}
use Rattle.std.specs.Option.{ForSome}
use Rattle.std.specs.List.{AllByRecursion}
use Rattle.std.proofs.lemmas.Bool.Decides.{nat_tests}
use Rattle.psu_map.specs.Map.{Item, item_of, get, IsSorted}
use Rattle.psu_map.proofs.Keys.{same_key}
use Rattle.psu_map.proofs.Maps.{same_map}
use Rattle.psu_settings.specs.declared.output_settings.OutputSettings.{OutputSettings}
use Rattle.psu_settings.specs.Settings.{AreSettings, reset, bytes_of, is_reset}
use Rattle.psu_lex.specs.Names.{is_name}
use Rattle.psu_status.specs.declared.groups.Enables.{Enables as EnableRegisters}
use Rattle.psu_nv.specs.Decoding.{is_between}
use Rattle.psu_nv.specs.Contents.{Macro, Contents, contents_of, IsContents, IsMacro, IsFile, HasDistinct, enables_items, register_items, registers_items, user_items, macros_items, file_item, recall_items, items_of}
use Rattle.psu_nv.specs.Commands.{settings_at}
use Rattle.psu_nv.specs.Parts.{Part, Enables, Register, User, Macros, File, Recall, key_of, part_items, value_in}
use Rattle.psu_nv.specs.Decoding.{is_nothing, is_number, is_single, is_key, has_keys, RepresentsContents, name_in, files_in, fits_file, fit_files}
use Rattle.psu_nv.proofs.Finding.{all_at}
use Rattle.psu_nv.proofs.Parts.{all-append, items_sorted}
use Rattle.psu_nv.proofs.Gets.{part_found, value_file}
use Rattle.psu_nv.proofs.Filed.{sorted_files, get-files_in, are_files}

both : (a b : Bool) → (a && b) ≡ true → (a ≡ true) × (b ≡ true)
both true b e = (refl, e)
both false b e = absurd cc

-- # Keys of contents

abbrev HasKey : Item → Type 0
HasKey i = is_key i.key ≡ true

within : (n most : ℕ) → n ≤ most → nat_le n most ≡ true
within n most le = grind (arith, nat_tests)

number_key : (q : ℕ) → q ≤ 99 → is_key (2 ∷ q ∷ []) ≡ true
number_key q le = ap (λ (b : Bool). b && true) (within q 99 le)

registers_keys : (q : ℕ) (registers : List (List OutputSettings)) → q + length registers ≤ 100 → AllByRecursion HasKey (registers_items q registers)
registers_keys q [] le = tt
registers_keys q (s ∷ registers) le = all-append HasKey (register_items q s) (registers_items (q + 1) registers) (by_test (is_reset s)) (registers_keys (q + 1) registers (omega (arith, le)))
  where
    by_test : (b : Bool) → AllByRecursion HasKey (cond b [] (item_of (2 ∷ q ∷ []) (bytes_of s) ∷ []))
    by_test true = tt
    by_test false = (number_key q (omega (arith, le)), tt)

files_keys : (files : List Item) → AllByRecursion IsFile files → AllByRecursion HasKey (map file_item files)
files_keys [] all = tt
files_keys (f ∷ files) all = (all.0.name, files_keys files all.1)

has_all : (items : List Item) → AllByRecursion HasKey items → has_keys items ≡ true
has_all [] all = refl
has_all (i ∷ items) all = ap (λ (b : Bool). b && has_keys items) all.0 ∙ has_all items all.1

pub contents_keys : (c : Contents) → IsContents c → has_keys (items_of c) ≡ true
unfolding items_of
contents_keys c is =
    has_all _
    (all-append HasKey (enables_items c.enables) _ (by_enables c.enables)
    (all-append HasKey (registers_items 0 c.registers) _ (registers_keys 0 c.registers (omega (arith, is.count)))
    (all-append HasKey (user_items c.user) _ (by_user c.user)
    (all-append HasKey (macros_items c.macros) _ (by_macros c.macros)
    (all-append HasKey (map file_item c.files) _ (files_keys c.files is.files) (by_recall c.recall))))))
  where
    by_enables : (e : Option EnableRegisters) → AllByRecursion HasKey (enables_items e)
    by_enables None = tt
    by_enables (Some e) = (refl, tt)

    by_user : (user : List ℕ) → AllByRecursion HasKey (user_items user)
    by_user [] = tt
    by_user (b ∷ user) = (refl, tt)

    by_macros : (macros : List Macro) → AllByRecursion HasKey (macros_items macros)
    by_macros [] = tt
    by_macros (m ∷ macros) = (refl, tt)

    by_recall : (recall : Bool) → AllByRecursion HasKey (recall_items recall)
    by_recall true = (refl, tt)
    by_recall false = tt

-- # Files of contents

abbrev HasFile : Item → Type 0
HasFile i = fits_file (name_in i.key) i.value ≡ true

registers_files : (q : ℕ) (registers : List (List OutputSettings)) → AllByRecursion HasFile (registers_items q registers)
registers_files q [] = tt
registers_files q (s ∷ registers) = all-append HasFile (register_items q s) (registers_items (q + 1) registers) (by_test (is_reset s)) (registers_files (q + 1) registers)
  where
    by_test : (b : Bool) → AllByRecursion HasFile (cond b [] (item_of (2 ∷ q ∷ []) (bytes_of s) ∷ []))
    by_test true = tt
    by_test false = (refl, tt)

files_files : (files : List Item) → AllByRecursion IsFile files → AllByRecursion HasFile (map file_item files)
files_files [] all = tt
files_files (f ∷ files) all = (ap (λ (b : Bool). b && nat_le (length f.value) 32769) all.0.kind ∙ within (length f.value) 32769 all.0.most, files_files files all.1)

fits_all : (items : List Item) → AllByRecursion HasFile items → fit_files items ≡ true
fits_all [] all = refl
fits_all (i ∷ items) all = ap (λ (b : Bool). b && fit_files items) all.0 ∙ fits_all items all.1

pub contents_files : (c : Contents) → IsContents c → fit_files (items_of c) ≡ true
unfolding items_of
contents_files c is =
    fits_all _
    (all-append HasFile (enables_items c.enables) _ (by_enables c.enables)
    (all-append HasFile (registers_items 0 c.registers) _ (registers_files 0 c.registers)
    (all-append HasFile (user_items c.user) _ (by_user c.user)
    (all-append HasFile (macros_items c.macros) _ (by_macros c.macros)
    (all-append HasFile (map file_item c.files) _ (files_files c.files is.files) (by_recall c.recall))))))
  where
    by_enables : (e : Option EnableRegisters) → AllByRecursion HasFile (enables_items e)
    by_enables None = tt
    by_enables (Some e) = (refl, tt)

    by_user : (user : List ℕ) → AllByRecursion HasFile (user_items user)
    by_user [] = tt
    by_user (b ∷ user) = (refl, tt)

    by_macros : (macros : List Macro) → AllByRecursion HasFile (macros_items macros)
    by_macros [] = tt
    by_macros (m ∷ macros) = (refl, tt)

    by_recall : (recall : Bool) → AllByRecursion HasFile (recall_items recall)
    by_recall true = (refl, tt)
    by_recall false = tt

-- # The part of a key

abbrev pub IsPart : Part → Type 0
IsPart Enables = Unit {0}
IsPart (Register number) = number < 100
IsPart User = Unit {0}
IsPart Macros = Unit {0}
IsPart (File name) = Unit {0}
IsPart Recall = Unit {0}

pub record PartAt (key : List ℕ) : Type 0 where
  pub part : Part
  pub key_is : key ≡ key_of part
  pub is : IsPart part

nothing_is : (bytes : List ℕ) → is_nothing bytes ≡ true → bytes ≡ []
nothing_is [] is = refl
nothing_is (b ∷ bytes) is = absurd cc

number_is : (bytes : List ℕ) → is_number bytes ≡ true → PartAt (2 ∷ bytes)
number_is [] is = absurd cc
number_is (number ∷ bytes) is =
    let p = both (nat_le number 99) (is_nothing bytes) is in
    record { part = Register number; key_is = ap (λ (l : List ℕ). 2 ∷ number ∷ l) (nothing_is bytes p.1); is = low number p.0 }
  where
    low : (n : ℕ) → nat_le n 99 ≡ true → n < 100
    low n test = grind (arith, nat_tests)

pub part_at : (key : List ℕ) → is_key key ≡ true → PartAt key
part_at [] is = absurd cc
part_at (kind ∷ bytes) is = by_two (kind == 2) refl is
  where
    is_kind : (k : ℕ) → (kind == k) ≡ true → kind ≡ k
    is_kind k test = grind (arith, nat_tests)

    not_kind : (k : ℕ) → (kind == k) ≡ false → kind ≡ k → ⊥
    not_kind k test same = grind (arith, nat_tests)

    between : is_between 1 4 kind ≡ true → (1 ≤ kind) × (kind ≤ 4)
    between test = let p = both (nat_le 1 kind) (nat_le kind 4) test in (least p.0, most p.1)
      where
        least : nat_le 1 kind ≡ true → 1 ≤ kind
        least t = grind (arith, nat_tests)

        most : nat_le kind 4 ≡ true → kind ≤ 4
        most t = grind (arith, nat_tests)

    alone : (k : ℕ) → bytes ≡ [] → k ≡ kind → kind ∷ bytes ≡ k ∷ []
    alone k none same = ap (λ (l : List ℕ). kind ∷ l) none ∙ ap (λ (n : ℕ). n ∷ []) (sym same)

    by_one : (b : Bool) → (kind == 1) ≡ b → (c : Bool) → (kind == 3) ≡ c → 1 ≤ kind → kind ≤ 4 → (kind ≡ 2 → ⊥) → bytes ≡ [] → PartAt (kind ∷ bytes)
    by_one true e c f low high other none = record { part = Enables; key_is = alone 1 none (sym (is_kind 1 e)); is = tt }
    by_one false e true f low high other none = record { part = User; key_is = alone 3 none (sym (is_kind 3 f)); is = tt }
    by_one false e false f low high other none =
        let not_one = not_kind 1 e in
        let not_three = not_kind 3 f in
        record { part = Macros; key_is = alone 4 none (let four : 4 ≡ kind = omega arith in four); is = tt }

    by_six : (b : Bool) → is_between 1 4 kind ≡ b → (kind == 2) ≡ false → b || kind == 6 ≡ true → bytes ≡ [] → PartAt (kind ∷ bytes)
    by_six true e two is none =
        let q = between e in
        by_one (kind == 1) refl (kind == 3) refl q.0 q.1 (not_kind 2 two) none
    by_six false e two is none = record { part = Recall; key_is = alone 6 none (sym (is_kind 6 is)); is = tt }

    by_five : (b : Bool) → (kind == 5) ≡ b → (kind == 2) ≡ false → cond b (is_name bytes) (is_single kind && is_nothing bytes) ≡ true → PartAt (kind ∷ bytes)
    by_five true e two is = record { part = File bytes; key_is = ap (λ (k : ℕ). k ∷ bytes) (is_kind 5 e); is = tt }
    by_five false e two is =
        let p = both (is_single kind) (is_nothing bytes) is in
        by_six (is_between 1 4 kind) refl two p.0 (nothing_is bytes p.1)

    by_two : (b : Bool) → (kind == 2) ≡ b → cond b (is_number bytes) (cond (kind == 5) (is_name bytes) (is_single kind && is_nothing bytes)) ≡ true → PartAt (kind ∷ bytes)
    by_two true e is = subst (λ (k : ℕ). PartAt (k ∷ bytes)) (sym (is_kind 2 e)) (number_is bytes is)
    by_two false e is = by_five (kind == 5) refl e is

-- a map whose keys are all valid has nothing at a key that is not
pub get_bad : (items : List Item) (key : List ℕ) → has_keys items ≡ true → is_key key ≡ false → get items key ≡ None
get_bad [] key keys bad = refl
get_bad (i ∷ items) key keys bad =
    let p = both (is_key i.key) (has_keys items) keys in
    by_test (bytes_eq i.key key) refl p.0 (get_bad items key p.1 bad)
  where
    by_test : (b : Bool) → bytes_eq i.key key ≡ b → is_key i.key ≡ true → get items key ≡ None → cond b (Some i.value) (get items key) ≡ None
    by_test true e good rest = let same : is_key i.key ≡ is_key key = ap is_key (same_key i.key key e) in absurd cc
    by_test false e good rest = rest

-- maps whose keys are all valid are equal if they agree on each part
pub same_parts : (a b : List Item) → IsSorted a → IsSorted b → has_keys a ≡ true → has_keys b ≡ true → ((part : Part) → IsPart part → get a (key_of part) ≡ get b (key_of part)) → a ≡ b
same_parts a b sorted_a sorted_b keys_a keys_b same = same_map a b sorted_a sorted_b (λ k. at k (is_key k) refl)
  where
    at : (k : List ℕ) → (t : Bool) → is_key k ≡ t → get a k ≡ get b k
    at k true e =
        let p = part_at k e in
        ap (get a) p.key_is ∙ same p.part p.is ∙ ap (get b) (sym p.key_is)
    at k false e = get_bad a k keys_a e ∙ sym (get_bad b k keys_b e)

-- # A map that encodes contents

module _ (items : List Item) (e : Option EnableRegisters) (registers : List (List OutputSettings)) (user : List ℕ) (macros : List Macro) (sorted : IsSorted items) (keys : has_keys items ≡ true)
    (mss : ForSome e (λ s. bit_and s.sre 64 ≡ 0)) (e_is : value_in (enables_items e) ≡ get items (1 ∷ []))
    (count : length registers ≡ 100) (are : AllByRecursion AreSettings registers) (r_is : (r : ℕ) → r < 100 → value_in (register_items r (settings_at registers r)) ≡ get items (2 ∷ r ∷ []))
    (u_most : length user ≤ 63) (u_is : value_in (user_items user) ≡ get items (3 ∷ []))
    (m_all : AllByRecursion IsMacro macros) (m_distinct : HasDistinct macros) (m_most : length macros ≤ 32) (m_is : value_in (macros_items macros) ≡ get items (4 ∷ []))
    (recall : Bool) (p_is : value_in (recall_items recall) ≡ get items (6 ∷ []))
    (fit : fit_files items ≡ true) where
  abbrev pub made : Contents
  made = contents_of registers user macros e (files_in items) recall

  pub are_contents : IsContents made
  are_contents = record { count = count; settings = are; user = u_most; macros = m_all; distinct = m_distinct; most_macros = m_most; mss = mss; files = are_files items keys fit; sorted = sorted_files items sorted }

  pub items_again : items_of made ≡ items
  items_again = same_parts (items_of made) items (items_sorted made (sorted_files items sorted)) sorted (contents_keys made are_contents) keys (λ part is. part_found made part ∙ each part is)
    where
      each : (part : Part) → IsPart part → value_in (part_items made part) ≡ get items (key_of part)
      each Enables is = e_is
      each (Register number) is = r_is number is
      each User is = u_is
      each Macros is = m_is
      each (File name) is = value_file name (get (files_in items) name) ∙ get-files_in items name
      each Recall is = p_is

-- # A map that encodes no contents

-- what holds in any case holds in the case of an error
pub at_error : {T E : Type 0} {P : Type 0} (r : Result T E) → P → IfErr r (λ e. P)
at_error (Ok x) p = tt
at_error (Err e) p = p

-- the value of a part of a map's contents is at the part's key
pub kept_part : (items : List Item) (kept : RepresentsContents items) (part : Part) → value_in (part_items kept.contents part) ≡ get items (key_of part)
kept_part items kept part = sym (part_found kept.contents part) ∙ ap (λ (l : List Item). get l (key_of part)) kept.items_are

pub each_reset : (n : ℕ) → AllByRecursion AreSettings (replicate n reset)
each_reset zero = tt
each_reset (suc n) = ((refl, refl), each_reset n)

-- a register of the contents
pub kept_register : (items : List Item) (kept : RepresentsContents items) (r : ℕ) → r < 100 → AreSettings (settings_at kept.contents.registers r)
kept_register items kept r lt = all_at AreSettings kept.contents.registers r reset kept.are.settings (omega (arith, lt, kept.are.count))

pub kept_files : (items : List Item) → RepresentsContents items → fit_files items ≡ true
kept_files items kept = ap fit_files (sym kept.items_are) ∙ contents_files kept.contents kept.are
