-- What the map that encodes contents has at each key.
use Rattle.std.proofs.Common.{◌≡◌, ℕ, zero, suc, ◌+◌, ◌<◌, ◌≤◌, Bool, true, false, cond, List, [], ◌∷◌, ◌++◌, map, Option, Some, None, refl, sym, ◌∙◌, ap, subst, bytes_eq, arith}
use Rattle.std.specs.List.{AllByRecursion}
use Rattle.psu_map.specs.Map.{Item, item_of, get, Before}
use Rattle.psu_map.proofs.Keys.{same_true, before_not_same, after_not_same}
use Rattle.psu_settings.specs.declared.output_settings.OutputSettings.{OutputSettings}
use Rattle.psu_settings.specs.Settings.{bytes_of, is_reset}
use Rattle.psu_status.specs.declared.groups.Enables.{Enables as EnableRegisters}
use Rattle.psu_nv.specs.Contents.{Macro, Contents, enables_items, register_items, registers_items, user_items, macros_items, file_item, recall_items, items_of}
use Rattle.psu_nv.specs.Commands.{settings_at}
use Rattle.psu_nv.specs.Parts.{Part, Enables, Register, User, Macros, File, Recall, key_of, file_items, part_items, value_in}
use Rattle.psu_nv.proofs.Parts.{AllBelow, AllFrom, LedBelow, LedFrom, before_led, before_number, IsFrom, registers_from, enables_led, registers_below, user_below, macros_below, from_files, from_macros, from_user, from_registers, files_below, recall_led, rest_of, all-map}

-- the first value that is present
abbrev pub first : Option (List ℕ) → Option (List ℕ) → Option (List ℕ)
first None o = o
first (Some v) o = Some v

first_none : (o : Option (List ℕ)) → first o None ≡ o
first_none None = refl
first_none (Some v) = refl

pub get-append : (a b : List Item) (key : List ℕ) → get (a ++ b) key ≡ first (get a key) (get b key)
get-append [] b key = refl
get-append (i ∷ a) b key = by_test (bytes_eq i.key key) (get-append a b key)
  where
    by_test : (t : Bool) → get (a ++ b) key ≡ first (get a key) (get b key) → cond t (Some i.value) (get (a ++ b) key) ≡ first (cond t (Some i.value) (get a key)) (get b key)
    by_test true rest = refl
    by_test false rest = rest

pub get_none : (items : List Item) (key : List ℕ) → AllByRecursion (λ (i : Item). bytes_eq i.key key ≡ false) items → get items key ≡ None
get_none [] key all = refl
get_none (i ∷ items) key all = ap (λ (t : Bool). cond t (Some i.value) (get items key)) all.0 ∙ get_none items key all.1

get_below : (items : List Item) (n : ℕ) (rest : List ℕ) → AllBelow n items → get items (n ∷ rest) ≡ None
get_below items n rest all = get_none items (n ∷ rest) (all-map (λ (i : Item). LedBelow n i.key) (λ (i : Item). bytes_eq i.key (n ∷ rest) ≡ false) items (λ i led. before_not_same i.key (n ∷ rest) (before_led n i.key (n ∷ rest) led (omega arith))) all)

get_from : (items : List Item) (n : ℕ) (rest : List ℕ) → AllFrom (n + 1) items → get items (n ∷ rest) ≡ None
get_from items n rest all = get_none items (n ∷ rest) (all-map (λ (i : Item). LedFrom (n + 1) i.key) (λ (i : Item). bytes_eq i.key (n ∷ rest) ≡ false) items (λ i led. after_not_same (n ∷ rest) i.key (before_led (n + 1) (n ∷ rest) i.key (omega arith) led)) all)

-- a key that the second list lacks is found in the first
get_prefix : (a b : List Item) (key : List ℕ) → get b key ≡ None → get (a ++ b) key ≡ get a key
get_prefix a b key none = get-append a b key ∙ ap (first (get a key)) none ∙ first_none (get a key)

get_back : (a b : List Item) (key : List ℕ) → get a key ≡ None → get (a ++ b) key ≡ get b key
get_back a b key none = get-append a b key ∙ ap (λ (o : Option (List ℕ)). first o (get b key)) none

-- # Registers

-- the value that encodes a register; `None` for reset settings
abbrev pub kept_settings : List OutputSettings → Option (List ℕ)
kept_settings s = cond (is_reset s) None (Some (bytes_of s))

pub value_register : (r : ℕ) (s : List OutputSettings) → value_in (register_items r s) ≡ kept_settings s
value_register r s = by_test (is_reset s)
  where
    by_test : (b : Bool) → value_in (cond b [] (item_of (2 ∷ r ∷ []) (bytes_of s) ∷ [])) ≡ cond b None (Some (bytes_of s))
    by_test true = refl
    by_test false = refl

get_later : (r q : ℕ) (registers : List (List OutputSettings)) → r < q → get (registers_items q registers) (2 ∷ r ∷ []) ≡ None
get_later r q registers lt = get_none (registers_items q registers) (2 ∷ r ∷ []) (all-map (IsFrom q) (λ (i : Item). bytes_eq i.key (2 ∷ r ∷ []) ≡ false) (registers_items q registers) other (registers_from q q registers (omega arith)))
  where
    other : (i : Item) → IsFrom q i → bytes_eq i.key (2 ∷ r ∷ []) ≡ false
    other i is = after_not_same (2 ∷ r ∷ []) i.key (subst (Before (2 ∷ r ∷ [])) (sym is.key) (before_number r is.number (omega (arith, is.from, lt))))

get_own : (r : ℕ) (s : List OutputSettings) → get (register_items r s) (2 ∷ r ∷ []) ≡ kept_settings s
get_own r s = by_test (is_reset s)
  where
    by_test : (b : Bool) → get (cond b [] (item_of (2 ∷ r ∷ []) (bytes_of s) ∷ [])) (2 ∷ r ∷ []) ≡ cond b None (Some (bytes_of s))
    by_test true = refl
    by_test false = ap (λ (t : Bool). cond t (Some (bytes_of s)) None) (same_true (2 ∷ r ∷ []) (2 ∷ r ∷ []) refl)

get_other : (q r : ℕ) (s : List OutputSettings) → q < r → get (register_items q s) (2 ∷ r ∷ []) ≡ None
get_other q r s lt = by_test (is_reset s)
  where
    by_test : (b : Bool) → get (cond b [] (item_of (2 ∷ q ∷ []) (bytes_of s) ∷ [])) (2 ∷ r ∷ []) ≡ None
    by_test true = refl
    by_test false = ap (λ (t : Bool). cond t (Some (bytes_of s)) None) (before_not_same (2 ∷ q ∷ []) (2 ∷ r ∷ []) (before_number q r lt))

get_register : (q k r : ℕ) (registers : List (List OutputSettings)) → q + k ≡ r → get (registers_items q registers) (2 ∷ r ∷ []) ≡ kept_settings (settings_at registers k)
get_register q k r [] is = refl
get_register q zero r (s ∷ registers) is =
    get_prefix (register_items q s) (registers_items (q + 1) registers) (2 ∷ r ∷ []) (get_later r (q + 1) registers (omega (arith, is)))
    ∙ ap (λ (n : ℕ). get (register_items n s) (2 ∷ r ∷ [])) (let same : q ≡ r = omega (arith, is) in same) ∙ get_own r s
get_register q (suc k) r (s ∷ registers) is =
    get_back (register_items q s) (registers_items (q + 1) registers) (2 ∷ r ∷ []) (get_other q r s (omega (arith, is)))
    ∙ get_register (q + 1) k r registers (omega (arith, is))

-- # Files

pub get_file : (files : List Item) (name : List ℕ) → get (map file_item files) (5 ∷ name) ≡ get files name
get_file [] name = refl
get_file (f ∷ files) name = ap (λ (o : Option (List ℕ)). cond (bytes_eq f.key name) (Some f.value) o) (get_file files name)

pub value_file : (name : List ℕ) (o : Option (List ℕ)) → value_in (file_items name o) ≡ o
value_file name None = refl
value_file name (Some v) = refl

-- # Each part

higher : (m n : ℕ) (items : List Item) → m ≤ n → AllBelow m items → AllBelow n items
higher m n items le all = all-map (λ (i : Item). LedBelow m i.key) (λ (i : Item). LedBelow n i.key) items (λ i led. by_key i.key led) all
  where
    by_key : (key : List ℕ) → LedBelow m key → LedBelow n key
    by_key [] led = led
    by_key (k ∷ key) led = omega (arith, le, led)

module _ (c : Contents) where
  get_enables : get (items_of c) (1 ∷ []) ≡ value_in (enables_items c.enables)
  unfolding items_of
  get_enables = get_prefix (enables_items c.enables) _ (1 ∷ []) (get_from _ 1 [] (from_registers c)) ∙ by_enables c.enables
    where
      by_enables : (e : Option EnableRegisters) → get (enables_items e) (1 ∷ []) ≡ value_in (enables_items e)
      by_enables None = refl
      by_enables (Some e) = refl

  get_registers : (r : ℕ) → get (items_of c) (2 ∷ r ∷ []) ≡ value_in (register_items r (settings_at c.registers r))
  unfolding items_of
  get_registers r =
      get_back (enables_items c.enables) _ (2 ∷ r ∷ []) (get_below (enables_items c.enables) 2 (r ∷ []) (enables_led c.enables))
      ∙ get_prefix (registers_items 0 c.registers) _ (2 ∷ r ∷ []) (get_from _ 2 (r ∷ []) (from_user c))
      ∙ get_register 0 r r c.registers (omega arith)
      ∙ sym (value_register r (settings_at c.registers r))

  past_registers : (n : ℕ) (rest : List ℕ) → 3 ≤ n → get (items_of c) (n ∷ rest) ≡ get (user_items c.user ++ (macros_items c.macros ++ rest_of c)) (n ∷ rest)
  unfolding items_of
  past_registers n rest le =
      get_back (enables_items c.enables) _ (n ∷ rest) (get_below (enables_items c.enables) n rest (higher 2 n (enables_items c.enables) (omega (arith, le)) (enables_led c.enables)))
      ∙ get_back (registers_items 0 c.registers) _ (n ∷ rest) (get_below (registers_items 0 c.registers) n rest (higher 3 n (registers_items 0 c.registers) le (registers_below c.registers)))

  get_user : get (items_of c) (3 ∷ []) ≡ value_in (user_items c.user)
  get_user = past_registers 3 [] (omega arith) ∙ get_prefix (user_items c.user) _ (3 ∷ []) (get_from _ 3 [] (from_macros c)) ∙ by_user c.user
    where
      by_user : (user : List ℕ) → get (user_items user) (3 ∷ []) ≡ value_in (user_items user)
      by_user [] = refl
      by_user (b ∷ user) = refl

  get_macros : get (items_of c) (4 ∷ []) ≡ value_in (macros_items c.macros)
  get_macros =
      past_registers 4 [] (omega arith) ∙ get_back (user_items c.user) _ (4 ∷ []) (get_below (user_items c.user) 4 [] (user_below c.user))
      ∙ get_prefix (macros_items c.macros) _ (4 ∷ []) (get_from _ 4 [] (from_files c)) ∙ by_macros c.macros
    where
      by_macros : (macros : List Macro) → get (macros_items macros) (4 ∷ []) ≡ value_in (macros_items macros)
      by_macros [] = refl
      by_macros (m ∷ macros) = refl

  past_macros : (n : ℕ) (rest : List ℕ) → 5 ≤ n → get (items_of c) (n ∷ rest) ≡ get (rest_of c) (n ∷ rest)
  past_macros n rest le =
      past_registers n rest (omega (arith, le))
      ∙ get_back (user_items c.user) _ (n ∷ rest) (get_below (user_items c.user) n rest (higher 4 n (user_items c.user) (omega (arith, le)) (user_below c.user)))
      ∙ get_back (macros_items c.macros) _ (n ∷ rest) (get_below (macros_items c.macros) n rest (higher 5 n (macros_items c.macros) le (macros_below c.macros)))

  get_files : (name : List ℕ) → get (items_of c) (5 ∷ name) ≡ get c.files name
  get_files name =
      past_macros 5 name (omega arith) ∙ get_prefix (map file_item c.files) _ (5 ∷ name) (get_from (recall_items c.recall) 5 name (recall_led c.recall)) ∙ get_file c.files name

  get_recall : get (items_of c) (6 ∷ []) ≡ value_in (recall_items c.recall)
  get_recall = past_macros 6 [] (omega arith) ∙ get_back (map file_item c.files) _ (6 ∷ []) (get_below (map file_item c.files) 6 [] (files_below c.files)) ∙ by_recall c.recall
    where
      by_recall : (recall : Bool) → get (recall_items recall) (6 ∷ []) ≡ value_in (recall_items recall)
      by_recall true = refl
      by_recall false = refl

-- the value that encodes a part is found at its key
pub part_found : (c : Contents) (part : Part) → get (items_of c) (key_of part) ≡ value_in (part_items c part)
part_found c Enables = get_enables c
part_found c (Register number) = get_registers c number
part_found c User = get_user c
part_found c Macros = get_macros c
part_found c (File name) = get_files c name ∙ sym (value_file name (get c.files name))
part_found c Recall = get_recall c
