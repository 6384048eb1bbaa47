-- The nonvolatile contents, and the map that encodes them. Sources: IEEE 488.2 (registers, user data, macros, the
-- power-on status clear flag), SCPI-1999 (files); limits and formats are this project's own.
use Rattle.std.specs.Prelude.{◌≡◌, ℕ, ◌+◌, ◌≤◌, ◌&&◌, nat_le, Bool, true, false, if◌then◌else◌, Option, Some, None, is_some, List, [], ◌∷◌, ◌++◌, length, map, replicate, bit_and, ⊤}
use Rattle.std.specs.Option.{ForSome}
use Rattle.std.specs.List.{flat_map, AllByRecursion}
use Rattle.std.specs.Int.{w16, to_be_bytes}
use Rattle.psu_map.specs.Map.{Item, item_of, cost, IsSorted}
use Rattle.psu_settings.specs.declared.output_settings.OutputSettings.{OutputSettings}
use Rattle.psu_settings.specs.Settings.{AreSettings, reset, is_reset, bytes_of}
use Rattle.psu_status.specs.declared.groups.Enables.{Enables}
use Rattle.psu_lex.specs.Names.{is_label, is_name}
use Rattle.psu_nv.specs.Labels.{same_label}

-- a macro: its label as written, and its body
pub record Macro : Type 0 where
  pub label : List ℕ
  pub body : List ℕ

-- Contents: a hundred registers of settings; user data; macros in order of definition; SRE and ESE where the power-on
-- status clear flag is false; files by name, each the byte of its type and then its own bytes; whether the settings at
-- power-on are those of register 0 (else they are those of `*RST`).
pub record Contents : Type 0 where
  pub registers : List (List OutputSettings)
  pub user : List ℕ
  pub macros : List Macro
  pub enables : Option Enables
  pub files : List Item
  pub recall : Bool

abbrev pub contents_of : List (List OutputSettings) → List ℕ → List Macro → Option Enables → List Item → Bool → Contents
contents_of registers user macros enables files recall = record { registers = registers; user = user; macros = macros; enables = enables; files = files; recall = recall }

-- # Valid contents

-- the body of the macro with this label, without regard to case
abbrev pub body_at : List Macro → List ℕ → Option (List ℕ)
body_at [] label = None
body_at (m ∷ macros) label = if same_label m.label label then Some m.body else body_at macros label

abbrev pub has_label : List Macro → List ℕ → Bool
has_label macros label = is_some (body_at macros label)

-- a macro with a valid label and a body of at most 1,024 bytes
pub record IsMacro (m : Macro) : Type 0 where
  pub label : is_label m.label ≡ true
  pub body : length m.body ≤ 1024

-- no label occurs twice, without regard to case
abbrev pub HasDistinct : List Macro → Type 0
HasDistinct [] = ⊤
HasDistinct (m ∷ macros) = (has_label macros m.label ≡ false) × HasDistinct macros

-- the types of files: 0 is BIN, 1 STAT, 2 MACR
abbrev pub begins_with_kind : List ℕ → Bool
begins_with_kind [] = false
begins_with_kind (kind ∷ bytes) = nat_le kind 2

-- a file with a valid name, a type and at most 32,768 bytes
pub record IsFile (file : Item) : Type 0 where
  pub name : is_name file.key ≡ true
  pub kind : begins_with_kind file.value ≡ true
  pub most : length file.value ≤ 32769

pub record IsContents (c : Contents) : Type 0 where
  pub count : length c.registers ≡ 100
  pub settings : AllByRecursion AreSettings c.registers
  pub user : length c.user ≤ 63
  pub macros : AllByRecursion IsMacro c.macros
  pub distinct : HasDistinct c.macros
  pub most_macros : length c.macros ≤ 32
  pub mss : ForSome c.enables (λ e. bit_and e.sre 64 ≡ 0)
  pub files : AllByRecursion IsFile c.files
  pub sorted : IsSorted c.files

-- freshly formatted: reset settings, at power-on too, and nothing else
abbrev pub fresh : Contents
fresh = record { registers = replicate 100 reset; user = []; macros = []; enables = None; files = []; recall = false }

-- # Items, in the order of their keys

-- key 01: SRE and ESE; absent where the flag is true
abbrev pub enables_items : Option Enables → List Item
enables_items None = []
enables_items (Some e) = item_of (1 ∷ []) (e.sre ∷ e.ese ∷ []) ∷ []

-- key 02 and the register: the 28 bytes of its settings; absent where it holds the reset settings
abbrev pub register_items : ℕ → List OutputSettings → List Item
register_items r settings = if is_reset settings then [] else item_of (2 ∷ r ∷ []) (bytes_of settings) ∷ []

abbrev pub registers_items : ℕ → List (List OutputSettings) → List Item
registers_items r [] = []
registers_items r (settings ∷ registers) = register_items r settings ++ registers_items (r + 1) registers

-- key 03: the user data; absent where there is none
abbrev pub user_items : List ℕ → List Item
user_items [] = []
user_items (byte ∷ bytes) = item_of (3 ∷ []) (byte ∷ bytes) ∷ []

-- a macro: label length (1 byte), label, body length (2 bytes), body
abbrev pub macro_bytes : Macro → List ℕ
macro_bytes m = length m.label ∷ (m.label ++ (to_be_bytes w16 (length m.body) ++ m.body))

-- key 04: the macros; absent where there is none
abbrev pub macros_items : List Macro → List Item
macros_items [] = []
macros_items (m ∷ macros) = item_of (4 ∷ []) (flat_map macro_bytes (m ∷ macros)) ∷ []

-- key 05 and the name: the type and the bytes
abbrev pub file_item : Item → Item
file_item file = item_of (5 ∷ file.key) file.value

-- key 06: the byte 1 where the settings at power-on are those of register 0; absent where they are those of `*RST`
abbrev pub recall_items : Bool → List Item
recall_items false = []
recall_items true = item_of (6 ∷ []) (1 ∷ []) ∷ []

-- the map that encodes contents
unfoldable pub items_of : Contents → List Item
items_of c = enables_items c.enables ++ (registers_items 0 c.registers ++ (user_items c.user ++ (macros_items c.macros ++ (map file_item c.files ++ recall_items c.recall))))

-- # Cost

-- the pages of contents: one for each item, and one for each started block of 512 bytes of its value
abbrev pub cost_of : Contents → ℕ
cost_of c = cost (items_of c)

-- contents fit where their cost is at most the limit, and they have at most 32 macros
abbrev pub fits : ℕ → Contents → Bool
fits limit c = nat_le (cost_of c) limit && nat_le (length c.macros) 32
