-- Which maps encode contents, and why another map is refused.
use Rattle.std.specs.Prelude.{◌≡◌, ℕ, ◌≤◌, ◌==◌, ◌&&◌, ◌||◌, nat_le, Bool, true, false, if◌then◌else◌, Option, Some, None, List, [], ◌∷◌, ◌++◌, length}
use Rattle.std.specs.List.{flat_map, list_all, AllByRecursion}
use Rattle.psu_map.specs.Map.{Item, item_of}
use Rattle.psu_nv.specs.declared.decode.DecodeFault.{DecodeFault}
use Rattle.psu_nv.specs.declared.decode.DecodeFault.TheVariants.{BadKey, BadValue, Memory}
use Rattle.psu_lex.specs.Names.{is_name}
use Rattle.psu_nv.specs.Contents.{Macro, Contents, IsContents, IsMacro, HasDistinct, begins_with_kind, macro_bytes, items_of}

-- # Keys

abbrev pub is_nothing : List ℕ → Bool
is_nothing [] = true
is_nothing (byte ∷ bytes) = false

-- the number of a register, and nothing after it
abbrev pub is_number : List ℕ → Bool
is_number [] = false
is_number (number ∷ bytes) = nat_le number 99 && is_nothing bytes

abbrev pub is_between : ℕ → ℕ → ℕ → Bool
is_between low high kind = nat_le low kind && nat_le kind high

-- a part that occurs at most once: its key is this byte alone
abbrev pub is_single : ℕ → Bool
is_single kind = is_between 1 4 kind || kind == 6

-- a key that contents may have: 1, 3, 4 or 6 alone, 2 and the number of a register, 5 and a file's name
abbrev pub is_key : List ℕ → Bool
is_key [] = false
is_key (kind ∷ bytes) =
    if kind == 2 then is_number bytes
    else (if kind == 5 then is_name bytes
    else is_single kind && is_nothing bytes)

abbrev pub has_keys : List Item → Bool
has_keys items = list_all (λ (i : Item). is_key i.key) items

-- # Faults

-- the map encodes some contents
pub record RepresentsContents (items : List Item) : Type 0 where
  pub contents : Contents
  pub are : IsContents contents
  pub items_are : items_of contents ≡ items

-- Why a map is not decoded: it has a key that no contents have; else no contents have its values, or not together. An
-- allocation can fail only for a map that encodes contents.
abbrev pub IsFault : List Item → DecodeFault → Type 0
IsFault items BadKey = has_keys items ≡ false
IsFault items BadValue = (has_keys items ≡ true) × (RepresentsContents items → ⊥)
IsFault items Memory = RepresentsContents items

-- # Parts

-- the bytes encode these macros, and contents may have them
pub record AreMacros (bytes : List ℕ) (macros : List Macro) : Type 0 where
  pub all : AllByRecursion IsMacro macros
  pub distinct : HasDistinct macros
  pub most : length macros ≤ 32
  pub bytes_are : flat_map macro_bytes macros ≡ bytes

-- the name in the key of a file; `None` where the key is not that of a file
abbrev pub name_in : List ℕ → Option (List ℕ)
name_in [] = None
name_in (kind ∷ name) = if kind == 5 then Some name else None

abbrev pub file_at : Option (List ℕ) → List ℕ → List Item
file_at None value = []
file_at (Some name) value = item_of name value ∷ []

-- the files of a map, under their names
abbrev pub files_in : List Item → List Item
files_in [] = []
files_in (i ∷ items) = file_at (name_in i.key) i.value ++ files_in items

-- the values that a file may have: a type, and at most 32,768 bytes
abbrev pub fits_file : Option (List ℕ) → List ℕ → Bool
fits_file None value = true
fits_file (Some name) value = begins_with_kind value && nat_le (length value) 32769

abbrev pub fit_files : List Item → Bool
fit_files items = list_all (λ (i : Item). fits_file (name_in i.key) i.value) items
