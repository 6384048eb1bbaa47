-- The cost of contents, part by part.
use Rattle.std.specs.Prelude.{ℕ, ◌+◌, ◌/◌, ◌≤◌, Option, Some, None, if◌then◌else◌, List, [], ◌∷◌, length, sum_by}
use Rattle.psu_map.specs.Map.{Item}
use Rattle.psu_settings.specs.declared.output_settings.OutputSettings.{OutputSettings}
use Rattle.psu_settings.specs.Settings.{is_reset}
use Rattle.psu_nv.specs.Labels.{same_label}
use Rattle.psu_nv.specs.Contents.{Macro}

-- one page for an item, and one for each started block of 512 bytes of its value
abbrev pub page_count : ℕ → ℕ
page_count size = 1 + (size + 511) / 512

-- the number of bytes of the item of macros
abbrev pub macros_length : List Macro → ℕ
macros_length macros = sum_by (λ (m : Macro). 3 + (length m.label + length m.body)) macros

-- the pages of registers: two for each that does not hold the reset settings
abbrev pub registers_cost : List (List OutputSettings) → ℕ
registers_cost registers = sum_by (λ (s : List OutputSettings). if is_reset s then 0 else 2) registers

-- the pages of macros
abbrev pub macros_cost : List Macro → ℕ
macros_cost [] = 0
macros_cost (m ∷ macros) = page_count (macros_length (m ∷ macros))

-- the number of bytes of the macro with a label, without regard to case
abbrev pub size_at : List Macro → List ℕ → ℕ
size_at [] label = 0
size_at (m ∷ macros) label = if same_label m.label label then 3 + (length m.label + length m.body) else size_at macros label

-- the pages of what a name has; 0 where it has nothing
abbrev pub pages_of : Option (List ℕ) → ℕ
pages_of None = 0
pages_of (Some value) = page_count (length value)

-- the value of a file has at most a type and 32,768 bytes
abbrev pub IsShort : Item → Type 0
IsShort file = length file.value ≤ 32769
