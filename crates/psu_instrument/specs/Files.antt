-- Files. Source: SCPI-1999 volume 2, chapter 12 (MMEMory); the order of refusals is this project's own.
use Rattle.std.specs.Prelude.{ℕ, ◌-◌, ◌*◌, nat_lt, nat_le, not, if◌then◌else◌, Option, Some, None, List, [], ◌∷◌, ◌++◌, length, decimal}
use Rattle.psu_map.specs.Map.{Item}
use Rattle.psu_lex.specs.Data.{definite_text}
use Rattle.psu_lex.specs.declared.scpi_error.ScpiError.{ScpiError}
use Rattle.psu_lex.specs.declared.scpi_error.ScpiError.TheVariants.{DataOutOfRange, FileNameError, FileNameNotFound, TooMuchData}
use Rattle.psu_nv.specs.Commands as nv
use Rattle.psu_nv.specs.Commands.{first_of, has_file, bytes_in, StoreBytes, Delete, Copy, Move, StoreState, LoadState, StoreMacro, LoadMacro}
use Rattle.psu_nv.specs.Contents.{Contents, cost_of}
use Rattle.psu_nv.specs.Views.{kind_text, stored_kind}
use Rattle.psu_lex.specs.Names.{is_name}
use Rattle.psu_tree.specs.declared.values.OnFile.{OnFile}
use Rattle.psu_tree.specs.declared.values.OnFile.TheVariants as on_file
use Rattle.psu_tree.specs.declared.values.OnNames.{OnNames}
use Rattle.psu_tree.specs.declared.values.OnNames.TheVariants as on_names
use Rattle.psu_tree.specs.declared.values.Transfer.{Transfer}
use Rattle.psu_tree.specs.declared.values.Transfer.TheVariants as transfer
use Rattle.psu_instrument.specs.Macros.{quoted}
use Rattle.psu_instrument.specs.Meaning.{Situation, Meaning, Refuses, Keeps, answers, text_of}

-- ---- bytes

-- `MMEMory:DATA`: at most 32,768 bytes
abbrev pub stored : Situation → Option (List ℕ) → List ℕ → Meaning
stored s name bytes = if nat_lt 32768 (length bytes) then Refuses TooMuchData else Keeps (StoreBytes (text_of name) bytes)

-- the reason for which a file can't be read, if there is one
abbrev pub reading_refused : Contents → List ℕ → Option ScpiError
reading_refused c name = first_of ((not (is_name name), FileNameError) ∷ (not (has_file c.files name), FileNameNotFound) ∷ [])

abbrev pub read_unless : Situation → List ℕ → Option ScpiError → Meaning
read_unless s name (Some error) = Refuses error
read_unless s name None = answers s (definite_text (bytes_in s.contents.files name))

-- `MMEMory:DATA?`, `MMEMory:DELete`
abbrev pub on_name : Situation → OnFile → Option (List ℕ) → Meaning
on_name s on_file.Ask name = read_unless s (text_of name) (reading_refused s.contents (text_of name))
on_name s on_file.Delete name = Keeps (Delete (text_of name))

-- `MMEMory:COPY`, `MMEMory:MOVE`
abbrev pub on_two : Situation → OnNames → Option (List ℕ) → Option (List ℕ) → Meaning
on_two s on_names.Copy from to = Keeps (Copy (text_of from) (text_of to))
on_two s on_names.Move from to = Keeps (Move (text_of from) (text_of to))

-- ---- states and macros

-- a transfer between a register from 0 to 99 and a file
abbrev pub state_change : Transfer → ℕ → List ℕ → nv.Command
state_change transfer.Store register name = StoreState register name
state_change transfer.Load register name = LoadState register name

-- `MMEMory:STORe:STATe`, `MMEMory:LOAD:STATe`
abbrev pub state_moved : Situation → Transfer → ℕ → Option (List ℕ) → Meaning
state_moved s way register name = if nat_le 100 register then Refuses DataOutOfRange else Keeps (state_change way register (text_of name))

-- `MMEMory:STORe:MACRo`, `MMEMory:LOAD:MACRo`
abbrev pub macro_moved : Situation → Transfer → Option (List ℕ) → Option (List ℕ) → Meaning
macro_moved s transfer.Store label name = Keeps (StoreMacro (text_of label) (text_of name))
macro_moved s transfer.Load label name = Keeps (LoadMacro (text_of label) (text_of name))

-- ---- catalog

abbrev pub entry_of : List ℕ → List ℕ → List ℕ
entry_of name [] = []
entry_of name (code ∷ bytes) = 44 ∷ quoted (name ++ (44 ∷ (kind_text (stored_kind code) ++ (44 ∷ decimal (length bytes)))))

-- name, type and size of each file, in byte order of the names
abbrev pub entries : List Item → List ℕ
entries [] = []
entries (file ∷ files) = entry_of file.key file.value ++ entries files

-- the bytes used and the bytes free, 512 a page, followed by the files
abbrev pub catalog_text : ℕ → Contents → List ℕ
catalog_text limit c = decimal (512 * cost_of c) ++ (44 ∷ (decimal (512 * (limit - cost_of c)) ++ entries c.files))

-- `MMEMory:CATalog?`
abbrev pub catalog : Situation → Meaning
catalog s = answers s (catalog_text s.limit s.contents)
