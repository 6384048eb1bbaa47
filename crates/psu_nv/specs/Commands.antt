-- The nonvolatile commands: when one is refused, and the contents after it. Sources: IEEE 488.2 (`*SRE`, `*ESE`,
-- `*PSC`, `*SAV`, `*PUD`, `*DMC`, `*RMC`, `*PMC`), SCPI-1999 (MMEMory, OUTPut:PON); the order of refusals is this
-- project's own.
use Rattle.std.specs.Prelude.{ℕ, zero, suc, ◌%◌, ◌==◌, ◌&&◌, not, nat_lt, nat_le, Bool, true, false, if◌then◌else◌, Option, Some, None, is_some, unwrap_or, List, [], ◌∷◌, ◌++◌, length, take, drop, slice_index, slice_index_or, slice_set, bit_and}
use Rattle.std.specs.List.{list_all}
use Rattle.std.specs.Str.{bytes_eq}
use Rattle.std.specs.Int.{w16, from_be_bytes}
use Rattle.psu_map.specs.Map.{Item, get, put, without}
use Rattle.psu_lex.specs.declared.scpi_error.ScpiError.{ScpiError}
use Rattle.psu_lex.specs.declared.scpi_error.ScpiError.TheVariants.{IllegalMacroLabel, MacroDefinitionTooLong, MacroRedefinitionNotAllowed, MacroHeaderNotFound, FileNameError, FileNameNotFound, MassStorageError, MediaFull}
use Rattle.psu_settings.specs.declared.output_settings.OutputSettings.{OutputSettings}
use Rattle.psu_settings.specs.Settings.{reset, is_allowed, bytes_of}
use Rattle.psu_status.specs.declared.groups.Enables.{Enables}
use Rattle.psu_lex.specs.Names.{is_label, is_name}
use Rattle.psu_nv.specs.Labels.{same_label}
use Rattle.psu_nv.specs.Contents.{Macro, Contents, body_at, has_label, fits}

-- a nonvolatile command with its parameters: `*SAV` has the settings, `*PSC` the enables that are kept, or `None`
pub data Command : Type 0 where
  ServiceEnable : (bits : ℕ) → Command
  EventEnable : (bits : ℕ) → Command
  PowerOnClear : (enables : Option Enables) → Command
  Save : (register : ℕ) → (settings : List OutputSettings) → Command
  User : (bytes : List ℕ) → Command
  DefineMacro : (label : List ℕ) → (body : List ℕ) → Command
  RemoveMacro : (label : List ℕ) → Command
  PurgeMacros : Command
  StoreBytes : (name : List ℕ) → (bytes : List ℕ) → Command
  Delete : (name : List ℕ) → Command
  Copy : (from : List ℕ) → (to : List ℕ) → Command
  Move : (from : List ℕ) → (to : List ℕ) → Command
  StoreState : (register : ℕ) → (name : List ℕ) → Command
  LoadState : (register : ℕ) → (name : List ℕ) → Command
  StoreMacro : (label : List ℕ) → (name : List ℕ) → Command
  LoadMacro : (label : List ℕ) → (name : List ℕ) → Command
  Recall : (on : Bool) → Command

-- # Lookups

abbrev pub has_file : List Item → List ℕ → Bool
has_file files name = is_some (get files name)

-- the type byte of a file and its bytes; empty where there is none
abbrev pub value_of : List Item → List ℕ → List ℕ
value_of files name = unwrap_or (get files name) []

abbrev pub bytes_in : List Item → List ℕ → List ℕ
bytes_in files name = drop 1 (value_of files name)

abbrev pub body_of : List Macro → List ℕ → List ℕ
body_of macros label = unwrap_or (body_at macros label) []

abbrev pub without_label : List Macro → List ℕ → List Macro
without_label [] label = []
without_label (m ∷ macros) label = if same_label m.label label then macros else m ∷ without_label macros label

abbrev pub settings_at : List (List OutputSettings) → ℕ → List OutputSettings
settings_at registers register = slice_index_or registers register reset

-- # Settings in a file

abbrev pub output_in : List ℕ → OutputSettings
output_in bytes = record {
  voltage = record { 0 = from_be_bytes w16 (take 2 bytes) };
  current = record { 0 = from_be_bytes w16 (take 2 (drop 2 bytes)) };
  level = record { 0 = from_be_bytes w16 (take 2 (drop 4 bytes)) };
  protection = slice_index bytes 6 % 2 == 1;
  on = nat_le 2 (slice_index bytes 6);
}

-- so many outputs, of seven bytes each
abbrev pub outputs_in : ℕ → List ℕ → List OutputSettings
outputs_in zero bytes = []
outputs_in (suc n) bytes = output_in bytes ∷ outputs_in n (drop 7 bytes)

unfoldable pub settings_in : List ℕ → List OutputSettings
settings_in bytes = outputs_in 4 bytes

-- the bytes encode settings, each within its ranges
unfoldable pub is_state : List ℕ → Bool
is_state bytes = list_all is_allowed (settings_in bytes) && bytes_eq (bytes_of (settings_in bytes)) bytes

-- # Refusals

-- the error of the first condition that holds
abbrev pub first_of : List (Bool × ScpiError) → Option ScpiError
first_of [] = None
first_of (c ∷ cs) = if c.0 then Some c.1 else first_of cs

-- the refusals for names and labels, and for what they refer to
abbrev pub refused : Contents → Command → Option ScpiError
refused c (ServiceEnable bits) = None
refused c (EventEnable bits) = None
refused c (PowerOnClear enables) = None
refused c (Save register settings) = None
refused c (User bytes) = None
refused c (DefineMacro label body) = first_of ((not (is_label label), IllegalMacroLabel) ∷ (nat_lt 1024 (length body), MacroDefinitionTooLong) ∷ (has_label c.macros label, MacroRedefinitionNotAllowed) ∷ [])
refused c (RemoveMacro label) = first_of ((not (has_label c.macros label), MacroHeaderNotFound) ∷ [])
refused c PurgeMacros = None
refused c (Recall on) = None
refused c (StoreBytes name bytes) = first_of ((not (is_name name), FileNameError) ∷ [])
refused c (Delete name) = first_of ((not (is_name name), FileNameError) ∷ (not (has_file c.files name), FileNameNotFound) ∷ [])
refused c (Copy from to) = first_of ((not (is_name from), FileNameError) ∷ (not (is_name to), FileNameError) ∷ (not (has_file c.files from), FileNameNotFound) ∷ (has_file c.files to, FileNameError) ∷ [])
refused c (Move from to) = first_of ((not (is_name from), FileNameError) ∷ (not (is_name to), FileNameError) ∷ (not (has_file c.files from), FileNameNotFound) ∷ (has_file c.files to, FileNameError) ∷ [])
refused c (StoreState register name) = first_of ((not (is_name name), FileNameError) ∷ [])
refused c (LoadState register name) = first_of ((not (is_name name), FileNameError) ∷ (not (has_file c.files name), FileNameNotFound) ∷ (not (is_state (bytes_in c.files name)), MassStorageError) ∷ [])
refused c (StoreMacro label name) = first_of ((not (is_name name), FileNameError) ∷ (not (has_label c.macros label), MacroHeaderNotFound) ∷ [])
refused c (LoadMacro label name) =
    first_of ((not (is_label label), IllegalMacroLabel) ∷ (not (is_name name), FileNameError) ∷ (not (has_file c.files name), FileNameNotFound) ∷ (has_label c.macros label, MacroRedefinitionNotAllowed) ∷ (nat_lt 1024 (length (bytes_in c.files name)), MassStorageError) ∷ [])

-- # Changes

-- bit 6 of the service request enable register is ignored and reads 0
abbrev pub without_mss : ℕ → ℕ
without_mss bits = bit_and bits 191

abbrev pub with_service : Option Enables → ℕ → Option Enables
with_service None bits = None
with_service (Some e) bits = Some (record e { sre = without_mss bits })

abbrev pub with_event : Option Enables → ℕ → Option Enables
with_event None bits = None
with_event (Some e) bits = Some (record e { ese = bits })

abbrev pub kept : Option Enables → Option Enables
kept None = None
kept (Some e) = Some (record e { sre = without_mss e.sre })

abbrev pub macro_of : List ℕ → List ℕ → Macro
macro_of label body = record { label = label; body = body }

-- the contents after a command that is not refused
unfoldable pub apply : Contents → Command → Contents
apply c (ServiceEnable bits) = record c { enables = with_service c.enables bits }
apply c (EventEnable bits) = record c { enables = with_event c.enables bits }
apply c (PowerOnClear enables) = record c { enables = kept enables }
apply c (Save register settings) = record c { registers = slice_set c.registers register settings }
apply c (User bytes) = record c { user = bytes }
apply c (DefineMacro label body) = record c { macros = c.macros ++ macro_of label body ∷ [] }
apply c (RemoveMacro label) = record c { macros = without_label c.macros label }
apply c PurgeMacros = record c { macros = [] }
apply c (StoreBytes name bytes) = record c { files = put c.files name (0 ∷ bytes) }
apply c (Delete name) = record c { files = without c.files name }
apply c (Copy from to) = record c { files = put c.files to (value_of c.files from) }
apply c (Move from to) = record c { files = without (put c.files to (value_of c.files from)) from }
apply c (StoreState register name) = record c { files = put c.files name (1 ∷ bytes_of (settings_at c.registers register)) }
apply c (LoadState register name) = record c { registers = slice_set c.registers register (settings_in (bytes_in c.files name)) }
apply c (StoreMacro label name) = record c { files = put c.files name (2 ∷ body_of c.macros label) }
apply c (LoadMacro label name) = record c { macros = c.macros ++ macro_of label (bytes_in c.files name) ∷ [] }
apply c (Recall on) = record c { recall = on }

-- whether a command allocates: it defines a macro or makes a file
abbrev pub takes_memory : Command → Bool
takes_memory (DefineMacro label body) = true
takes_memory (StoreBytes name bytes) = true
takes_memory (Copy from to) = true
takes_memory (Move from to) = true
takes_memory (StoreState register name) = true
takes_memory (StoreMacro label name) = true
takes_memory (LoadMacro label name) = true
takes_memory command = false

-- the contents after commands, in the order of the list
abbrev pub applied : Contents → List Command → Contents
applied c [] = c
applied c (x ∷ xs) = applied (apply c x) xs

-- the refusal of a command under a limit: first for names and labels and what they refer to, then because the result
-- does not fit; `None` where it is accepted
abbrev pub answer : ℕ → Contents → Command → Option ScpiError
answer limit c command = of (refused c command)
  where
    of : Option ScpiError → Option ScpiError
    of (Some error) = Some error
    of None = if fits limit (apply c command) then None else Some MediaFull
