-- The commands and the types of the code, as data with no borrows.
use Rattle.std.specs.Prelude.{ℕ, Option, Some, None, List, codes, unwrap_or, if◌then◌else◌, ◌==◌}
use Rattle.psu_nv.specs.Commands.{Command, ServiceEnable, EventEnable, PowerOnClear, Save, User, DefineMacro, RemoveMacro, PurgeMacros, StoreBytes, Delete, Copy, Move, StoreState, LoadState, StoreMacro, LoadMacro, Recall}
use Rattle.psu_nv.specs.declared.file.FileKind.{FileKind}
use Rattle.psu_nv.specs.declared.file.FileKind.TheVariants.{Binary, State, Macro}
use Rattle.psu_nv.specs.declared.command.NvCommand.{NvCommand}
use Rattle.psu_nv.specs.declared.command.NvCommand.TheVariants as given
use Rattle.psu_nv.specs.Parts as kept
use Rattle.psu_nv.specs.declared.part.Part.{Part}
use Rattle.psu_nv.specs.declared.part.Part.TheVariants as parts

-- the byte of a file's type
abbrev pub code_of : FileKind → ℕ
code_of Binary = 0
code_of State = 1
code_of Macro = 2

abbrev pub kind_of : ℕ → Option FileKind
kind_of code = if code == 0 then Some Binary else (if code == 1 then Some State else (if code == 2 then Some Macro else None))

-- the type of a stored file by its type byte; a byte that encodes no type is read as that of a macro
abbrev pub stored_kind : ℕ → FileKind
stored_kind code = unwrap_or (kind_of code) Macro

-- the type as text
abbrev pub kind_text : FileKind → List ℕ
kind_text Binary = codes "BIN"
kind_text State = codes "STAT"
kind_text Macro = codes "MACR"

-- the command as data
abbrev pub command_of : NvCommand → Command
command_of (given.ServiceEnable bits) = ServiceEnable bits
command_of (given.EventEnable bits) = EventEnable bits
command_of (given.PowerOnClear enables) = PowerOnClear enables
command_of (given.Save register settings) = Save register.number settings
command_of (given.User user) = User user
command_of (given.DefineMacro label body) = DefineMacro label.now body.now
command_of (given.RemoveMacro label) = RemoveMacro label.now
command_of given.PurgeMacros = PurgeMacros
command_of (given.StoreBytes name file) = StoreBytes name.now file.bytes.now
command_of (given.Delete name) = Delete name.now
command_of (given.Copy from to) = Copy from.now to.now
command_of (given.Move from to) = Move from.now to.now
command_of (given.StoreState register name) = StoreState register.number name.now
command_of (given.LoadState register name) = LoadState register.number name.now
command_of (given.StoreMacro label name) = StoreMacro label.now name.now
command_of (given.LoadMacro label name) = LoadMacro label.now name.now
command_of (given.Recall on) = Recall on

-- the part as data
abbrev pub part_of : Part → kept.Part
part_of parts.Enables = kept.Enables
part_of (parts.Register register) = kept.Register register.number
part_of parts.User = kept.User
part_of parts.Macros = kept.Macros
part_of (parts.File name) = kept.File name.now
part_of parts.Recall = kept.Recall
