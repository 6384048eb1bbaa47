-- The parts of the nonvolatile contents that may have changed.
use Rattle.std.specs.Prelude.{◌≡◌, ℕ, ◌&&◌, Bool, true, false, List, slice_index_or, slice_set}
use Rattle.psu_map.specs.Map.{Item, get}
use Rattle.psu_nv.specs.Commands.{Command, ServiceEnable, EventEnable, PowerOnClear, Save, User, DefineMacro, RemoveMacro, PurgeMacros, StoreBytes, Delete, Copy, Move, StoreState, LoadState, StoreMacro, LoadMacro, Recall}
use Rattle.psu_nv.specs.Parts as kept
use Rattle.psu_nv.specs.Parts.{Part, key_of}

-- a set of parts: for each part whether it is in the set, and whether any register is
pub record Parts : Type 0 where
  pub enables : Bool
  pub registers : List Bool
  pub some_register : Bool
  pub user : Bool
  pub macros : Bool
  pub files : Bool
  pub recall : Bool

-- whether a part is in the set; either all files are or none
abbrev pub is_changed : Parts → Part → Bool
is_changed p kept.Enables = p.enables
is_changed p (kept.Register number) = p.some_register && slice_index_or p.registers number true
is_changed p kept.User = p.user
is_changed p kept.Macros = p.macros
is_changed p (kept.File name) = p.files
is_changed p kept.Recall = p.recall

-- a key is that of a part that has not changed
abbrev pub IsUnchanged : Parts → List ℕ → Type 0
IsUnchanged p key = (part : Part) × (key ≡ key_of part) × (is_changed p part ≡ false)

-- the set with this register
abbrev pub with_register : Parts → ℕ → Parts
with_register p number = record p { registers = slice_set p.registers number true; some_register = true }

-- the set with the part that this change modifies
abbrev pub with_change : Parts → Command → Parts
with_change p (ServiceEnable bits) = record p { enables = true }
with_change p (EventEnable bits) = record p { enables = true }
with_change p (PowerOnClear enables) = record p { enables = true }
with_change p (Save register settings) = with_register p register
with_change p (User bytes) = record p { user = true }
with_change p (DefineMacro label body) = record p { macros = true }
with_change p (RemoveMacro label) = record p { macros = true }
with_change p PurgeMacros = record p { macros = true }
with_change p (StoreBytes name bytes) = record p { files = true }
with_change p (Delete name) = record p { files = true }
with_change p (Copy from to) = record p { files = true }
with_change p (Move from to) = record p { files = true }
with_change p (StoreState register name) = record p { files = true }
with_change p (LoadState register name) = with_register p register
with_change p (StoreMacro label name) = record p { files = true }
with_change p (LoadMacro label name) = record p { macros = true }
with_change p (Recall on) = record p { recall = true }

-- two maps have the same value of each part that isn't in the set
abbrev pub KeepsOthers : Parts → List Item → List Item → Type 0
KeepsOthers p old new = (part : Part) → is_changed p part ≡ false → get old (key_of part) ≡ get new (key_of part)
