-- The commands that change the nonvolatile contents are those that `psu_tree` calls nonvolatile.
use Rattle.std.specs.Prelude.{◌≡◌, ◌⊎◌, true, is_none}
use Rattle.psu_lex.specs.declared.scpi_error.ScpiError.{ScpiError}
use Rattle.psu_nv.specs.Commands as nv
use Rattle.psu_tree.specs.Nonvolatile.{is_nonvolatile}
use Rattle.psu_tree.specs.declared.command.Command.{Command}
use Rattle.psu_instrument.specs.Commands.{meaning}
use Rattle.psu_instrument.specs.Meaning.{Situation, Meaning, Refuses, Keeps}

-- a command that changes the nonvolatile contents is nonvolatile by the table
abbrev pub KeptAreNonvolatile : Type 0
KeptAreNonvolatile = (s : Situation) (command : Command) (change : nv.Command) → meaning s command ≡ Keeps change → is_nonvolatile command (is_none s.contents.enables) ≡ true

-- refused, or a change of the nonvolatile contents
abbrev pub IsRefusedOrKept : Meaning → Type 0
IsRefusedOrKept meaning = ((error : ScpiError) × (meaning ≡ Refuses error)) ⊎ ((change : nv.Command) × (meaning ≡ Keeps change))

-- a nonvolatile command changes the nonvolatile contents and does nothing else, unless it is refused
abbrev pub NonvolatileAreKept : Type 0
NonvolatileAreKept = (s : Situation) (command : Command) → is_nonvolatile command (is_none s.contents.enables) ≡ true → IsRefusedOrKept (meaning s command)
