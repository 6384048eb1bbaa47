-- The commands of the table's forms: the parameters that each takes, and the command with their values. Sources: IEEE
-- 488.2, chapter 10; SCPI-1999 volume 2; the ranges of levels and loads are this instrument's own.
use Rattle.std.specs.Prelude.{◌≡◌, ℕ, ◌%◌, List, [], ◌∷◌, Result, Ok, Err}
use Rattle.psu_lex.specs.Syntax.{Datum}
use Rattle.psu_lex.specs.declared.scpi_error.ScpiError.{ScpiError}
use Rattle.psu_lex.specs.declared.scpi_error.ScpiError.TheVariants.{ParameterNotAllowed}
use Rattle.psu_tree.specs.Parameters.{One, Perhaps, Two, mapped, TakesWhole, TakesSwitch, TakesAmount, TakesWord, TakesString, TakesBlock, counted, flagged, switched, extreme_of, leveled, recalled, at_most, labeled, named}
use Rattle.psu_tree.specs.declared.command.Command.{Command}
use Rattle.psu_tree.specs.declared.command.Command.TheVariants as c
use Rattle.psu_tree.specs.declared.values.Flag.TheVariants.{UserDataProtection, Recall}
use Rattle.psu_tree.specs.declared.form.Form.{Form}
use Rattle.psu_tree.specs.declared.form.Form.TheVariants as f
use Rattle.psu_tree.specs.declared.values.Level.{Level}
use Rattle.psu_tree.specs.declared.values.Level.TheVariants as level
use Rattle.psu_settings.specs.declared.output.Output.{Output}

-- no parameter
abbrev pub alone : Command → List Datum → Result Command ScpiError
alone command [] = Ok command
alone command (datum ∷ more) = Err ParameterNotAllowed

-- the command with a value that the data give, or their error
abbrev pub MakesCommand : {A : Type 0} → (Result A ScpiError → Type 0) → (A → Command) → Result Command ScpiError → Type 0
MakesCommand {A} Gives make reading = (given : Result A ScpiError) × Gives given × (reading ≡ mapped make given)

-- the letter of a level's unit
abbrev pub unit_of : Level → ℕ
unit_of level.Voltage = 86
unit_of level.Current = 65
unit_of level.Protection = 86

-- its maximum in thousandths of the unit; the minimum is 0
abbrev pub greatest_of : Level → ℕ
greatest_of level.Voltage = 60000
greatest_of level.Current = 5000
greatest_of level.Protection = 60000

-- the command of a form with these data, or their error
abbrev pub CommandReads : Form → Output → List Datum → Result Command ScpiError → Type 0
CommandReads (f.Action action) output list reading = reading ≡ alone (c.Action action) list
CommandReads (f.Query query) output list reading = reading ≡ alone (c.Query query) list
CommandReads (f.OutputQuery query) output list reading = reading ≡ alone (c.OutputQuery query output) list
CommandReads f.ClearTrip output list reading = reading ≡ alone (c.ClearTrip output) list
CommandReads (f.Enable which) output list reading = MakesCommand (One TakesWhole (counted 0 255) list) (c.Enable which) reading
CommandReads (f.Flag which) output list reading = MakesCommand (One TakesWhole flagged list) (c.Flag which) reading
CommandReads (f.Filter group which) output list reading = MakesCommand (One TakesWhole (counted 0 65535) list) (λ n. c.Filter group which (n % 32768)) reading
CommandReads (f.Register what) output list reading = MakesCommand (One TakesWhole (counted 0 99) list) (c.Register what) reading
CommandReads f.Load output list reading = MakesCommand (One TakesWhole (counted 1 10000000) list) (c.Load output) reading
CommandReads (f.Level which) output list reading = MakesCommand (One (TakesAmount (unit_of which)) (leveled (greatest_of which)) list) (c.Level which output) reading
CommandReads (f.LevelQuery which) output list reading = MakesCommand (Perhaps TakesWord extreme_of list) (c.LevelQuery which output) reading
CommandReads (f.Switch which) output list reading = MakesCommand (One TakesSwitch switched list) (c.Switch which output) reading
CommandReads f.Protect output list reading = MakesCommand (One TakesSwitch switched list) (c.Flag UserDataProtection) reading
CommandReads f.PowerOn output list reading = MakesCommand (One TakesWord recalled list) (c.Flag Recall) reading
CommandReads f.UserData output list reading = MakesCommand (One TakesBlock (at_most 63) list) c.UserData reading
CommandReads f.Define output list reading = MakesCommand (Two TakesString labeled TakesBlock (λ body. Ok body) list) (λ v. c.Define v.0 v.1) reading
CommandReads (f.Macro what) output list reading = MakesCommand (One TakesString labeled list) (c.Macro what) reading
CommandReads f.Contents output list reading = MakesCommand (Two TakesString named TakesBlock (at_most 32768) list) (λ v. c.Contents v.0 v.1) reading
CommandReads (f.File what) output list reading = MakesCommand (One TakesString named list) (c.File what) reading
CommandReads (f.Names what) output list reading = MakesCommand (Two TakesString named TakesString named list) (λ v. c.Names what v.0 v.1) reading
CommandReads (f.StateFile what) output list reading = MakesCommand (Two TakesWhole (counted 0 99) TakesString named list) (λ v. c.StateFile what v.0 v.1) reading
CommandReads (f.MacroFile what) output list reading = MakesCommand (Two TakesString labeled TakesString named list) (λ v. c.MacroFile what v.0 v.1) reading
