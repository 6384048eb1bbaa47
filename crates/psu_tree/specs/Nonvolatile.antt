-- Which commands change nonvolatile memory: the marks of the table, by its forms.
use Rattle.std.specs.Prelude.{Bool, true, false, not, Option, Some, None}
use Rattle.psu_tree.specs.Headers.{Keeping}
use Rattle.psu_tree.specs.Headers.Keeping.{Never, Always, WhileFalse}
use Rattle.psu_tree.specs.declared.queries.Action.{Action}
use Rattle.psu_tree.specs.declared.queries.Action.TheVariants.{PurgeMacros}
use Rattle.psu_tree.specs.declared.command.Command.{Command}
use Rattle.psu_tree.specs.declared.command.Command.TheVariants as c
use Rattle.psu_tree.specs.declared.values.Flag.{Flag}
use Rattle.psu_tree.specs.declared.values.Flag.TheVariants.{PowerOnClear, Recall}
use Rattle.psu_tree.specs.declared.form.Form.{Form}
use Rattle.psu_tree.specs.declared.form.Form.TheVariants as f
use Rattle.psu_tree.specs.declared.values.OnFile.{OnFile}
use Rattle.psu_tree.specs.declared.values.OnFile.TheVariants.{Delete}
use Rattle.psu_tree.specs.declared.values.OnMacro.{OnMacro}
use Rattle.psu_tree.specs.declared.values.OnMacro.TheVariants.{Remove}
use Rattle.psu_tree.specs.declared.values.OnRegister.{OnRegister}
use Rattle.psu_tree.specs.declared.values.OnRegister.TheVariants.{Save}

abbrev pub of_action : Action → Keeping
of_action PurgeMacros = Always
of_action _ = Never

abbrev pub of_flag : Flag → Keeping
of_flag PowerOnClear = Always
of_flag Recall = Always
of_flag _ = Never

abbrev pub of_register : OnRegister → Keeping
of_register Save = Always
of_register _ = Never

abbrev pub of_macro : OnMacro → Keeping
of_macro Remove = Always
of_macro _ = Never

abbrev pub of_file : OnFile → Keeping
of_file Delete = Always
of_file _ = Never

-- the mark of a form
abbrev pub of_form : Form → Keeping
of_form (f.Enable which) = WhileFalse
of_form (f.Flag which) = of_flag which
of_form (f.Action action) = of_action action
of_form (f.Register what) = of_register what
of_form (f.Macro what) = of_macro what
of_form (f.File what) = of_file what
of_form f.PowerOn = Always
of_form f.UserData = Always
of_form f.Define = Always
of_form f.Contents = Always
of_form (f.Names what) = Always
of_form (f.StateFile what) = Always
of_form (f.MacroFile what) = Always
of_form _ = Never

-- the mark of a row
abbrev pub keeping_of : Option Form → Keeping
keeping_of None = Never
keeping_of (Some form) = of_form form

-- the form of a command
abbrev pub form_of : Command → Form
form_of (c.Action action) = f.Action action
form_of (c.Query query) = f.Query query
form_of (c.OutputQuery query output) = f.OutputQuery query
form_of (c.ClearTrip output) = f.ClearTrip
form_of (c.Enable which value) = f.Enable which
form_of (c.Flag which on) = f.Flag which
form_of (c.Filter group which value) = f.Filter group which
form_of (c.Register what number) = f.Register what
form_of (c.Load output value) = f.Load
form_of (c.Level which output value) = f.Level which
form_of (c.LevelQuery which output extreme) = f.LevelQuery which
form_of (c.Switch which output on) = f.Switch which
form_of (c.UserData bytes) = f.UserData
form_of (c.Define label body) = f.Define
form_of (c.Macro what label) = f.Macro what
form_of (c.Contents name bytes) = f.Contents
form_of (c.File what name) = f.File what
form_of (c.Names what first second) = f.Names what
form_of (c.StateFile what number name) = f.StateFile what
form_of (c.MacroFile what label name) = f.MacroFile what

abbrev pub keeps : Keeping → Bool → Bool
keeps Never flag = false
keeps Always flag = true
keeps WhileFalse flag = not flag

-- the command changes nonvolatile memory, given this power-on status clear flag
abbrev pub is_nonvolatile : Command → Bool → Bool
is_nonvolatile command flag = keeps (of_form (form_of command)) flag
