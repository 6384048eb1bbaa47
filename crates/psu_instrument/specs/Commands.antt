-- The meaning of each command: the table, whose entries are defined with their subsystems.
use Rattle.std.specs.Prelude.{ℕ}
use Rattle.psu_tree.specs.declared.queries.Action.{Action}
use Rattle.psu_tree.specs.declared.queries.Action.TheVariants as action
use Rattle.psu_tree.specs.declared.command.Command.{Command}
use Rattle.psu_tree.specs.declared.command.Command.TheVariants as command
use Rattle.psu_tree.specs.declared.queries.Query.{Query}
use Rattle.psu_tree.specs.declared.queries.Query.TheVariants as query
use Rattle.psu_tree.specs.declared.values.OnRegister.{OnRegister}
use Rattle.psu_tree.specs.declared.values.OnRegister.TheVariants as on_register
use Rattle.psu_instrument.specs.declared.act.Completion.TheVariants as completion
use Rattle.psu_instrument.specs.Meaning.{Situation, Meaning, Completes, answers}
use Rattle.psu_instrument.specs.Common as common
use Rattle.psu_instrument.specs.Reporting as reporting
use Rattle.psu_instrument.specs.Supplies as supplies
use Rattle.psu_instrument.specs.Macros as macros
use Rattle.psu_instrument.specs.Files as files

-- commands without parameters
abbrev pub action_means : Situation → Action → Meaning
action_means s action.ClearStatus = common.clear_status s
action_means s action.Reset = common.reset_all s
action_means s action.OperationComplete = Completes completion.Event
action_means s action.Wait = Completes completion.Wait
action_means s action.PurgeMacros = macros.purged s
action_means s action.PresetStatus = reporting.preset s

-- queries without parameters
abbrev pub query_means : Situation → Query → Meaning
query_means s query.Identification = answers s common.identity
query_means s query.SelfTest = common.self_test s
query_means s query.OperationComplete = Completes completion.Query
query_means s query.EventStatus = common.event_status s
query_means s query.StatusByte = common.status_byte s
query_means s (query.Enable which) = common.enables_queried s which
query_means s (query.Flag which) = common.flag_queried s which
query_means s query.UserData = common.user_data_asked s
query_means s query.Labels = macros.labels_asked s
query_means s query.NextError = reporting.next_error s
query_means s query.ErrorCount = reporting.error_count s
query_means s query.Version = reporting.version s
query_means s (query.Event group) = reporting.events s group
query_means s (query.Condition group) = reporting.condition s group
query_means s (query.Filter group which) = reporting.filter_asked s group which
query_means s query.Catalog = files.catalog s

abbrev pub register_means : Situation → OnRegister → ℕ → Meaning
register_means s on_register.Save number = common.saved s number
register_means s on_register.Recall number = common.recalled s number

-- every command
abbrev pub meaning : Situation → Command → Meaning
meaning s (command.Action action) = action_means s action
meaning s (command.Query query) = query_means s query
meaning s (command.OutputQuery query output) = supplies.queried s query output
meaning s (command.ClearTrip output) = supplies.clear_trip s output
meaning s (command.Enable which bits) = common.enabled s which bits
meaning s (command.Flag which on) = common.flagged s which on
meaning s (command.Filter group which bits) = reporting.filtered s group which bits
meaning s (command.Register what number) = register_means s what number
meaning s (command.Load output milliohms) = supplies.load s output milliohms
meaning s (command.Level which output n) = supplies.set s output (supplies.level_of which n)
meaning s (command.LevelQuery which output extreme) = supplies.level_queried s which output extreme
meaning s (command.Switch which output on) = supplies.set s output (supplies.switch_of which on)
meaning s (command.UserData bytes) = common.user_data s bytes
meaning s (command.Define label body) = macros.defined s label body
meaning s (command.Macro what label) = macros.on_label s what label
meaning s (command.Contents name bytes) = files.stored s name bytes
meaning s (command.File what name) = files.on_name s what name
meaning s (command.Names what from to) = files.on_two s what from to
meaning s (command.StateFile way number name) = files.state_moved s way number name
meaning s (command.MacroFile way label name) = files.macro_moved s way label name
