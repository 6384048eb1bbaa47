-- Each command that changes the nonvolatile contents is nonvolatile by the table, and each nonvolatile command changes
-- them or is refused: command by command.
use Rattle.std.proofs.Common.{◌≡◌, inl, inr, ℕ, Bool, true, false, cond, not, Option, Some, None, is_none, is_some, List, length, nat_lt, nat_le, refl}
use Rattle.psu_lex.specs.declared.scpi_error.ScpiError.{ScpiError}
use Rattle.psu_lex.specs.declared.scpi_error.ScpiError.TheVariants.{CommandProtected, DataOutOfRange, SettingsConflict, TooMuchData}
use Rattle.psu_nv.specs.Commands as nv
use Rattle.psu_outputs.specs.Outputs.{all_settings, any_conflicts, with_all}
use Rattle.psu_settings.specs.Settings.{after_set, is_in_range}
use Rattle.psu_settings.specs.declared.output.Output.{Output}
use Rattle.psu_settings.specs.declared.setting.Setting.{Setting}
use Rattle.psu_status.specs.declared.groups.Enables.{Enables}
use Rattle.psu_tree.specs.Nonvolatile.{is_nonvolatile}
use Rattle.psu_tree.specs.declared.queries.Action.TheVariants as action
use Rattle.psu_tree.specs.declared.command.Command.{Command}
use Rattle.psu_tree.specs.declared.command.Command.TheVariants as command
use Rattle.psu_tree.specs.declared.values.Enable.{Enable}
use Rattle.psu_tree.specs.declared.values.Enable.TheVariants as enable
use Rattle.psu_tree.specs.declared.values.Extreme.{Extreme}
use Rattle.psu_tree.specs.declared.values.Extreme.TheVariants as extreme
use Rattle.psu_tree.specs.declared.values.Flag.{Flag}
use Rattle.psu_tree.specs.declared.values.Flag.TheVariants as flag
use Rattle.psu_tree.specs.declared.values.Level.{Level}
use Rattle.psu_tree.specs.declared.values.OnFile.TheVariants as on_file
use Rattle.psu_tree.specs.declared.values.OnMacro.TheVariants as on_macro
use Rattle.psu_tree.specs.declared.values.OnNames.TheVariants as on_names
use Rattle.psu_tree.specs.declared.values.OnRegister.TheVariants as on_register
use Rattle.psu_tree.specs.declared.queries.OutputQuery.{OutputQuery}
use Rattle.psu_tree.specs.declared.queries.OutputQuery.TheVariants as output_query
use Rattle.psu_tree.specs.declared.queries.Query.{Query}
use Rattle.psu_tree.specs.declared.queries.Query.TheVariants as query
use Rattle.psu_tree.specs.declared.values.Transfer.TheVariants as transfer
use Rattle.psu_instrument.specs.Commands.{meaning, query_means}
use Rattle.psu_instrument.specs.Common.{flag_queried, enables_queried}
use Rattle.psu_instrument.specs.Files.{read_unless}
use Rattle.psu_instrument.specs.Instrument.{Instrument, with_supplies}
use Rattle.psu_instrument.specs.Macros.{body_queried}
use Rattle.psu_instrument.specs.Meaning.{Situation, Meaning, Refuses, Does, Keeps, leaves}
use Rattle.psu_instrument.specs.Nonvolatile.{IsRefusedOrKept}
use Rattle.psu_instrument.specs.Supplies.{queried, level_queried, level_of, set, switch_of}

-- ---- commands that are not nonvolatile

refused : (error : ScpiError) (change : nv.Command) → Refuses error ≡ Keeps change → ⊥
refused error change e = cc

done : (answer : Option (List ℕ)) (new : Instrument) (change : nv.Command) → Does answer new ≡ Keeps change → ⊥
done answer new change e = cc

either : (b : Bool) (m n : Meaning) → ((change : nv.Command) → m ≡ Keeps change → ⊥) → ((change : nv.Command) → n ≡ Keeps change → ⊥) → (change : nv.Command) → cond b m n ≡ Keeps change → ⊥
either true m n first second change e = first change e
either false m n first second change e = second change e

enables_keep_nothing : (s : Situation) (which : Enable) (change : nv.Command) → enables_queried s which ≡ Keeps change → ⊥
enables_keep_nothing s enable.EventStatus change e = cc
enables_keep_nothing s enable.ServiceRequest change e = cc

flag_keeps_nothing : (s : Situation) (which : Flag) (change : nv.Command) → flag_queried s which ≡ Keeps change → ⊥
flag_keeps_nothing s flag.PowerOnClear change e = cc
flag_keeps_nothing s flag.Macros change e = cc
flag_keeps_nothing s flag.UserDataProtection change e = cc
flag_keeps_nothing s flag.Recall change e = cc

query_keeps_nothing : (s : Situation) (asks : Query) (change : nv.Command) → query_means s asks ≡ Keeps change → ⊥
query_keeps_nothing s query.Identification change e = cc
query_keeps_nothing s query.SelfTest change e = cc
query_keeps_nothing s query.OperationComplete change e = cc
query_keeps_nothing s query.EventStatus change e = cc
query_keeps_nothing s query.StatusByte change e = cc
query_keeps_nothing s (query.Enable which) change e = enables_keep_nothing s which change e
query_keeps_nothing s (query.Flag which) change e = flag_keeps_nothing s which change e
query_keeps_nothing s query.UserData change e = cc
query_keeps_nothing s query.Labels change e = cc
query_keeps_nothing s query.NextError change e = cc
query_keeps_nothing s query.ErrorCount change e = cc
query_keeps_nothing s query.Version change e = cc
query_keeps_nothing s (query.Event group) change e = cc
query_keeps_nothing s (query.Condition group) change e = cc
query_keeps_nothing s (query.Filter group which) change e = cc
query_keeps_nothing s query.Catalog change e = cc

output_keeps_nothing : (s : Situation) (asks : OutputQuery) (o : Output) (change : nv.Command) → queried s asks o ≡ Keeps change → ⊥
output_keeps_nothing s output_query.State o change e = cc
output_keeps_nothing s output_query.Protection o change e = cc
output_keeps_nothing s output_query.Tripped o change e = cc
output_keeps_nothing s output_query.Voltage o change e = cc
output_keeps_nothing s output_query.Current o change e = cc
output_keeps_nothing s output_query.Load o change e = cc

level_keeps_nothing : (s : Situation) (which : Level) (o : Output) (end : Option Extreme) (change : nv.Command) → level_queried s which o end ≡ Keeps change → ⊥
level_keeps_nothing s which o None change e = cc
level_keeps_nothing s which o (Some extreme.Least) change e = cc
level_keeps_nothing s which o (Some extreme.Greatest) change e = cc

thing_set : (s : Situation) (o : Output) (thing : Setting) (change : nv.Command) → set s o thing ≡ Keeps change → ⊥
thing_set s o thing =
    either (not (is_in_range thing)) _ _ (refused DataOutOfRange)
    (either (any_conflicts s.instrument.supplies (after_set (all_settings s.instrument.supplies) o thing)) _ _ (refused SettingsConflict)
    (done None (with_supplies s.instrument (with_all s.instrument.supplies (after_set (all_settings s.instrument.supplies) o thing)))))

body_keeps_nothing : (s : Situation) (found : Option (List ℕ)) (change : nv.Command) → body_queried s found ≡ Keeps change → ⊥
body_keeps_nothing s None change e = cc
body_keeps_nothing s (Some body) change e = cc

file_keeps_nothing : (s : Situation) (name : List ℕ) (found : Option ScpiError) (change : nv.Command) → read_unless s name found ≡ Keeps change → ⊥
file_keeps_nothing s name None change e = cc
file_keeps_nothing s name (Some error) change e = cc

-- the enables are nonvolatile while the flag is false
while_false : (enables : Option Enables) (kept change : nv.Command) (i : Instrument) → cond (is_some enables) (Keeps kept) (leaves i) ≡ Keeps change → not (is_none enables) ≡ true
while_false None kept change i e = cc
while_false (Some x) kept change i e = refl

pub kept_are_nonvolatile : (s : Situation) (given : Command) (change : nv.Command) → meaning s given ≡ Keeps change → is_nonvolatile given (is_none s.contents.enables) ≡ true
kept_are_nonvolatile s (command.Action action.ClearStatus) change e = cc
kept_are_nonvolatile s (command.Action action.Reset) change e = cc
kept_are_nonvolatile s (command.Action action.OperationComplete) change e = cc
kept_are_nonvolatile s (command.Action action.Wait) change e = cc
kept_are_nonvolatile s (command.Action action.PurgeMacros) change e = refl
kept_are_nonvolatile s (command.Action action.PresetStatus) change e = cc
kept_are_nonvolatile s (command.Query asks) change e = absurd (query_keeps_nothing s asks change e)
kept_are_nonvolatile s (command.OutputQuery asks output) change e = absurd (output_keeps_nothing s asks _ change e)
kept_are_nonvolatile s (command.ClearTrip output) change e = cc
kept_are_nonvolatile s (command.Enable enable.EventStatus bits) change e = while_false s.contents.enables _ change _ e
kept_are_nonvolatile s (command.Enable enable.ServiceRequest bits) change e = while_false s.contents.enables _ change _ e
kept_are_nonvolatile s (command.Flag flag.PowerOnClear on) change e = refl
kept_are_nonvolatile s (command.Flag flag.Macros on) change e = cc
kept_are_nonvolatile s (command.Flag flag.UserDataProtection on) change e = cc
kept_are_nonvolatile s (command.Flag flag.Recall on) change e = refl
kept_are_nonvolatile s (command.Filter group which bits) change e = cc
kept_are_nonvolatile s (command.Register on_register.Save number) change e = refl
kept_are_nonvolatile s (command.Register on_register.Recall number) change e = absurd (either _ _ _ (refused _) (done _ _) change e)
kept_are_nonvolatile s (command.Load output milliohms) change e = absurd (either _ _ _ (done _ _) (refused _) change e)
kept_are_nonvolatile s (command.Level which output n) change e = absurd (thing_set s output (level_of which n) change e)
kept_are_nonvolatile s (command.LevelQuery which output end) change e = absurd (level_keeps_nothing s which _ end change e)
kept_are_nonvolatile s (command.Switch which output on) change e = absurd (thing_set s output (switch_of which on) change e)
kept_are_nonvolatile s (command.UserData bytes) change e = refl
kept_are_nonvolatile s (command.Define label body) change e = refl
kept_are_nonvolatile s (command.Macro on_macro.Ask label) change e = absurd (body_keeps_nothing s _ change e)
kept_are_nonvolatile s (command.Macro on_macro.Remove label) change e = refl
kept_are_nonvolatile s (command.Contents name bytes) change e = refl
kept_are_nonvolatile s (command.File on_file.Ask name) change e = absurd (file_keeps_nothing s _ _ change e)
kept_are_nonvolatile s (command.File on_file.Delete name) change e = refl
kept_are_nonvolatile s (command.Names what from to) change e = refl
kept_are_nonvolatile s (command.StateFile way number name) change e = refl
kept_are_nonvolatile s (command.MacroFile way label name) change e = refl

-- ---- commands that are nonvolatile

kept : (change : nv.Command) → IsRefusedOrKept (Keeps change)
kept change = inr (change, refl)

refused_or : (b : Bool) (error : ScpiError) (m : Meaning) → IsRefusedOrKept m → IsRefusedOrKept (cond b (Refuses error) m)
refused_or true error m h = inl (error, refl)
refused_or false error m h = h

enables_kept : (enables : Option Enables) (change : nv.Command) (i : Instrument) → not (is_none enables) ≡ true → IsRefusedOrKept (cond (is_some enables) (Keeps change) (leaves i))
enables_kept None change i e = absurd cc
enables_kept (Some x) change i e = kept change

pub nonvolatile_are_kept : (s : Situation) (given : Command) → is_nonvolatile given (is_none s.contents.enables) ≡ true → IsRefusedOrKept (meaning s given)
nonvolatile_are_kept s (command.Action action.ClearStatus) e = cc
nonvolatile_are_kept s (command.Action action.Reset) e = cc
nonvolatile_are_kept s (command.Action action.OperationComplete) e = cc
nonvolatile_are_kept s (command.Action action.Wait) e = cc
nonvolatile_are_kept s (command.Action action.PurgeMacros) e = kept _
nonvolatile_are_kept s (command.Action action.PresetStatus) e = cc
nonvolatile_are_kept s (command.Query asks) e = cc
nonvolatile_are_kept s (command.OutputQuery asks output) e = cc
nonvolatile_are_kept s (command.ClearTrip output) e = cc
nonvolatile_are_kept s (command.Enable enable.EventStatus bits) e = enables_kept s.contents.enables _ _ e
nonvolatile_are_kept s (command.Enable enable.ServiceRequest bits) e = enables_kept s.contents.enables _ _ e
nonvolatile_are_kept s (command.Flag flag.PowerOnClear on) e = kept _
nonvolatile_are_kept s (command.Flag flag.Macros on) e = cc
nonvolatile_are_kept s (command.Flag flag.UserDataProtection on) e = cc
nonvolatile_are_kept s (command.Flag flag.Recall on) e = kept _
nonvolatile_are_kept s (command.Filter group which bits) e = cc
nonvolatile_are_kept s (command.Register on_register.Save number) e = refused_or (nat_le 100 number) DataOutOfRange _ (kept _)
nonvolatile_are_kept s (command.Register on_register.Recall number) e = cc
nonvolatile_are_kept s (command.Load output milliohms) e = cc
nonvolatile_are_kept s (command.Level which output n) e = cc
nonvolatile_are_kept s (command.LevelQuery which output end) e = cc
nonvolatile_are_kept s (command.Switch which output on) e = cc
nonvolatile_are_kept s (command.UserData bytes) e = refused_or (nat_lt 63 (length bytes)) TooMuchData _ (refused_or s.instrument.protected CommandProtected _ (kept (nv.User bytes)))
nonvolatile_are_kept s (command.Define label body) e = kept _
nonvolatile_are_kept s (command.Macro on_macro.Ask label) e = cc
nonvolatile_are_kept s (command.Macro on_macro.Remove label) e = kept _
nonvolatile_are_kept s (command.Contents name bytes) e = refused_or (nat_lt 32768 (length bytes)) TooMuchData _ (kept _)
nonvolatile_are_kept s (command.File on_file.Ask name) e = cc
nonvolatile_are_kept s (command.File on_file.Delete name) e = kept _
nonvolatile_are_kept s (command.Names on_names.Copy from to) e = kept _
nonvolatile_are_kept s (command.Names on_names.Move from to) e = kept _
nonvolatile_are_kept s (command.StateFile way number name) e = refused_or (nat_le 100 number) DataOutOfRange _ (kept _)
nonvolatile_are_kept s (command.MacroFile transfer.Store label name) e = kept _
nonvolatile_are_kept s (command.MacroFile transfer.Load label name) e = kept _
