-- No response is empty, and no query that is answered raises an enabled bit: command by command.
use Rattle.std.proofs.Common.{◌≡◌, ◌≢◌, ℕ, zero, suc, ◌/◌, ◌%◌, ◌==◌, Bool, true, false, cond, not, Option, Some, None, List, [], ◌∷◌, ◌++◌, decimal, pos, length, refl, subst, is_some, nat_lt, nat_le}
use Rattle.std.proofs.DigitsParse.{digits_onto-nil}
use Rattle.std.specs.Fmt.{digit_glyph, digits_onto}
use Rattle.psu_lex.specs.Data.{definite_text}
use Rattle.psu_lex.specs.Decimals.{fixed3_text}
use Rattle.psu_lex.specs.declared.scpi_error.ScpiError.{ScpiError}
use Rattle.psu_nv.specs.Commands as nv
use Rattle.psu_outputs.specs.Outputs.{all_settings, any_conflicts}
use Rattle.psu_settings.specs.Settings.{after_set, is_in_range}
use Rattle.psu_settings.specs.declared.output.Output.{Output}
use Rattle.psu_settings.specs.declared.setting.Setting.{Setting}
use Rattle.psu_tree.specs.declared.queries.Action.TheVariants as action
use Rattle.psu_tree.specs.declared.command.Command.{Command}
use Rattle.psu_tree.specs.declared.command.Command.TheVariants as command
use Rattle.psu_tree.specs.declared.values.Enable.{Enable}
use Rattle.psu_tree.specs.declared.values.Enable.TheVariants as enable
use Rattle.psu_tree.specs.declared.values.Extreme.{Extreme}
use Rattle.psu_tree.specs.declared.values.Extreme.TheVariants as extreme
use Rattle.psu_tree.specs.declared.values.Flag.{Flag}
use Rattle.psu_tree.specs.declared.values.Flag.TheVariants as flag
use Rattle.psu_tree.specs.declared.values.Level.{Level}
use Rattle.psu_tree.specs.declared.values.OnFile.TheVariants as on_file
use Rattle.psu_tree.specs.declared.values.OnMacro.TheVariants as on_macro
use Rattle.psu_tree.specs.declared.values.OnNames.TheVariants as on_names
use Rattle.psu_tree.specs.declared.values.OnRegister.TheVariants as on_register
use Rattle.psu_tree.specs.declared.queries.OutputQuery.{OutputQuery}
use Rattle.psu_tree.specs.declared.queries.OutputQuery.TheVariants as output_query
use Rattle.psu_tree.specs.declared.queries.Query.{Query}
use Rattle.psu_tree.specs.declared.queries.Query.TheVariants as query
use Rattle.psu_tree.specs.declared.values.Transfer.TheVariants as transfer
use Rattle.psu_instrument.specs.Commands.{meaning, query_means}
use Rattle.psu_instrument.specs.Common.{choice, flag_queried, enables_queried, identity}
use Rattle.psu_instrument.specs.Files.{read_unless}
use Rattle.psu_instrument.specs.Instrument.{Instrument}
use Rattle.psu_instrument.specs.Macros.{body_queried, labels_text}
use Rattle.psu_instrument.specs.Meaning.{Situation, Meaning, Refuses, Does, Keeps, Completes, answers, says, says_fixed}
use Rattle.psu_instrument.specs.Reporting.{error_text}
use Rattle.psu_instrument.specs.Speaking.{RaisesNone}
use Rattle.psu_instrument.specs.Supplies.{queried, level_queried, level_of, set, switch_of}
use Rattle.psu_instrument.specs.declared.act.Completion.{Completion}
use Rattle.psu_instrument.proofs.Rising.{none_rises, events_read, error_read, group_read}

-- ---- texts

behind : (front back : List ℕ) → back ≢ [] → front ++ back ≢ []
behind [] back some e = some e
behind (x ∷ xs) back some e = cc

before : (front back : List ℕ) → front ≢ [] → front ++ back ≢ []
before [] back some e = some refl
before (x ∷ xs) back some e = cc

either_text : (b : Bool) (one other : List ℕ) → one ≢ [] → other ≢ [] → cond b one other ≢ []
either_text true one other first second = first
either_text false one other first second = second

some_onto : (k n x : ℕ) (after : List ℕ) → digits_onto k 10 false n (x ∷ after) ≢ []
some_onto zero n x after = λ e. cc
some_onto (suc k) n x after = either_text (n / 10 == 0) _ _ (λ e. cc) (some_onto k (n / 10) (digit_glyph false (n % 10)) (x ∷ after))

pub some_digit : (n : ℕ) → decimal n ≢ []
some_digit n = subst (λ (z : List ℕ). z ≢ []) (digits_onto-nil 10 false n) (either_text (n / 10 == 0) _ _ (λ e. cc) (some_onto 63 (n / 10) (digit_glyph false (n % 10)) []))

some_fixed : (n : ℕ) → fixed3_text (pos n) ≢ []
some_fixed n = behind _ _ (before (decimal (n / 1000)) _ (some_digit (n / 1000)))

some_choice : (recall : Bool) → choice recall ≢ []
some_choice true e = cc
some_choice false e = cc

some_error : (error : Option ScpiError) → error_text error ≢ []
some_error None e = cc
some_error (Some error) e = cc

some_labels : (labels : List (List ℕ)) → labels_text labels ≢ []
some_labels [] e = cc
some_labels (label ∷ labels) e = cc

-- ---- meanings

-- a response is not empty, and no enabled bit has risen once it is made
abbrev pub IsQuiet : Situation → Meaning → Type 0
IsQuiet s m = (text : List ℕ) (new : Instrument) → m ≡ Does (Some text) new → (text ≢ []) × RaisesNone s.instrument.status new.status

-- a response that leaves this state
leaves_quiet : (s : Situation) (given : List ℕ) (i : Instrument) → given ≢ [] → RaisesNone s.instrument.status i.status → IsQuiet s (Does (Some given) i)
leaves_quiet s given i some none text new e =
    (subst (λ (z : List ℕ). z ≢ []) (let is : given ≡ text = cc in is) some, subst (λ (z : Instrument). RaisesNone s.instrument.status z.status) (let is : i ≡ new = cc in is) none)

answered : (s : Situation) (given : List ℕ) → given ≢ [] → IsQuiet s (answers s given)
answered s given some = leaves_quiet s given s.instrument some (none_rises s.instrument.status)

silent : (s : Situation) (i : Instrument) → IsQuiet s (Does None i)
silent s i text new e = absurd (let bad = e in cc)

refuses : (s : Situation) (error : ScpiError) → IsQuiet s (Refuses error)
refuses s error text new e = absurd (let bad = e in cc)

keeps : (s : Situation) (change : nv.Command) → IsQuiet s (Keeps change)
keeps s change text new e = absurd (let bad = e in cc)

completes : (s : Situation) (completion : Completion) → IsQuiet s (Completes completion)
completes s completion text new e = absurd (let bad = e in cc)

either : (s : Situation) (b : Bool) (m n : Meaning) → IsQuiet s m → IsQuiet s n → IsQuiet s (cond b m n)
either s true m n first second = first
either s false m n first second = second

number : (s : Situation) (n : ℕ) → IsQuiet s (says s n)
number s n = answered s (decimal n) (some_digit n)

thousandths : (s : Situation) (n : ℕ) → IsQuiet s (says_fixed s n)
thousandths s n = answered s (fixed3_text (pos n)) (some_fixed n)

block : (s : Situation) (bytes : List ℕ) → IsQuiet s (Does (Some (definite_text bytes)) s.instrument)
block s bytes = answered s (definite_text bytes) (λ e. cc)

enables_are_quiet : (s : Situation) (which : Enable) → IsQuiet s (enables_queried s which)
enables_are_quiet s enable.EventStatus = number s _
enables_are_quiet s enable.ServiceRequest = number s _

flag_is_quiet : (s : Situation) (which : Flag) → IsQuiet s (flag_queried s which)
flag_is_quiet s flag.PowerOnClear = number s _
flag_is_quiet s flag.Macros = number s _
flag_is_quiet s flag.UserDataProtection = number s _
flag_is_quiet s flag.Recall = answered s _ (some_choice s.contents.recall)

query_is_quiet : (s : Situation) (asks : Query) → IsQuiet s (query_means s asks)
query_is_quiet s query.Identification = answered s identity (λ e. cc)
query_is_quiet s query.SelfTest = number s 0
query_is_quiet s query.OperationComplete = completes s _
query_is_quiet s query.EventStatus = leaves_quiet s _ _ (some_digit _) (events_read s.instrument.status)
query_is_quiet s query.StatusByte = number s _
query_is_quiet s (query.Enable which) = enables_are_quiet s which
query_is_quiet s (query.Flag which) = flag_is_quiet s which
query_is_quiet s query.UserData = block s _
query_is_quiet s query.Labels = answered s _ (some_labels _)
query_is_quiet s query.NextError = leaves_quiet s _ _ (some_error _) (error_read s.instrument.status)
query_is_quiet s query.ErrorCount = number s _
query_is_quiet s query.Version = answered s _ (λ e. cc)
query_is_quiet s (query.Event group) = leaves_quiet s _ _ (some_digit _) (group_read s.instrument.status group)
query_is_quiet s (query.Condition group) = number s _
query_is_quiet s (query.Filter group which) = number s _
query_is_quiet s query.Catalog = answered s _ (before _ _ (some_digit _))

output_is_quiet : (s : Situation) (asks : OutputQuery) (o : Output) → IsQuiet s (queried s asks o)
output_is_quiet s output_query.State o = number s _
output_is_quiet s output_query.Protection o = number s _
output_is_quiet s output_query.Tripped o = number s _
output_is_quiet s output_query.Voltage o = thousandths s _
output_is_quiet s output_query.Current o = thousandths s _
output_is_quiet s output_query.Load o = number s _

level_is_quiet : (s : Situation) (which : Level) (o : Output) (end : Option Extreme) → IsQuiet s (level_queried s which o end)
level_is_quiet s which o None = thousandths s _
level_is_quiet s which o (Some extreme.Least) = thousandths s 0
level_is_quiet s which o (Some extreme.Greatest) = thousandths s _

thing_set : (s : Situation) (o : Output) (thing : Setting) → IsQuiet s (set s o thing)
thing_set s o thing =
    either s (not (is_in_range thing)) _ _ (refuses s _)
    (either s (any_conflicts s.instrument.supplies (after_set (all_settings s.instrument.supplies) o thing)) _ _ (refuses s _) (silent s _))

body_is_quiet : (s : Situation) (found : Option (List ℕ)) → IsQuiet s (body_queried s found)
body_is_quiet s None = refuses s _
body_is_quiet s (Some body) = block s body

file_is_quiet : (s : Situation) (name : List ℕ) (found : Option ScpiError) → IsQuiet s (read_unless s name found)
file_is_quiet s name None = block s _
file_is_quiet s name (Some error) = refuses s error

pub each_answer_is_quiet : (s : Situation) (given : Command) → IsQuiet s (meaning s given)
each_answer_is_quiet s (command.Action action.ClearStatus) = silent s _
each_answer_is_quiet s (command.Action action.Reset) = silent s _
each_answer_is_quiet s (command.Action action.OperationComplete) = completes s _
each_answer_is_quiet s (command.Action action.Wait) = completes s _
each_answer_is_quiet s (command.Action action.PurgeMacros) = keeps s _
each_answer_is_quiet s (command.Action action.PresetStatus) = silent s _
each_answer_is_quiet s (command.Query asks) = query_is_quiet s asks
each_answer_is_quiet s (command.OutputQuery asks output) = output_is_quiet s asks _
each_answer_is_quiet s (command.ClearTrip output) = silent s _
each_answer_is_quiet s (command.Enable enable.EventStatus bits) = either s (is_some s.contents.enables) _ _ (keeps s _) (silent s _)
each_answer_is_quiet s (command.Enable enable.ServiceRequest bits) = either s (is_some s.contents.enables) _ _ (keeps s _) (silent s _)
each_answer_is_quiet s (command.Flag flag.PowerOnClear on) = keeps s _
each_answer_is_quiet s (command.Flag flag.Macros on) = silent s _
each_answer_is_quiet s (command.Flag flag.UserDataProtection on) = silent s _
each_answer_is_quiet s (command.Flag flag.Recall on) = keeps s _
each_answer_is_quiet s (command.Filter group which bits) = silent s _
each_answer_is_quiet s (command.Register on_register.Save number) = either s (nat_le 100 number) _ _ (refuses s _) (keeps s _)
each_answer_is_quiet s (command.Register on_register.Recall number) = either s (nat_le 100 number) _ _ (refuses s _) (silent s _)
each_answer_is_quiet s (command.Load output milliohms) = either s _ _ _ (silent s _) (refuses s _)
each_answer_is_quiet s (command.Level which output n) = thing_set s output (level_of which n)
each_answer_is_quiet s (command.LevelQuery which output end) = level_is_quiet s which _ end
each_answer_is_quiet s (command.Switch which output on) = thing_set s output (switch_of which on)
each_answer_is_quiet s (command.UserData bytes) = either s (nat_lt 63 (length bytes)) _ _ (refuses s _) (either s s.instrument.protected _ _ (refuses s _) (keeps s _))
each_answer_is_quiet s (command.Define label body) = keeps s _
each_answer_is_quiet s (command.Macro on_macro.Ask label) = body_is_quiet s _
each_answer_is_quiet s (command.Macro on_macro.Remove label) = keeps s _
each_answer_is_quiet s (command.Contents name bytes) = either s (nat_lt 32768 (length bytes)) _ _ (refuses s _) (keeps s _)
each_answer_is_quiet s (command.File on_file.Ask name) = file_is_quiet s _ _
each_answer_is_quiet s (command.File on_file.Delete name) = keeps s _
each_answer_is_quiet s (command.Names on_names.Copy from to) = keeps s _
each_answer_is_quiet s (command.Names on_names.Move from to) = keeps s _
each_answer_is_quiet s (command.StateFile way number name) = either s (nat_le 100 number) _ _ (refuses s _) (keeps s _)
each_answer_is_quiet s (command.MacroFile transfer.Store label name) = keeps s _
each_answer_is_quiet s (command.MacroFile transfer.Load label name) = keeps s _
