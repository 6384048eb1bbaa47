-- Every unit has a result.
use Rattle.std.proofs.Common.{◌≡◌, ℕ, Bool, true, false, List, [], ◌∷◌, refl, subst, inl, inr, Option, Some, None, Result, Ok, Err}
use Rattle.psu_lex.specs.Message.{Part}
use Rattle.psu_lex.specs.Shown.{IsSomeDatum}
use Rattle.psu_lex.specs.Syntax.{Datum, Lists, Syntax, SyntaxGives, TextGives, FaultGives, UnitReads, has_high}
use Rattle.psu_lex.specs.declared.unit.UnitFault.{UnitFault}
use Rattle.psu_lex.specs.declared.scpi_error.ScpiError.{ScpiError}
use Rattle.psu_lex.specs.declared.scpi_error.ScpiError.TheVariants.{MissingParameter, ParameterNotAllowed}
use Rattle.psu_tree.specs.Commands.{CommandReads, MakesCommand, alone, unit_of, greatest_of}
use Rattle.psu_tree.specs.Parameters.{One, Perhaps, Two, mapped, next, paired, TakesWhole, TakesSwitch, TakesAmount, TakesWord, TakesString, TakesBlock, counted, flagged, switched, extreme_of, leveled, recalled, at_most, labeled, named}
use Rattle.psu_tree.specs.Path.{words_of}
use Rattle.psu_tree.specs.Reading.{FormReads, SyntaxReads, Reads, header_reads}
use Rattle.psu_tree.specs.declared.command.Command.{Command}
use Rattle.psu_tree.specs.declared.command.Command.TheVariants as c
use Rattle.psu_tree.specs.declared.values.Flag.TheVariants.{UserDataProtection, Recall}
use Rattle.psu_tree.specs.declared.form.Form.{Form}
use Rattle.psu_tree.specs.declared.form.Form.TheVariants as f
use Rattle.psu_settings.specs.declared.output.Output.{Output}
use Rattle.psu_tree.proofs.SomeTaken.{some_whole, some_switch, some_amount, some_word, some_string, some_block}

-- each is a datum when some text follows it
abbrev Good : List Datum → Type 0
Good [] = Unit {0}
Good (d ∷ list) = IsSomeDatum d × Good list

listed : (list : List Datum) (text : List ℕ) → Lists text list → Good list
listed [] text l = tt
listed (d ∷ list) text (space, next, rest, w, e, is, b, l) = ((next, is), listed list rest l)

abbrev Some_of : {A : Type 0} → (Datum → Result A ScpiError → Type 0) → Type 0
Some_of {A} Takes = (d : Datum) → IsSomeDatum d → (taken : Result A ScpiError) × Takes d taken

one_some : {A B : Type 0} (Takes : Datum → Result A ScpiError → Type 0) (value : A → Result B ScpiError) → Some_of Takes → (list : List Datum) → Good list → (r : Result B ScpiError) × One Takes value list r
one_some Takes value some [] g = (Err MissingParameter, refl)
one_some Takes value some (d ∷ []) g = let t = some d g.0 in (next t.0 value, (t.0, t.1, refl))
one_some Takes value some (d ∷ other ∷ more) g = (Err ParameterNotAllowed, refl)

perhaps_some : {A B : Type 0} (Takes : Datum → Result A ScpiError → Type 0) (value : A → Result B ScpiError) → Some_of Takes → (list : List Datum) → Good list → (r : Result (Option B) ScpiError) × Perhaps Takes value list r
perhaps_some Takes value some [] g = (Ok None, refl)
perhaps_some Takes value some (d ∷ []) g = let t = some d g.0 in (mapped Some (next t.0 value), (t.0, t.1, refl))
perhaps_some Takes value some (d ∷ other ∷ more) g = (Err ParameterNotAllowed, refl)

two_some : {A B C D : Type 0} (Takes : Datum → Result A ScpiError → Type 0) (value : A → Result C ScpiError) (Follows : Datum → Result B ScpiError → Type 0) (other : B → Result D ScpiError)
    → Some_of Takes → Some_of Follows → (list : List Datum) → Good list → (r : Result (C × D) ScpiError) × Two Takes value Follows other list r
two_some Takes value Follows other some more [] g = (Err MissingParameter, refl)
two_some Takes value Follows other some more (d ∷ []) g = (Err MissingParameter, refl)
two_some Takes value Follows other some more (d ∷ k ∷ []) g = let t = some d g.0 in let u = more k g.1.0 in (paired t.0 value u.0 other, (t.0, u.0, t.1, u.1, refl))
two_some Takes value Follows other some more (d ∷ k ∷ l ∷ list) g = (Err ParameterNotAllowed, refl)

makes_some : {A : Type 0} (Gives : Result A ScpiError → Type 0) (make : A → Command) → ((x : Result A ScpiError) × Gives x) → (r : Result Command ScpiError) × MakesCommand Gives make r
makes_some Gives make x = (mapped make x.0, (x.0, x.1, refl))

some_command : (form : Form) (output : Output) (list : List Datum) → Good list → (r : Result Command ScpiError) × CommandReads form output list r
some_command (f.Action action) output list g = (alone (c.Action action) list, refl)
some_command (f.Query query) output list g = (alone (c.Query query) list, refl)
some_command (f.OutputQuery query) output list g = (alone (c.OutputQuery query output) list, refl)
some_command f.ClearTrip output list g = (alone (c.ClearTrip output) list, refl)
some_command (f.Enable which) output list g = makes_some _ (c.Enable which) (one_some TakesWhole (counted 0 255) some_whole list g)
some_command (f.Flag which) output list g = makes_some _ (c.Flag which) (one_some TakesWhole flagged some_whole list g)
some_command (f.Filter group which) output list g = makes_some _ _ (one_some TakesWhole (counted 0 65535) some_whole list g)
some_command (f.Register what) output list g = makes_some _ (c.Register what) (one_some TakesWhole (counted 0 99) some_whole list g)
some_command f.Load output list g = makes_some _ (c.Load output) (one_some TakesWhole (counted 1 10000000) some_whole list g)
some_command (f.Level which) output list g = makes_some _ (c.Level which output) (one_some (TakesAmount (unit_of which)) (leveled (greatest_of which)) (some_amount (unit_of which)) list g)
some_command (f.LevelQuery which) output list g = makes_some _ (c.LevelQuery which output) (perhaps_some TakesWord extreme_of some_word list g)
some_command (f.Switch which) output list g = makes_some _ (c.Switch which output) (one_some TakesSwitch switched some_switch list g)
some_command f.Protect output list g = makes_some _ (c.Flag UserDataProtection) (one_some TakesSwitch switched some_switch list g)
some_command f.PowerOn output list g = makes_some _ (c.Flag Recall) (one_some TakesWord recalled some_word list g)
some_command f.UserData output list g = makes_some _ c.UserData (one_some TakesBlock (at_most 63) some_block list g)
some_command f.Define output list g = makes_some _ _ (two_some TakesString labeled TakesBlock (λ body. Ok body) some_string some_block list g)
some_command (f.Macro what) output list g = makes_some _ (c.Macro what) (one_some TakesString labeled some_string list g)
some_command f.Contents output list g = makes_some _ _ (two_some TakesString named TakesBlock (at_most 32768) some_string some_block list g)
some_command (f.File what) output list g = makes_some _ (c.File what) (one_some TakesString named some_string list g)
some_command (f.Names what) output list g = makes_some _ _ (two_some TakesString named TakesString named some_string some_string list g)
some_command (f.StateFile what) output list g = makes_some _ _ (two_some TakesWhole (counted 0 99) TakesString named some_whole some_string list g)
some_command (f.MacroFile what) output list g = makes_some _ _ (two_some TakesString labeled TakesString named some_string some_string list g)

some_form : (placed : Result (Form × Output) ScpiError) (list : List Datum) → Good list → (r : Result Command ScpiError) × FormReads placed list r
some_form (Err e) list g = (Err e, refl)
some_form (Ok placed) list g = some_command placed.0 placed.1 list g

-- ---- units

text_reads : (high : Bool) (text : List ℕ) (s : Syntax) → TextGives high text (Ok s) → UnitReads text s
text_reads true text s g = absurd (cc (g))
text_reads false text s (inl (t, u, e)) = let same : t ≡ s = cc (e) in subst (UnitReads text) same u
text_reads false text s (inr (none, e)) = absurd (cc (e))

fault_reads : (fault : Option UnitFault) (text : List ℕ) (s : Syntax) → FaultGives fault text (Ok s) → UnitReads text s
fault_reads (Some e) text s g = absurd (cc (g))
fault_reads None text s (tokens, reads, g) = text_reads (has_high tokens) text s g

some_syntax : (path : List (List ℕ)) (unit : Part) (given : Result Syntax ScpiError) → SyntaxGives unit given → (r : Result Command ScpiError) × SyntaxReads path given r
some_syntax path unit (Err e) s = (Err e, refl)
some_syntax path unit (Ok s) gives =
    let u = fault_reads unit.fault unit.text s gives in
    let h = u.4 in
    let r = some_form (header_reads (words_of path h.0) h.0.asks) s.parameters (listed s.parameters u.1 u.6) in
    (r.0, (h.0, h.1, h.2, r.1))

abbrev pub SomeSyntax : Type 0
SomeSyntax = (unit : Part) → (result : Result Syntax ScpiError) × SyntaxGives unit result

pub some_reading : SomeSyntax → (path : List (List ℕ)) (unit : Part) → (reading : Result Command ScpiError) × Reads path unit reading
some_reading syntax path unit =
    let given = syntax unit in
    let r = some_syntax path unit given.0 given.1 in
    (r.0, (given.0, given.1, r.1))
