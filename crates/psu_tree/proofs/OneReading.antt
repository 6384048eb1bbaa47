-- A unit has at most one result.
use Rattle.std.proofs.Common.{◌≡◌, ℕ, List, [], ◌∷◌, sym, ap, ◌∙◌, subst, Option, Some, Result, Ok, Err, ℤ}
use Rattle.psu_lex.specs.Data.{IsStringOf, IsDatumOf}
use Rattle.psu_lex.specs.Message.{Part}
use Rattle.psu_lex.specs.Number.{Number, IsNumber, number_text, reading_of}
use Rattle.psu_lex.specs.Syntax.{Datum, HeaderParts, IsHeader, Syntax, SyntaxGives, header_text}
use Rattle.psu_lex.specs.declared.data.DatumClass.{DatumClass}
use Rattle.psu_lex.specs.declared.data.DatumClass.TheVariants.{Numeric, Character, String, Block}
use Rattle.psu_lex.specs.declared.scpi_error.ScpiError.{ScpiError}
use Rattle.psu_tree.specs.Commands.{CommandReads, MakesCommand, unit_of, greatest_of}
use Rattle.psu_tree.specs.Parameters.{One, Perhaps, Two, mapped, next, paired, WholeOf, SwitchOf, AmountOf, WordOf, StringOf, BlockOf, TakesWhole, TakesSwitch, TakesAmount, TakesWord, TakesString, TakesBlock, amount_of, counted, flagged, switched, extreme_of, leveled, recalled, at_most, labeled, named}
use Rattle.psu_tree.specs.Path.{words_of}
use Rattle.psu_tree.specs.Reading.{FormReads, SyntaxReads, Reads, header_reads}
use Rattle.psu_tree.specs.declared.text.Choice.{Choice}
use Rattle.psu_tree.specs.declared.text.Choice.TheVariants.{Amount}
use Rattle.psu_tree.specs.declared.command.Command.{Command}
use Rattle.psu_tree.specs.declared.form.Form.{Form}
use Rattle.psu_tree.specs.declared.form.Form.TheVariants as f
use Rattle.psu_settings.specs.declared.output.Output.{Output}

-- the laws of psu_lex
pub record Lawful : Type 0 where
  pub number : (m n : Number) → IsNumber m → IsNumber n → number_text m ≡ number_text n → m ≡ n
  pub string : (text bytes others : List ℕ) → IsStringOf text bytes → IsStringOf text others → bytes ≡ others
  pub block : (text bytes others : List ℕ) → IsDatumOf text bytes → IsDatumOf text others → bytes ≡ others
  pub header : (h other : HeaderParts) → IsHeader h → IsHeader other → header_text h ≡ header_text other → h ≡ other
  pub syntax : (unit : Part) (result other : Result Syntax ScpiError) → SyntaxGives unit result → SyntaxGives unit other → result ≡ other

-- ---- the value of a datum

one_whole : Lawful → (class : DatumClass) (text : List ℕ) (r q : Result ℤ ScpiError) → WholeOf class text r → WholeOf class text q → r ≡ q
one_whole law Numeric text r q (m, h, t, e) (n, k, u, i) = e ∙ ap (λ (z : Number). reading_of z 0) (law.number m n h k (sym t ∙ u)) ∙ sym i
one_whole law Character text r q g h = g ∙ sym h
one_whole law String text r q g h = g ∙ sym h
one_whole law Block text r q g h = g ∙ sym h

one_switch : Lawful → (class : DatumClass) (text : List ℕ) (r q : Result Choice ScpiError) → SwitchOf class text r → SwitchOf class text q → r ≡ q
one_switch law Numeric text r q (m, h, t, e) (n, k, u, i) = e ∙ ap (λ (z : Number). mapped Amount (reading_of z 0)) (law.number m n h k (sym t ∙ u)) ∙ sym i
one_switch law Character text r q g h = g ∙ sym h
one_switch law String text r q g h = g ∙ sym h
one_switch law Block text r q g h = g ∙ sym h

one_amount : Lawful → (unit : ℕ) (class : DatumClass) (text : List ℕ) (r q : Result Choice ScpiError) → AmountOf unit class text r → AmountOf unit class text q → r ≡ q
one_amount law unit Numeric text r q (m, h, t, e) (n, k, u, i) = e ∙ ap (λ (z : Number). mapped Amount (amount_of unit z)) (law.number m n h k (sym t ∙ u)) ∙ sym i
one_amount law unit Character text r q g h = g ∙ sym h
one_amount law unit String text r q g h = g ∙ sym h
one_amount law unit Block text r q g h = g ∙ sym h

one_word : (class : DatumClass) (text : List ℕ) (r q : Result (List ℕ) ScpiError) → WordOf class text r → WordOf class text q → r ≡ q
one_word Numeric text r q g h = g ∙ sym h
one_word Character text r q g h = g ∙ sym h
one_word String text r q g h = g ∙ sym h
one_word Block text r q g h = g ∙ sym h

one_string : Lawful → (class : DatumClass) (text : List ℕ) (r q : Result (List ℕ) ScpiError) → StringOf class text r → StringOf class text q → r ≡ q
one_string law String text r q (a, s, e) (b, t, i) = e ∙ ap (λ (z : List ℕ). Ok z) (law.string text a b s t) ∙ sym i
one_string law Numeric text r q g h = g ∙ sym h
one_string law Character text r q g h = g ∙ sym h
one_string law Block text r q g h = g ∙ sym h

one_block : Lawful → (class : DatumClass) (text : List ℕ) (r q : Result (List ℕ) ScpiError) → BlockOf class text r → BlockOf class text q → r ≡ q
one_block law Block text r q (a, s, e) (b, t, i) = e ∙ ap (λ (z : List ℕ). Ok z) (law.block text a b s t) ∙ sym i
one_block law Numeric text r q g h = g ∙ sym h
one_block law Character text r q g h = g ∙ sym h
one_block law String text r q g h = g ∙ sym h

-- ---- the result of the data of a header

abbrev Same : {A : Type 0} → (Datum → Result A ScpiError → Type 0) → Type 0
Same {A} Takes = (d : Datum) (x y : Result A ScpiError) → Takes d x → Takes d y → x ≡ y

one_of : {A B : Type 0} (Takes : Datum → Result A ScpiError → Type 0) (value : A → Result B ScpiError) → Same Takes → (list : List Datum) (r q : Result B ScpiError) → One Takes value list r → One Takes value list q → r ≡ q
one_of Takes value same [] r q g h = g ∙ sym h
one_of {A} Takes value same (d ∷ []) r q (x, t, e) (y, u, i) = e ∙ ap (λ (z : Result A ScpiError). next z value) (same d x y t u) ∙ sym i
one_of Takes value same (d ∷ other ∷ more) r q g h = g ∙ sym h

perhaps_of : {A B : Type 0} (Takes : Datum → Result A ScpiError → Type 0) (value : A → Result B ScpiError) → Same Takes → (list : List Datum) (r q : Result (Option B) ScpiError) → Perhaps Takes value list r → Perhaps Takes value list q → r ≡ q
perhaps_of Takes value same [] r q g h = g ∙ sym h
perhaps_of {A} Takes value same (d ∷ []) r q (x, t, e) (y, u, i) = e ∙ ap (λ (z : Result A ScpiError). mapped Some (next z value)) (same d x y t u) ∙ sym i
perhaps_of Takes value same (d ∷ other ∷ more) r q g h = g ∙ sym h

two_of : {A B C D : Type 0} (Takes : Datum → Result A ScpiError → Type 0) (value : A → Result C ScpiError) (Follows : Datum → Result B ScpiError → Type 0) (other : B → Result D ScpiError)
    → Same Takes → Same Follows → (list : List Datum) (r q : Result (C × D) ScpiError) → Two Takes value Follows other list r → Two Takes value Follows other list q → r ≡ q
two_of Takes value Follows other same alike [] r q g h = g ∙ sym h
two_of Takes value Follows other same alike (d ∷ []) r q g h = g ∙ sym h
two_of {A} {B} Takes value Follows other same alike (d ∷ k ∷ []) r q (a, b, t, u, e) (x, y, v, w, i) =
    e ∙ ap (λ (z : Result A ScpiError). paired z value b other) (same d a x t v) ∙ ap (λ (z : Result B ScpiError). paired x value z other) (alike k b y u w) ∙ sym i
two_of Takes value Follows other same alike (d ∷ k ∷ l ∷ more) r q g h = g ∙ sym h

makes_of : {A : Type 0} (Gives : Result A ScpiError → Type 0) (make : A → Command) → ((x y : Result A ScpiError) → Gives x → Gives y → x ≡ y) → (r q : Result Command ScpiError) → MakesCommand Gives make r → MakesCommand Gives make q → r ≡ q
makes_of Gives make same r q (x, g, e) (y, h, i) = e ∙ ap (mapped make) (same x y g h) ∙ sym i

wholes : Lawful → Same TakesWhole
wholes law d = one_whole law d.class d.text

switches : Lawful → Same TakesSwitch
switches law d = one_switch law d.class d.text

amounts : Lawful → (unit : ℕ) → Same (TakesAmount unit)
amounts law unit d = one_amount law unit d.class d.text

words : Same TakesWord
words d = one_word d.class d.text

strings : Lawful → Same TakesString
strings law d = one_string law d.class d.text

blocks : Lawful → Same TakesBlock
blocks law d = one_block law d.class d.text

one_command : Lawful → (form : Form) (output : Output) (list : List Datum) (r q : Result Command ScpiError) → CommandReads form output list r → CommandReads form output list q → r ≡ q
one_command law (f.Action action) output list r q g h = g ∙ sym h
one_command law (f.Query query) output list r q g h = g ∙ sym h
one_command law (f.OutputQuery query) output list r q g h = g ∙ sym h
one_command law f.ClearTrip output list r q g h = g ∙ sym h
one_command law (f.Enable which) output list r q g h = makes_of _ _ (one_of TakesWhole (counted 0 255) (wholes law) list) r q g h
one_command law (f.Flag which) output list r q g h = makes_of _ _ (one_of TakesWhole flagged (wholes law) list) r q g h
one_command law (f.Filter group which) output list r q g h = makes_of _ _ (one_of TakesWhole (counted 0 65535) (wholes law) list) r q g h
one_command law (f.Register what) output list r q g h = makes_of _ _ (one_of TakesWhole (counted 0 99) (wholes law) list) r q g h
one_command law f.Load output list r q g h = makes_of _ _ (one_of TakesWhole (counted 1 10000000) (wholes law) list) r q g h
one_command law (f.Level which) output list r q g h = makes_of _ _ (one_of (TakesAmount (unit_of which)) (leveled (greatest_of which)) (amounts law (unit_of which)) list) r q g h
one_command law (f.LevelQuery which) output list r q g h = makes_of _ _ (perhaps_of TakesWord extreme_of words list) r q g h
one_command law (f.Switch which) output list r q g h = makes_of _ _ (one_of TakesSwitch switched (switches law) list) r q g h
one_command law f.Protect output list r q g h = makes_of _ _ (one_of TakesSwitch switched (switches law) list) r q g h
one_command law f.PowerOn output list r q g h = makes_of _ _ (one_of TakesWord recalled words list) r q g h
one_command law f.UserData output list r q g h = makes_of _ _ (one_of TakesBlock (at_most 63) (blocks law) list) r q g h
one_command law f.Define output list r q g h = makes_of _ _ (two_of TakesString labeled TakesBlock (λ body. Ok body) (strings law) (blocks law) list) r q g h
one_command law (f.Macro what) output list r q g h = makes_of _ _ (one_of TakesString labeled (strings law) list) r q g h
one_command law f.Contents output list r q g h = makes_of _ _ (two_of TakesString named TakesBlock (at_most 32768) (strings law) (blocks law) list) r q g h
one_command law (f.File what) output list r q g h = makes_of _ _ (one_of TakesString named (strings law) list) r q g h
one_command law (f.Names what) output list r q g h = makes_of _ _ (two_of TakesString named TakesString named (strings law) (strings law) list) r q g h
one_command law (f.StateFile what) output list r q g h = makes_of _ _ (two_of TakesWhole (counted 0 99) TakesString named (wholes law) (strings law) list) r q g h
one_command law (f.MacroFile what) output list r q g h = makes_of _ _ (two_of TakesString labeled TakesString named (strings law) (strings law) list) r q g h

one_form : Lawful → (placed : Result (Form × Output) ScpiError) (list : List Datum) (r q : Result Command ScpiError) → FormReads placed list r → FormReads placed list q → r ≡ q
one_form law (Err e) list r q g h = g ∙ sym h
one_form law (Ok placed) list r q g h = one_command law placed.0 placed.1 list r q g h

one_syntax : Lawful → (path : List (List ℕ)) (given : Result Syntax ScpiError) (r q : Result Command ScpiError) → SyntaxReads path given r → SyntaxReads path given q → r ≡ q
one_syntax law path (Err e) r q g h = g ∙ sym h
one_syntax law path (Ok s) r q (h, is, e, g) (k, js, i, l) =
    let same : k ≡ h = law.header k h js is (sym i ∙ e) in
    one_form law (header_reads (words_of path h) h.asks) s.parameters r q g (subst (λ (z : HeaderParts). FormReads (header_reads (words_of path z) z.asks) s.parameters q) same l)

pub one_reading : Lawful → (path : List (List ℕ)) (unit : Part) (r q : Result Command ScpiError) → Reads path unit r → Reads path unit q → r ≡ q
one_reading law path unit r q (x, s, g) (y, t, h) =
    one_syntax law path x r q g (subst (λ (z : Result Syntax ScpiError). SyntaxReads path z q) (law.syntax unit y x t s) h)
