-- A unit's result, from the parts of its syntax.
use Rattle.std.proofs.Common.{◌≡◌, ℕ, ◌<◌, Bool, true, false, List, length, refl, sym, subst, Option, Result, Ok, Err}
use Rattle.std.specs.Prelude.{MatchBool}
use Rattle.psu_lex.specs.Message.{Part}
use Rattle.psu_lex.specs.Shown.{Shows, ShowsSyntax}
use Rattle.psu_lex.specs.Syntax.{Datum, Syntax, SyntaxGives}
use Rattle.psu_lex.specs.declared.scpi_error.ScpiError.{ScpiError}
use Rattle.psu_lex.specs.declared.scpi_error.ScpiError.TheVariants.{UndefinedHeader}
use Rattle.psu_lex.specs.declared.unit.Syntax as rust
use Rattle.psu_tree.specs.Reading.{CallsMacro, FormReads, SyntaxCalls, header_reads, output_of, placed, suffix_of}
use Rattle.psu_tree.specs.declared.form.Form.{Form}
use Rattle.psu_tree.specs.declared.command.MacroCall.{MacroCall}
use Rattle.psu_tree.proofs.TableSize.{none_found}

-- a header with too many nodes is undefined
pub undefined : (words : List (List ℕ)) (asks whole : Bool) (P : Type 0) (list : List Datum) → MatchBool whole P (5 < length words) → whole ≡ false → FormReads (header_reads words asks) list (Err UndefinedHeader)
undefined words asks true P list m f = absurd (cc (f))
undefined words asks false P list m f =
    subst (λ (z : Option Form). FormReads (placed z (output_of (suffix_of words))) list (Err UndefinedHeader)) (sym (none_found words asks m)) refl

pub called : (unit : Part) (shown : rust.Syntax) (given : Result Syntax ScpiError) (call : Option MacroCall) → SyntaxGives unit given → Shows (Ok shown) given → ((s : Syntax) → ShowsSyntax shown s → SyntaxCalls (Ok s) call) → CallsMacro unit call
called unit shown (Ok s) call gives shows calls = (Ok s, gives, calls s shows)
called unit shown (Err e) call gives shows calls = absurd shows
