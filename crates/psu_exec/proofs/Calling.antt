-- Calls of macros.
use Rattle.std.proofs.Common.{◌≡◌, ℕ, Option, Some, None, Result, List, refl}
use Rattle.psu_lex.specs.Syntax.{Datum}
use Rattle.psu_lex.specs.declared.scpi_error.ScpiError.{ScpiError}
use Rattle.psu_tree.specs.declared.command.Request.{Request}
use Rattle.psu_instrument.specs.Macros.{HoldsParameters, UnitGives, written}
use Rattle.psu_exec.specs.Device.{Reply, State, AnswersCall, answer_call, called}

-- an expansion or error of a unit's call is a reply to it
pub calls : (s : State) (request : Request) (body : Option (List ℕ)) (given : Result (List ℕ) ScpiError) (reply : Reply) → called s request ≡ body → (body ≡ None → ⊥) → reply ≡ answer_call given
    → ((list : List Datum) → HoldsParameters request.call list → UnitGives body request.inside (written list) (Some given)) → (x : List ℕ) × (called s request ≡ Some x) × AnswersCall request x reply
calls s request None given reply e some is gives = absurd (some refl)
calls s request (Some body) given reply e some is gives = (body, e, record { given = given; is = is; gives = gives })
