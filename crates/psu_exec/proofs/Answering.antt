-- No call of a macro is answered by the text of a response.
use Rattle.std.proofs.Common.{◌≡◌, ℕ, Result, Ok, Err, List}
use Rattle.psu_lex.specs.declared.scpi_error.ScpiError.{ScpiError}
use Rattle.psu_exec.specs.Device.{Answer, answer_call}

pub answer_is_no_call : (text : List ℕ) (given : Result (List ℕ) ScpiError) → Answer text ≡ answer_call given → ⊥
answer_is_no_call text (Ok other) e = cc
answer_is_no_call text (Err error) e = cc
