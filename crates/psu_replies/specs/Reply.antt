-- The reply to a unit of a message. Source: IEEE 488.2, 6 (a unit is done, answered or refused); the others are this
-- project's profile.
use Rattle.std.specs.Prelude.{ℕ, List}
use Rattle.psu_lex.specs.declared.scpi_error.ScpiError.{ScpiError}
use Rattle.psu_replies.specs.declared.outcome.Outcome.{Outcome}
use Rattle.psu_replies.specs.declared.outcome.Outcome.TheVariants as outcome

-- The reply to a unit or a settle. The text of a response has no terminator; that of an expansion is to be executed
-- in the unit's place.
pub data Reply : Type 0 where
  Done : Reply
  Answer : (text : List ℕ) → Reply
  Error : (error : ScpiError) → Reply
  Expand : (text : List ℕ) → Reply
  Parked : Reply
  Held : Reply
  Later : Reply

-- an outcome with the bytes of its response
abbrev pub outcome_of : {A : Type 0} → Outcome A → Reply
outcome_of outcome.Done = Reply.Done
outcome_of (outcome.Answer text) = Reply.Answer text
outcome_of (outcome.Error e) = Reply.Error e
outcome_of (outcome.Expand text) = Reply.Expand text
outcome_of outcome.Parked = Reply.Parked
outcome_of outcome.Held = Reply.Held
outcome_of outcome.Later = Reply.Later
