-- What a run writes where nothing goes wrong, defined by the device's step and the one reading of each message.
use Rattle.std.specs.Prelude.{◌≡◌, ℕ, ◌==◌, Option, Some, None, List, [], ◌∷◌, ◌++◌, true, Result, if◌then◌else◌}
use Rattle.psu_lex.specs.Syntax.{Datum}
use Rattle.psu_lex.specs.declared.scpi_error.ScpiError.{ScpiError}
use Rattle.psu_nv.specs.Contents.{Contents}
use Rattle.psu_tree.specs.declared.command.Request.{Request}
use Rattle.psu_instrument.specs.Macros.{ExpandsAt, HoldsParameters, written}
use Rattle.psu_exec.specs.Device.{Reply, Expand, Parked, State, after_unit, answer_call, answer_meant, called, here, is_later, meant, power_on, wait_of}
use Rattle.psu_exec.specs.Calls.{job_out, with_stored, with_flush, settle_answer, after_settle, opened}
use Rattle.psu_messages.specs.Answers.{answer_in}
use Rattle.psu_messages.specs.Response.{response}
use Rattle.psu_run.specs.Lines.{AreAsked, AskedBy, Message, messages}

-- a point of a script: the device, the contents that its store holds, and the answers of the line so far
pub record Point : Type 0 where
  pub state : State
  pub stored : Contents
  pub answers : List (List ℕ)

-- after power-on, with its one session, 1, open
abbrev pub at_start : ℕ → Contents → Point
at_start limit contents = record { state = opened (power_on limit contents) (Some 1); stored = contents; answers = [] }

-- after a flush: a job for the unflushed changes is given back as stored; without such changes there is no job
abbrev pub flushed : Point → Point
flushed p = if p.state.flush.unflushed == 0 then p else record p { state = with_stored (with_flush p.state (job_out p.state.flush)); stored = p.state.flush.contents }

-- the reply where no memory is refused: a call of a macro is answered by its expansion, or by the error in its place
abbrev pub Replies : State → Request → Option (List ℕ) → Reply → Type 0
Replies s request (Some body) reply =
    (parameters : List Datum) × (given : Result (List ℕ) ScpiError)
    × HoldsParameters request.call parameters × ExpandsAt request.inside body (written parameters) given × (reply ≡ answer_call given)
Replies s request None reply = reply ≡ answer_meant s.flush (meant (here s 1) request.reading)

-- after a unit, or the end of a wait, with this reply
abbrev pub replied : Point → Reply → State → Point
replied p reply s = record p { state = s; answers = p.answers ++ answer_in reply }

-- the end of a wait: its reply, and the point after it
abbrev pub waited : Point → Reply × Point
waited p = let reply = settle_answer (wait_of p.state.flush 1) in (reply, replied p reply (after_settle p.state 1 reply))

-- the final reply to a unit with this reply, and the point after it; a parked unit waits for a flush
abbrev pub finished : Point → Request → Reply → Reply × Point
finished p request Parked = waited (flushed (replied p Parked (after_unit p.state 1 request Parked)))
finished p request reply = (reply, replied p reply (after_unit p.state 1 request reply))

-- a unit leads to this final reply and this point; where it is too early, it is executed after a flush
abbrev pub HasOutcome : Point → Request → Reply → Point → Type 0
HasOutcome p request reply new =
    let now : Point = if is_later p.state 1 request then flushed p else p in
    (first : Reply) × Replies now.state request (called now.state request) first × (finished now request first ≡ (reply, new))

-- the units of an expansion lead to this point
abbrev pub ExecutesInside : Point → List Request → Point → Type 0
ExecutesInside p [] new = new ≡ p
ExecutesInside p (request ∷ more) new = (reply : Reply) × (mid : Point) × HasOutcome p request reply mid × ExecutesInside mid more new

-- a unit with this reply: an expansion is executed in its place
abbrev pub ExecutesReply : Point → Reply → Point → Type 0
ExecutesReply p (Expand bytes) new = (requests : List Request) × AreAsked true bytes requests × ExecutesInside p requests new
ExecutesReply p reply new = new ≡ p

-- the units of a line lead to this point
abbrev pub Executes : Point → List Request → Point → Type 0
Executes p [] new = new ≡ p
Executes p (request ∷ more) new =
    (reply : Reply) × (mid : Point) × (next : Point) × HasOutcome p request reply mid × ExecutesReply mid reply next × Executes next more new

-- the text of messages, one after another; a power loss outputs nothing, and the stored contents are there after it
abbrev pub Scripted : Point → List Message → List ℕ → Type 0
Scripted p [] text = text ≡ []
Scripted p (Message.Power ∷ ms) text = Scripted (at_start p.state.flush.limit p.stored) ms text
Scripted p (Message.Line source ∷ ms) text = (requests : List Request) × (end : Point) × (more : List ℕ)
    × AskedBy source requests × Executes (record p { answers = [] }) requests end × Scripted end ms more × (text ≡ response end.answers ++ more)

-- the text that is written for the bytes of an input, on an image of this limit that holds these contents: there is one
abbrev pub IsScript : Contents → ℕ → List ℕ → List ℕ → Type 0
IsScript contents limit bytes text = Scripted (at_start limit contents) (messages bytes) text
