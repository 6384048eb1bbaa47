-- The code's values as the definitions name them.
use Rattle.std.specs.Prelude.{◌≡◌, ◌≢◌, Bool, false, Option, Some, None, is_some, List, ℕ}
use Rattle.psu_tree.specs.declared.command.Request.{Request}
use Rattle.psu_replies.specs.Reply.{outcome_of}
use Rattle.psu_messages.specs.Effects.{Effect, needs}
use Rattle.psu_messages.specs.Executions.{Trial}
use Rattle.psu_messages.specs.Relations.{Relations}
use Rattle.psu_messages.specs.Stepping.{parked_by}
use Rattle.psu_messages.specs.Units.{Source}
use Rattle.psu_messages.specs.declared.tried.Tried.{Tried}
use Rattle.psu_messages.specs.declared.tried.Tried.TheVariants as tried
use Rattle.psu_messages.specs.declared.tries.Attempt.{Attempt}
use Rattle.psu_messages.specs.declared.tries.Attempt.TheVariants as attempt
use Rattle.psu_replies.specs.Reply.{Reply, Parked}
use Rattle.psu_messages.specs.ResponseBuffer.{Text}
use Rattle.psu_messages.specs.Standing.{Standing}
use Rattle.psu_messages.specs.Executions as executions
use Rattle.psu_messages.specs.declared.progress.Progress.{Progress}
use Rattle.psu_messages.specs.declared.expansion.Expansion.{Expansion}

abbrev pub progress : Standing → Option (List ℕ) → Text → executions.Progress
progress standing expansion text = record { standing = standing; expansion = expansion; text = text }

-- how many units of the expansion are done, if one replaces the next unit
abbrev pub inside_of : {A : Type 0} → Option (Expansion A) → Option ℕ
inside_of None = None
inside_of (Some expansion) = Some expansion.done

abbrev pub body_of : {A : Type 0} → Option (Expansion A) → Option (List ℕ)
body_of None = None
body_of (Some expansion) = Some expansion.body

abbrev pub progress_of : {A W : Type 0} → Progress A W → executions.Progress
progress_of c = progress (record { units = c.units; inside = inside_of c.expansion; parked = is_some c.parked }) (body_of c.expansion) c.gathered

-- the reply to a try
abbrev pub reply_of : {A W : Type 0} → Tried A W → Reply
reply_of (tried.Parked wait) = Parked
reply_of (tried.Replied o) = outcome_of o

-- a unit that waits is replied with what settles its wait
abbrev pub HasItsWait : {A W : Type 0} → Tried A W → Type 0
HasItsWait (tried.Parked wait) = Unit {0}
HasItsWait (tried.Replied o) = outcome_of o ≢ Parked

-- a unit was tried once, and has ended or waits
abbrev pub IsTried : {A X : Type 0} → (X → Effect → X → Type 0) → X → Bool → Request → X → Bool → Attempt A → Type 0
IsTried does at parked request now new (attempt.Ended o) = Trial does at parked request now (outcome_of o) × (needs (outcome_of o) ≡ None) × (new ≡ false)
IsTried does at parked request now new (attempt.Waits need) = (reply : Reply) × Trial does at parked request now reply × (needs reply ≡ Some need) × (new ≡ parked_by need parked)

-- an execution of the source has led from this progress of it to that
abbrev pub ProgressAdvances : {A W X S : Type 0} → Relations X S → Source → X → Progress A W → X → Progress A W → Type 0
ProgressAdvances r source at old now new = executions.Advances r.does source at (progress_of old) now (progress_of new)

-- an execution of the source has stopped so after this progress of it; the responses that it has not sent are those of
-- the later progress
abbrev pub ProgressStops : {A W X S : Type 0} → Relations X S → Source → X → Progress A W → S → X → Progress A W → Type 0
ProgressStops r source at old stop now new = executions.StopsAt r source at (progress_of old) stop now new.gathered
