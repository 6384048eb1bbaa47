-- The progress after a step.
use Rattle.std.specs.Prelude.{◌≡◌, ◌⊎◌, ◌+◌, Bool, true, false, Option, Some, None, List, ℕ}
use Rattle.psu_tree.specs.declared.command.Request.{Request}
use Rattle.psu_replies.specs.Reply.{Reply}
use Rattle.psu_messages.specs.ResponseBuffer.{Text}
use Rattle.psu_messages.specs.Executions.{Progress, text_after}
use Rattle.psu_messages.specs.Relations.{Relations}
use Rattle.psu_messages.specs.declared.need.Need.{Need}
use Rattle.psu_messages.specs.declared.need.Need.TheVariants.{Flush}

-- this number of units is done, and no expansion replaces the next one
abbrev pub plain : ℕ → Bool → Text → Progress
plain units parked text = record { standing = record { units = units; inside = None; parked = parked }; expansion = None; text = text }

-- this number of units is done, and this number of the expansion that replaces the next one
abbrev pub within : ℕ → List ℕ → ℕ → Bool → Text → Progress
within units body done parked text = record { standing = record { units = units; inside = Some done; parked = parked }; expansion = Some body; text = text }

-- a unit that waits for a flush was accepted
abbrev pub parked_by : Need → Bool → Bool
parked_by Flush parked = true
parked_by need parked = parked

-- the number of units that are done after a step, in which a unit waits or one more is done
abbrev pub done_by : Option Need → ℕ → ℕ
done_by None done = done + 1
done_by (Some need) done = done

-- the progress after an expansion was executed: it waits, or it is done and with it the unit that it replaced
abbrev pub expanded_by : Option Need → ℕ → List ℕ → ℕ → Bool → Text → Progress
expanded_by None units body done parked text = plain (units + 1) parked text
expanded_by (Some need) units body done parked text = within units body done parked text

-- a unit that was not accepted yet was executed, but not to its end; or the settle of one that was accepted was not
-- completed
abbrev pub IsBrokenOff : {X S : Type 0} → Relations X S → X → Bool → Request → S → X → Type 0
IsBrokenOff r at parked request stop now = ((parked ≡ false) × r.fails at request stop now) ⊎ ((parked ≡ true) × r.stops at stop now)

-- after a stop, the response is in the response buffer, or is not since an allocation failed
abbrev pub IsLeft : Text → Reply → Text → Type 0
IsLeft text reply left = (left ≡ text) ⊎ ((left ≡ text_after text reply) × (left.answered ≡ true))
