-- A transmission in execution, as contracts see it.
use Rattle.std.specs.Prelude.{ℕ, ◌≤◌, false}
use Rattle.psu_messages.specs.Executions as executions
use Rattle.psu_messages.specs.Places.{IsSavedPlace}
use Rattle.psu_messages.specs.Units.{Source, Text, Fault}
use Rattle.psu_messages.specs.declared.cursor.SavedPlace.{SavedPlace}

-- what is executed, and how far it is
pub record Shown : Type 0 where
  pub source : Source
  pub progress : executions.Progress

-- a place of the text is kept, before which there are at most as many units as are done
abbrev pub IsPlaced : {A : Type 0} → Source → SavedPlace A → ℕ → Type 0
IsPlaced (Text bytes) place units = IsSavedPlace false bytes place × (place.read ≤ units)
IsPlaced (Fault error) place units = Unit {0}
