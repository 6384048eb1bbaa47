-- The position of a transmission, and how its next unit changes it.
use Rattle.std.specs.Prelude.{ℕ, ◌+◌, Bool, true, false, Option, Some, None}

-- How many of its units are done; how many of the expansion that replaces the next one, if there is one; whether the
-- next one was accepted and waits.
pub record Standing : Type 0 where
  pub units : ℕ
  pub inside : Option ℕ
  pub parked : Bool

abbrev pub start : Standing
start = record { units = 0; inside = None; parked = false }

-- the next unit is done, which is one of the expansion if there is one
abbrev pub passed : Standing → Standing
passed s = next s s.inside where
  next : Standing → Option ℕ → Standing
  next s None = record { units = s.units + 1; inside = None; parked = false }
  next s (Some n) = record { units = s.units; inside = Some (n + 1); parked = false }

-- an expansion replaces the next unit; inside one there is no other
abbrev pub expanded : Standing → Standing
expanded s = next s s.inside where
  next : Standing → Option ℕ → Standing
  next s None = record { units = s.units; inside = Some 0; parked = false }
  next s (Some n) = record { units = s.units; inside = Some (n + 1); parked = false }

-- the next unit was accepted, and waits
abbrev pub accepted : Standing → Standing
accepted s = record { units = s.units; inside = s.inside; parked = true }

-- the expansion is done, and with it the unit that it replaced
abbrev pub left : Standing → Standing
left s = record { units = s.units + 1; inside = None; parked = false }
