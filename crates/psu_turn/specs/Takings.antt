-- The object while a call has it.
use Rattle.std.specs.Prelude.{Option}
use Rattle.psu_turn.specs.declared.taken.Taken.{Taken}
use Rattle.psu_turn.specs.Seats.{Sight}
use Rattle.psu_turn.specs.Sights.{sight, state_out}

module _ {T S E : Type 0} where
  -- the seat that took it
  abbrev pub seat_of : Taken T S E → Sight S E
  seat_of taken = sight taken.place.table_id taken.place.me.0

  -- the state in which it was taken
  abbrev pub state_of : Taken T S E → Option S
  state_of taken = state_out taken.place.me.0.stage
