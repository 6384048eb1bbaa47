-- The disk that is returned where one of two maps is searched for.
use Rattle.std.specs.Prelude.{Result, Ok, Err}
use Rattle.psu_items.specs.Standing.{MapOn}
use Rattle.psu_items.specs.declared.broken.Unfound.{Unfound}

-- the disk of the store found, or the one returned with the cause
abbrev pub recovered_disk : {D : Type 0} → Result (MapOn D) (Unfound D) → D
recovered_disk (Ok store) = store.disk
recovered_disk (Err e) = e.disk
