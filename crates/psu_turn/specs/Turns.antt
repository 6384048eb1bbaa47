-- The identity of a turn.
use Rattle.std.specs.Coded.{Coded}
use Rattle.atomic_table.specs.Seated.{TableId, table_id_coded}

-- the identity, which no other turn shares
abbrev pub TurnId : Type 0
TurnId = TableId

abbrev pub turn_id_coded : Coded TurnId
turn_id_coded = table_id_coded
