-- How much a session holds of what it has received and not executed.
use Rattle.std.specs.Prelude.{ℕ, ◌+◌, List, [], ◌∷◌}
use Rattle.psu_messages.specs.Units.{size_of}
use Rattle.psu_session.specs.Orders.{Order}

-- an item counts as its bytes and 128, so that items without bytes are bounded too
abbrev pub cost : ℕ → ℕ
cost bytes = bytes + 128

-- what a transmission counts as
abbrev pub cost_of : Order → ℕ
cost_of order = cost (size_of order.source)

-- what is held once these transmissions are held too
abbrev pub held_with : List Order → ℕ → ℕ
held_with [] held = held
held_with (order ∷ orders) held = held_with orders (held + cost_of order)
