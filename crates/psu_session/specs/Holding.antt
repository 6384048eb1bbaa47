-- How much a session holds, and when a reader waits before it reads more.
use Rattle.std.specs.Prelude.{◌⊎◌, ◌<◌, ◌≤◌, length}
use Rattle.psu_hislip.specs.declared.side.Side.{Side}
use Rattle.psu_hislip.specs.declared.side.Side.TheVariants.{Sync, Async}
use Rattle.psu_session.specs.State.{SessionState}

-- The session holds more than a mebibyte of what was received on a connection, or more than 65,536 bytes are to be sent
-- there. What is received on the asynchronous connection and held is releases.
abbrev pub IsFull : Side → SessionState → Type 0
IsFull Sync s = (1048576 < s.held) ⊎ (65536 < length s.sync)
IsFull Async s = (1048576 < s.owed) ⊎ (65536 < length s.async)

-- what is held counts as at most four mebibytes, and so do the releases
abbrev pub IsBounded : SessionState → Type 0
IsBounded s = (s.held ≤ 4194304) × (s.owed ≤ 4194304)
