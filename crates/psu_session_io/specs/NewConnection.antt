-- What a read makes of a connection that has not sent its first message.
use Rattle.std.specs.Prelude.{◌≡◌, ℕ, List, ◌++◌, ⊤}
use Rattle.psu_hislip.specs.declared.first.First.TheVariants as request
use Rattle.psu_session_io.specs.Opening.{IsFirst}
use Rattle.psu_session_io.specs.declared.new_connection.FirstRead.{FirstRead}
use Rattle.psu_session_io.specs.declared.new_connection.FirstRead.TheVariants.{Awaited, Start, Join, Ended}

-- The connection has these bytes, and no others. Its first message requests what it is.
abbrev pub IsMadeOf : List ℕ → FirstRead → Type 0
IsMadeOf bytes (Awaited connection) = connection ≡ bytes
IsMadeOf bytes (Start connection) = IsFirst request.Start connection.message × (connection.message ++ connection.after ≡ bytes)
IsMadeOf bytes (Join number connection) = IsFirst (request.Join number) connection.message × (connection.message ++ connection.after ≡ bytes)
IsMadeOf bytes Ended = ⊤

-- It keeps the bytes that were read before, followed by those of this read.
abbrev pub HasFirst : List ℕ → FirstRead → Type 0
HasFirst before made = (read : List ℕ) × IsMadeOf (before ++ read) made

-- the first message of what it has become requests that
abbrev pub IsRequested : FirstRead → Type 0
IsRequested (Start connection) = IsFirst request.Start connection.message
IsRequested (Join number connection) = IsFirst (request.Join number) connection.message
IsRequested other = ⊤
