-- A channel: the stream that it was fed, the messages that it has returned, and what it waits for.
use Rattle.std.specs.Prelude.{◌≡◌, ◌⊎◌, ℕ, ◌<◌, List, [], ◌++◌, length}
use Rattle.psu_hislip.specs.Stream.{Received, IsStream}

-- What a channel waits for after the messages that it has returned: the rest of a message that has begun with these
-- bytes, so many more bytes of an oversize frame, or nothing any more.
pub data Awaited : Type 0 where
  Partial : List ℕ → Awaited
  Passing : ℕ → Awaited
  Ended : Awaited

-- what is awaited, followed by more bytes, is cut into these messages
abbrev pub Follows : Awaited → List ℕ → List Received → Type 0
Follows (Partial bytes) more messages = IsStream (bytes ++ more) messages
Follows (Passing n) more messages =
    ((length more < n) × (messages ≡ []))
    ⊎ ((passed : List ℕ) × (rest : List ℕ) × (more ≡ passed ++ rest) × (length passed ≡ n) × IsStream rest messages)
Follows Ended more messages = messages ≡ []

-- on these bytes a channel returns these messages, and what it awaits changes from old to new
abbrev pub Moves : Awaited → List ℕ → List Received → Awaited → Type 0
Moves old bytes messages new =
    (more : List ℕ) (later : List Received) → Follows new more later → Follows old (bytes ++ more) (messages ++ later)

-- The channel was fed this stream and has returned these messages: they are the messages of the stream, and what the
-- channel returns for further bytes is what the stream continues with.
abbrev pub Fed : Awaited → List ℕ → List Received → Type 0
Fed channel stream given = IsStream stream given × Moves (Partial []) stream given channel
