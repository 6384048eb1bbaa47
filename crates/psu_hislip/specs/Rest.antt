-- The received part of an incomplete message.
use Rattle.std.specs.Prelude.{◌≡◌, ℕ, ◌<◌, ◌≤◌, ⊤, List, [], ◌∷◌, ◌++◌, length, Option, Some, None}
use Rattle.psu_hislip.specs.Header.{header_bytes, Fits}
use Rattle.psu_hislip.specs.Stream.{Received, received}
use Rattle.psu_hislip.specs.Channel.{Awaited, Moves, Fed}
use Rattle.psu_hislip.specs.Channel.Awaited.{Partial, Passing, Ended}
use Rattle.psu_hislip.specs.declared.message.Message.{Message}
use Rattle.psu_hislip.specs.declared.rest.Rest.{Rest}
use Rattle.psu_hislip.specs.declared.rest.Rest.TheVariants as rest

abbrev pub awaited : {A : Type 0} → Rest A → Awaited
awaited (rest.Header head) = Partial head.items
awaited (rest.Payload h payload) = Partial (header_bytes h ++ payload.items)
awaited (rest.Passing n) = Passing n
awaited rest.Ended = Ended

-- no message is complete yet
abbrev pub IsRest : {A : Type 0} → Rest A → Type 0
IsRest (rest.Header head) = length head.items < 16
IsRest (rest.Payload h payload) = Fits h × (length payload.items < h.length) × (h.length ≤ 65536)
IsRest (rest.Passing n) = 0 < n
IsRest rest.Ended = ⊤

-- a payload has begun
abbrev pub IsBegun : {A : Type 0} → Rest A → Type 0
IsBegun (rest.Payload h payload) = ⊤
IsBegun rest = ⊥

abbrev pub given : {A : Type 0} → Option (Message A) → List Received
given None = []
given (Some message) = received message ∷ []

abbrev pub all_received : {A : Type 0} → List (Message A) → List Received
all_received [] = []
all_received (message ∷ messages) = received message ∷ all_received messages

-- a piece appends messages to these, and what the channel awaits changes from old to new
abbrev pub IsCutOf : {A : Type 0} → List (Message A) → Awaited → List ℕ → List (Message A) → Awaited → Type 0
IsCutOf {A} before old piece after new =
    (more : List (Message A)) × (after ≡ before ++ more) × Moves old piece (all_received more) new

-- A channel was fed a piece: what it awaits changed from old to new, and the messages that end in the piece were
-- appended to these.
abbrev pub IsFedBy : {A : Type 0} → Awaited → List ℕ → Awaited → List (Message A) → List (Message A) → Type 0
IsFedBy {A} old piece new before after = (more : List (Message A)) × (after ≡ before ++ more)
    × ((stream : List ℕ) (given : List Received) → Fed old stream given → Fed new (stream ++ piece) (given ++ all_received more))
