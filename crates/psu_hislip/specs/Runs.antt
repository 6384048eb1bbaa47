-- Runs of a session: the messages of both channels in the order in which the session received them, and their actions.
use Rattle.std.specs.Prelude.{◌≡◌, ℕ, ◌==◌, Bool, true, false, if◌then◌else◌, Option, Some, None, List, [], ◌∷◌, ◌++◌, slice_index_or, filter, flat_map, replicate, length}
use Rattle.std.specs.List.{list_any}
use Rattle.psu_hislip.specs.MessageType.{code_of, type_of}
use Rattle.psu_hislip.specs.Stream.{Received}
use Rattle.psu_hislip.specs.Stream.Received.{Frame, Oversize, BadHeader}
use Rattle.psu_hislip.specs.Action.{Act}
use Rattle.psu_hislip.specs.Core.{Core, Outcome, outcome_of, error}
use Rattle.psu_hislip.specs.declared.side.Side.{Side}
use Rattle.psu_hislip.specs.declared.side.DeviceClear.TheVariants.{Idle}
use Rattle.psu_hislip.specs.declared.codes.ErrorCode.{ErrorCode}
use Rattle.psu_hislip.specs.declared.action.Origin.{Origin}
use Rattle.psu_hislip.specs.declared.side.Side.TheVariants.{Sync, Async}
use Rattle.psu_hislip.specs.declared.message_type.MessageType.{MessageType}
use Rattle.psu_hislip.specs.declared.message_type.MessageType.TheVariants.{FatalError, Error, Data, DataEnd, Trigger, AsyncLock, AsyncLockResponse, DeviceClearComplete, DeviceClearAcknowledge, AsyncRemoteLocalControl, AsyncRemoteLocalResponse, AsyncMaximumMessageSize, AsyncMaximumMessageSizeResponse, AsyncInitialize, AsyncInitializeResponse, AsyncDeviceClear, AsyncStatusQuery, AsyncStatusResponse, AsyncDeviceClearAcknowledge, AsyncLockInfo, AsyncLockInfoResponse}

-- a message and the channel on which it was received
pub record Arrival : Type 0 where
  pub side : Side
  pub message : Received

abbrev pub outcome : Core → Arrival → Outcome
outcome core t = outcome_of core t.side t.message

-- the actions of a run, and the core after it
abbrev pub actions_of : Core → List Arrival → List Act
actions_of core [] = []
actions_of core (t ∷ ts) = (outcome core t).actions ++ actions_of (outcome core t).core ts

abbrev pub core_after : Core → List Arrival → Core
core_after core [] = core
core_after core (t ∷ ts) = core_after (outcome core t).core ts

-- # Messages by their types

abbrev pub received_type : Received → Option MessageType
received_type (Frame h payload) = type_of h.kind
received_type (Oversize h) = None
received_type BadHeader = None

-- AsyncDeviceClear begins a device clear
abbrev pub is_clear : Side → Option MessageType → Bool
is_clear Async (Some AsyncDeviceClear) = true
is_clear side type = false

abbrev pub begins_clear : Arrival → Bool
begins_clear t = is_clear t.side (received_type t.message)

-- DeviceClearComplete completes a device clear
abbrev pub is_complete : Side → Option MessageType → Bool
is_complete Sync (Some DeviceClearComplete) = true
is_complete side type = false

abbrev pub completes_clear : Arrival → Bool
completes_clear t = is_complete t.side (received_type t.message)

-- Data, DataEnd and Trigger
abbrev pub is_input : Side → Option MessageType → Bool
is_input Sync (Some Data) = true
is_input Sync (Some DataEnd) = true
is_input Sync (Some Trigger) = true
is_input side type = false

abbrev pub brings_input : Arrival → Bool
brings_input t = is_input t.side (received_type t.message)

-- a run has a DeviceClearComplete, and no Data, DataEnd or Trigger after its last one
abbrev pub EndsComplete : List Arrival → Type 0
EndsComplete run =
    (earlier : List Arrival) × (complete : Arrival) × (since : List Arrival) × (run ≡ earlier ++ complete ∷ since) × (completes_clear complete ≡ true)
    × (list_any brings_input since ≡ false)

-- # What is executed

abbrev pub is_execution : Act → Bool
is_execution (Act.Execute origin bytes) = true
is_execution (Act.TooMuch origin) = true
is_execution (Act.Trigger origin) = true
is_execution action = false

abbrev pub executions : List Act → List Act
executions actions = filter is_execution actions

-- # Closed sessions

-- each message gives Closed alone
abbrev pub AreClosed : Core → List Arrival → Type 0
AreClosed core ts = actions_of core ts ≡ replicate (length ts) Act.Closed

-- # Responses

-- a message of the server: its channel and the code of its type
pub record Answer : Type 0 where
  pub side : Side
  pub type : ℕ

abbrev pub answer_on : Side → MessageType → List Answer
answer_on side type = record { side = side; type = code_of type } ∷ []

-- the third byte of a message is its type, and Error does not count as a response
abbrev pub answer_sent : Side → List ℕ → List Answer
answer_sent side bytes = if slice_index_or bytes 2 0 == code_of Error then [] else record { side = side; type = slice_index_or bytes 2 0 } ∷ []

-- the response that an action sends, or asks the caller for
abbrev pub answer_of : Act → List Answer
answer_of (Act.Send side bytes) = answer_sent side bytes
answer_of (Act.Status delivered) = answer_on Async AsyncStatusResponse
answer_of (Act.Lock timeout string) = answer_on Async AsyncLockResponse
answer_of Act.Release = answer_on Async AsyncLockResponse
answer_of Act.Info = answer_on Async AsyncLockInfoResponse
answer_of action = []

abbrev pub answers : List Act → List Answer
answers actions = flat_map answer_of actions

-- a FatalError is among the responses
abbrev pub sends_fatal_error : List Act → Bool
sends_fatal_error actions = list_any (λ answer. answer.type == code_of FatalError) (answers actions)

-- the response that a type of the client's messages has, if it has one
abbrev pub due : Side → Option MessageType → List Answer
due Sync (Some DeviceClearComplete) = answer_on Sync DeviceClearAcknowledge
due Async (Some AsyncInitialize) = answer_on Async AsyncInitializeResponse
due Async (Some AsyncLock) = answer_on Async AsyncLockResponse
due Async (Some AsyncLockInfo) = answer_on Async AsyncLockInfoResponse
due Async (Some AsyncRemoteLocalControl) = answer_on Async AsyncRemoteLocalResponse
due Async (Some AsyncMaximumMessageSize) = answer_on Async AsyncMaximumMessageSizeResponse
due Async (Some AsyncDeviceClear) = answer_on Async AsyncDeviceClearAcknowledge
due Async (Some AsyncStatusQuery) = answer_on Async AsyncStatusResponse
due side type = []

-- a message with an error has no response
abbrev pub unless_faulty : Option ErrorCode → List Answer → List Answer
unless_faulty None answers = answers
unless_faulty (Some code) answers = []

abbrev pub answers_due : Arrival → List Answer
answers_due t = unless_faulty (error t.side t.message) (due t.side (received_type t.message))

-- # Origins

abbrev pub origin_of : Act → List Origin
origin_of (Act.Execute origin bytes) = origin ∷ []
origin_of (Act.TooMuch origin) = origin ∷ []
origin_of (Act.Trigger origin) = origin ∷ []
origin_of action = []

abbrev pub origins : List Act → List Origin
origins actions = flat_map origin_of actions

abbrev pub clears_in : List Arrival → ℕ
clears_in ts = length (filter begins_clear ts)

-- a session of which only the synchronous channel is established
abbrev pub started : ℕ → Core
started session = record { session = session; joined = false; failed = false; size = None; transmission = Some []; clear = Idle; clears = 0 }
