-- The core of a session: the actions of each message, and the core after it. Source: IVI-6.1; what it leaves open is
-- this project's profile.
use Rattle.std.specs.Prelude.{◌≡◌, ℕ, ◌+◌, ◌^◌, ◌%◌, ◌==◌, ◌&&◌, ◌||◌, not, nat_lt, nat_le, Bool, true, false, if◌then◌else◌, Option, Some, None, List, [], ◌∷◌, ◌++◌, length}
use Rattle.std.specs.Int.{w64, from_be_bytes}
use Rattle.psu_hislip.specs.Header.{header_bytes}
use Rattle.psu_hislip.specs.MessageType.{code_of, type_of}
use Rattle.psu_hislip.specs.Faults.{fatal_code, error_code}
use Rattle.psu_hislip.specs.Stream.{Received}
use Rattle.psu_hislip.specs.Frame.{header_of, frame_bytes}
use Rattle.psu_hislip.specs.Action.{Act}
use Rattle.psu_hislip.specs.LockResponses.{lock_code}
use Rattle.psu_hislip.specs.PartialTransmission.{added, executed, HasBytes}
use Rattle.psu_hislip.specs.declared.header.Header.{Header}
use Rattle.psu_hislip.specs.declared.action.Origin.{Origin}
use Rattle.psu_hislip.specs.declared.side.Side.{Side}
use Rattle.psu_hislip.specs.declared.side.Side.TheVariants.{Sync, Async}
use Rattle.psu_hislip.specs.declared.side.DeviceClear.{DeviceClear}
use Rattle.psu_hislip.specs.declared.side.DeviceClear.TheVariants.{Idle, InProgress, Early}
use Rattle.psu_hislip.specs.declared.codes.FatalCode.{FatalCode}
use Rattle.psu_hislip.specs.declared.codes.FatalCode.TheVariants.{PoorlyFormedHeader, ChannelsNotJoined, InvalidInitialization}
use Rattle.psu_hislip.specs.declared.codes.ErrorCode.{ErrorCode}
use Rattle.psu_hislip.specs.declared.codes.ErrorCode.TheVariants.{Unidentified, UnrecognizedType, UnrecognizedControl, UnrecognizedVendorType, TooLarge}
use Rattle.psu_hislip.specs.declared.lock_responses.LockResponse.TheVariants as lock
use Rattle.psu_hislip.specs.declared.message_type.MessageType.{MessageType}
use Rattle.psu_hislip.specs.declared.message_type.MessageType.TheVariants.{Initialize, FatalError, Error, AsyncLock, AsyncLockResponse, Data, DataEnd, DeviceClearComplete, DeviceClearAcknowledge, AsyncRemoteLocalControl, AsyncRemoteLocalResponse, Trigger, AsyncMaximumMessageSize, AsyncMaximumMessageSizeResponse, AsyncInitialize, AsyncInitializeResponse, AsyncDeviceClear, AsyncStatusQuery, AsyncDeviceClearAcknowledge, AsyncLockInfo}

-- The session number; whether its asynchronous channel is joined; whether it has failed; the client's maximum message
-- size; the bytes of the transmission so far, or none where they are too many; the device clear; the number of device
-- clears, modulo 2^64.
pub record Core : Type 0 where
  pub session : ℕ
  pub joined : Bool
  pub failed : Bool
  pub size : Option ℕ
  pub transmission : Option (List ℕ)
  pub clear : DeviceClear
  pub clears : ℕ

-- the actions of a message, and the core after them
pub record Outcome : Type 0 where
  pub actions : List Act
  pub core : Core

abbrev pub outcome_with : List Act → Core → Outcome
outcome_with actions core = record { actions = actions; core = core }

-- a message without parameter and payload
abbrev pub reply : Side → MessageType → ℕ → Act
reply side type control = Act.Send side (header_bytes (header_of type control 0 0))

-- # Faults

abbrev pub is_sync : Side → Bool
is_sync Sync = true
is_sync Async = false

-- AsyncInitialize as the first message of the second connection, for this session
abbrev pub joins : Core → Side → Header → Bool
joins core side h = not (is_sync side) && not core.joined && h.kind == code_of AsyncInitialize && h.parameter == core.session

abbrev pub initializes : Header → Bool
initializes h = h.kind == code_of Initialize || h.kind == code_of AsyncInitialize

-- Before both channels are established, no message is valid on the first, and on the second only the one that joins it;
-- after that neither initialization is valid.
abbrev pub misplaced : Core → Side → Header → Bool → Option FatalCode
misplaced core side h joins =
    if is_sync side && not core.joined then Some ChannelsNotJoined
    else (if not joins && (initializes h || not core.joined) then Some InvalidInitialization else None)

abbrev pub fatal : Core → Side → Received → Option FatalCode
fatal core side Received.BadHeader = Some PoorlyFormedHeader
fatal core side (Received.Frame h payload) = misplaced core side h (joins core side h)
fatal core side (Received.Oversize h) = misplaced core side h false

-- the types that a channel accepts
abbrev pub takes : Side → MessageType → Bool
takes Sync Data = true
takes Sync DataEnd = true
takes Sync DeviceClearComplete = true
takes Sync Trigger = true
takes Async AsyncInitialize = true
takes Async AsyncLock = true
takes Async AsyncLockInfo = true
takes Async AsyncRemoteLocalControl = true
takes Async AsyncMaximumMessageSize = true
takes Async AsyncDeviceClear = true
takes Async AsyncStatusQuery = true
takes side type = false

-- errors in the control code of a type, and in the payload length of a message size
abbrev pub ill_formed : MessageType → Header → List ℕ → Option ErrorCode
ill_formed AsyncLock h payload = if nat_lt 1 h.control then Some UnrecognizedControl else None
ill_formed AsyncRemoteLocalControl h payload = if nat_lt 6 h.control then Some UnrecognizedControl else None
ill_formed AsyncMaximumMessageSize h payload = if length payload == 8 then None else Some Unidentified
ill_formed type h payload = None

abbrev pub type_error : Side → Option MessageType → Header → List ℕ → Option ErrorCode
type_error side None h payload = Some UnrecognizedType
type_error side (Some type) h payload = if takes side type then ill_formed type h payload else Some UnrecognizedType

abbrev pub error : Side → Received → Option ErrorCode
error side (Received.Oversize h) = Some TooLarge
error side (Received.Frame h payload) =
    if nat_le 128 h.kind then Some UnrecognizedVendorType else type_error side (type_of h.kind) h payload
error side Received.BadHeader = None

-- # What the client has read

-- bit 0 of the control code (RMT-delivered)
abbrev pub is_delivered : Header → Bool
is_delivered h = h.control % 2 == 1

abbrev pub delivered : Header → List Act
delivered h = if is_delivered h then Act.Delivered ∷ [] else []

-- # Device clear

abbrev pub is_begun : DeviceClear → Bool
is_begun Idle = false
is_begun InProgress = true
is_begun Early = false

-- AsyncDeviceClear begins a device clear, unless its DeviceClearComplete was received already
abbrev pub after_begin : DeviceClear → DeviceClear
after_begin Idle = InProgress
after_begin InProgress = InProgress
after_begin Early = Idle

-- DeviceClearComplete ends a device clear, or is remembered
abbrev pub after_complete : DeviceClear → DeviceClear
after_complete InProgress = Idle
after_complete Idle = Early
after_complete Early = Early

-- AsyncDeviceClear drops the transmission
abbrev pub cleared : Core → Outcome
cleared core =
    outcome_with (Act.Clear ∷ reply Async AsyncDeviceClearAcknowledge 0 ∷ [])
    (record core { transmission = Some []; clear = after_begin core.clear; clears = (core.clears + 1) % 2 ^ 64 })

-- DeviceClearComplete is acknowledged whenever it arrives
abbrev pub completed : Core → Outcome
completed core = outcome_with (reply Sync DeviceClearAcknowledge 0 ∷ []) (record core { clear = after_complete core.clear })

abbrev pub completes : Received → Bool
completes (Received.Frame h payload) = h.kind == code_of DeviceClearComplete
completes (Received.Oversize h) = false
completes Received.BadHeader = false

-- during a device clear every message on the synchronous channel is discarded except the one that completes it
abbrev pub unless_discarded : Core → Side → Received → Outcome → Outcome
unless_discarded core side message outcome =
    if is_sync side && is_begun core.clear && not (completes message) then outcome_with [] core else outcome

-- # The rows of the types

-- a shared string has at most 256 bytes
abbrev pub locked : Header → List ℕ → Act
locked h string =
    if h.control == 0 then Act.Release
    else (if nat_lt 256 (length string) then reply Async AsyncLockResponse (lock_code lock.Error) else Act.Lock h.parameter string)

-- the maximum message size that the server accepts: 65,536 bytes
abbrev pub own_size : List ℕ
own_size = 0 ∷ 0 ∷ 0 ∷ 0 ∷ 0 ∷ 1 ∷ 0 ∷ 0 ∷ []

abbrev pub joining : Core → Outcome
joining core = outcome_with (reply Async AsyncInitializeResponse 0 ∷ []) (record core { joined = true })

abbrev pub origin : Core → Header → Origin
origin core h = record { id = h.parameter; clears = core.clears }

-- neither a FatalError nor a device clear has occurred since the message of this origin
abbrev pub IsCurrent : Core → Origin → Type 0
IsCurrent core origin = (core.failed ≡ false) × (origin.clears ≡ core.clears)

-- after Data, DataEnd or Trigger, a DeviceClearComplete that no clear waited for is forgotten
abbrev pub gone_on : Core → Option (List ℕ) → Core
gone_on core transmission = record core { transmission = transmission; clear = Idle }

abbrev pub triggered : Core → Header → Outcome
triggered core h = outcome_with (Act.Trigger (origin core h) ∷ []) (gone_on core core.transmission)

-- the client's maximum message size, in big-endian byte order
abbrev pub sized : Core → List ℕ → Outcome
sized core size =
    outcome_with (Act.Send Async (frame_bytes AsyncMaximumMessageSizeResponse 0 0 own_size) ∷ []) (record core { size = Some (from_be_bytes w64 size) })

abbrev pub row : Core → MessageType → Header → List ℕ → Outcome
row core AsyncInitialize h payload = joining core
row core Data h payload = outcome_with (delivered h) (gone_on core (added core.transmission payload))
row core DataEnd h payload =
    outcome_with (delivered h ++ executed (origin core h) (added core.transmission payload) ∷ []) (gone_on core (Some []))
row core Trigger h payload = triggered core h
row core DeviceClearComplete h payload = completed core
row core AsyncDeviceClear h payload = cleared core
row core AsyncLock h payload = outcome_with (locked h payload ∷ []) core
row core AsyncLockInfo h payload = outcome_with (Act.Info ∷ []) core
row core AsyncRemoteLocalControl h payload = outcome_with (reply Async AsyncRemoteLocalResponse 0 ∷ []) core
row core AsyncMaximumMessageSize h payload = sized core payload
row core AsyncStatusQuery h payload = outcome_with (Act.Status (is_delivered h) ∷ []) core
row core type h payload = outcome_with [] core

-- # Memory

-- Data and DataEnd carry the parts of a transmission
abbrev pub is_part : Option MessageType → Bool
is_part (Some Data) = true
is_part (Some DataEnd) = true
is_part type = false

-- A Data or a DataEnd whose transmission has bytes already: its payload is appended to them. No other message needs
-- memory, since its actions hold their bytes inline or take over its payload.
abbrev pub NeedsMemory : Core → Received → Type 0
NeedsMemory core (Received.Frame h payload) = (is_part (type_of h.kind) ≡ true) × HasBytes core.transmission
NeedsMemory core (Received.Oversize h) = ⊥
NeedsMemory core Received.BadHeader = ⊥

-- # A message

abbrev pub heeded : Core → Option MessageType → Header → List ℕ → Outcome
heeded core None h payload = outcome_with [] core
heeded core (Some type) h payload = row core type h payload

abbrev pub without_fault : Core → Received → Outcome
without_fault core (Received.Frame h payload) = heeded core (type_of h.kind) h payload
without_fault core (Received.Oversize h) = outcome_with [] core
without_fault core Received.BadHeader = outcome_with [] core

-- a message with an error is answered by Error and ignored
abbrev pub unless_error : Core → Side → Option ErrorCode → Outcome → Outcome
unless_error core side None outcome = outcome
unless_error core side (Some code) outcome = outcome_with (reply side Error (error_code code) ∷ []) core

-- a fatal fault ends the session
abbrev pub unless_fatal : Core → Side → Option FatalCode → Outcome → Outcome
unless_fatal core side None outcome = outcome
unless_fatal core side (Some code) outcome = outcome_with (reply side FatalError (fatal_code code) ∷ Act.Closed ∷ []) (record core { failed = true })

abbrev pub outcome_of : Core → Side → Received → Outcome
outcome_of core side message =
    if core.failed then outcome_with (Act.Closed ∷ []) core
    else unless_fatal core side (fatal core side message)
    (unless_discarded core side message (unless_error core side (error side message) (without_fault core message)))
