-- The events of a session. Source: IVI-6.1 (the two channels of a session, and what is sent on each).
use Rattle.std.specs.Prelude.{ℕ, Bool, true, false, Option, Some, None, Result, Ok, List, [], ◌∷◌, flat_map}
use Rattle.psu_locks.specs.declared.results.Freed.{Freed}
use Rattle.psu_locks.specs.declared.results.Grant.{Grant}
use Rattle.psu_locks.specs.declared.results.Info.{Info}
use Rattle.psu_locks.specs.declared.requests.Kind.{Kind}
use Rattle.psu_locks.specs.declared.results.LockRefusal.{LockRefusal}
use Rattle.psu_hislip.specs.Frame.{header_of}
use Rattle.psu_hislip.specs.Header.{header_bytes}
use Rattle.psu_hislip.specs.LockResponses.{lock_response, release_response}
use Rattle.psu_hislip.specs.Stream.{Received}
use Rattle.psu_hislip.specs.declared.header.Header.{Header}
use Rattle.psu_hislip.specs.declared.message_type.MessageType.TheVariants.{AsyncServiceRequest}
use Rattle.psu_hislip.specs.declared.action.Origin.{Origin}
use Rattle.psu_hislip.specs.declared.side.Side.{Side}
use Rattle.psu_hislip.specs.declared.side.Side.TheVariants.{Sync, Async}
use Rattle.psu_tree.specs.declared.command.Request.{Request}
use Rattle.psu_replies.specs.Reply.{Reply}
use Rattle.psu_messages.specs.Effects as messages
use Rattle.psu_messages.specs.Effects.{Effect}

-- a call of the device, with its reply
pub data Call : Type 0 where
  -- a unit is executed, or the wait of one that was accepted is settled
  Executed : Request → Reply → Call
  Settled : Reply → Call
  -- a response is sent; the client has read the last one whole
  Sent : Call
  Delivered : Call
  -- the status byte of a status query, and of a service request
  Queried : ℕ → Call
  Fetched : Option ℕ → Call
  -- a lock is requested, with a timeout in milliseconds, or released; which locks are held
  Locked : Kind → ℕ → Result Grant LockRefusal → Call
  Released : Result Freed LockRefusal → Call
  Informed : Info → Call
  -- a device clear begins
  Cleared : Call

-- the call that an effect makes
abbrev pub call_of : Effect → Call
call_of (messages.Executed request reply) = Executed request reply
call_of (messages.Settled reply) = Settled reply
call_of (messages.Sent text last) = Sent

pub data Event : Type 0 where
  -- the next bytes of a channel's stream are received
  BytesReceived : Side → List ℕ → Event
  -- a lock request that waited has this result, and its response is appended to the output of the asynchronous
  -- connection
  LockGranted : Grant → Event
  -- a service request is fetched from the device, and appended there if there is one
  ServiceRequested : Option ℕ → Event
  -- a lock is released with this reply of the device, and the response is appended there
  LockReleased : Result Freed LockRefusal → Event
  -- a message of a channel is passed to the session's core
  Came : Side → Received → Event
  -- a call of the device for a message, immediately
  DeviceCalled : Call → Event
  -- frames are appended to the output of a connection for a message, immediately: a reply of the core, or the response
  -- to a call of the device
  Put : Side → List ℕ → Event
  -- an effect of the transmission of an origin, with the frames that it appends to the output of the synchronous
  -- connection
  Did : Origin → Effect → List ℕ → Event
  -- bytes are taken from the output of a connection, to be written next; and they are written
  Took : Side → List ℕ → Event
  Wrote : Side → Event

-- ---- calls of the device

abbrev pub calls_in : Event → List Call
calls_in (ServiceRequested request) = Fetched request ∷ []
calls_in (LockReleased reply) = Released reply ∷ []
calls_in (DeviceCalled call) = call ∷ []
calls_in (Did origin effect frames) = call_of effect ∷ []
calls_in _ = []

abbrev pub calls : List Event → List Call
calls history = flat_map calls_in history

-- ---- a lock request that waits

-- a request that has no response yet waits
abbrev pub waits_if : Bool → Option Header → Bool
waits_if waits None = true
waits_if waits (Some header) = waits

abbrev pub waits_by_call : Bool → Call → Bool
waits_by_call waits (Locked kind timeout reply) = waits_if waits (lock_response reply)
waits_by_call waits _ = waits

-- whether a lock request waits after an event
abbrev pub waits_by : Bool → Event → Bool
waits_by waits (LockGranted grant) = false
waits_by waits (DeviceCalled call) = waits_by_call waits call
waits_by waits _ = waits

-- and after events, one after another
abbrev pub waits_after : Bool → List Event → Bool
waits_after waits [] = waits
waits_after waits (event ∷ events) = waits_after (waits_by waits event) events

-- ---- output

abbrev pub if_same : Side → Side → List ℕ → List ℕ
if_same Sync Sync bytes = bytes
if_same Async Async bytes = bytes
if_same one other bytes = []

-- the bytes of a message without payload, if there is one
abbrev pub bytes_of_any : Option Header → List ℕ
bytes_of_any None = []
bytes_of_any (Some header) = header_bytes header

-- a service request has the status byte that the device returned
abbrev pub service_request : Option ℕ → Option Header
service_request None = None
service_request (Some byte) = Some (header_of AsyncServiceRequest byte 0 0)

-- what an event appends to the output of a connection
abbrev pub put_by : Side → Event → List ℕ
put_by side (LockGranted grant) = if_same side Async (bytes_of_any (lock_response (Ok grant)))
put_by side (ServiceRequested request) = if_same side Async (bytes_of_any (service_request request))
put_by side (LockReleased reply) = if_same side Async (header_bytes (release_response reply))
put_by side (Put on frames) = if_same side on frames
put_by side (Did origin effect frames) = if_same side Sync frames
put_by side _ = []

abbrev pub put : Side → List Event → List ℕ
put side history = flat_map (put_by side) history
