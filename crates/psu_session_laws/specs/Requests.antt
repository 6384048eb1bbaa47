-- What the messages of a session request, and what is done for it. Source: IVI-6.1 (each request on the asynchronous
-- channel has one response, and these are sent in the order of the requests; that of a lock request that waits is sent
-- once it has a result).
use Rattle.std.specs.Prelude.{Bool, false, List, [], ◌∷◌, ◌++◌, flat_map}
use Rattle.psu_locks.specs.declared.results.Grant.{Grant}
use Rattle.psu_hislip.specs.Action.{Act}
use Rattle.psu_session_laws.specs.Exchange.{acts_requested}
use Rattle.psu_session.specs.Events.{Event, LockGranted, DeviceCalled, Put, waits_after}
use Rattle.psu_session_laws.specs.Views.{exchange_history}
use Rattle.psu_session.specs.Step.{Does, IsHistory}
use Rattle.psu_session.specs.State.{Start, SessionState}

-- what is done immediately for a message
abbrev pub immediate_in : Event → List Event
immediate_in (DeviceCalled call) = DeviceCalled call ∷ []
immediate_in (Put side frames) = Put side frames ∷ []
immediate_in _ = []

abbrev pub immediate : List Event → List Event
immediate history = flat_map immediate_in history

-- what is done immediately for a message, and the results of lock requests that waited
abbrev pub serving_in : Event → List Event
serving_in (LockGranted grant) = LockGranted grant ∷ []
serving_in (DeviceCalled call) = DeviceCalled call ∷ []
serving_in (Put side frames) = Put side frames ∷ []
serving_in _ = []

abbrev pub serving : List Event → List Event
serving history = flat_map serving_in history

-- Where a lock request waits or none does, the events serve these requests, each once and in order. Between them the
-- request that waits may have its result, and waits no longer.
pub data AreServed : Bool → List Act → List Event → Type 0 where
  NoneLeft : {waits : Bool} → AreServed waits [] []
  HasResult : {waits : Bool} {acts : List Act} {events : List Event} (grant : Grant) → AreServed false acts events → AreServed waits acts (LockGranted grant ∷ events)
  Serves : {waits : Bool} {acts : List Act} {events : List Event} (act : Act) (first : List Event) → Does waits act first → AreServed (waits_after waits first) acts events → AreServed waits (act ∷ acts) (first ++ events)

-- What is done immediately in a history is what the messages request, each request once and in order: a status query, a
-- lock request and a lock info query are answered by the reply of the device to that very call.
abbrev pub EachRequestIsServed : Type 0
EachRequestIsServed = (start : Start) (history : List Event) (s : SessionState) → IsHistory start history s → AreServed false (acts_requested start.session (exchange_history history)) (serving history)
