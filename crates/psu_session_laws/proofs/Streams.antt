-- The messages that are passed to the core are those of the bytes that were received.
use Rattle.std.proofs.Common.{◌≡◌, ℕ, ◌-◌, Bool, true, false, Option, Some, None, List, [], ◌∷◌, ◌++◌, refl, sym, ap, ◌∙◌, subst, append_assoc}
use Rattle.std.specs.Prelude.{flat_map, map}
use Rattle.std.proofs.lemmas.List.{append-nil}
use Rattle.std.proofs.lemmas.List.Concat.{flat_map-append}
use Rattle.psu_hislip.specs.Channel.{Awaited, Fed}
use Rattle.psu_hislip.specs.Core.{Core, outcome_of}
use Rattle.psu_hislip.specs.Runs.{Arrival}
use Rattle.psu_hislip.specs.Stream.{Received}
use Rattle.psu_hislip.specs.declared.side.Side.{Side}
use Rattle.psu_hislip.specs.declared.side.Side.TheVariants.{Sync, Async}
use Rattle.psu_session.specs.Numbers.{clears, number_on, parameter}
use Rattle.psu_messages.specs.Executions.{beginning}
use Rattle.psu_session.specs.Orders as orders
use Rattle.psu_session_laws.specs.Exchange.{core_at}
use Rattle.psu_session_laws.specs.Exchanged.{ExchangeEvent, came, came_on, on}
use Rattle.psu_session.specs.Credit.{cost, cost_of}
use Rattle.psu_session.specs.Events as events
use Rattle.psu_session.specs.Events.{Event}
use Rattle.psu_session_laws.specs.Views.{bytes_received, exchange_history}
use Rattle.psu_session.specs.Step.{EachReceived, Feeds, IsMessageReceived, SessionStep, running, release_in, works_in}
use Rattle.psu_session.specs.Step.SessionStep.{Receives, Notifies, Ticks, Begins, Works, ReleasesLock, Ends, Takes, Writes}
use Rattle.psu_session.specs.State.{Running, Release, SessionState, Work, added, channel_of, numbered, settled, with_channel, with_core, with_held, with_output, with_owed, with_work, with_writes}
use Rattle.psu_session_laws.proofs.ExchangeEvents.{caused_received, caused_seen, came-append, effects_receive_none, effects_seen, effects_no_arrivals, immediate_quiet, bytes_received-append, exchange_history-append, replies_no_arrivals}
use Rattle.psu_session_laws.proofs.Keeping.{Kept, arrival, frames}
use Rattle.psu_session_laws.proofs.StepKeeping.{same_history, unseen, seen_of, received_one, with_feed}

on-append : (side : Side) (xs ys : List ExchangeEvent) → came_on side (xs ++ ys) ≡ came_on side xs ++ came_on side ys
on-append side xs ys = ap (λ (z : List Arrival). flat_map (on side) z) (came-append xs ys) ∙ flat_map-append (on side) (came xs) (came ys)

-- a channel was fed a stream, and the messages that it returned were received
abbrev pub IsStreamed : Side → List ℕ → List Received → List Event → SessionState → Type 0
IsStreamed side opening gave xs s = Fed (channel_of side s) (opening ++ bytes_received side xs) (gave ++ came_on side (exchange_history xs))

-- what messages do not change
settled_channel : (side : Side) (all : Bool) (now : ℕ) (s : SessionState) → channel_of side (settled all now s) ≡ channel_of side s
settled_channel Sync all now s = refl
settled_channel Async all now s = refl

numbered_channel : (side : Side) (number : Option ℕ) (s : SessionState) → channel_of side (numbered s number) ≡ channel_of side s
numbered_channel side None s = refl
numbered_channel Sync (Some number) s = refl
numbered_channel Async (Some number) s = refl

added_channel : (side : Side) (s : SessionState) (works : List Work) (requested : List Release) (done : List Event) → channel_of side (added s works requested done) ≡ channel_of side s
added_channel Sync s works requested done = refl
added_channel Async s works requested done = refl

core_channel : (side : Side) (s : SessionState) (core : Core) → channel_of side (with_core s core) ≡ channel_of side s
core_channel Sync s core = refl
core_channel Async s core = refl

work_channel : (side : Side) (s : SessionState) (waiting : List Work) (g : Option Running) → channel_of side (with_work s waiting g) ≡ channel_of side s
work_channel Sync s waiting g = refl
work_channel Async s waiting g = refl

held_channel : (side : Side) (s : SessionState) (held : ℕ) → channel_of side (with_held s held) ≡ channel_of side s
held_channel Sync s held = refl
held_channel Async s held = refl

owed_channel : (side : Side) (s : SessionState) (owed : ℕ) → channel_of side (with_owed s owed) ≡ channel_of side s
owed_channel Sync s owed = refl
owed_channel Async s owed = refl

output_channel : (side on : Side) (s : SessionState) (bytes : List ℕ) → channel_of side (with_output on s bytes) ≡ channel_of side s
output_channel Sync Sync s bytes = refl
output_channel Sync Async s bytes = refl
output_channel Async Sync s bytes = refl
output_channel Async Async s bytes = refl

writer_channel : (side on : Side) (s : SessionState) (writing : Bool) → channel_of side (with_writes on s writing) ≡ channel_of side s
writer_channel Sync Sync s writing = refl
writer_channel Sync Async s writing = refl
writer_channel Async Sync s writing = refl
writer_channel Async Async s writing = refl

record IsReceivedBy (side : Side) (messages : List Received) (s : SessionState) (done : List Event) (t : SessionState) : Type 0 where
  channel : (on : Side) → channel_of on t ≡ channel_of on s
  none : (on : Side) → bytes_received on done ≡ []
  arrivals_are : came (exchange_history done) ≡ map (arrival side) messages

received_by_one : (session : ℕ) (l : List ExchangeEvent) (now : ℕ) (side : Side) (message : Received) (s : SessionState) (done : List Event) (t : SessionState) → s.core ≡ core_at session l → IsMessageReceived now side message s done t → IsReceivedBy side (message ∷ []) s done t
received_by_one session l now side message s done t core r = record {
  channel = λ at.
      ap (channel_of at) r.then
      ∙ settled_channel at (clears (outcome_of s.core side message).actions) now
      (numbered (added (with_core s (outcome_of s.core side message).core) (flat_map works_in (outcome_of s.core side message).actions) (flat_map (release_in now (parameter message)) (outcome_of s.core side message).actions) r.immediate) (number_on side message))
      ∙ numbered_channel at (number_on side message)
      (added (with_core s (outcome_of s.core side message).core) (flat_map works_in (outcome_of s.core side message).actions) (flat_map (release_in now (parameter message)) (outcome_of s.core side message).actions) r.immediate)
      ∙ added_channel at (with_core s (outcome_of s.core side message).core) (flat_map works_in (outcome_of s.core side message).actions) (flat_map (release_in now (parameter message)) (outcome_of s.core side message).actions) r.immediate
      ∙ core_channel at s (outcome_of s.core side message).core;
  none = λ at. ap (bytes_received at) r.are ∙ immediate_quiet at s.lock_waits (outcome_of s.core side message).actions r.immediate r.each;
  arrivals_are = ap came (seen_of session l s now side message done t core r) ∙ ap (λ (z : List Arrival). arrival side message ∷ z) (replies_no_arrivals (frames session l side message));
}

received_by_each : (session : ℕ) (now : ℕ) (side : Side) (messages : List Received) (xs : List Event) (s : SessionState) (done : List Event) (t : SessionState) → Kept session (exchange_history xs) s → EachReceived now side messages s done t → IsReceivedBy side messages s done t
received_by_each session now side [] xs s done t k (none, same) = record {
  channel = λ at. ap (channel_of at) same;
  none = λ at. ap (bytes_received at) none;
  arrivals_are = ap (λ (z : List Event). came (exchange_history z)) none;
}
received_by_each session now side (message ∷ messages) xs s done t k (mid, first, more, is, one, rest) =
    let a = received_by_one session (exchange_history xs) now side message s first mid k.core one in
    let b = received_by_each session now side messages (xs ++ first) mid more t (received_one session xs s now side message first mid k one) rest in
    record {
      channel = λ at. b.channel at ∙ a.channel at;
      none = λ at. ap (bytes_received at) is ∙ bytes_received-append at first more ∙ ap (λ (z : List ℕ). z ++ bytes_received at more) (a.none at) ∙ b.none at;
      arrivals_are = ap (λ (z : List Event). came (exchange_history z)) is ∙ ap came (exchange_history-append first more) ∙ came-append (exchange_history first) (exchange_history more) ∙ ap (λ (z : List Arrival). z ++ came (exchange_history more)) a.arrivals_are ∙ ap (λ (z : List Arrival). arrival side message ∷ z) b.arrivals_are;
    }

-- the messages of a channel, on it and on the other
on_own : (side : Side) (messages : List Received) → flat_map (on side) (map (arrival side) messages) ≡ messages
on_own side [] = refl
on_own Sync (message ∷ messages) = ap (λ (z : List Received). message ∷ z) (on_own Sync messages)
on_own Async (message ∷ messages) = ap (λ (z : List Received). message ∷ z) (on_own Async messages)

on_sync_none : (messages : List Received) → flat_map (on Sync) (map (arrival Async) messages) ≡ []
on_sync_none [] = refl
on_sync_none (message ∷ messages) = on_sync_none messages

on_async_none : (messages : List Received) → flat_map (on Async) (map (arrival Sync) messages) ≡ []
on_async_none [] = refl
on_async_none (message ∷ messages) = on_async_none messages

received_here : (side : Side) (opening : List ℕ) (gave : List Received) (xs : List Event) (s : SessionState) (received_bytes : List ℕ) (messages : List Received) (channel : Awaited) (done : List Event) (t : SessionState) → IsStreamed side opening gave xs s → Feeds (channel_of side s) received_bytes messages channel
    → channel_of side t ≡ channel → bytes_received side done ≡ received_bytes → flat_map (on side) (came (exchange_history done)) ≡ messages → IsStreamed side opening gave (xs ++ done) t
received_here side opening gave xs s received_bytes messages channel done t fed feeds new bytes came_now =
    let stream : (opening ++ bytes_received side xs) ++ received_bytes ≡ opening ++ bytes_received side (xs ++ done)
    = append_assoc opening (bytes_received side xs) received_bytes ∙ ap (λ (z : List ℕ). opening ++ (bytes_received side xs ++ z)) (sym bytes) ∙ ap (λ (z : List ℕ). opening ++ z) (sym (bytes_received-append side xs done)) in
    let given : (gave ++ came_on side (exchange_history xs)) ++ messages ≡ gave ++ came_on side (exchange_history (xs ++ done))
    = append_assoc gave (came_on side (exchange_history xs)) messages ∙ ap (λ (z : List Received). gave ++ (came_on side (exchange_history xs) ++ z)) (sym came_now)
    ∙ ap (λ (z : List Received). gave ++ z) (sym (ap (came_on side) (exchange_history-append xs done) ∙ on-append side (exchange_history xs) (exchange_history done))) in
    subst (λ (z : Awaited). Fed z (opening ++ bytes_received side (xs ++ done)) (gave ++ came_on side (exchange_history (xs ++ done)))) (sym new)
    (subst (λ (z : List ℕ). Fed channel z (gave ++ came_on side (exchange_history (xs ++ done)))) stream
    (subst (λ (z : List Received). Fed channel ((opening ++ bytes_received side xs) ++ received_bytes) z) given (feeds (opening ++ bytes_received side xs) (gave ++ came_on side (exchange_history xs)) fed)))

-- nothing is received on this channel
other : (side : Side) (opening : List ℕ) (gave : List Received) (xs : List Event) (s : SessionState) (done : List Event) (t : SessionState) → IsStreamed side opening gave xs s → channel_of side t ≡ channel_of side s → bytes_received side done ≡ []
    → flat_map (on side) (came (exchange_history done)) ≡ [] → IsStreamed side opening gave (xs ++ done) t
other side opening gave xs s done t fed channel none no_arrival =
    let bytes : bytes_received side (xs ++ done) ≡ bytes_received side xs = bytes_received-append side xs done ∙ ap (λ (z : List ℕ). bytes_received side xs ++ z) none ∙ append-nil (bytes_received side xs) in
    let messages : came_on side (exchange_history (xs ++ done)) ≡ came_on side (exchange_history xs)
    = ap (came_on side) (exchange_history-append xs done) ∙ on-append side (exchange_history xs) (exchange_history done) ∙ ap (λ (z : List Received). came_on side (exchange_history xs) ++ z) no_arrival ∙ append-nil (came_on side (exchange_history xs)) in
    subst (λ (z : Awaited). Fed z (opening ++ bytes_received side (xs ++ done)) (gave ++ came_on side (exchange_history (xs ++ done)))) (sym channel)
    (subst (λ (z : List ℕ). Fed (channel_of side s) (opening ++ z) (gave ++ came_on side (exchange_history (xs ++ done)))) (sym bytes)
    (subst (λ (z : List Received). Fed (channel_of side s) (opening ++ bytes_received side xs) (gave ++ z)) (sym messages) fed))

received_on : (side on : Side) (opening : List ℕ) (gave : List Received) (xs : List Event) (s : SessionState) (received_bytes : List ℕ) (messages : List Received) (channel : Awaited) (immediate : List Event) (t : SessionState) → IsStreamed side opening gave xs s
    → Feeds (channel_of on s) received_bytes messages channel → IsReceivedBy on messages (with_channel on s channel) immediate t → IsStreamed side opening gave (xs ++ events.BytesReceived on received_bytes ∷ immediate) t
received_on Sync Sync opening gave xs s received_bytes messages channel immediate t fed feeds r =
    received_here Sync opening gave xs s received_bytes messages channel (events.BytesReceived Sync received_bytes ∷ immediate) t fed feeds (r.channel Sync) (ap (λ (z : List ℕ). received_bytes ++ z) (r.none Sync) ∙ append-nil received_bytes)
    (ap (λ (z : List Arrival). flat_map (on Sync) z) r.arrivals_are ∙ on_own Sync messages)
received_on Async Async opening gave xs s received_bytes messages channel immediate t fed feeds r =
    received_here Async opening gave xs s received_bytes messages channel (events.BytesReceived Async received_bytes ∷ immediate) t fed feeds (r.channel Async) (ap (λ (z : List ℕ). received_bytes ++ z) (r.none Async) ∙ append-nil received_bytes)
    (ap (λ (z : List Arrival). flat_map (on Async) z) r.arrivals_are ∙ on_own Async messages)
received_on Sync Async opening gave xs s received_bytes messages channel immediate t fed feeds r =
    other Sync opening gave xs s (events.BytesReceived Async received_bytes ∷ immediate) t fed (r.channel Sync) (r.none Sync) (ap (λ (z : List Arrival). flat_map (on Sync) z) r.arrivals_are ∙ on_sync_none messages)
received_on Async Sync opening gave xs s received_bytes messages channel immediate t fed feeds r =
    other Async opening gave xs s (events.BytesReceived Sync received_bytes ∷ immediate) t fed (r.channel Async) (r.none Async) (ap (λ (z : List Arrival). flat_map (on Async) z) r.arrivals_are ∙ on_async_none messages)

pub streamed : (session : ℕ) (side : Side) (opening : List ℕ) (gave : List Received) (xs : List Event) (s : SessionState) (done : List Event) (t : SessionState) → Kept session (exchange_history xs) s → SessionStep s done t → IsStreamed side opening gave xs s
    → IsStreamed side opening gave (xs ++ done) t
streamed session side opening gave xs s done t k (Receives now at received_bytes h) fed =
    let here = xs ++ events.BytesReceived at received_bytes ∷ [] in
    let k_here = same_history session _ (exchange_history here) _ (unseen xs (events.BytesReceived at received_bytes ∷ []) refl) (with_feed at s h.channel session (exchange_history xs) k) in
    subst (λ (z : List Event). IsStreamed side opening gave (xs ++ z) t) (sym h.are)
    (received_on side at opening gave xs s received_bytes h.messages h.channel h.immediate t fed h.feeds (received_by_each session now at h.messages here (with_channel at s h.channel) h.immediate t k_here h.each))
streamed session side opening gave xs s done t k (Notifies a) fed =
    other side opening gave xs s done t fed (ap (channel_of side) a.then ∙ added_channel side s [] [] done) (caused_received s.lock_waits side done a.is) (ap (λ (z : List ExchangeEvent). flat_map (on side) (came z)) (caused_seen s.lock_waits done a.is))
streamed session side opening gave xs s done t k (Ticks now tick) fed =
    other side opening gave xs s done t fed (ap (channel_of side) tick.then ∙ settled_channel side false now s) (ap (bytes_received side) tick.are) (ap (λ (z : List Event). flat_map (on side) (came (exchange_history z))) tick.are)
streamed session side opening gave xs s done t k (ReleasesLock g) fed =
    other side opening gave xs s done t fed (ap (channel_of side) g.then ∙ added_channel side (with_owed (with_work s g.later None) (s.owed - cost 0)) [] [] done ∙ owed_channel side (with_work s g.later None) (s.owed - cost 0) ∙ work_channel side s g.later None) (ap (bytes_received side) g.are) (ap (λ (z : List Event). flat_map (on side) (came (exchange_history z))) g.are)
streamed session side opening gave xs s done t k (Begins b) fed =
    other side opening gave xs s done t fed (ap (channel_of side) b.then ∙ work_channel side s b.later (Some (running b.order beginning))) (ap (bytes_received side) b.are) (ap (λ (z : List Event). flat_map (on side) (came (exchange_history z))) b.are)
streamed session side opening gave xs s done t k (Works w) fed =
    other side opening gave xs s done t fed
    (ap (channel_of side) w.then ∙ output_channel side Sync (with_work s s.waiting (Some (running w.order w.new))) (s.sync ++ orders.frames w.effects_done) ∙ work_channel side s s.waiting (Some (running w.order w.new)))
    (ap (bytes_received side) w.are ∙ effects_receive_none side w.order.origin w.effects_done)
    (ap (λ (z : List Event). flat_map (on side) (came (exchange_history z))) w.are ∙ ap (λ (z : List ExchangeEvent). flat_map (on side) (came z)) (effects_seen w.order.origin w.effects_done) ∙ ap (λ (z : List Arrival). flat_map (on side) z) (effects_no_arrivals w.order.origin w.effects_done))
streamed session side opening gave xs s done t k (Ends e) fed =
    other side opening gave xs s done t fed (ap (channel_of side) e.then ∙ held_channel side (with_work s s.waiting None) (s.held - cost_of e.order) ∙ work_channel side s s.waiting None) (ap (bytes_received side) e.are) (ap (λ (z : List Event). flat_map (on side) (came (exchange_history z))) e.are)
streamed session side opening gave xs s done t k (Takes at bytes taking) fed =
    other side opening gave xs s done t fed (ap (channel_of side) taking.then ∙ writer_channel side at (with_output at s []) true ∙ output_channel side at s []) (ap (bytes_received side) taking.are) (ap (λ (z : List Event). flat_map (on side) (came (exchange_history z))) taking.are)
streamed session side opening gave xs s done t k (Writes at w) fed =
    other side opening gave xs s done t fed (ap (channel_of side) w.then ∙ writer_channel side at s false) (ap (bytes_received side) w.are) (ap (λ (z : List Event). flat_map (on side) (came (exchange_history z))) w.are)
