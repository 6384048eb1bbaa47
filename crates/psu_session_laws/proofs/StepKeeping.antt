-- Each step of a session keeps what holds of its events and its state.
use Rattle.std.proofs.Common.{◌≡◌, ℕ, ◌-◌, Bool, true, false, Option, Some, None, List, [], ◌∷◌, ◌++◌, refl, sym, ap, ◌∙◌, subst, append_assoc}
use Rattle.std.specs.Prelude.{flat_map, map}
use Rattle.std.proofs.lemmas.List.{append-nil}
use Rattle.std.proofs.lemmas.List.Concat.{flat_map-append}
use Rattle.psu_hislip.specs.Action.{Act}
use Rattle.psu_hislip.specs.Channel.{Awaited}
use Rattle.psu_hislip.specs.Core.{Core, Outcome, outcome_of}
use Rattle.psu_hislip.specs.Stream.{Received}
use Rattle.psu_hislip.specs.declared.side.Side.{Side}
use Rattle.psu_hislip.specs.declared.side.Side.TheVariants.{Sync, Async}
use Rattle.psu_session.specs.Numbers.{clears, number_on, parameter}
use Rattle.psu_session_laws.specs.Exchange as exchange
use Rattle.psu_session.specs.Orders as orders
use Rattle.psu_session.specs.Orders.{Order}
use Rattle.psu_session_laws.specs.Exchange.{core_at, orders, reply_of}
use Rattle.psu_session_laws.specs.Exchanged.{ExchangeEvent, Came}
use Rattle.psu_session.specs.Credit.{cost, cost_of}
use Rattle.psu_session.specs.Events as events
use Rattle.psu_session.specs.Events.{Event}
use Rattle.psu_session_laws.specs.Views.{exchange_history}
use Rattle.psu_session.specs.Step.{EachReceived, IsMessageReceived, SessionStep, arrived, release_in, works_in}
use Rattle.psu_session.specs.Step.SessionStep.{Receives, Notifies, Ticks, Begins, Works, ReleasesLock, Ends, Takes, Writes}
use Rattle.psu_session.specs.State.{Running, SessionState, added, due, numbered, order_of_work, orders_in, settled, with_channel, with_core, with_held, with_output, with_owed, with_work, with_writes}
use Rattle.psu_session_laws.proofs.ExchangeEvents.{as_effects, as_replies, caused_seen, effects_seen, each_seen, exchange_history-append}
use Rattle.psu_session_laws.proofs.Settling.{none_due}
use Rattle.psu_session_laws.proofs.Keeping.{order_in_turn, current, HasReached, Kept, frames, message_events, message_keeps, begins, ends_order, works}

pub same_history : (session : ℕ) (l m : List ExchangeEvent) (s : SessionState) → m ≡ l → Kept session l s → Kept session m s
same_history session l m s e k = subst (λ (z : List ExchangeEvent). Kept session z s) (sym e) k

-- events of which the laws see nothing
pub unseen : (xs done : List Event) → exchange_history done ≡ [] → exchange_history (xs ++ done) ≡ exchange_history xs
unseen xs done none = exchange_history-append xs done ∙ ap (λ (z : List ExchangeEvent). exchange_history xs ++ z) none ∙ append-nil (exchange_history xs)

-- another state of which the same holds
transfer : (session : ℕ) (l : List ExchangeEvent) (s t : SessionState) → t.core ≡ s.core → t.running ≡ s.running → orders_in t.waiting ≡ orders_in s.waiting → Kept session l s → Kept session l t
transfer session l s t core g orders k = record {
  ended = k.ended;
  done = k.done;
  core = core ∙ k.core;
  in_order = k.in_order ∙ ap (λ (z : Option Running). map order_in_turn k.ended ++ (map order_in_turn (current z k.done) ++ orders_in s.waiting)) (sym g)
      ∙ ap (λ (z : List Order). map order_in_turn k.ended ++ (map order_in_turn (current t.running k.done) ++ z)) (sym orders);
  turns_done = k.turns_done ∙ ap (λ (z : Option Running). flat_map exchange.happened k.ended ++ flat_map exchange.happened (current z k.done)) (sym g);
  reached = k.reached;
  reaches = subst (λ (z : Option Running). HasReached z k.done) (sym g) k.reaches;
  ends = k.ends;
  each_done = k.each_done;
  each_replied = k.each_replied;
  all_replied = k.all_replied;
}

with_other : (side : Side) (s : SessionState) (bytes : List ℕ) (session : ℕ) (l : List ExchangeEvent) → Kept session l s → Kept session l (with_output side s bytes)
with_other Sync s bytes session l k = transfer session l s (with_output Sync s bytes) refl refl refl k
with_other Async s bytes session l k = transfer session l s (with_output Async s bytes) refl refl refl k

with_writer : (side : Side) (s : SessionState) (writing : Bool) (session : ℕ) (l : List ExchangeEvent) → Kept session l s → Kept session l (with_writes side s writing)
with_writer Sync s writing session l k = transfer session l s (with_writes Sync s writing) refl refl refl k
with_writer Async s writing session l k = transfer session l s (with_writes Async s writing) refl refl refl k

settles : (all : Bool) (now : ℕ) (s : SessionState) (session : ℕ) (l : List ExchangeEvent) → Kept session l s → Kept session l (settled all now s)
settles all now s session l k =
    transfer session l s (settled all now s) refl refl
    (flat_map-append order_of_work s.waiting (due all now s.last s.releases) ∙ ap (λ (z : List Order). orders_in s.waiting ++ z) (none_due all now s.last s.releases) ∙ append-nil (orders_in s.waiting)) k

counts : (number : Option ℕ) (s : SessionState) (session : ℕ) (l : List ExchangeEvent) → Kept session l s → Kept session l (numbered s number)
counts None s session l k = k
counts (Some number) s session l k = transfer session l s (numbered s (Some number)) refl refl refl k

arrives : (now : ℕ) (side : Side) (message : Received) (acts : List Act) (s : SessionState) (immediate : List Event) (session : ℕ) (l : List ExchangeEvent) → Kept session l (with_work s (s.waiting ++ flat_map works_in acts) s.running)
    → Kept session l (arrived now side message acts s immediate)
arrives now side message acts s immediate session l k =
    let requested = flat_map (release_in now (parameter message)) acts in
    let more : Kept session l (added s (flat_map works_in acts) requested immediate) = transfer session l (with_work s (s.waiting ++ flat_map works_in acts) s.running) (added s (flat_map works_in acts) requested immediate) refl refl refl k in
    settles (clears acts) now (numbered (added s (flat_map works_in acts) requested immediate) (number_on side message)) session l (counts (number_on side message) (added s (flat_map works_in acts) requested immediate) session l more)

-- a message is passed to the core
pub seen_of : (session : ℕ) (l : List ExchangeEvent) (s : SessionState) (now : ℕ) (side : Side) (message : Received) (done : List Event) (t : SessionState) → s.core ≡ core_at session l → IsMessageReceived now side message s done t
    → exchange_history done ≡ message_events session l side message (frames session l side message)
seen_of session l s now side message done t is r =
    ap exchange_history r.are ∙ ap (λ (z : List ExchangeEvent). Came side message ∷ z)
    (each_seen s.lock_waits (outcome_of s.core side message).actions r.immediate r.each ∙ ap (λ (z : Core). as_replies (flat_map reply_of (outcome_of z side message).actions)) is)

pub received_one : (session : ℕ) (xs : List Event) (s : SessionState) (now : ℕ) (side : Side) (message : Received) (done : List Event) (t : SessionState) → Kept session (exchange_history xs) s → IsMessageReceived now side message s done t → Kept session (exchange_history (xs ++ done)) t
received_one session xs s now side message done t k r =
    let c = core_at session (exchange_history xs) in
    let out_is : outcome_of s.core side message ≡ outcome_of c side message = ap (λ (z : Core). outcome_of z side message) k.core in
    let seen = seen_of session (exchange_history xs) s now side message done t k.core r in
    let then : t ≡ arrived now side message (outcome_of c side message).actions (with_core s (outcome_of c side message).core) r.immediate
    = r.then ∙ ap (λ (z : Outcome). arrived now side message z.actions (with_core s z.core) r.immediate) out_is in
    subst (λ (z : SessionState). Kept session (exchange_history (xs ++ done)) z) (sym then)
    (arrives now side message (outcome_of c side message).actions (with_core s (outcome_of c side message).core) r.immediate session (exchange_history (xs ++ done))
    (same_history session _ (exchange_history (xs ++ done)) _ (exchange_history-append xs done ∙ ap (λ (z : List ExchangeEvent). exchange_history xs ++ z) seen) (message_keeps session (exchange_history xs) side message s k)))

received_each : (session : ℕ) (now : ℕ) (side : Side) (messages : List Received) (xs : List Event) (s : SessionState) (done : List Event) (t : SessionState) → Kept session (exchange_history xs) s → EachReceived now side messages s done t
    → Kept session (exchange_history (xs ++ done)) t
received_each session now side [] xs s done t k (none, same) =
    subst (λ (z : SessionState). Kept session (exchange_history (xs ++ done)) z) (sym same) (same_history session _ (exchange_history (xs ++ done)) _ (unseen xs done (ap exchange_history none)) k)
received_each session now side (message ∷ messages) xs s done t k (mid, first, more, is, one, rest) =
    same_history session _ (exchange_history (xs ++ done)) t (ap (λ (z : List Event). exchange_history (xs ++ z)) is ∙ ap exchange_history (sym (append_assoc xs first more)))
    (received_each session now side messages (xs ++ first) mid more t (received_one session xs s now side message first mid k one) rest)

pub with_feed : (side : Side) (s : SessionState) (channel : Awaited) (session : ℕ) (l : List ExchangeEvent) → Kept session l s → Kept session l (with_channel side s channel)
with_feed Sync s channel session l k = transfer session l s (with_channel Sync s channel) refl refl refl k
with_feed Async s channel session l k = transfer session l s (with_channel Async s channel) refl refl refl k

pub step_keeps : (session : ℕ) (xs : List Event) (s : SessionState) (done : List Event) (t : SessionState) → Kept session (exchange_history xs) s → SessionStep s done t → Kept session (exchange_history (xs ++ done)) t
step_keeps session xs s done t k (Receives now side received_bytes h) =
    let here = xs ++ events.BytesReceived side received_bytes ∷ [] in
    same_history session _ (exchange_history (xs ++ done)) t (ap (λ (z : List Event). exchange_history (xs ++ z)) h.are ∙ ap exchange_history (sym (append_assoc xs (events.BytesReceived side received_bytes ∷ []) h.immediate)))
    (received_each session now side h.messages here (with_channel side s h.channel) h.immediate t
    (same_history session _ (exchange_history here) _ (unseen xs (events.BytesReceived side received_bytes ∷ []) refl) (with_feed side s h.channel session (exchange_history xs) k)) h.each)
step_keeps session xs s done t k (Notifies a) =
    let more : Kept session (exchange_history xs) (added s [] [] done) = transfer session (exchange_history xs) s (added s [] [] done) refl refl (ap orders_in (append-nil s.waiting)) k in
    subst (λ (z : SessionState). Kept session (exchange_history (xs ++ done)) z) (sym a.then) (same_history session _ (exchange_history (xs ++ done)) _ (unseen xs done (caused_seen s.lock_waits done a.is)) more)
step_keeps session xs s done t k (Ticks now tick) =
    subst (λ (z : SessionState). Kept session (exchange_history (xs ++ done)) z) (sym tick.then)
    (same_history session _ (exchange_history (xs ++ done)) _ (unseen xs done (ap exchange_history tick.are)) (settles false now s session (exchange_history xs) k))
step_keeps session xs s done t k (ReleasesLock g) =
    let none : exchange_history done ≡ [] = ap exchange_history g.are in
    let same : orders_in g.later ≡ orders_in s.waiting = sym (ap orders_in g.first) in
    let freed = with_owed (with_work s g.later None) (s.owed - cost 0) in
    let here : Kept session (exchange_history xs) (added freed [] [] done)
    = transfer session (exchange_history xs) s (added freed [] [] done) refl (sym g.none) (ap orders_in (append-nil g.later) ∙ same) k in
    subst (λ (z : SessionState). Kept session (exchange_history (xs ++ done)) z) (sym g.then) (same_history session _ (exchange_history (xs ++ done)) _ (unseen xs done none) here)
step_keeps session xs s done t k (Begins b) =
    subst (λ (z : SessionState). Kept session (exchange_history (xs ++ done)) z) (sym b.then)
    (same_history session _ (exchange_history (xs ++ done)) _ (unseen xs done (ap exchange_history b.are)) (begins session (exchange_history xs) s b.order b.later b.none b.first k))
step_keeps session xs s done t k (Works w) =
    let seen : exchange_history (xs ++ done) ≡ exchange_history xs ++ as_effects w.order.origin w.effects_done = exchange_history-append xs done ∙ ap (λ (z : List ExchangeEvent). exchange_history xs ++ z) (ap exchange_history w.are ∙ effects_seen w.order.origin w.effects_done) in
    subst (λ (z : SessionState). Kept session (exchange_history (xs ++ done)) z) (sym w.then)
    (same_history session _ (exchange_history (xs ++ done)) _ seen (works session (exchange_history xs) s w.order w.progress w.new w.effects_done w.is w.current w.reaches w.framed (s.sync ++ orders.frames w.effects_done) k))
step_keeps session xs s done t k (Ends e) =
    subst (λ (z : SessionState). Kept session (exchange_history (xs ++ done)) z) (sym e.then)
    (same_history session _ (exchange_history (xs ++ done)) _ (unseen xs done (ap exchange_history e.are))
    (transfer session (exchange_history xs) (with_work s s.waiting None) (with_held (with_work s s.waiting None) (s.held - cost_of e.order)) refl refl refl (ends_order session (exchange_history xs) s e.order e.progress e.is e.ended k)))
step_keeps session xs s done t k (Takes side bytes taking) =
    subst (λ (z : SessionState). Kept session (exchange_history (xs ++ done)) z) (sym taking.then)
    (same_history session _ (exchange_history (xs ++ done)) _ (unseen xs done (ap exchange_history taking.are))
    (with_writer side (with_output side s []) true session (exchange_history xs) (with_other side s [] session (exchange_history xs) k)))
step_keeps session xs s done t k (Writes side w) =
    subst (λ (z : SessionState). Kept session (exchange_history (xs ++ done)) z) (sym w.then)
    (same_history session _ (exchange_history (xs ++ done)) _ (unseen xs done (ap exchange_history w.are)) (with_writer side s false session (exchange_history xs) k))
