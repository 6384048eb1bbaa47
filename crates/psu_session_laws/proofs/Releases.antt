-- Releases of locks are done once, and in their places.
use Rattle.std.proofs.Common.{◌≡◌, ◌⊎◌, ℕ, suc, ◌+◌, ◌-◌, Bool, true, false, Option, Some, None, Result, Ok, List, [], ◌∷◌, ◌++◌, refl, sym, ap, ◌∙◌, subst, append_assoc, inl, inr, arith, length, length-append}
use Rattle.std.specs.Prelude.{flat_map, map}
use Rattle.std.proofs.lemmas.List.{append-nil}
use Rattle.std.proofs.lemmas.List.Concat.{flat_map-append}
use Rattle.psu_locks.specs.declared.results.Freed.{Freed}
use Rattle.psu_locks.specs.declared.results.Grant.{Grant}
use Rattle.psu_locks.specs.declared.results.LockRefusal.{LockRefusal}
use Rattle.psu_hislip.specs.Action.{Act}
use Rattle.psu_hislip.specs.Channel.{Awaited}
use Rattle.psu_hislip.specs.Core.{Core, outcome_of}
use Rattle.psu_hislip.specs.LockResponses.{lock_response}
use Rattle.psu_hislip.specs.Runs.{Arrival}
use Rattle.psu_hislip.specs.Stream.{Received}
use Rattle.psu_hislip.specs.declared.header.Header.{Header}
use Rattle.psu_hislip.specs.declared.action.Origin.{Origin}
use Rattle.psu_hislip.specs.declared.side.Side.{Side}
use Rattle.psu_hislip.specs.declared.side.Side.TheVariants.{Sync, Async}
use Rattle.psu_session.specs.Numbers.{clears, number_on, parameter}
use Rattle.psu_messages.specs.Executions.{beginning}
use Rattle.psu_session.specs.Orders.{Done, Order, order_in}
use Rattle.psu_session_laws.specs.Exchange.{acts_requested, core_at, orders}
use Rattle.psu_session_laws.specs.Exchanged.{came}
use Rattle.psu_session.specs.Credit.{cost, cost_of}
use Rattle.psu_session.specs.Events as events
use Rattle.psu_session.specs.Events.{Event, LockReleased}
use Rattle.psu_session_laws.specs.Views.{exchange_history}
use Rattle.psu_session_laws.specs.Releases.{IsInPlace, released, released_in, releases_in, requested, requested_in}
use Rattle.psu_session_laws.specs.Requests.{immediate}
use Rattle.psu_session.specs.Step.{Each, EachReceived, IsLockGranted, IsMessageReceived, IsServiceRequested, SessionStep, Steps, granted, running, happened, release_in, works_in}
use Rattle.psu_session.specs.Step.SessionStep.{Receives, Notifies, Ticks, Begins, Works, ReleasesLock, Ends, Takes, Writes}
use Rattle.psu_session.specs.Step.Steps.{Still, Then}
use Rattle.psu_session.specs.State.{Running, Release, Start, SessionState, Work, Execute, ReleaseLock, added, due, fresh, numbered, order_of_work, orders_in, settled, with_channel, with_core, with_held, with_output, with_owed, with_work, with_writes}
use Rattle.psu_session_laws.proofs.ExchangeEvents.{asked_still, caused_seen, effects_no_arrivals, effects_seen, exchange_history-append, orders_of_works, replies_no_arrivals}
use Rattle.psu_session_laws.proofs.Exchanging.{all_kept}
use Rattle.psu_session_laws.proofs.Keeping.{Kept, arrival, asked_more, current, frames, none_after, order_in_turn}
use Rattle.psu_session_laws.proofs.Places.{ArePlaced, both_placed, counted, due_and_left, none_in_works, orders_placed, orders_requested, releases_in-append, releases_placed, still_placed}
use Rattle.psu_session_laws.proofs.Immediate.{each_does}
use Rattle.psu_session_laws.proofs.Settling.{none_due}
use Rattle.psu_session_laws.proofs.Splitting.{within}
use Rattle.psu_session_laws.proofs.Splitting.Within.{Left, Right}
use Rattle.psu_session_laws.proofs.StepKeeping.{received_one, same_history, seen_of, unseen, with_feed}

-- ---- events that release no lock

immediate_releases_none : (xs : List Event) → released (immediate xs) ≡ []
immediate_releases_none [] = refl
immediate_releases_none (events.LockReleased reply ∷ xs) = immediate_releases_none xs
immediate_releases_none (_ ∷ xs) = immediate_releases_none xs

each_releases_none : (waits : Bool) (acts : List Act) (done : List Event) → Each waits acts done → released done ≡ []
each_releases_none waits acts done each = ap released (sym (each_does waits acts done each)) ∙ immediate_releases_none done

effects_release_none : (origin : Origin) (done : List Done) → released (happened origin done) ≡ []
effects_release_none origin [] = refl
effects_release_none origin (d ∷ done) = effects_release_none origin done

granted_releases_none : (waits : Bool) (header : Option Header) (grant : Grant) → released (granted waits header grant) ≡ []
granted_releases_none false header grant = refl
granted_releases_none true None grant = refl
granted_releases_none true (Some header) grant = refl

caused_releases_none : (waits : Bool) (done : List Event) → ((grant : Grant) × IsLockGranted waits grant done) ⊎ IsServiceRequested done → released done ≡ []
caused_releases_none waits done (inl (grant, e)) = ap released e ∙ granted_releases_none waits (lock_response (Ok grant)) grant
caused_releases_none waits done (inr (request, e)) = ap released e

received_releases_none : (now : ℕ) (side : Side) (messages : List Received) (s : SessionState) (done : List Event) (t : SessionState) → EachReceived now side messages s done t → released done ≡ []
received_releases_none now side [] s done t (none, same) = ap released none
received_releases_none now side (message ∷ messages) s done t (mid, first, more, is, one, rest) =
    ap released is ∙ flat_map-append released_in first more
    ∙ ap (λ (z : List (Result Freed LockRefusal)). z ++ released more) (ap released one.are ∙ each_releases_none s.lock_waits (outcome_of s.core side message).actions one.immediate one.each)
    ∙ received_releases_none now side messages mid more t rest

-- ---- the places of releases

module _ (session : ℕ) where
  abbrev all_requested : List Event → List Work
  all_requested xs = requested (acts_requested session (exchange_history xs))

  abbrev all_orders : List Event → List Order
  all_orders xs = orders session (exchange_history xs)

  record Placed (xs : List Event) (s : SessionState) : Type 0 where
    begun : List Order
    are : all_orders xs ≡ begun ++ orders_in s.waiting
    count : releases_in (all_requested xs) ≡ length (released xs) + (releases_in s.waiting + length s.releases)
    placed : ArePlaced (length (released xs)) begun s.waiting (all_requested xs)

  same_state : (xs : List Event) (s t : SessionState) → t.waiting ≡ s.waiting → t.releases ≡ s.releases → Placed xs s → Placed xs t
  same_state xs s t waiting releases p = record {
    begun = p.begun;
    are = p.are ∙ ap (λ (z : List Work). p.begun ++ orders_in z) (sym waiting);
    count = p.count ∙ ap (λ (z : List Work). length (released xs) + (releases_in z + length s.releases)) (sym waiting) ∙ ap (λ (z : List Release). length (released xs) + (releases_in t.waiting + length z)) (sym releases);
    placed = subst (λ (z : List Work). ArePlaced (length (released xs)) p.begun z (all_requested xs)) (sym waiting) p.placed;
  }

  -- events without a message and a release
  quiet : (xs done : List Event) (s : SessionState) → came (exchange_history done) ≡ [] → released done ≡ [] → Placed xs s → Placed (xs ++ done) s
  quiet xs done s none still p =
      let asks : acts_requested session (exchange_history (xs ++ done)) ≡ acts_requested session (exchange_history xs)
      = ap (acts_requested session) (exchange_history-append xs done) ∙ asked_still session (exchange_history xs) (exchange_history done) none in
      let same : released (xs ++ done) ≡ released xs = flat_map-append released_in xs done ∙ ap (λ (z : List (Result Freed LockRefusal)). released xs ++ z) still ∙ append-nil (released xs) in
      record {
        begun = p.begun;
        are = ap (λ (z : List Act). flat_map order_in z) asks ∙ p.are;
        count = ap (λ (z : List Act). releases_in (requested z)) asks ∙ p.count ∙ ap (λ (z : List (Result Freed LockRefusal)). length z + (releases_in s.waiting + length s.releases)) (sym same);
        placed = subst (λ (z : List Act). ArePlaced (length (released (xs ++ done))) p.begun s.waiting (requested z)) (sym asks)
            (subst (λ (z : List (Result Freed LockRefusal)). ArePlaced (length z) p.begun s.waiting (all_requested xs)) (sym same) p.placed);
      }

  -- releases whose wait is over are queued
  settles : (all : Bool) (now : ℕ) (xs : List Event) (s : SessionState) → Placed xs s → Placed xs (settled all now s)
  settles all now xs s p =
      let more = due all now s.last s.releases in
      let none : orders_in more ≡ [] = none_due all now s.last s.releases in
      let ahead : p.begun ++ orders_in s.waiting ≡ orders_in (all_requested xs) = sym p.are ∙ orders_requested (acts_requested session (exchange_history xs)) in
      let sum = releases_in-append s.waiting more in
      let split = due_and_left all now s.last s.releases in
      let before = p.count in
      record {
        begun = p.begun;
        are = p.are ∙ ap (λ (z : List Order). p.begun ++ z) (sym (flat_map-append order_of_work s.waiting more ∙ ap (λ (z : List Order). orders_in s.waiting ++ z) none ∙ append-nil (orders_in s.waiting)));
        count = omega (arith, before, sum, split);
        placed = both_placed (length (released xs)) p.begun s.waiting more (all_requested xs) p.placed (releases_placed (length (released xs) + releases_in s.waiting) (p.begun ++ orders_in s.waiting) more (all_requested xs) none ahead);
      }

  counts : (number : Option ℕ) (xs : List Event) (s : SessionState) → Placed xs s → Placed xs (numbered s number)
  counts None xs s p = p
  counts (Some number) xs s p = same_state xs s (numbered s (Some number)) refl refl p

  -- what a message requests is queued, or waits
  requests : (xs done : List Event) (s : SessionState) (acts : List Act) (now number : ℕ) (immediate : List Event) → acts_requested session (exchange_history (xs ++ done)) ≡ acts_requested session (exchange_history xs) ++ acts → released done ≡ []
      → Placed xs s → Placed (xs ++ done) (added s (flat_map works_in acts) (flat_map (release_in now number) acts) immediate)
  requests xs done s acts now number immediate asks still p =
      let works = flat_map works_in acts in
      let waits = flat_map (release_in now number) acts in
      let same : released (xs ++ done) ≡ released xs = flat_map-append released_in xs done ∙ ap (λ (z : List (Result Freed LockRefusal)). released xs ++ z) still ∙ append-nil (released xs) in
      let all : all_requested (xs ++ done) ≡ all_requested xs ++ requested acts = ap requested asks ∙ flat_map-append requested_in (acts_requested session (exchange_history xs)) acts in
      let length_same : length (released (xs ++ done)) ≡ length (released xs) = ap length same in
      let before = p.count in
      let in_all : releases_in (all_requested (xs ++ done)) ≡ releases_in (all_requested xs) + releases_in (requested acts) = ap releases_in all ∙ releases_in-append (all_requested xs) (requested acts) in
      let in_queue = releases_in-append s.waiting works in
      let none = none_in_works acts in
      let waiting = length-append s.releases waits in
      let each = counted now number acts in
      let queued : ArePlaced (length (released xs)) p.begun (s.waiting ++ works) (all_requested xs ++ requested acts)
      = both_placed (length (released xs)) p.begun s.waiting works (all_requested xs ++ requested acts)
      (still_placed (length (released xs)) p.begun s.waiting (all_requested xs) (requested acts) (omega (arith, before)) p.placed)
      (orders_placed (length (released xs) + releases_in s.waiting) (p.begun ++ orders_in s.waiting) works (all_requested xs ++ requested acts) none) in
      record {
        begun = p.begun;
        are = ap (λ (z : List Act). flat_map order_in z) asks ∙ flat_map-append order_in (acts_requested session (exchange_history xs)) acts ∙ ap (λ (z : List Order). z ++ flat_map order_in acts) p.are
            ∙ append_assoc p.begun (orders_in s.waiting) (flat_map order_in acts) ∙ ap (λ (z : List Order). p.begun ++ (orders_in s.waiting ++ z)) (sym (orders_of_works acts))
            ∙ ap (λ (z : List Order). p.begun ++ z) (sym (flat_map-append order_of_work s.waiting works));
        count = omega (arith, length_same, before, in_all, in_queue, none, waiting, each);
        placed = subst (λ (z : List Work). ArePlaced (length (released (xs ++ done))) p.begun (s.waiting ++ works) z) (sym all)
            (subst (λ (z : ℕ). ArePlaced z p.begun (s.waiting ++ works) (all_requested xs ++ requested acts)) (sym length_same) queued);
      }

  arrives : (xs : List Event) (s : SessionState) (now : ℕ) (side : Side) (message : Received) (done : List Event) (t : SessionState) → s.core ≡ core_at session (exchange_history xs) → IsMessageReceived now side message s done t → Placed xs s → Placed (xs ++ done) t
  arrives xs s now side message done t core r p =
      let l = exchange_history xs in
      let out = outcome_of s.core side message in
      let one : came (exchange_history done) ≡ arrival side message ∷ []
      = ap came (seen_of session l s now side message done t core r) ∙ ap (λ (z : List Arrival). arrival side message ∷ z) (replies_no_arrivals (frames session l side message)) in
      let asks : acts_requested session (exchange_history (xs ++ done)) ≡ acts_requested session l ++ out.actions
      = ap (acts_requested session) (exchange_history-append xs done) ∙ asked_more session l side message (exchange_history done) one ∙ ap (λ (z : Core). acts_requested session l ++ (outcome_of z side message).actions) (sym core) in
      let still : released done ≡ [] = ap released r.are ∙ each_releases_none s.lock_waits out.actions r.immediate r.each in
      let here = with_core s out.core in
      let more = added here (flat_map works_in out.actions) (flat_map (release_in now (parameter message)) out.actions) r.immediate in
      subst (Placed (xs ++ done)) (sym r.then)
      (settles (clears out.actions) now (xs ++ done) (numbered more (number_on side message))
      (counts (number_on side message) (xs ++ done) more
      (requests xs done here out.actions now (parameter message) r.immediate asks still (same_state xs s here refl refl p))))

  same_events : (xs ys : List Event) (s : SessionState) → ys ≡ xs → Placed xs s → Placed ys s
  same_events xs ys s e p = subst (λ (z : List Event). Placed z s) (sym e) p

  each_arrives : (now : ℕ) (side : Side) (messages : List Received) (xs : List Event) (s : SessionState) (done : List Event) (t : SessionState) → Kept session (exchange_history xs) s → EachReceived now side messages s done t → Placed xs s → Placed (xs ++ done) t
  each_arrives now side [] xs s done t k (none, same) p =
      quiet xs done t (ap (λ (z : List Event). came (exchange_history z)) none) (ap released none) (subst (Placed xs) (sym same) p)
  each_arrives now side (message ∷ messages) xs s done t k (mid, first, more, is, one, rest) p =
      same_events ((xs ++ first) ++ more) (xs ++ done) t (ap (λ (z : List Event). xs ++ z) is ∙ sym (append_assoc xs first more))
      (each_arrives now side messages (xs ++ first) mid more t (received_one session xs s now side message first mid k one) rest (arrives xs s now side message first mid k.core one p))

  -- ---- steps

  channel_placed : (side : Side) (s : SessionState) (channel : Awaited) (xs : List Event) → Placed xs s → Placed xs (with_channel side s channel)
  channel_placed Sync s channel xs p = same_state xs s (with_channel Sync s channel) refl refl p
  channel_placed Async s channel xs p = same_state xs s (with_channel Async s channel) refl refl p

  output_placed : (side : Side) (s : SessionState) (bytes : List ℕ) (xs : List Event) → Placed xs s → Placed xs (with_output side s bytes)
  output_placed Sync s bytes xs p = same_state xs s (with_output Sync s bytes) refl refl p
  output_placed Async s bytes xs p = same_state xs s (with_output Async s bytes) refl refl p

  writer_placed : (side : Side) (s : SessionState) (writing : Bool) (xs : List Event) → Placed xs s → Placed xs (with_writes side s writing)
  writer_placed Sync s writing xs p = same_state xs s (with_writes Sync s writing) refl refl p
  writer_placed Async s writing xs p = same_state xs s (with_writes Async s writing) refl refl p

  releases_first : (xs : List Event) (s : SessionState) (later : List Work) (reply : Result Freed LockRefusal) → s.waiting ≡ ReleaseLock ∷ later → Placed xs s → Placed (xs ++ LockReleased reply ∷ []) (added (with_owed (with_work s later None) (s.owed - cost 0)) [] [] (LockReleased reply ∷ []))
  releases_first xs s later reply first p =
      let done : List Event = LockReleased reply ∷ [] in
      let asks : acts_requested session (exchange_history (xs ++ done)) ≡ acts_requested session (exchange_history xs)
      = ap (acts_requested session) (exchange_history-append xs done) ∙ asked_still session (exchange_history xs) (exchange_history done) refl in
      let queue : later ++ [] ≡ later = append-nil later in
      let waits : s.releases ++ [] ≡ s.releases = append-nil s.releases in
      let one : length (released (xs ++ done)) ≡ suc (length (released xs)) = ap length (flat_map-append released_in xs done) ∙ longer (released xs) reply in
      let before = p.count ∙ ap (λ (z : List Work). length (released xs) + (releases_in z + length s.releases)) first in
      let all : releases_in (all_requested (xs ++ done)) ≡ releases_in (all_requested xs) = ap (λ (z : List Act). releases_in (requested z)) asks in
      let in_queue : releases_in (later ++ []) ≡ releases_in later = ap releases_in queue in
      let waiting : length (s.releases ++ []) ≡ length s.releases = ap length waits in
      let placed = subst (λ (z : List Work). ArePlaced (length (released xs)) p.begun z (all_requested xs)) first p.placed in
      record {
        begun = p.begun;
        are = ap (λ (z : List Act). flat_map order_in z) asks ∙ p.are ∙ ap (λ (z : List Work). p.begun ++ orders_in z) first ∙ ap (λ (z : List Work). p.begun ++ orders_in z) (sym queue);
        count = omega (arith, one, before, all, in_queue, waiting);
        placed = subst (λ (z : List Act). ArePlaced (length (released (xs ++ done))) p.begun (later ++ []) (requested z)) (sym asks)
            (subst (λ (z : ℕ). ArePlaced z p.begun (later ++ []) (all_requested xs)) (sym one)
            (subst (λ (z : List Work). ArePlaced (suc (length (released xs))) p.begun z (all_requested xs)) (sym queue) placed.1));
      } where
        longer : {Y : Type 0} (ys : List Y) (y : Y) → length (ys ++ y ∷ []) ≡ suc (length ys)
        longer [] y = refl
        longer (z ∷ ys) y = ap suc (longer ys y)

  begins_first : (xs : List Event) (s : SessionState) (order : Order) (later : List Work) (g : Option Running) → s.waiting ≡ Execute order ∷ later → Placed xs s → Placed xs (with_work s later g)
  begins_first xs s order later g first p = record {
    begun = p.begun ++ order ∷ [];
    are = p.are ∙ ap (λ (z : List Work). p.begun ++ orders_in z) first ∙ sym (append_assoc p.begun (order ∷ []) (orders_in later));
    count = p.count ∙ ap (λ (z : List Work). length (released xs) + (releases_in z + length s.releases)) first;
    placed = subst (λ (z : List Work). ArePlaced (length (released xs)) p.begun z (all_requested xs)) first p.placed;
  }

  keeps : (xs : List Event) (s : SessionState) (done : List Event) (t : SessionState) → Kept session (exchange_history xs) s → SessionStep s done t → Placed xs s → Placed (xs ++ done) t
  keeps xs s done t k (Receives now side received_bytes h) p =
      let first : List Event = events.BytesReceived side received_bytes ∷ [] in
      same_events ((xs ++ first) ++ h.immediate) (xs ++ done) t (ap (λ (z : List Event). xs ++ z) h.are ∙ sym (append_assoc xs first h.immediate))
      (each_arrives now side h.messages (xs ++ first) (with_channel side s h.channel) h.immediate t
      (same_history session _ (exchange_history (xs ++ first)) _ (unseen xs first refl) (with_feed side s h.channel session (exchange_history xs) k)) h.each
      (quiet xs first (with_channel side s h.channel) refl refl (channel_placed side s h.channel xs p)))
  keeps xs s done t k (Notifies a) p =
      subst (Placed (xs ++ done)) (sym a.then)
      (quiet xs done (added s [] [] done) (ap came (caused_seen s.lock_waits done a.is)) (caused_releases_none s.lock_waits done a.is) (same_state xs s (added s [] [] done) (append-nil s.waiting) (append-nil s.releases) p))
  keeps xs s done t k (Ticks now tick) p =
      subst (Placed (xs ++ done)) (sym tick.then)
      (quiet xs done (settled false now s) (ap (λ (z : List Event). came (exchange_history z)) tick.are) (ap released tick.are) (settles false now xs s p))
  keeps xs s done t k (ReleasesLock g) p =
      subst (Placed (xs ++ done)) (sym g.then)
      (subst (λ (z : List Event). Placed (xs ++ z) (added (with_owed (with_work s g.later None) (s.owed - cost 0)) [] [] z)) (sym g.are) (releases_first xs s g.later g.reply g.first p))
  keeps xs s done t k (Begins b) p =
      subst (Placed (xs ++ done)) (sym b.then)
      (quiet xs done (with_work s b.later (Some (running b.order beginning))) (ap (λ (z : List Event). came (exchange_history z)) b.are) (ap released b.are) (begins_first xs s b.order b.later (Some (running b.order beginning)) b.first p))
  keeps xs s done t k (Works w) p =
      let here = with_work s s.waiting (Some (running w.order w.new)) in
      subst (Placed (xs ++ done)) (sym w.then)
      (quiet xs done (with_output Sync here _)
      (ap (λ (z : List Event). came (exchange_history z)) w.are ∙ ap came (effects_seen w.order.origin w.effects_done) ∙ effects_no_arrivals w.order.origin w.effects_done)
      (ap released w.are ∙ effects_release_none w.order.origin w.effects_done) (output_placed Sync here _ xs (same_state xs s here refl refl p)))
  keeps xs s done t k (Ends e) p =
      subst (Placed (xs ++ done)) (sym e.then)
      (quiet xs done (with_held (with_work s s.waiting None) (s.held - cost_of e.order)) (ap (λ (z : List Event). came (exchange_history z)) e.are) (ap released e.are)
      (same_state xs s (with_held (with_work s s.waiting None) (s.held - cost_of e.order)) refl refl p))
  keeps xs s done t k (Takes side bytes taking) p =
      subst (Placed (xs ++ done)) (sym taking.then)
      (quiet xs done (with_writes side (with_output side s []) true) (ap (λ (z : List Event). came (exchange_history z)) taking.are) (ap released taking.are) (writer_placed side (with_output side s []) true xs (output_placed side s [] xs p)))
  keeps xs s done t k (Writes side w) p =
      subst (Placed (xs ++ done)) (sym w.then)
      (quiet xs done (with_writes side s false) (ap (λ (z : List Event). came (exchange_history z)) w.are) (ap released w.are) (writer_placed side s false xs p))

all_placed : (start : Start) (xs : List Event) (s : SessionState) → Steps (fresh start) xs s → Placed start.session xs s
all_placed start xs s Still = record { begun = []; are = refl; count = refl; placed = tt }
all_placed start xs s (Then {done = done} {t = t} steps more u m) = keeps start.session done t more u (all_kept start done t steps).kept m (all_placed start done t steps)

pub each_release_is_done : (start : Start) (history : List Event) (s : SessionState) → Steps (fresh start) history s → releases_in (requested (acts_requested start.session (exchange_history history))) ≡ length (released history) + (releases_in s.waiting + length s.releases)
each_release_is_done start history s steps = (all_placed start history s steps).count

-- ---- the place of one release

same_prefix : {X : Type 0} (xs ys zs : List X) → xs ++ zs ≡ ys ++ zs → xs ≡ ys
same_prefix {X} [] [] zs e = refl
same_prefix {X} [] (y ∷ ys) zs e = absurd (let n = ap length e in let m = length-append ys zs in omega (arith, n, m))
same_prefix (x ∷ xs) [] zs e = absurd (let n = ap length e in let m = length-append xs zs in omega (arith, n, m))
same_prefix {X} (x ∷ xs) (y ∷ ys) zs e =
    let first : x ≡ y = cc (e) in
    let rest : xs ++ zs ≡ ys ++ zs = cc (e) in
    ap (λ (z : X). z ∷ xs) first ∙ ap (λ (z : List X). y ∷ z) (same_prefix xs ys zs rest)

-- where a release is first in the queue, and nothing is in execution
in_place : (session : ℕ) (xs : List Event) (s : SessionState) (later : List Work) → s.running ≡ None → s.waiting ≡ ReleaseLock ∷ later → Kept session (exchange_history xs) s → Placed session xs s → IsInPlace session xs
in_place session xs s later none first k p =
    let ended = map order_in_turn k.ended in
    let are : orders session (exchange_history xs) ≡ ended ++ orders_in s.waiting
    = k.in_order ∙ ap (λ (z : Option Running). ended ++ (map order_in_turn (current z k.done) ++ orders_in s.waiting)) none in
    let same : ended ≡ p.begun = same_prefix ended p.begun (orders_in s.waiting) (sym are ∙ p.are) in
    let placed = subst (λ (z : List Work). ArePlaced (length (released xs)) p.begun z (requested (acts_requested session (exchange_history xs)))) first p.placed in
    record {
      ended = k.ended;
      each_ended = k.ends;
      others = orders_in s.waiting;
      are = are;
      later = placed.0.0;
      first = same ∙ placed.0.1;
    }

-- events that release no lock contain no release
no_release_in : (done before after : List Event) (reply : Result Freed LockRefusal) → released done ≡ [] → done ≡ before ++ LockReleased reply ∷ after → ⊥
no_release_in done before after reply none is =
    none_after (released before) reply (released after) (sym (flat_map-append released_in before (LockReleased reply ∷ after)) ∙ ap released (sym is) ∙ none)

only_one : (given reply : Result Freed LockRefusal) (before after : List Event) → LockReleased given ∷ [] ≡ before ++ LockReleased reply ∷ after → before ≡ []
only_one given reply [] after e = refl
only_one given reply (x ∷ before) after e = let rest : [] ≡ before ++ LockReleased reply ∷ after = cc (e) in absurd (none_after before (LockReleased reply) after (sym rest))

module _ (session : ℕ) (xs : List Event) (s : SessionState) (k : Kept session (exchange_history xs) s) (p : Placed session xs s) (before after : List Event) (reply : Result Freed LockRefusal) where
  here : (done : List Event) (t : SessionState) → SessionStep s done t → done ≡ before ++ LockReleased reply ∷ after → IsInPlace session (xs ++ before)
  here done t (Receives now side received_bytes h) is =
      absurd (no_release_in done before after reply (ap released h.are ∙ received_releases_none now side h.messages (with_channel side s h.channel) h.immediate t h.each) is)
  here done t (Notifies a) is = absurd (no_release_in done before after reply (caused_releases_none s.lock_waits done a.is) is)
  here done t (Ticks now tick) is = absurd (no_release_in done before after reply (ap released tick.are) is)
  here done t (ReleasesLock g) is =
      let none : before ≡ [] = only_one g.reply reply before after (sym g.are ∙ is) in
      subst (IsInPlace session) (sym (ap (λ (z : List Event). xs ++ z) none ∙ append-nil xs)) (in_place session xs s g.later g.none g.first k p)
  here done t (Begins b) is = absurd (no_release_in done before after reply (ap released b.are) is)
  here done t (Works w) is = absurd (no_release_in done before after reply (ap released w.are ∙ effects_release_none w.order.origin w.effects_done) is)
  here done t (Ends e) is = absurd (no_release_in done before after reply (ap released e.are) is)
  here done t (Takes side bytes taking) is = absurd (no_release_in done before after reply (ap released taking.are) is)
  here done t (Writes side w) is = absurd (no_release_in done before after reply (ap released w.are) is)

pub each_release_is_in_place : (start : Start) (history : List Event) (s : SessionState) → Steps (fresh start) history s → (before after : List Event) (reply : Result Freed LockRefusal) → history ≡ before ++ LockReleased reply ∷ after → IsInPlace start.session before
each_release_is_in_place start history s Still before after reply is = absurd (none_after before (LockReleased reply) after (sym is))
each_release_is_in_place start history s (Then {done = done} {t = t} steps more u m) before after reply is = elim (within done more before after (LockReleased reply) is) [
  | Left rest at ↦ each_release_is_in_place start done t steps before rest reply at
  | Right rest at then ↦ subst (IsInPlace start.session) (sym at) (here start.session done t (all_kept start done t steps).kept (all_placed start done t steps) rest after reply more u m then)
]
