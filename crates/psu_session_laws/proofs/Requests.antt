-- What messages request is done once and in order.
use Rattle.std.proofs.Common.{◌≡◌, ◌⊎◌, ℕ, Bool, true, false, Option, Some, None, Result, Ok, List, [], ◌∷◌, ◌++◌, refl, sym, ap, ◌∙◌, subst, append_assoc, inl, inr}
use Rattle.std.specs.Prelude.{flat_map}
use Rattle.std.proofs.lemmas.List.{append-nil}
use Rattle.std.proofs.lemmas.List.Concat.{flat_map-append}
use Rattle.psu_locks.specs.declared.results.Grant.{Grant}
use Rattle.psu_locks.specs.declared.requests.Kind.{Kind}
use Rattle.psu_locks.specs.declared.results.LockRefusal.{LockRefusal}
use Rattle.psu_hislip.specs.Action.{Act}
use Rattle.psu_hislip.specs.Core.{Core, outcome_of}
use Rattle.psu_hislip.specs.LockResponses.{lock_response}
use Rattle.psu_hislip.specs.Runs.{Arrival}
use Rattle.psu_hislip.specs.Stream.{Received}
use Rattle.psu_hislip.specs.declared.header.Header.{Header}
use Rattle.psu_hislip.specs.declared.action.Origin.{Origin}
use Rattle.psu_hislip.specs.declared.side.Side.{Side}
use Rattle.psu_session.specs.Locking.{kind_of}
use Rattle.psu_session.specs.Orders.{Done}
use Rattle.psu_session_laws.specs.Exchange.{acts_requested, core_at}
use Rattle.psu_session_laws.specs.Exchanged.{came}
use Rattle.psu_session.specs.Events as events
use Rattle.psu_session.specs.Events.{Call, Event, waits_after, waits_by, waits_by_call}
use Rattle.psu_session_laws.specs.Views.{exchange_history}
use Rattle.psu_session_laws.specs.Requests.{AreServed, immediate, serving, serving_in}
use Rattle.psu_session_laws.specs.Requests.AreServed.{NoneLeft, HasResult, Serves}
use Rattle.psu_session.specs.Step.{Does, Each, EachReceived, IsLocked, IsLockGranted, IsMessageReceived, IsServiceRequested, SessionStep, Steps, granted, happened, puts_any}
use Rattle.psu_session.specs.Step.SessionStep.{Receives, Notifies, Ticks, Begins, Works, ReleasesLock, Ends, Takes, Writes}
use Rattle.psu_session.specs.Step.Steps.{Still, Then}
use Rattle.psu_session.specs.State.{Start, SessionState, fresh, with_channel}
use Rattle.psu_session_laws.proofs.ExchangeEvents.{asked_still, caused_seen, effects_no_arrivals, effects_seen, exchange_history-append, replies_no_arrivals}
use Rattle.psu_session_laws.proofs.Exchanging.{all_kept}
use Rattle.psu_session_laws.proofs.Immediate.{each_does}
use Rattle.psu_session_laws.proofs.Keeping.{Kept, arrival, asked_more, frames, none_after}
use Rattle.psu_session.proofs.Serving.{waits_after-append}
use Rattle.psu_session_laws.proofs.Splitting.{within}
use Rattle.psu_session_laws.proofs.Splitting.Within.{Left, Right}
use Rattle.psu_session_laws.proofs.StepKeeping.{received_one, same_history, seen_of, unseen, with_feed}
use Rattle.psu_session_laws.proofs.Waits.{fed_waits, one_message, wait_is_known}

-- ---- the events of a message

-- what is done immediately serves the requests, and results have no part in it
immediate_serves : (xs : List Event) → serving (immediate xs) ≡ immediate xs
immediate_serves [] = refl
immediate_serves (events.DeviceCalled call ∷ xs) = ap (λ (z : List Event). events.DeviceCalled call ∷ z) (immediate_serves xs)
immediate_serves (events.Put side bytes ∷ xs) = ap (λ (z : List Event). events.Put side bytes ∷ z) (immediate_serves xs)
immediate_serves (_ ∷ xs) = immediate_serves xs

each_serves : (waits : Bool) (acts : List Act) (done : List Event) → Each waits acts done → serving done ≡ done
each_serves waits acts done each =
    let same = each_does waits acts done each in
    subst (λ (z : List Event). serving z ≡ z) same (immediate_serves done)

are_served : (waits : Bool) (acts : List Act) (done : List Event) → Each waits acts done → AreServed waits acts done
are_served waits [] done e = subst (λ (z : List Event). AreServed waits [] z) (sym e) NoneLeft
are_served waits (act ∷ acts) done (first, more, is, one, rest) =
    subst (λ (z : List Event). AreServed waits (act ∷ acts) z) (sym is) (Serves act first one (are_served (waits_after waits first) acts more rest))

served-append : {waits : Bool} {xs ys : List Act} {a b : List Event} → AreServed waits xs a → AreServed (waits_after waits a) ys b → AreServed waits (xs ++ ys) (a ++ b)
served-append NoneLeft q = q
served-append (HasResult grant p) q = HasResult grant (served-append p q)
served-append {waits} {xs} {ys} {a} {b} (Serves {acts = acts} {events = more} act first one p) q =
    subst (λ (z : List Event). AreServed waits (act ∷ (acts ++ ys)) z) (sym (append_assoc first more b))
    (Serves act first one (served-append p (subst (λ (z : Bool). AreServed z ys b) (waits_after-append waits first more) q)))

-- ---- the wait

-- events that do not serve requests do not change whether a lock request waits
serving_waits : (waits : Bool) (xs : List Event) → waits_after waits (serving xs) ≡ waits_after waits xs
serving_waits waits [] = refl
serving_waits waits (events.LockGranted grant ∷ xs) = serving_waits false xs
serving_waits waits (events.DeviceCalled call ∷ xs) = serving_waits (waits_by_call waits call) xs
serving_waits waits (_ ∷ xs) = serving_waits waits xs

effects_serve_none : (origin : Origin) (done : List Done) → serving (happened origin done) ≡ []
effects_serve_none origin [] = refl
effects_serve_none origin (d ∷ done) = effects_serve_none origin done

-- ---- steps

module _ (session : ℕ) where
  abbrev Served : List Event → Type 0
  Served xs = AreServed false (acts_requested session (exchange_history xs)) (serving xs)

  same_events : (xs ys : List Event) → ys ≡ xs → Served xs → Served ys
  same_events xs ys e v = subst Served (sym e) v

  -- events that no message requests
  unasked : (xs done : List Event) → came (exchange_history done) ≡ [] → AreServed (waits_after false (serving xs)) [] (serving done) → Served xs → Served (xs ++ done)
  unasked xs done none more v =
      let asks : acts_requested session (exchange_history (xs ++ done)) ≡ acts_requested session (exchange_history xs)
      = ap (acts_requested session) (exchange_history-append xs done) ∙ asked_still session (exchange_history xs) (exchange_history done) none in
      let did : serving (xs ++ done) ≡ serving xs ++ serving done = flat_map-append serving_in xs done in
      subst (λ (z : List Act). AreServed false z (serving (xs ++ done))) (append-nil (acts_requested session (exchange_history xs)) ∙ sym asks)
      (subst (λ (z : List Event). AreServed false (acts_requested session (exchange_history xs) ++ []) z) (sym did) (served-append v more))

  quiet : (xs done : List Event) → came (exchange_history done) ≡ [] → serving done ≡ [] → Served xs → Served (xs ++ done)
  quiet xs done none still v = unasked xs done none (subst (λ (z : List Event). AreServed (waits_after false (serving xs)) [] z) (sym still) NoneLeft) v

  requested_one : (xs : List Event) (s : SessionState) (now : ℕ) (side : Side) (message : Received) (done : List Event) (t : SessionState) → s.core ≡ core_at session (exchange_history xs) → s.lock_waits ≡ waits_after false xs → Served xs
      → IsMessageReceived now side message s done t → Served (xs ++ done)
  requested_one xs s now side message done t core waits v r =
      let l = exchange_history xs in
      let acts = (outcome_of s.core side message).actions in
      let one : came (exchange_history done) ≡ arrival side message ∷ []
      = ap came (seen_of session l s now side message done t core r) ∙ ap (λ (z : List Arrival). arrival side message ∷ z) (replies_no_arrivals (frames session l side message)) in
      let asks : acts_requested session (exchange_history (xs ++ done)) ≡ acts_requested session l ++ acts
      = ap (acts_requested session) (exchange_history-append xs done) ∙ asked_more session l side message (exchange_history done) one ∙ ap (λ (z : Core). acts_requested session l ++ (outcome_of z side message).actions) (sym core) in
      let did : serving (xs ++ done) ≡ serving xs ++ r.immediate
      = flat_map-append serving_in xs done ∙ ap (λ (z : List Event). serving xs ++ z) (ap serving r.are ∙ each_serves s.lock_waits acts r.immediate r.each) in
      let here : s.lock_waits ≡ waits_after false (serving xs) = waits ∙ sym (serving_waits false xs) in
      let each : AreServed (waits_after false (serving xs)) acts r.immediate = subst (λ (z : Bool). AreServed z acts r.immediate) here (are_served s.lock_waits acts r.immediate r.each) in
      subst (λ (z : List Act). AreServed false z (serving (xs ++ done))) (sym asks) (subst (λ (z : List Event). AreServed false (acts_requested session l ++ acts) z) (sym did) (served-append v each))

  requested_each : (now : ℕ) (side : Side) (messages : List Received) (xs : List Event) (s : SessionState) (done : List Event) (t : SessionState) → Kept session (exchange_history xs) s → s.lock_waits ≡ waits_after false xs → Served xs
      → EachReceived now side messages s done t → Served (xs ++ done)
  requested_each now side [] xs s done t k waits v (none, same) = quiet xs done (ap (λ (z : List Event). came (exchange_history z)) none) (ap serving none) v
  requested_each now side (message ∷ messages) xs s done t k waits v (mid, first, more, is, one, rest) =
      let waits_then : mid.lock_waits ≡ waits_after false (xs ++ first)
      = one_message now side message s first mid one ∙ ap (λ (z : Bool). waits_after z first) waits ∙ sym (waits_after-append false xs first) in
      same_events ((xs ++ first) ++ more) (xs ++ done) (ap (λ (z : List Event). xs ++ z) is ∙ sym (append_assoc xs first more))
      (requested_each now side messages (xs ++ first) mid more t (received_one session xs s now side message first mid k one) waits_then (requested_one xs s now side message first mid k.core waits v one) rest)

  result : (waits : Bool) (header : Option Header) (grant : Grant) (now : Bool) → AreServed now [] (serving (granted waits header grant))
  result false header grant now = NoneLeft
  result true None grant now = NoneLeft
  result true (Some header) grant now = HasResult grant NoneLeft

  caused : (waits : Bool) (done : List Event) (now : Bool) → ((grant : Grant) × IsLockGranted waits grant done) ⊎ IsServiceRequested done → AreServed now [] (serving done)
  caused waits done now (inl (grant, e)) = subst (λ (z : List Event). AreServed now [] (serving z)) (sym e) (result waits (lock_response (Ok grant)) grant now)
  caused waits done now (inr (request, e)) = subst (λ (z : List Event). AreServed now [] (serving z)) (sym e) NoneLeft

  serves : (xs : List Event) (s : SessionState) (done : List Event) (t : SessionState) → Kept session (exchange_history xs) s → s.lock_waits ≡ waits_after false xs → SessionStep s done t → Served xs → Served (xs ++ done)
  serves xs s done t k waits (Receives now side received_bytes h) v =
      let first : List Event = events.BytesReceived side received_bytes ∷ [] in
      same_events ((xs ++ first) ++ h.immediate) (xs ++ done) (ap (λ (z : List Event). xs ++ z) h.are ∙ sym (append_assoc xs first h.immediate))
      (requested_each now side h.messages (xs ++ first) (with_channel side s h.channel) h.immediate t
      (same_history session _ (exchange_history (xs ++ first)) _ (unseen xs first refl) (with_feed side s h.channel session (exchange_history xs) k))
      (fed_waits side s h.channel ∙ waits ∙ sym (waits_after-append false xs first)) (quiet xs first refl refl v) h.each)
  serves xs s done t k waits (Notifies a) v = unasked xs done (ap came (caused_seen s.lock_waits done a.is)) (caused s.lock_waits done (waits_after false (serving xs)) a.is) v
  serves xs s done t k waits (Ticks now tick) v = quiet xs done (ap (λ (z : List Event). came (exchange_history z)) tick.are) (ap serving tick.are) v
  serves xs s done t k waits (ReleasesLock g) v = quiet xs done (ap (λ (z : List Event). came (exchange_history z)) g.are) (ap serving g.are) v
  serves xs s done t k waits (Begins b) v = quiet xs done (ap (λ (z : List Event). came (exchange_history z)) b.are) (ap serving b.are) v
  serves xs s done t k waits (Works w) v =
      quiet xs done (ap (λ (z : List Event). came (exchange_history z)) w.are ∙ ap came (effects_seen w.order.origin w.effects_done) ∙ effects_no_arrivals w.order.origin w.effects_done)
      (ap serving w.are ∙ effects_serve_none w.order.origin w.effects_done) v
  serves xs s done t k waits (Ends e) v = quiet xs done (ap (λ (z : List Event). came (exchange_history z)) e.are) (ap serving e.are) v
  serves xs s done t k waits (Takes side bytes taking) v = quiet xs done (ap (λ (z : List Event). came (exchange_history z)) taking.are) (ap serving taking.are) v
  serves xs s done t k waits (Writes side w) v = quiet xs done (ap (λ (z : List Event). came (exchange_history z)) w.are) (ap serving w.are) v

pub requests_are_served : (start : Start) (history : List Event) (s : SessionState) → Steps (fresh start) history s → AreServed false (acts_requested start.session (exchange_history history)) (serving history)
requests_are_served start history s Still = NoneLeft
requests_are_served start history s (Then {done = done} {t = t} steps more u m) =
    serves start.session done t more u (all_kept start done t steps).kept (wait_is_known start done t steps) m (requests_are_served start done t steps)

-- ---- at most one lock request waits

-- the requests of a lock
abbrev lock_in : Event → List Call
lock_in (events.DeviceCalled (events.Locked kind timeout reply)) = events.Locked kind timeout reply ∷ []
lock_in event = []

abbrev locks : List Event → List Call
locks history = flat_map lock_in history

responses_lock_none : (header : Option Header) → locks (puts_any header) ≡ []
responses_lock_none None = refl
responses_lock_none (Some header) = refl

module _ (kind : Kind) (timeout : ℕ) (reply : Result Grant LockRefusal) where
  abbrev call : Event
  call = events.DeviceCalled (events.Locked kind timeout reply)

  no_lock : (done before after : List Event) → locks done ≡ [] → done ≡ before ++ call ∷ after → ⊥
  no_lock done before after none is =
      none_after (locks before) (events.Locked kind timeout reply) (locks after) (sym (flat_map-append lock_in before (call ∷ after)) ∙ ap locks (sym is) ∙ none)

  -- only the first event of a lock request is the call
  in_lock : (waits : Bool) (limit : ℕ) (wanted : Option Kind) (done before after : List Event) → IsLocked waits limit wanted done → done ≡ before ++ call ∷ after → waits_after waits before ≡ false
  in_lock true limit wanted done before after e is = absurd (no_lock done before after (ap locks e) is)
  in_lock false limit None done before after e is = absurd (no_lock done before after (ap locks e) is)
  in_lock false limit (Some wanted) done [] after (given, e) is = refl
  in_lock false limit (Some wanted) done (x ∷ before) after (given, e) is =
      let rest : puts_any (lock_response given) ≡ before ++ call ∷ after = cc (e, is) in
      absurd (no_lock (puts_any (lock_response given)) before after (responses_lock_none (lock_response given)) rest)

  in_one : (waits : Bool) (act : Act) (done before after : List Event) → Does waits act done → done ≡ before ++ call ∷ after → waits_after waits before ≡ false
  in_one waits (Act.Send side bytes) done before after e is = absurd (no_lock done before after (ap locks e) is)
  in_one waits (Act.Execute origin bytes) done before after e is = absurd (no_lock done before after (ap locks e) is)
  in_one waits (Act.TooMuch origin) done before after e is = absurd (no_lock done before after (ap locks e) is)
  in_one waits (Act.Trigger origin) done before after e is = absurd (no_lock done before after (ap locks e) is)
  in_one waits Act.Delivered done before after e is = absurd (no_lock done before after (ap locks e) is)
  in_one waits (Act.Status true) done before after (byte, e) is = absurd (no_lock done before after (ap locks e) is)
  in_one waits (Act.Status false) done before after (byte, e) is = absurd (no_lock done before after (ap locks e) is)
  in_one waits (Act.Lock limit string) done before after e is = in_lock waits limit (kind_of string) done before after e is
  in_one waits Act.Release done before after e is = absurd (no_lock done before after (ap locks e) is)
  in_one waits Act.Info done before after (info, e) is = absurd (no_lock done before after (ap locks e) is)
  in_one waits Act.Clear done before after e is = absurd (no_lock done before after (ap locks e) is)
  in_one waits Act.Closed done before after e is = absurd (no_lock done before after (ap locks e) is)

  asked_while_none_waits : {waits : Bool} {acts : List Act} {done : List Event} (before after : List Event) → AreServed waits acts done → done ≡ before ++ call ∷ after → waits_after waits before ≡ false
  asked_while_none_waits before after NoneLeft is = absurd (none_after before call after (sym is))
  asked_while_none_waits [] after (HasResult grant p) is = absurd (cc (is))
  asked_while_none_waits {waits} (x ∷ before) after (HasResult {events = more} grant p) is =
      let first : events.LockGranted grant ≡ x = cc (is) in
      let rest : more ≡ before ++ call ∷ after = cc (is) in
      subst (λ (z : Event). waits_after (waits_by waits z) before ≡ false) first (asked_while_none_waits before after p rest)
  asked_while_none_waits {waits} before after (Serves {events = more} act done one p) is = elim (within done more before after call is) [
    | Left rest here ↦ in_one waits act done before rest one here
    | Right rest at then ↦ ap (λ (z : List Event). waits_after waits z) at ∙ waits_after-append waits done rest ∙ asked_while_none_waits rest after p then
  ]

pub one_waits : (start : Start) (history : List Event) (s : SessionState) → Steps (fresh start) history s → (before after : List Event) (kind : Kind) (timeout : ℕ) (reply : Result Grant LockRefusal)
    → history ≡ before ++ events.DeviceCalled (events.Locked kind timeout reply) ∷ after → waits_after false before ≡ false
one_waits start history s steps before after kind timeout reply is =
    let split : serving history ≡ serving before ++ events.DeviceCalled (events.Locked kind timeout reply) ∷ serving after = ap serving is ∙ flat_map-append serving_in before (events.DeviceCalled (events.Locked kind timeout reply) ∷ after) in
    sym (serving_waits false before) ∙ asked_while_none_waits kind timeout reply (serving before) (serving after) (requests_are_served start history s steps) split
