-- The events of a session as the laws of an exchange see them.
use Rattle.std.proofs.Common.{◌≡◌, ◌⊎◌, ℕ, Bool, true, false, Option, Some, None, Ok, List, [], ◌∷◌, ◌++◌, refl, sym, ap, ◌∙◌, subst, append_assoc, inl, inr}
use Rattle.std.specs.Prelude.{flat_map, map}
use Rattle.std.proofs.lemmas.List.{append-nil}
use Rattle.std.proofs.lemmas.List.Concat.{flat_map-append}
use Rattle.psu_locks.specs.declared.results.Grant.{Grant}
use Rattle.psu_locks.specs.declared.requests.Kind.{Kind}
use Rattle.psu_hislip.specs.Action.{Act}
use Rattle.psu_hislip.specs.Core.{Core}
use Rattle.psu_hislip.specs.LockResponses.{lock_response}
use Rattle.psu_hislip.specs.Runs.{Arrival, actions_of, core_after, origin_of, origins, outcome, started}
use Rattle.psu_hislip.specs.declared.header.Header.{Header}
use Rattle.psu_hislip.specs.declared.action.Origin.{Origin}
use Rattle.psu_hislip.specs.declared.side.Side.{Side}
use Rattle.psu_hislip.specs.declared.side.Side.TheVariants.{Sync, Async}
use Rattle.psu_hislip.proofs.Runs.{core_after-append}
use Rattle.psu_session.specs.Locking.{kind_of}
use Rattle.psu_session.specs.Orders as orders
use Rattle.psu_session.specs.Orders.{Done, Order, order_in}
use Rattle.psu_session_laws.specs.Exchange.{acts_requested, core_at, orders, reply_of}
use Rattle.psu_session_laws.specs.Exchanged.{ExchangeEvent, Did, Replied, bytes_in, came, execution_in, executions, replied, reply_in, arrivals_in, written}
use Rattle.psu_session.specs.Events as session
use Rattle.psu_session.specs.Events.{Event, if_same, put, waits_after}
use Rattle.psu_session_laws.specs.Views.{put_as, bytes_received, bytes_received_by, exchange_history, exchange_view, taken, taken_by}
use Rattle.psu_session.specs.Step.{Does, Each, IsLocked, IsServiceRequested, IsQueried, IsLockGranted, granted, happened, puts_any, works_in}
use Rattle.psu_session.specs.State.{Execute, order_of_work, orders_in}

-- ---- lists of events

pub exchange_history-append : (xs ys : List Event) → exchange_history (xs ++ ys) ≡ exchange_history xs ++ exchange_history ys
exchange_history-append xs ys = flat_map-append exchange_view xs ys

pub came-append : (xs ys : List ExchangeEvent) → came (xs ++ ys) ≡ came xs ++ came ys
came-append xs ys = flat_map-append arrivals_in xs ys

pub replied-append : (xs ys : List ExchangeEvent) → replied (xs ++ ys) ≡ replied xs ++ replied ys
replied-append xs ys = flat_map-append reply_in xs ys

pub done-append : (xs ys : List ExchangeEvent) → executions (xs ++ ys) ≡ executions xs ++ executions ys
done-append xs ys = flat_map-append execution_in xs ys

pub written-append : (xs ys : List ExchangeEvent) → written (xs ++ ys) ≡ written xs ++ written ys
written-append xs ys = flat_map-append bytes_in xs ys

pub taken-append : (side : Side) (xs ys : List Event) → taken side (xs ++ ys) ≡ taken side xs ++ taken side ys
taken-append side xs ys = flat_map-append (taken_by side) xs ys

-- what the exchange sends on the synchronous connection is what is appended to its output
put_as_written : (side : Side) (frames : List ℕ) → written (put_as side frames) ≡ if_same Sync side frames
put_as_written Sync frames = append-nil frames
put_as_written Async frames = refl

pub written_is_put : (xs : List Event) → written (exchange_history xs) ≡ put Sync xs
written_is_put [] = refl
written_is_put (session.Put side frames ∷ xs) =
    written-append (put_as side frames) (exchange_history xs) ∙ ap (λ (z : List ℕ). z ++ written (exchange_history xs)) (put_as_written side frames) ∙ ap (λ (z : List ℕ). if_same Sync side frames ++ z) (written_is_put xs)
written_is_put (session.Did origin effect frames ∷ xs) = ap (λ (z : List ℕ). frames ++ z) (written_is_put xs)
written_is_put (_ ∷ xs) = written_is_put xs

-- ---- events without a message

module _ (session : ℕ) where
  pub core-append : (xs ys : List ExchangeEvent) → core_at session (xs ++ ys) ≡ core_after (core_at session xs) (came ys)
  core-append xs ys = ap (λ (z : List Arrival). core_after (started session) z) (came-append xs ys) ∙ core_after-append (started session) (came xs) (came ys)

  pub requested-append : (xs ys : List ExchangeEvent) → acts_requested session (xs ++ ys) ≡ acts_requested session xs ++ actions_of (core_at session xs) (came ys)
  requested-append xs ys = ap (λ (z : List Arrival). actions_of (started session) z) (came-append xs ys) ∙ actions (started session) (came xs) (came ys) where
    actions : (core : Core) (ts us : List Arrival) → actions_of core (ts ++ us) ≡ actions_of core ts ++ actions_of (core_after core ts) us
    actions core [] us = refl
    actions core (t ∷ ts) us =
        ap (λ (z : List Act). (outcome core t).actions ++ z) (actions (outcome core t).core ts us)
        ∙ sym (append_assoc (outcome core t).actions (actions_of (outcome core t).core ts) (actions_of (core_after (outcome core t).core ts) us))

  pub core_still : (xs ys : List ExchangeEvent) → came ys ≡ [] → core_at session (xs ++ ys) ≡ core_at session xs
  core_still xs ys none = core-append xs ys ∙ ap (λ (z : List Arrival). core_after (core_at session xs) z) none

  pub asked_still : (xs ys : List ExchangeEvent) → came ys ≡ [] → acts_requested session (xs ++ ys) ≡ acts_requested session xs
  asked_still xs ys none = requested-append xs ys ∙ ap (λ (z : List Arrival). acts_requested session xs ++ actions_of (core_at session xs) z) none ∙ append-nil (acts_requested session xs)

-- ---- replies of the core

abbrev pub as_replies : List (List ℕ) → List ExchangeEvent
as_replies frames = map Replied frames

pub replies_no_arrivals : (frames : List (List ℕ)) → came (as_replies frames) ≡ []
replies_no_arrivals [] = refl
replies_no_arrivals (one ∷ frames) = replies_no_arrivals frames

pub replies_done : (frames : List (List ℕ)) → executions (as_replies frames) ≡ []
replies_done [] = refl
replies_done (one ∷ frames) = replies_done frames

pub replies_replied : (frames : List (List ℕ)) → replied (as_replies frames) ≡ frames
replies_replied [] = refl
replies_replied (one ∷ frames) = ap (λ (z : List (List ℕ)). one ∷ z) (replies_replied frames)

-- the laws see of an action the frames of its replies on the synchronous connection, and nothing else
abbrev IsSeen : List (List ℕ) → List Event → Type 0
IsSeen frames done = exchange_history done ≡ as_replies frames

by_these : (frames : List (List ℕ)) (known done : List Event) → done ≡ known → IsSeen frames known → IsSeen frames done
by_these frames known done e s = subst (λ (z : List Event). IsSeen frames z) (sym e) s

queried : (delivered : Bool) (done : List Event) → IsQueried delivered done → IsSeen [] done
queried true done (byte, e) = by_these [] _ done e refl
queried false done (byte, e) = by_these [] _ done e refl

pub answered : (header : Option Header) → exchange_history (puts_any header) ≡ []
answered None = refl
answered (Some header) = refl

locked : (waits : Bool) (timeout : ℕ) (kind : Option Kind) (done : List Event) → IsLocked waits timeout kind done → IsSeen [] done
locked true timeout kind done e = by_these [] _ done e refl
locked false timeout None done e = by_these [] _ done e refl
locked false timeout (Some kind) done (reply, e) = by_these [] _ done e (answered (lock_response reply))

does : (waits : Bool) (act : Act) (done : List Event) → Does waits act done → IsSeen (reply_of act) done
does waits (Act.Send Sync frames) done e = by_these (frames ∷ []) _ done e refl
does waits (Act.Send Async frames) done e = by_these [] _ done e refl
does waits (Act.Execute origin bytes) done e = by_these [] _ done e refl
does waits (Act.TooMuch origin) done e = by_these [] _ done e refl
does waits (Act.Trigger origin) done e = by_these [] _ done e refl
does waits Act.Delivered done e = by_these [] _ done e refl
does waits (Act.Status delivered) done e = queried delivered done e
does waits (Act.Lock timeout string) done e = locked waits timeout (kind_of string) done e
does waits Act.Release done e = by_these [] _ done e refl
does waits Act.Info done (info, e) = by_these [] _ done e refl
does waits Act.Clear done e = by_these [] _ done e refl
does waits Act.Closed done e = by_these [] _ done e refl

replies-append : (xs ys : List (List ℕ)) → as_replies (xs ++ ys) ≡ as_replies xs ++ as_replies ys
replies-append [] ys = refl
replies-append (x ∷ xs) ys = ap (λ (z : List ExchangeEvent). Replied x ∷ z) (replies-append xs ys)

pub each_seen : (waits : Bool) (acts : List Act) (done : List Event) → Each waits acts done → exchange_history done ≡ as_replies (flat_map reply_of acts)
each_seen waits [] done e = ap exchange_history e
each_seen waits (act ∷ acts) done (first, more, is, one, rest) =
    ap exchange_history is ∙ exchange_history-append first more ∙ ap (λ (z : List ExchangeEvent). z ++ exchange_history more) (does waits act first one)
    ∙ ap (λ (z : List ExchangeEvent). as_replies (reply_of act) ++ z) (each_seen (waits_after waits first) acts more rest) ∙ sym (replies-append (reply_of act) (flat_map reply_of acts))

-- ---- effects

abbrev pub as_effects : Origin → List Done → List ExchangeEvent
as_effects origin done = map (λ d. Did origin d.effect d.frames) done

pub effects_seen : (origin : Origin) (done : List Done) → exchange_history (happened origin done) ≡ as_effects origin done
effects_seen origin [] = refl
effects_seen origin (d ∷ done) = ap (λ (z : List ExchangeEvent). Did origin d.effect d.frames ∷ z) (effects_seen origin done)

pub effects_no_arrivals : (origin : Origin) (done : List Done) → came (as_effects origin done) ≡ []
effects_no_arrivals origin [] = refl
effects_no_arrivals origin (d ∷ done) = effects_no_arrivals origin done

pub effects_replied : (origin : Origin) (done : List Done) → replied (as_effects origin done) ≡ []
effects_replied origin [] = refl
effects_replied origin (d ∷ done) = effects_replied origin done

pub effects_done : (origin : Origin) (done : List Done) → executions (as_effects origin done) ≡ as_effects origin done
effects_done origin [] = refl
effects_done origin (d ∷ done) = ap (λ (z : List ExchangeEvent). Did origin d.effect d.frames ∷ z) (effects_done origin done)

-- what they append, and that they take nothing
pub effects_put : (origin : Origin) (done : List Done) → put Sync (happened origin done) ≡ orders.frames done
effects_put origin [] = refl
effects_put origin (d ∷ done) = ap (λ (z : List ℕ). d.frames ++ z) (effects_put origin done)

pub effects_put_none : (origin : Origin) (done : List Done) → put Async (happened origin done) ≡ []
effects_put_none origin [] = refl
effects_put_none origin (d ∷ done) = effects_put_none origin done

pub effects_take : (side : Side) (origin : Origin) (done : List Done) → taken side (happened origin done) ≡ []
effects_take side origin [] = refl
effects_take side origin (d ∷ done) = effects_take side origin done

pub effects_receive_none : (side : Side) (origin : Origin) (done : List Done) → bytes_received side (happened origin done) ≡ []
effects_receive_none side origin [] = refl
effects_receive_none side origin (d ∷ done) = effects_receive_none side origin done

-- ---- origins

order_origin : (act : Act) → origin_of act ≡ map (λ (o : Order). o.origin) (order_in act)
order_origin (Act.Send side bytes) = refl
order_origin (Act.Execute o bytes) = refl
order_origin (Act.TooMuch o) = refl
order_origin (Act.Trigger o) = refl
order_origin Act.Delivered = refl
order_origin (Act.Status delivered) = refl
order_origin (Act.Lock timeout string) = refl
order_origin Act.Release = refl
order_origin Act.Info = refl
order_origin Act.Clear = refl
order_origin Act.Closed = refl

map-append : {X Y : Type 0} (f : X → Y) (xs ys : List X) → map f (xs ++ ys) ≡ map f xs ++ map f ys
map-append f [] ys = refl
map-append f (x ∷ xs) ys = ap (λ z. f x ∷ z) (map-append f xs ys)

pub origins_of_orders : (acts : List Act) → origins acts ≡ map (λ (o : Order). o.origin) (flat_map order_in acts)
origins_of_orders [] = refl
origins_of_orders (act ∷ acts) =
    ap (λ (z : List Origin). z ++ origins acts) (order_origin act) ∙ ap (λ (z : List Origin). map (λ (o : Order). o.origin) (order_in act) ++ z) (origins_of_orders acts)
    ∙ sym (map-append (λ (o : Order). o.origin) (order_in act) (flat_map order_in acts))

-- the origin of a transmission among others
pub origin_among : (before : List Order) (order : Order) (after : List Order) → map (λ (o : Order). o.origin) (before ++ order ∷ after) ≡ map (λ (o : Order). o.origin) before ++ order.origin ∷ map (λ (o : Order). o.origin) after
origin_among before order after = map-append (λ (o : Order). o.origin) before (order ∷ after)

-- ---- what is taken

each_keeps : (side : Side) (waits : Bool) (act : Act) (done : List Event) → Does waits act done → taken side done ≡ []
each_keeps side waits (Act.Send on frames) done e = ap (taken side) e
each_keeps side waits (Act.Execute origin bytes) done e = ap (taken side) e
each_keeps side waits (Act.TooMuch origin) done e = ap (taken side) e
each_keeps side waits (Act.Trigger origin) done e = ap (taken side) e
each_keeps side waits Act.Delivered done e = ap (taken side) e
each_keeps side waits (Act.Status true) done (byte, e) = ap (taken side) e
each_keeps side waits (Act.Status false) done (byte, e) = ap (taken side) e
each_keeps side waits (Act.Lock timeout string) done e = locks waits (kind_of string) e where
  answers : (header : Option Header) → taken side (puts_any header) ≡ []
  answers None = refl
  answers (Some header) = refl

  locks : (waiting : Bool) (kind : Option Kind) → IsLocked waiting timeout kind done → taken side done ≡ []
  locks true kind e = ap (taken side) e
  locks false None e = ap (taken side) e
  locks false (Some kind) (reply, e) = ap (taken side) e ∙ answers (lock_response reply)
each_keeps side waits Act.Release done e = ap (taken side) e
each_keeps side waits Act.Info done (info, e) = ap (taken side) e
each_keeps side waits Act.Clear done e = ap (taken side) e
each_keeps side waits Act.Closed done e = ap (taken side) e

-- the events of a message take nothing
pub immediate_keep : (side : Side) (waits : Bool) (acts : List Act) (done : List Event) → Each waits acts done → taken side done ≡ []
immediate_keep side waits [] done e = ap (taken side) e
immediate_keep side waits (act ∷ acts) done (first, more, is, one, rest) =
    ap (taken side) is ∙ taken-append side first more ∙ ap (λ (z : List ℕ). z ++ taken side more) (each_keeps side waits act first one) ∙ immediate_keep side (waits_after waits first) acts more rest

-- ---- received bytes

pub bytes_received-append : (side : Side) (xs ys : List Event) → bytes_received side (xs ++ ys) ≡ bytes_received side xs ++ bytes_received side ys
bytes_received-append side xs ys = flat_map-append (bytes_received_by side) xs ys

each_quiet : (side : Side) (waits : Bool) (act : Act) (done : List Event) → Does waits act done → bytes_received side done ≡ []
each_quiet side waits (Act.Send on frames) done e = ap (bytes_received side) e
each_quiet side waits (Act.Execute origin bytes) done e = ap (bytes_received side) e
each_quiet side waits (Act.TooMuch origin) done e = ap (bytes_received side) e
each_quiet side waits (Act.Trigger origin) done e = ap (bytes_received side) e
each_quiet side waits Act.Delivered done e = ap (bytes_received side) e
each_quiet side waits (Act.Status true) done (byte, e) = ap (bytes_received side) e
each_quiet side waits (Act.Status false) done (byte, e) = ap (bytes_received side) e
each_quiet side waits (Act.Lock timeout string) done e = locks waits (kind_of string) e where
  answers : (header : Option Header) → bytes_received side (puts_any header) ≡ []
  answers None = refl
  answers (Some header) = refl

  locks : (waiting : Bool) (kind : Option Kind) → IsLocked waiting timeout kind done → bytes_received side done ≡ []
  locks true kind e = ap (bytes_received side) e
  locks false None e = ap (bytes_received side) e
  locks false (Some kind) (reply, e) = ap (bytes_received side) e ∙ answers (lock_response reply)
each_quiet side waits Act.Release done e = ap (bytes_received side) e
each_quiet side waits Act.Info done (info, e) = ap (bytes_received side) e
each_quiet side waits Act.Clear done e = ap (bytes_received side) e
each_quiet side waits Act.Closed done e = ap (bytes_received side) e

-- and they receive no bytes
pub immediate_quiet : (side : Side) (waits : Bool) (acts : List Act) (done : List Event) → Each waits acts done → bytes_received side done ≡ []
immediate_quiet side waits [] done e = ap (bytes_received side) e
immediate_quiet side waits (act ∷ acts) done (first, more, is, one, rest) =
    ap (bytes_received side) is ∙ bytes_received-append side first more ∙ ap (λ (z : List ℕ). z ++ bytes_received side more) (each_quiet side waits act first one) ∙ immediate_quiet side (waits_after waits first) acts more rest

-- the laws see nothing of notifications, and these take nothing and receive no bytes
abbrev IsCaused : Bool → List Event → Type 0
IsCaused waits done = ((grant : Grant) × IsLockGranted waits grant done) ⊎ IsServiceRequested done

granted_seen : (waits : Bool) (header : Option Header) (grant : Grant) → exchange_history (granted waits header grant) ≡ []
granted_seen false header grant = refl
granted_seen true None grant = refl
granted_seen true (Some header) grant = refl

granted_taken : (side : Side) (waits : Bool) (header : Option Header) (grant : Grant) → taken side (granted waits header grant) ≡ []
granted_taken side false header grant = refl
granted_taken side true None grant = refl
granted_taken side true (Some header) grant = refl

granted_received : (side : Side) (waits : Bool) (header : Option Header) (grant : Grant) → bytes_received side (granted waits header grant) ≡ []
granted_received side false header grant = refl
granted_received side true None grant = refl
granted_received side true (Some header) grant = refl

pub caused_seen : (waits : Bool) (done : List Event) → IsCaused waits done → exchange_history done ≡ []
caused_seen waits done (inl (grant, e)) = ap exchange_history e ∙ granted_seen waits (lock_response (Ok grant)) grant
caused_seen waits done (inr (request, e)) = ap exchange_history e

pub caused_taken : (waits : Bool) (side : Side) (done : List Event) → IsCaused waits done → taken side done ≡ []
caused_taken waits side done (inl (grant, e)) = ap (taken side) e ∙ granted_taken side waits (lock_response (Ok grant)) grant
caused_taken waits side done (inr (request, e)) = ap (taken side) e

pub caused_received : (waits : Bool) (side : Side) (done : List Event) → IsCaused waits done → bytes_received side done ≡ []
caused_received waits side done (inl (grant, e)) = ap (bytes_received side) e ∙ granted_received side waits (lock_response (Ok grant)) grant
caused_received waits side done (inr (request, e)) = ap (bytes_received side) e

-- ---- transmissions

orders_of_list : (orders : List Order) → orders_in (map Execute orders) ≡ orders
orders_of_list [] = refl
orders_of_list (order ∷ orders) = ap (λ (z : List Order). order ∷ z) (orders_of_list orders)

pub orders_of_works : (acts : List Act) → orders_in (flat_map works_in acts) ≡ flat_map order_in acts
orders_of_works [] = refl
orders_of_works (act ∷ acts) =
    flat_map-append order_of_work (works_in act) (flat_map works_in acts) ∙ ap (λ (z : List Order). z ++ orders_in (flat_map works_in acts)) (orders_of_list (order_in act))
    ∙ ap (λ (z : List Order). order_in act ++ z) (orders_of_works acts)
