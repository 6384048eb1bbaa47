-- The calls of the device where a step is not completed.
use Rattle.std.proofs.Common.{◌≡◌, ◌∙◌, ℕ, ◌+◌, ◌≤◌, arith, flat_map, Bool, true, false, Option, Some, None, List, [], ◌∷◌, ◌++◌, refl, sym, subst, append_assoc, Result, Ok, Err, OnErr, IfErr}
use Rattle.std.proofs.lemmas.List.{append-nil}
use Rattle.psu_locks.specs.declared.requests.Kind.{Kind}
use Rattle.psu_locks.specs.declared.results.LockRefusal.TheVariants.{NotHeld}
use Rattle.psu_hislip.specs.Action.{Act}
use Rattle.psu_hislip.specs.Core.{Core, outcome_of}
use Rattle.psu_hislip.specs.Stream.{Received}
use Rattle.psu_hislip.specs.declared.side.Side.{Side}
use Rattle.psu_session.specs.Locking.{kind_of}
use Rattle.psu_session.specs.Feeding.{IsFed}
use Rattle.psu_session.specs.Events.{BytesReceived, Call, Event, Came, calls, waits_after}
use Rattle.psu_session.specs.Credit.{cost, cost_of, held_with}
use Rattle.psu_session.specs.Orders.{Order}
use Rattle.psu_session.specs.Numbers.{number_on, parameter}
use Rattle.psu_session.specs.Step.{Does, Each, EachReceived, IsLocked, IsMessageReceived, IsReceived, arrived, release_in, works_in}
use Rattle.psu_session.specs.Serving.{Runs}
use Rattle.psu_session.specs.Stopping.{CallsPrefix, IsEndCause, IsQueueCause, StopsIn}
use Rattle.psu_session.specs.declared.phase.EndCause.{EndCause}
use Rattle.psu_session.specs.declared.phase.EndCause.TheVariants.{Memory, TooMuchHeld, Disconnected}
use Rattle.psu_session.specs.State.{Release, SessionState, Work, added, numbered, orders_in, owed_with, with_core}
use Rattle.psu_session.proofs.Serving.{DoneSoFar, held_with_works, more_added, owed_with-append, runs_after}
use Rattle.psu_session.proofs.ReceivedMessages.{Receiving}

pub on_err : {T E P Q : Type 0} (r : Result T E) → (P → Q) → OnErr r P → OnErr r Q
on_err (Ok x) f p = tt
on_err (Err e) f p = f p

pub if_err : {T E Q : Type 0} (r : Result T E) → Q → OnErr r Q
if_err (Ok x) q = tt
if_err (Err e) q = q

-- what holds of an error implies something else of it
pub on_cause : {T E : Type 0} {P Q : E → Type 0} (r : Result T E) → ((e : E) → P e → Q e) → IfErr r P → IfErr r Q
on_cause (Ok x) f p = tt
on_cause (Err e) f p = f e p

pub for_cause : {T E : Type 0} {Q : E → Type 0} (r : Result T E) → ((e : E) → Q e) → IfErr r Q
for_cause (Ok x) q = tt
for_cause (Err e) q = q e

-- ---- more than may be held

held_grows : (orders : List Order) (held : ℕ) → held ≤ held_with orders held
held_grows [] held = omega arith
held_grows (order ∷ orders) held = omega (arith, held_grows orders (held + cost_of order))

owed_grows : (releases : List Release) (owed : ℕ) → owed ≤ owed_with releases owed
owed_grows [] owed = omega arith
owed_grows (release ∷ releases) owed = omega (arith, owed_grows releases (owed + cost 0))

-- where more is held in the end, what was held before fits too
abbrev pub Fits : SessionState → SessionState → Type 0
Fits s t = (s.held ≤ t.held) × (s.owed ≤ t.owed)

fits_trans : (s t u : SessionState) → Fits s t → Fits t u → Fits s u
fits_trans s t u p q = (omega (arith, p.0, q.0), omega (arith, p.1, q.1))

-- the cause of a stop is that of a step that would have gone on
pub cause_later : (cause : EndCause) (s t : SessionState) → Fits s t → IsEndCause cause s → IsEndCause cause t
cause_later Memory s t fits is = tt
cause_later TooMuchHeld s t fits is = λ bounded. is (omega (arith, fits.0, bounded.0), omega (arith, fits.1, bounded.1))
cause_later Disconnected s t fits is = is

added_fits : (s : SessionState) (works : List Work) (requested : List Release) (done : List Event) → Fits s (added s works requested done)
added_fits s works requested done = (held_grows (orders_in works) s.held, owed_grows requested s.owed)

-- what is queued first of all
first_fits : (s : SessionState) (first second : List Work) (one two : List Release) (done : List Event) → Fits (added s first one done) (added s (first ++ second) (one ++ two) [])
first_fits s first second one two done = (
  omega (arith, held_with_works first second s.held, held_grows (orders_in second) (held_with (orders_in first) s.held)),
  omega (arith, owed_with-append one two s.owed, owed_grows two (owed_with one s.owed)),
)

-- what an action would queue after others is more than may be held, and so is what all actions would
pub queue_cause : (cause : EndCause) (s t : SessionState) (given first later all : List Work) (released one two requested : List Release) (done : List Event)
    → t ≡ added s given released done → all ≡ given ++ (first ++ later) → requested ≡ released ++ (one ++ two) → IsQueueCause cause first one t → IsQueueCause cause all requested s
queue_cause cause s t given first later all released one two requested done then all_works all_requested is =
    let here = subst (λ (z : SessionState). IsQueueCause cause first one z) then is in
    subst (λ (z : List Work). IsQueueCause cause z requested s) (sym (all_works ∙ sym (append_assoc given first later)))
    (subst (λ (z : List Release). IsQueueCause cause ((given ++ first) ++ later) z s) (sym (all_requested ∙ sym (append_assoc released one two)))
    (cause_later cause (added s (given ++ first) (released ++ one) (done ++ [])) (added s ((given ++ first) ++ later) ((released ++ one) ++ two) [])
    (first_fits s (given ++ first) later (released ++ one) two (done ++ []))
    (subst (λ (z : SessionState). IsEndCause cause z) (more_added s given first released one done []) here)))

numbered_fits : (s : SessionState) (number : Option ℕ) → Fits s (numbered s number)
numbered_fits s None = (omega arith, omega arith)
numbered_fits s (Some number) = (omega arith, omega arith)

-- a message leads to no less than was held, and to what its actions queue
arrived_fits : (now : ℕ) (side : Side) (message : Received) (acts : List Act) (s : SessionState) (core : Core) (done : List Event)
    → Fits (added s (flat_map works_in acts) (flat_map (release_in now (parameter message)) acts) []) (arrived now side message acts (with_core s core) done)
arrived_fits now side message acts s core done = numbered_fits (added (with_core s core) (flat_map works_in acts) (flat_map (release_in now (parameter message)) acts) done) (number_on side message)

message_fits : (now : ℕ) (side : Side) (message : Received) (s : SessionState) (done : List Event) (t : SessionState) → IsMessageReceived now side message s done t → Fits s t
message_fits now side message s done t m =
    let acts = (outcome_of s.core side message).actions in
    subst (λ (z : SessionState). Fits s z) (sym m.then)
    (fits_trans s (added s (flat_map works_in acts) (flat_map (release_in now (parameter message)) acts) []) (arrived now side message acts (with_core s (outcome_of s.core side message).core) m.immediate)
    (added_fits s (flat_map works_in acts) (flat_map (release_in now (parameter message)) acts) []) (arrived_fits now side message acts s (outcome_of s.core side message).core m.immediate))

messages_fit : (now : ℕ) (side : Side) (messages : List Received) (s : SessionState) (done : List Event) (t : SessionState) → EachReceived now side messages s done t → Fits s t
messages_fit now side [] s done t each = subst (λ (z : SessionState). Fits s z) (sym each.1) (omega arith, omega arith)
messages_fit now side (message ∷ messages) s done t (mid, first, more, are, m, each) = fits_trans s mid t (message_fits now side message s first mid m) (messages_fit now side messages mid more t each)

-- ---- the rest of a step

-- an action, whatever it requests, has some events
some_locked : (waits : Bool) (timeout : ℕ) (kind : Option Kind) → (done : List Event) × IsLocked waits timeout kind done
some_locked true timeout kind = (_, refl)
some_locked false timeout None = (_, refl)
some_locked false timeout (Some kind) = (_, (Err NotHeld, refl))

some_events : (waits : Bool) (act : Act) → (done : List Event) × Does waits act done
some_events waits (Act.Send side frames) = (_, refl)
some_events waits (Act.Execute origin bytes) = (_, refl)
some_events waits (Act.TooMuch origin) = (_, refl)
some_events waits (Act.Trigger origin) = (_, refl)
some_events waits Act.Delivered = (_, refl)
some_events waits (Act.Status delivered) = (_, (0, refl))
some_events waits (Act.Lock timeout string) = some_locked waits timeout (kind_of string)
some_events waits Act.Release = (_, refl)
some_events waits Act.Info = (_, (record { exclusive = false; holders = 0 }, refl))
some_events waits Act.Clear = (_, refl)
some_events waits Act.Closed = (_, refl)

-- and so have actions, one after another
some_each : (waits : Bool) (acts : List Act) → (done : List Event) × Each waits acts done
some_each waits [] = ([], refl)
some_each waits (act ∷ acts) =
    let first = some_events waits act in
    let more = some_each (waits_after waits first.0) acts in
    (first.0 ++ more.0, (first.0, more.0, refl, first.1, more.1))

-- and a message
some_message : (now : ℕ) (side : Side) (message : Received) (s : SessionState) → (done : List Event) × (t : SessionState) × IsMessageReceived now side message s done t
some_message now side message s =
    let acts = (outcome_of s.core side message).actions in
    let each = some_each s.lock_waits acts in
    (Came side message ∷ each.0, arrived now side message acts (with_core s (outcome_of s.core side message).core) each.0, record { immediate = each.0; each = each.1; are = refl; then = refl })

-- and messages, one after another
some_messages : (now : ℕ) (side : Side) (messages : List Received) (s : SessionState) → (done : List Event) × (t : SessionState) × EachReceived now side messages s done t
some_messages now side [] s = ([], s, (refl, refl))
some_messages now side (message ∷ messages) s =
    let first = some_message now side message s in
    let more = some_messages now side messages first.1 in
    (first.0 ++ more.0, more.1, (first.1, first.0, more.0, refl, first.2, more.2))

module _ {X : Type 0} (does : X → Call → X → Type 0) where
  -- the device is not called
  pub none_called : (Are : List Event → Type 0) (x : X) → ((done : List Event) × Are done) → CallsPrefix does Are x x
  none_called Are x (events, are) = record { done = []; left = events; are = are; runs = refl }

  -- all of the calls are made
  pub all_called : (Are : List Event → Type 0) (x y : X) (events : List Event) → Are events → Runs does x (calls events) y → CallsPrefix does Are x y
  all_called Are x y events are runs = record { done = events; left = []; are = subst Are (sym (append-nil events)) are; runs = runs }

  -- the calls of events that others follow
  pub then_others : (Are All : List Event → Type 0) (others : List Event) (x y : X) → ((events : List Event) → Are events → All (events ++ others)) → CallsPrefix does Are x y → CallsPrefix does All x y
  then_others Are All others x y follow f = record { done = f.done; left = f.left ++ others; are = subst All (append_assoc f.done f.left others) (follow (f.done ++ f.left) f.are); runs = f.runs }

  -- the calls of events that follow others
  pub after_others : (Are All : List Event → Type 0) (others : List Event) (x y z : X) → Runs does x (calls others) y → ((events : List Event) → Are events → All (others ++ events)) → CallsPrefix does Are y z → CallsPrefix does All x z
  after_others Are All others x y z runs follow f = record {
    done = others ++ f.done;
    left = f.left;
    are = subst All (sym (append_assoc others f.done f.left)) (follow (f.done ++ f.left) f.are);
    runs = runs_after does others f.done x y z runs f.runs;
  }

  -- an action for which the device was not called
  pub not_called : (waits : Bool) (act : Act) (x y : X) → y ≡ x → CallsPrefix does (Does waits act) x y
  not_called waits act x y same = subst (λ (z : X). CallsPrefix does (Does waits act) x z) (sym same) (none_called (Does waits act) x (some_events waits act))

  -- an action stops after others
  pub stops_at : (Whole : List Event → Type 0) (works : List Work) (requested : List Release) (one : Act) (rest : List Act) (left_works : List Work) (left_requested : List Release) (s : SessionState) (x : X) (t : SessionState) (y z : X)
      → DoneSoFar does Whole (Each t.lock_waits (one ∷ rest)) works left_works requested left_requested s x t y → CallsPrefix does (Does t.lock_waits one) y z → CallsPrefix does Whole x z
  stops_at Whole works requested one rest left_works left_requested s x t y z g f =
      let more = some_each (waits_after t.lock_waits (f.done ++ f.left)) rest in
      after_others (Each t.lock_waits (one ∷ rest)) Whole g.done x y z g.runs g.completes (record {
        done = f.done;
        left = f.left ++ more.0;
        are = (f.done ++ f.left, more.0, sym (append_assoc f.done f.left more.0), f.are, more.1);
        runs = f.runs;
      })

  module _ (now : ℕ) (side : Side) where
    -- a message of which nothing is done, since memory is refused
    pub not_passed : (message : Received) (s : SessionState) (x : X) → StopsIn does (IsMessageReceived now side message) Memory s x x
    not_passed message s x =
        let some = some_message now side message s in
        none_called (λ done. (t : SessionState) × IsMessageReceived now side message s done t × IsEndCause Memory t) x (some.0, (some.1, some.2, tt))

    -- a message of which an action stops
    pub passed : (cause : EndCause) (message : Received) (s : SessionState) (acts : List Act) (x y : X) → acts ≡ (outcome_of s.core side message).actions → CallsPrefix does (Each s.lock_waits acts) x y
        → IsQueueCause cause (flat_map works_in acts) (flat_map (release_in now (parameter message)) acts) s → StopsIn does (IsMessageReceived now side message) cause s x y
    passed cause message s acts x y is f stops = record {
      done = Came side message ∷ f.done;
      left = f.left;
      are = (
        arrived now side message (outcome_of s.core side message).actions (with_core s (outcome_of s.core side message).core) (f.done ++ f.left),
        record { immediate = f.done ++ f.left; each = subst (λ (z : List Act). Each s.lock_waits z (f.done ++ f.left)) is f.are; are = refl; then = refl },
        subst (λ (z : List Act). IsEndCause cause (arrived now side message z (with_core s (outcome_of s.core side message).core) (f.done ++ f.left))) is
            (cause_later cause (added s (flat_map works_in acts) (flat_map (release_in now (parameter message)) acts) []) (arrived now side message acts (with_core s (outcome_of s.core side message).core) (f.done ++ f.left))
            (arrived_fits now side message acts s (outcome_of s.core side message).core (f.done ++ f.left)) stops),
      );
      runs = f.runs;
    }

    -- a message stops after others
    pub message_stops : (cause : EndCause) (all : List Received) (message : Received) (left : List Received) (s : SessionState) (x : X) (t : SessionState) (y z : X) → Receiving does now side all (message ∷ left) s x t y
        → StopsIn does (IsMessageReceived now side message) cause t y z → StopsIn does (EachReceived now side all) cause s x z
    message_stops cause all message left s x t y z r m =
        let more = some_messages now side left m.are.0 in
        let later = cause_later cause m.are.0 more.1 (messages_fit now side left m.are.0 more.0 more.1 more.2) m.are.2 in
        after_others (λ (done : List Event). (u : SessionState) × EachReceived now side (message ∷ left) t done u × IsEndCause cause u) (λ (done : List Event). (u : SessionState) × EachReceived now side all s done u × IsEndCause cause u) r.done x y z r.runs
        (λ events each. (each.0, r.completes events each.0 each.1, each.2))
        (then_others (λ (done : List Event). IsMessageReceived now side message t done m.are.0) (λ (done : List Event). (u : SessionState) × EachReceived now side (message ∷ left) t done u × IsEndCause cause u) more.0 y z
        (λ events is. (more.1, (m.are.0, events, more.0, refl, is, more.2), later)) (record { done = m.done; left = m.left; are = m.are.1; runs = m.runs }))

    -- the bytes that complete messages, of which one stops
    pub received_first : (cause : EndCause) (received_bytes : List ℕ) (messages : List Received) (s t : SessionState) (x y : X) → IsFed side received_bytes messages s t → StopsIn does (EachReceived now side messages) cause t x y
        → StopsIn does (IsReceived now side received_bytes) cause s x y
    received_first cause received_bytes messages s t x y fed m = record {
      done = BytesReceived side received_bytes ∷ m.done;
      left = m.left;
      are = (
        m.are.0,
        record {
          messages = messages;
          channel = fed.channel;
          feeds = fed.feeds;
          immediate = m.done ++ m.left;
          are = refl;
          each = subst (λ (z : SessionState). EachReceived now side messages z (m.done ++ m.left) m.are.0) fed.then m.are.1;
        },
        m.are.2,
      );
      runs = m.runs;
    }
