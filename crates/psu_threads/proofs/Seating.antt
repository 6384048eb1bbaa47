-- A session and its seat, from one call of the session to the next.
use Rattle.std.specs.Prelude.{IfOk, OnErr}
use Rattle.std.proofs.Common.{Result, Ok, Err, ◌≡◌, ℕ, Bool, true, false, Some, List, [], ◌∷◌, ◌++◌, refl, sym, ap, ◌∙◌, subst, append_assoc, inl}
use Rattle.std.proofs.lemmas.List.{append-nil}
use Rattle.std.proofs.lemmas.Bool.{false≢true}
use Rattle.psu_exec.specs.Device.{State}
use Rattle.psu_exec.specs.Calls.{Entry}
use Rattle.psu_turn.specs.Turns.{TurnId}
use Rattle.psu_turn.specs.Seats.{IsOf, IsSame, SeatCalls, Sight}
use Rattle.psu_bench.specs.Calls.{AllowsOn}
use Rattle.psu_bench.specs.Opened.{HasOpened}
use Rattle.psu_session.specs.Events.{Call, Event, calls}
use Rattle.psu_session.specs.Phases.{phase_ended}
use Rattle.psu_session.specs.State.{SessionState}
use Rattle.psu_session.specs.Step.{IsHistory}
use Rattle.psu_session.specs.Step.Steps.{Still}
use Rattle.psu_session.specs.declared.phase.Phase.{Phase}
use Rattle.psu_session.proofs.Serving.{calls-append}
use Rattle.psu_session.proofs.Stepping.{steps_on}
use Rattle.psu_session_io.specs.Extending.{Extends, ExtendsBy}
use Rattle.psu_session_io.specs.Shared.{Shared}
use Rattle.psu_threads.specs.Called.{AreAllEntries, AreCalls, CallsUnder, SessionSeat}
use Rattle.psu_threads.specs.Seated.{HasBegun, IsSeated, MayBeClosed, under}
use Rattle.psu_threads.proofs.Calling.{all_called, both_are}

-- a session that has just begun, with the seat that has opened it
pub seated_new : (honest : Type 0) (session : ℕ) (opening : List ℕ) (s : Shared) (seat : Sight State Entry) → HasBegun session opening s.phase s.state → HasOpened honest session seat → IsSeated honest session false s seat
seated_new honest session opening s seat new opened = record {
  start = new.start;
  history = [];
  reached = s.state;
  rest = [];
  part = inl refl;
  entries = [];
  closing = [];
  opening = ((opening, new.first, new.sync), new.async);
  number = new.number;
  is = subst (λ (z : SessionState). IsHistory new.start [] z) (sym new.state_is) Still;
  now = λ alive. (refl, refl);
  are = refl;
  closes = refl;
  device = opened.history;
  mine = opened.mine;
}

-- a session that is over stays closed, or not
stays_closed : (session : ℕ) (closed : Bool) (old new : Phase) (closing : List Entry) → phase_ended new ≡ true → MayBeClosed session closed old closing → MayBeClosed session closed new closing
stays_closed session false old new closing over is = is
stays_closed session true old new closing over is = (over, is.1)

-- one that is not over is not closed
not_closed : (session : ℕ) (closed : Bool) (phase : Phase) (closing : List Entry) → phase_ended phase ≡ false → MayBeClosed session closed phase closing → (closing ≡ []) × ((other : Phase) → MayBeClosed session closed other [])
not_closed session false phase closing alive is = (is, λ other. refl)
not_closed session true phase closing alive is = absurd (false≢true (sym alive ∙ is.0))

module _ (honest : Type 0) where
  -- a session that is over
  seated_over : (session : ℕ) (closed : Bool) (s t : Shared) (seat : Sight State Entry) → phase_ended t.phase ≡ true → IsSeated honest session closed s seat → IsSeated honest session closed t seat
  seated_over session closed s t seat over is = record {
    start = is.start;
    history = is.history;
    reached = is.reached;
    rest = is.rest;
    part = is.part;
    entries = is.entries;
    closing = is.closing;
    opening = is.opening;
    number = is.number;
    is = is.is;
    now = λ alive. absurd (false≢true (sym alive ∙ over));
    are = is.are;
    closes = stays_closed session closed s.phase t.phase is.closing over is.closes;
    device = is.device;
    mine = is.mine;
  }

  -- the entries of all calls: of the history so far, of the events that are done, and of what was called after them
  entries_on : (session : ℕ) (history done : List Event) (before rest : List Call) (entries more : List Entry) → before ≡ [] → AreAllEntries session (calls history ++ before) entries → AreAllEntries session (calls done ++ rest) more
      → AreAllEntries session (calls (history ++ done) ++ rest) (entries ++ more)
  entries_on session history done before rest entries more none are more_are =
      subst (λ (z : List Call). AreAllEntries session z (entries ++ more)) (sym (append_assoc (calls history) (calls done) rest) ∙ ap (λ (z : List Call). z ++ rest) (sym (calls-append history done)))
      (both_are session (calls history) (calls done ++ rest) entries more
      (subst (λ (z : List Call). AreAllEntries session z entries) (ap (λ (z : List Call). calls history ++ z) none ∙ append-nil (calls history)) are) more_are)

  seated_on : (session : ℕ) (closed : Bool) (s t : Shared) (x y : SessionSeat) → x.session ≡ session → phase_ended s.phase ≡ false → ExtendsBy (CallsUnder honest) s x t y → IsSeated honest session closed s x.seat → IsSeated honest session closed t y.seat × IsSame x.seat y.seat
  seated_on session closed s t x y own alive extends is =
      let now = is.now alive in
      let none = not_closed session closed s.phase is.closing alive is.closes in
      let calls_made = subst (λ (n : ℕ). AreCalls honest n x.seat (calls extends.done ++ extends.rest) y.seat) own (all_called x y (calls extends.done ++ extends.rest) extends.runs) in (
        record {
          start = is.start;
          history = is.history ++ extends.done;
          reached = extends.reached;
          rest = extends.rest;
          part = extends.part;
          entries = is.entries ++ calls_made.entries;
          closing = [];
          opening = is.opening;
          number = is.number;
          is = steps_on (subst (λ (z : SessionState). IsHistory is.start is.history z) now.0 is.is) extends.steps;
          now = extends.now;
          are = entries_on session is.history extends.done is.rest extends.rest is.entries calls_made.entries now.1 is.are calls_made.are;
          closes = none.1 t.phase;
          device = calls_made.adds.history (inl is.device);
          mine = calls_made.adds.mine ∙ ap (λ (z : List Entry). z ++ calls_made.entries) is.mine
              ∙ ap (λ (z : List Entry). Entry.Opened (Some session) ∷ ((is.entries ++ z) ++ calls_made.entries)) none.0
              ∙ ap (λ (z : List Entry). Entry.Opened (Some session) ∷ (z ++ calls_made.entries)) (append-nil is.entries)
              ∙ ap (λ (z : List Entry). Entry.Opened (Some session) ∷ z) (sym (append-nil (is.entries ++ calls_made.entries)));
        },
        calls_made.adds.same,
      )

  seated_if : (over : Bool) (session : ℕ) (closed : Bool) (s t : Shared) (x y : SessionSeat) → x.session ≡ session → phase_ended s.phase ≡ over → Extends (CallsUnder honest) s x t y → IsSeated honest session closed s x.seat → IsSeated honest session closed t y.seat × IsSame x.seat y.seat
  seated_if true session closed s t x y own over extends is =
      let ended = extends.over over in
      let seat : y.seat ≡ x.seat = ap (λ (z : SessionSeat). z.seat) ended.1 in (
        subst (λ (z : Sight State Entry). IsSeated honest session closed t z) (sym seat) (seated_over session closed s t x.seat ended.0 is),
        subst (λ (z : Sight State Entry). IsSame x.seat z) (sym seat) (record { turn = refl; number = refl; opening = refl }),
      )
  seated_if false session closed s t x y own alive extends is = seated_on session closed s t x y own alive (extends.on alive) is

  -- a call of the session, with what is known of its seat
  pub seated : (turn : TurnId) (session : ℕ) (closed : Bool) (s t : Shared) (x y : SessionSeat) → x.session ≡ session → IsOf turn x.seat → Extends (CallsUnder honest) s x t y → IsSeated honest session closed s x.seat → IsOf turn y.seat × IsSeated honest session closed t y.seat
  seated turn session closed s t x y own of extends is =
      let next = seated_if (phase_ended s.phase) session closed s t x y own refl extends is in
      ((next.1.turn ∙ of.0, (of.1.0, next.1.opening ∙ of.1.1)), next.0)

  -- the same, where the device began with its seat
  pub stepped : (turn : TurnId) (session : ℕ) (closed : Bool) (s t : Shared) (seat : Sight State Entry) (x y : SessionSeat) → x ≡ under session seat → IsOf turn seat → Extends (CallsUnder honest) s x t y → IsSeated honest session closed s seat → IsOf turn y.seat × IsSeated honest session closed t y.seat
  stepped turn session closed s t seat x y begins of extends is = seated turn session closed s t (under session seat) y refl of (subst (λ (z : SessionSeat). Extends (CallsUnder honest) s z t y) begins extends) is

  -- the same, where the device was not called
  pub uncalled : (turn : TurnId) (session : ℕ) (closed : Bool) (s t : Shared) (seat : Sight State Entry) → IsOf turn seat → Extends (CallsUnder honest) s (under session seat) t (under session seat) → IsSeated honest session closed s seat → IsOf turn seat × IsSeated honest session closed t seat
  uncalled turn session closed s t seat of extends is = seated turn session closed s t (under session seat) (under session seat) refl of extends is

  -- the device closes the session
  pub seated_close : (session : ℕ) (s t : Shared) (old new : Sight State Entry) (granted : List ℕ) → phase_ended t.phase ≡ true → SeatCalls (AllowsOn honest) old (Entry.Closed session granted) new → IsSeated honest session false s old → IsSeated honest session true t new
  seated_close session s t old new granted over call is = record {
    start = is.start;
    history = is.history;
    reached = is.reached;
    rest = is.rest;
    part = is.part;
    entries = is.entries;
    closing = Entry.Closed session granted ∷ [];
    opening = is.opening;
    number = is.number;
    is = is.is;
    now = λ alive. absurd (false≢true (sym alive ∙ over));
    are = is.are;
    closes = (over, (granted, refl));
    device = record { legal = call.legal; own = call.own };
    mine = call.mine ∙ ap (λ (z : List Entry). z ++ Entry.Closed session granted ∷ []) is.mine
        ∙ ap (λ (z : List Entry). Entry.Opened (Some session) ∷ ((is.entries ++ z) ++ Entry.Closed session granted ∷ [])) is.closes
        ∙ ap (λ (z : List Entry). Entry.Opened (Some session) ∷ (z ++ Entry.Closed session granted ∷ [])) (append-nil is.entries);
  }

-- the seat of the device of a step, as it began
pub at_seat : (session : ℕ) (device : SessionSeat) (seat caller taken : Sight State Entry) → taken ≡ seat → caller ≡ taken → device ≡ under session caller → device ≡ under session seat
at_seat session device seat caller taken held begins is = is ∙ ap (under session) (begins ∙ held)

-- what follows of each value, and of an error
pub of_value : {T E : Type 0} (P Q : T → Type 0) (result : Result T E) → ((value : T) → P value → Q value) → IfOk result P → IfOk result Q
of_value P Q (Ok value) f is = f value is
of_value P Q (Err error) f is = tt

pub of_error : {T E : Type 0} (P Q : Type 0) (result : Result T E) → (P → Q) → OnErr result P → OnErr result Q
of_error P Q (Ok value) f is = tt
of_error P Q (Err error) f is = f is

-- two facts of an error
pub both_of_error : {T E : Type 0} (A B : Type 0) (result : Result T E) → OnErr result A → OnErr result B → OnErr result (A × B)
both_of_error A B (Ok value) one two = tt
both_of_error A B (Err error) one two = (one, two)
