-- Each call of a shared session makes steps of the session, by the calls of the device that their events name.
use Rattle.std.proofs.Common.{◌≡◌, ◌⊎◌, ◌∙◌, inl, inr, Bool, true, false, not, ◌&&◌, Option, Some, None, Result, Ok, Err, IfOk, List, [], ◌∷◌, ◌++◌, ap, refl, subst, sym, append_assoc, map, ℕ}
use Rattle.std.proofs.lemmas.List.{append-nil}
use Rattle.std.proofs.lemmas.Bool.{false≢true, cases_Bool}
use Rattle.std.specs.Prelude.{IfSome, IsNone, OnErr}
use Rattle.psu_hislip.specs.declared.side.Side.{Side}
use Rattle.psu_hislip.specs.declared.side.Side.TheVariants.{Sync, Async}
use Rattle.psu_locks.specs.declared.results.Grant.{Grant}
use Rattle.psu_locks.specs.declared.results.Grant.TheVariants as granted
use Rattle.psu_messages.specs.declared.need.Need.{Need}
use Rattle.psu_session.specs.Events.{Call, Event, Took, Wrote, call_of, calls}
use Rattle.psu_session.specs.Phases.{disconnected, phase_ended}
use Rattle.psu_session.specs.Proceeding.{Proceeds}
use Rattle.psu_session.specs.Serving.{Appends, PerformsStep, Runs}
use Rattle.psu_session.specs.State.{IsRefusedRoom, KeepsPhase, SessionState, writes}
use Rattle.psu_session.specs.Step.{IsLockGranted, IsReceived, IsServiceRequested, IsTaken, IsTicked, IsWritten, SessionStep, Steps}
use Rattle.psu_session.specs.Step.Steps.{Still}
use Rattle.psu_session.specs.Stopping.{CallsAdvancing, CallsPrefix, StopsNext, StopsReceiving}
use Rattle.psu_session.specs.declared.phase.EndCause.{EndCause}
use Rattle.psu_session.specs.declared.phase.EndCause.TheVariants.{Memory}
use Rattle.psu_session.specs.declared.phase.Phase.{Phase}
use Rattle.psu_session.specs.declared.phase.Phase.TheVariants.{Open, Ending, Over}
use Rattle.psu_session.specs.declared.proceeding.Proceeded.{Proceeded}
use Rattle.psu_session.proofs.Serving.{calls-append, runs_on}
use Rattle.psu_session.proofs.Stepping.{one_step, steps_on}
use Rattle.psu_session_io.specs.declared.ending.Drained.{Drained}
use Rattle.psu_session_io.specs.declared.ending.Drained.TheVariants.{More, AllDone}
use Rattle.psu_session_io.specs.declared.linear.Received.{Received}
use Rattle.psu_session_io.specs.declared.linear.Received.TheVariants.{All, Full, Again}
use Rattle.psu_session_io.specs.declared.linear.Remainder.{Remainder}
use Rattle.psu_session_io.specs.declared.notice.Notice.{Notice}
use Rattle.psu_session_io.specs.declared.notice.Notice.TheVariants as notice
use Rattle.psu_session_io.specs.Ending.{Discards, Drains, DrainsOnce, IsEnding, StopsDraining}
use Rattle.psu_session_io.specs.Extending.{AreOfNext, ArePart, Extends, ExtendsBy}
use Rattle.psu_session_io.specs.Leaving.{AreNoted, EndsTaking, HasSentAll, MayBeNoted, Notes, Takes}
use Rattle.psu_session_io.specs.Shared.{Keeps, Shared, with_phase, with_reader, with_value, with_waits}
use Rattle.psu_session_io.specs.Sharing.{ContinuesExecution, EndsExecuting, EndsNotified, EndsReceiving, EndsResponding, Executes, MayContinue, MayRequestService, Notifies, Receives, ReceivesAll, Responds, has_joined}

-- ---- phases

open_not_ended : (phase : Phase) → phase ≡ Open → phase_ended phase ≡ false
open_not_ended phase is = ap phase_ended is

ending_not_ended : (phase : Phase) → IsEnding phase → phase_ended phase ≡ false
ending_not_ended Open is = refl
ending_not_ended (Ending left) is = refl
ending_not_ended (Over cause) is = absurd is

disconnected_ended : (phase : Phase) → phase_ended (disconnected phase) ≡ phase_ended phase
disconnected_ended Open = refl
disconnected_ended (Ending left) = refl
disconnected_ended (Over cause) = refl

-- a phase that is kept is that of a session that is over, if it was
keeps_ended : (s t : Shared) → Keeps s t → phase_ended s.phase ≡ true → phase_ended t.phase ≡ true
keeps_ended s t (inl kept) over = ap phase_ended kept ∙ over
keeps_ended s t (inr refused) over = ap phase_ended refused.0

no_other : {A : Type 0} (b : Bool) → b ≡ false → b ≡ true → A
no_other b one other = absurd (false≢true (sym one ∙ other))

joined_not_ended : (a b c : Bool) → (a && b && not c) ≡ true → c ≡ false
joined_not_ended true true false e = refl
joined_not_ended true true true e = absurd (false≢true e)
joined_not_ended true false c e = absurd (false≢true e)
joined_not_ended false b c e = absurd (false≢true e)

of_next : {X : Type 0} {does : X → Call → X → Type 0} {s : SessionState} {x y : X} → (is : StopsNext does s x y) → AreOfNext s (map call_of is.called.effects)
of_next is = record { next = is.next; left = is.left; is = is.is; current = is.current; effects = is.called.effects; new = is.called.new; reaches = is.called.reaches; are = refl }

noted_step : (side : Side) (s t : SessionState) → MayBeNoted side s t → (done : List Event) × Steps s done t × (calls done ≡ [])
noted_step side s t (inl same) = ([], subst (λ (z : SessionState). Steps s [] z) (sym same) Still, refl)
noted_step side s t (inr is) = (Wrote side ∷ [], one_step (SessionStep.Writes side is), refl)

taken_step : {B : Type 0} (items : B → List ℕ) (side : Side) (some : Option B) (Q : Type 0) (s t : SessionState)
    → IfSome some (λ (bytes : B). IsTaken side (items bytes) s (Took side (items bytes) ∷ []) t) → (IsNone some → (t ≡ s) × Q) → (done : List Event) × Steps s done t × (calls done ≡ [])
taken_step items side (Some bytes) Q s t is none = (Took side (items bytes) ∷ [], one_step (SessionStep.Takes side (items bytes) is), refl)
taken_step items side None Q s t is none = ([], subst (λ (z : SessionState). Steps s [] z) (sym (none refl).0) Still, refl)

reader_state : (side : Side) (s : Shared) → (phase_ended (with_reader side s).phase ≡ phase_ended s.phase) × ((with_reader side s).state ≡ s.state)
reader_state Sync s = (refl, refl)
reader_state Async s = (refl, refl)

module _ {X : Type 0} {does : X → Call → X → Type 0} where
  -- ---- histories that are extended

  -- nothing of it has changed but what only its threads share, or its phase, and it is over only if it was
  pub extends_same : (s t : Shared) (x y : X) → phase_ended t.phase ≡ phase_ended s.phase → t.state ≡ s.state → y ≡ x → Extends does s x t y
  extends_same s t x y phase state same = record {
    over = λ over. (phase ∙ over, same);
    on = λ alive. record { done = []; reached = s.state; rest = []; part = inl refl; steps = Still; runs = same; now = λ e. (sym state, refl) };
  }

  -- steps of a session that was not over
  pub extends_steps : (s t : Shared) (x y : X) (done : List Event) → phase_ended s.phase ≡ false → Steps s.state done t.state → Runs does x (calls done) y → Extends does s x t y
  extends_steps s t x y done alive steps runs = record {
    over = λ over. no_other (phase_ended s.phase) alive over;
    on = λ e. record { done = done; reached = t.state; rest = []; part = inl refl; steps = steps; runs = subst (λ (z : List Call). Runs does x z y) (sym (append-nil (calls done))) runs; now = λ e. (refl, refl) };
  }

  -- steps without a call, and then calls of a step that is not completed; so the session is over
  pub extends_stops : (s t : Shared) (x y : X) (done : List Event) (reached : SessionState) (rest : List Call) → ArePart reached rest → phase_ended s.phase ≡ false → phase_ended t.phase ≡ true → Steps s.state done reached → calls done ≡ [] → Runs does x rest y → Extends does s x t y
  extends_stops s t x y done reached rest part alive ended steps none runs = record {
    over = λ over. no_other (phase_ended s.phase) alive over;
    on = λ e. record { done = done; reached = reached; rest = rest; part = part; steps = steps; runs = subst (λ (z : List Call). Runs does x (z ++ rest) y) (sym none) runs; now = λ alive. no_other (phase_ended t.phase) alive ended };
  }

  extends_on_both : (s m t : Shared) (x u y : X) (over : Bool) → phase_ended m.phase ≡ over → ExtendsBy does s x m u → Extends does m u t y → ExtendsBy does s x t y
  extends_on_both s m t x u y true is one two = record {
    done = one.done;
    reached = one.reached;
    rest = one.rest;
    part = one.part;
    steps = one.steps;
    runs = subst (λ (z : X). Runs does x (calls one.done ++ one.rest) z) (sym (two.over is).1) one.runs;
    now = λ alive. no_other (phase_ended t.phase) alive (two.over is).0;
  }
  extends_on_both s m t x u y false is one two =
      let more = two.on is in
      let at = one.now is in
      record {
        done = one.done ++ more.done;
        reached = more.reached;
        rest = more.rest;
        part = more.part;
        steps = steps_on (subst (λ (z : SessionState). Steps s.state one.done z) at.0 one.steps) more.steps;
        runs = subst (λ (z : List Call). Runs does x z y)
            (ap (λ (z : List Call). (calls one.done ++ z) ++ (calls more.done ++ more.rest)) at.1 ∙ ap (λ (z : List Call). z ++ (calls more.done ++ more.rest)) (append-nil (calls one.done))
            ∙ sym (append_assoc (calls one.done) (calls more.done) more.rest) ∙ ap (λ (z : List Call). z ++ more.rest) (sym (calls-append one.done more.done)))
            (runs_on does (calls one.done ++ one.rest) (calls more.done ++ more.rest) x u y one.runs more.runs);
        now = more.now;
      }

  -- one after another
  pub extends_both : (s m t : Shared) (x u y : X) → Extends does s x m u → Extends does m u t y → Extends does s x t y
  extends_both s m t x u y one two = record {
    over = λ over. let a = one.over over in let b = two.over a.0 in (b.0, b.1 ∙ a.1);
    on = λ alive. extends_on_both s m t x u y (phase_ended m.phase) refl (one.on alive) two;
  }

  -- ---- writes that are over, and output

  pub notes : (s t : Shared) (x : X) → Notes s t → Extends does s x t x
  notes s t x ((mid, one, two), rest) =
      let a = noted_step Sync s.state mid one in
      let b = noted_step Async mid t.state two in
      let phase : phase_ended t.phase ≡ phase_ended s.phase = ap (λ (z : Shared). phase_ended z.phase) rest in
      record {
        over = λ over. (phase ∙ over, refl);
        on = λ alive. record {
          done = a.0 ++ b.0;
          reached = t.state;
          rest = [];
          part = inl refl;
          steps = steps_on a.1 b.1;
          runs = subst (λ (z : List Call). Runs does x (z ++ []) x) (sym (calls-append a.0 b.0 ∙ ap (λ (z : List Call). z ++ calls b.0) a.2 ∙ b.2)) refl;
          now = λ e. (refl, refl);
        };
      }

  pub takes : {S : Type 0} (side : Side) (more : Bool) (remainder : Remainder S) (s t : Shared) (x : X) → Takes side more remainder s t → Extends does s x t x
  takes side more remainder s t x is =
      let a = taken_step (λ bytes. bytes.items) side remainder.bytes ((writes side s.state ≡ true) ⊎ (_ ≡ [])) s.state is.taken.state is.takes.some is.takes.none in
      let phase : phase_ended t.phase ≡ phase_ended is.taken.phase = ap (λ (z : Shared). phase_ended z.phase) is.leaves.rest in
      let state : t.state ≡ is.taken.state = ap (λ (z : Shared). z.state) is.leaves.rest in
      record {
        over = λ over. (phase ∙ keeps_ended s is.taken is.takes.phase over, refl);
        on = λ alive. record {
          done = a.0;
          reached = is.taken.state;
          rest = [];
          part = inl refl;
          steps = a.1;
          runs = subst (λ (z : List Call). Runs does x (z ++ []) x) (sym a.2) refl;
          now = λ e. (sym state, refl);
        };
      }

  pub ends_taking : (s t : Shared) (x : X) → EndsTaking s t → Extends does s x t x
  ends_taking s t x (inl (over, same)) = extends_same s t x x (ap (λ (z : Shared). phase_ended z.phase) same) (ap (λ (z : Shared). z.state) same) refl
  ends_taking s t x (inr (sent, same)) = extends_same s t x x (ap (λ (z : Shared). phase_ended z.phase) same ∙ disconnected_ended s.phase) (ap (λ (z : Shared). z.state) same) refl

  pub disconnects : (s t : Shared) (x : X) → t ≡ with_phase s (disconnected s.phase) → Extends does s x t x
  disconnects s t x same = extends_same s t x x (ap (λ (z : Shared). phase_ended z.phase) same ∙ disconnected_ended s.phase) (ap (λ (z : Shared). z.state) same) refl

  same_extends : (s t : Shared) (x y : X) → t ≡ s → y ≡ x → Extends does s x t y
  same_extends s t x y same kept = extends_same s t x y (ap (λ (z : Shared). phase_ended z.phase) same) (ap (λ (z : Shared). z.state) same) kept

  -- ---- bytes that are received

  requests : (b : Bool) (s t : Shared) (x y : X) → (b ≡ true → phase_ended s.phase ≡ false) → MayRequestService does b s x t y → Extends does s x t y
  requests true s t x y alive is = extends_steps s t x y is.0.done (alive refl) (one_step (SessionStep.Notifies (record { is = inr is.0.are; then = is.0.then }))) is.0.runs
  requests false s t x y alive is = same_extends s t x y is.0 is.1

  -- the last steps of a session that ends
  drains_once : (proceeded : Proceeded) (s t : Shared) (x y : X) → IsEnding s.phase → DrainsOnce does proceeded s x t y → Extends does s x t y
  drains_once proceeded s t x y ending is =
      extends_steps s t x y (is.discards.done ++ is.proceeds.done) (ending_not_ended s.phase ending) (steps_on is.discards.steps is.proceeds.is.proceeds.steps)
      (subst (λ (z : List Call). Runs does x z y) (sym (calls-append is.discards.done is.proceeds.done ∙ ap (λ (z : List Call). z ++ calls is.proceeds.done) is.discards.uncalled)) is.proceeds.runs)

  stops_draining : (s t : Shared) (x y : X) → IsEnding s.phase → StopsDraining does s x t y → Extends does s x t y
  stops_draining s t x y ending (mid, discards, inl same, is) = extends_stops s t x y discards.done mid.state [] (inl refl) (ending_not_ended s.phase ending) (ap (λ (z : Shared). phase_ended z.phase) is) discards.steps discards.uncalled same
  stops_draining s t x y ending (mid, discards, inr stops, is) =
      extends_stops s t x y discards.done mid.state (map call_of stops.called.effects) (inr (inr (of_next stops))) (ending_not_ended s.phase ending) (ap (λ (z : Shared). phase_ended z.phase) is) discards.steps discards.uncalled stops.called.runs

  pub drains : (drained : Drained) (s t : Shared) (x y : X) → Drains does drained s x t y → Extends does s x t y
  drains More s t x y (ending, proceeded, some, once, still) = drains_once proceeded s t x y ending once
  drains AllDone s t x y (inl (none, same, kept)) = same_extends s t x y same kept
  drains AllDone s t x y (inr (inl (ending, proceeded, last, once))) = drains_once proceeded s t x y ending once
  drains AllDone s t x y (inr (inr (ending, stops))) = stops_draining s t x y ending stops

  receives_all : (now : ℕ) (side : Side) (bytes : List ℕ) (s t : Shared) (x y : X) → ReceivesAll does now side bytes s x t y → Extends does s x t y
  receives_all now side bytes s t x y is =
      extends_both s is.mid t x is.at y
      (extends_steps s is.mid x is.at is.receives.done is.was (one_step (SessionStep.Receives now side bytes is.receives.is)) is.receives.runs)
      (requests (has_joined s.state.core.joined is.mid) is.mid t is.at y (joined_not_ended (not s.state.core.joined) is.mid.state.core.joined (phase_ended is.mid.phase)) is.requests)

  pub receives : {S : Type 0} (now : ℕ) (side : Side) (bytes : List ℕ) (received : Received S) (s t : Shared) (x y : X) → Receives does now side bytes received s x t y → Extends does s x t y
  receives now side bytes (All pending) s t x y is = receives_all now side bytes s t x y is.0
  receives now side bytes (Full returned) s t x y (full, alive, same, is, kept) =
      extends_same s t x y (ap (λ (z : Shared). phase_ended z.phase) is ∙ (reader_state side s).0) (ap (λ (z : Shared). z.state) is ∙ (reader_state side s).1) kept
  receives now side bytes (Again returned) s t x y (full, sync, same, is) = drains More s t x y is

  stops_receiving : (now : ℕ) (side : Side) (bytes : List ℕ) (cause : EndCause) (s t : Shared) (x y : X) → phase_ended s.phase ≡ false → phase_ended t.phase ≡ true → StopsReceiving does now side bytes cause s.state x y → Extends does s x t y
  stops_receiving now side bytes cause s t x y alive ended (inl (same, why)) = extends_stops s t x y [] s.state [] (inl refl) alive ended Still refl same
  stops_receiving now side bytes cause s t x y alive ended (inr is) = extends_stops s t x y [] s.state (calls is.done) (inr (inl (now, side, bytes, is.done, is.left, is.are.0, is.are.1, refl))) alive ended Still refl is.runs

  pub ends_receiving : (now : ℕ) (side : Side) (bytes : List ℕ) (s t : Shared) (x y : X) → EndsReceiving does now side bytes s x t y → Extends does s x t y
  ends_receiving now side bytes s t x y (inl (over, same, kept)) = same_extends s t x y same kept
  ends_receiving now side bytes s t x y (inr (inl (alive, room, cause, stops, is))) = stops_receiving now side bytes cause s t x y alive (ap (λ (z : Shared). phase_ended z.phase) is) stops
  ends_receiving now side bytes s t x y (inr (inr (inl (full, ending, async, same, kept)))) = same_extends s t x y same kept
  ends_receiving now side bytes s t x y (inr (inr (inr (full, ending, sync, is)))) = drains AllDone s t x y is

  -- ---- execution

  continues : (proceeded : Proceeded) (s t : Shared) (x y : X) → phase_ended s.phase ≡ false → ContinuesExecution does proceeded s x t y → Extends does s x t y
  continues proceeded s t x y alive is = extends_steps s t x y is.0.done alive is.0.is.steps is.0.runs

  may_continue : (again : Bool) (proceeded : Proceeded) (waits : Option Need) (s t : Shared) (x y : X) → phase_ended s.phase ≡ false → MayContinue does again proceeded waits s x t y → Extends does s x t y
  may_continue again proceeded None s t x y alive is = continues proceeded s t x y alive is
  may_continue true proceeded (Some need) s t x y alive is = continues proceeded s t x y alive is
  may_continue false proceeded (Some need) s t x y alive (same, kept, none) = same_extends s t x y same kept

  pub executes : {S : Type 0} (again : Bool) (remainder : Remainder S) (s t : Shared) (x y : X) → Executes does again remainder s x t y → Extends does s x t y
  executes again remainder s t x y is =
      extends_both s is.after t x y y (may_continue again is.proceeded s.waits s is.after x y (open_not_ended s.phase is.open_before) is.continues)
      (extends_both is.after is.known t y y y (notes is.after is.known y is.noted) (takes Sync is.more remainder is.known t y is.takes))

  pub ends_executing : (again : Bool) (s t : Shared) (x y : X) → EndsExecuting does again s x t y → Extends does s x t y
  ends_executing again s t x y (inl (alive, same, kept)) = same_extends s t x y same kept
  ends_executing again s t x y (inr (inl (alive, stops, is))) =
      extends_stops s t x y [] s.state (map call_of stops.called.effects) (inr (inr (of_next stops))) (open_not_ended s.phase alive) (ap (λ (z : Shared). phase_ended z.phase) is) Still refl stops.called.runs
  ends_executing again s t x y (inr (inr (alive, proceeded, after, known, is, noted, ends))) =
      extends_both s after t x y y (may_continue again proceeded s.waits s after x y (open_not_ended s.phase alive) is) (extends_both after known t y y y (notes after known y noted) (ends_taking known t y ends))

  pub responds : {S : Type 0} (remainder : Remainder S) (s t : Shared) (x : X) → Responds remainder s t → Extends does s x t x
  responds remainder s t x (alive, known, noted, is) = extends_both s known t x x x (notes s known x noted) (takes Async false remainder known t x is)

  pub ends_responding : (s t : Shared) (x : X) → EndsResponding s t → Extends does s x t x
  ends_responding s t x (inl (alive, same)) = same_extends s t x x same refl
  ends_responding s t x (inr (alive, known, noted, ends)) = extends_both s known t x x x (notes s known x noted) (ends_taking known t x ends)

  -- ---- notices

  grants : (grant : Grant) (s t : Shared) (x y : X) → phase_ended s.phase ≡ false → Appends does (IsLockGranted s.state.lock_waits grant) [] [] s.state x t.state y → Extends does s x t y
  grants grant s t x y alive is = extends_steps s t x y is.done alive (one_step (SessionStep.Notifies (record { is = inl (grant, is.are); then = is.then }))) is.runs

  pub notifies : (now : ℕ) (given : Notice) (s t : Shared) (x y : X) → s.phase ≡ Open → Notifies does now given s x t y → Extends does s x t y
  notifies now notice.Continue s t x y alive is = extends_same s t x y (ap (λ (z : Shared). phase_ended z.phase) is.0) (ap (λ (z : Shared). z.state) is.0) is.1
  notifies now notice.Granted s t x y alive is = grants granted.Granted s t x y (open_not_ended s.phase alive) is.0
  notifies now notice.Failed s t x y alive is = grants granted.Failed s t x y (open_not_ended s.phase alive) is.0
  notifies now notice.Service s t x y alive is = requests s.state.core.joined s t x y (λ e. open_not_ended s.phase alive) is
  notifies now notice.Output s t x y alive is = same_extends s t x y is.0 is.1
  notifies now notice.Room s t x y alive is = same_extends s t x y is.0 is.1
  notifies now notice.Time s t x y alive (ticks, is, kept) = extends_steps s t x y [] (open_not_ended s.phase alive) (one_step (SessionStep.Ticks now ticks)) kept
  notifies now notice.End s t x y alive is = same_extends s t x y is.0 is.1

  pub ends_notified : (now : ℕ) (given : Notice) (s t : Shared) (x y : X) → EndsNotified now given s t → y ≡ x → Extends does s x t y
  ends_notified now given s t x y (inl (alive, same)) kept = same_extends s t x y same kept
  ends_notified now given s t x y (inr (alive, time, is)) kept = extends_stops s t x y [] s.state [] (inl refl) (open_not_ended s.phase alive) (ap (λ (z : Shared). phase_ended z.phase) is) Still refl kept

-- what follows from each result follows
pub of_result : {T E R : Type 0} (P : T → Type 0) (Q : Type 0) (result : Result T E) → ((value : T) → P value → R) → (Q → R) → IfOk result P → OnErr result Q → R
of_result P Q (Ok value) done failed ok err = done value ok
of_result P Q (Err error) done failed ok err = failed err
