-- Units and ends of waits that cause nothing.
use Rattle.std.proofs.Common.{◌≡◌, inl, inr, ℕ, suc, Bool, true, false, cond, not, ◌==◌, ◌&&◌, ◌||◌, Option, Some, None, Result, Ok, Err, List, [], ◌∷◌, ◌++◌, get_or, refl, ap, ap₂, sym, zero, ◌∙◌}
use Rattle.psu_lex.specs.declared.scpi_error.ScpiError.{ScpiError}
use Rattle.psu_lex.specs.declared.scpi_error.ScpiError.TheVariants.{StorageFault}
use Rattle.psu_nv.specs.Commands as nv
use Rattle.psu_nv.specs.Commands.{Command as Change}
use Rattle.psu_nv.specs.Contents.{fits}
use Rattle.psu_status.specs.Registers.{rising}
use Rattle.psu_status.specs.Status.{Reported, enabled}
use Rattle.psu_tree.specs.declared.command.Command.{Command}
use Rattle.psu_tree.specs.declared.command.Request.{Request}
use Rattle.psu_instrument.specs.Commands.{meaning}
use Rattle.psu_instrument.specs.Meaning.{Meaning, Refuses, Does, Keeps, Completes}
use Rattle.psu_instrument.specs.Speaking.{RaisesNone}
use Rattle.psu_instrument.specs.declared.act.Completion.TheVariants as completion
use Rattle.psu_instrument.proofs.Rising.{mav_cleared, none_rises}
use Rattle.psu_instrument.proofs.Speaking.{each_answer_is_quiet}
use Rattle.std.specs.Prelude.{slice_set}
use Rattle.psu_exec.specs.Calls.{Cleared, Delivered, Due, Entry, Executed, Fetched, Informed, Queried, Settled, Serves, has_work, with_answer, with_service_state}
use Rattle.psu_exec.specs.Device.{Reply, Done, Answer, Error, Expand, Parked, Held, Later, State, Flush, followed, MayAnswer, MayMean, Runs, Expands, Means, answer_call, answer_meant, change_in, counted, done_by, here, is_broken, is_whole, kept_unless, meant, place_of, service_state_of}
use Rattle.psu_exec.specs.Quiet.{EachQuietCallIsQuiet, EachUnitIsQuiet, EachWaitIsQuiet, IsQuiet, is_quiet, may_cause}
use Rattle.psu_exec.specs.declared.waits.Wait.{Wait}
use Rattle.psu_exec.proofs.RqsUpdates.{changed, followed_at}
use Rattle.psu_exec.specs.ServiceStates.{each_rqs_updated, falls, fetched, initial_service_state, named, released, requested, rises, rqs_updated, unreported_from, with_available}
use Rattle.psu_exec.specs.declared.service_states.ServiceState.{ServiceState}

-- ---- service requests

unreported_at : (rise fall : Bool) (m : ServiceState) → rise ≡ false → (cond rise (requested m) (cond fall (released m) m)).unreported ≡ m.unreported
unreported_at true fall m e = cc
unreported_at false true m e = refl
unreported_at false false m e = refl

unreported_one : (old new : ℕ) (m : ServiceState) → rising old new ≡ 0 → (rqs_updated old new m).unreported ≡ m.unreported
unreported_one old new m none = unreported_at (rises old new) (falls old new) m (ap (λ (n : ℕ). not (n == 0)) none)

-- where no enabled bit rises, no session requests service
unreported_same : (old new : Reported) → RaisesNone old new → (n : ℕ) (os : List Bool) (ms : List ServiceState) → unreported_from n os (each_rqs_updated old new ms ms) ≡ unreported_from n os ms
unreported_same old new none n (o ∷ os) (m ∷ ms) =
    ap₂ (λ (b : Bool) (rest : List ℕ). named n (o && b) ++ rest) (unreported_one (enabled old m.available) (enabled new m.available) m (none m.available)) (unreported_same old new none (suc n) os ms)
unreported_same old new none n other another = refl

-- the service state of one session changes, and not whether its request is to be reported
unreported_set : (n : ℕ) (os : List Bool) (ms : List ServiceState) (i : ℕ) (x : ServiceState) → x.unreported ≡ (get_or ms i initial_service_state).unreported → unreported_from n os (slice_set ms i x) ≡ unreported_from n os ms
unreported_set n [] ms i x same = refl
unreported_set n (o ∷ os) [] i x same = refl
unreported_set n (o ∷ os) (m ∷ ms) zero x same = ap (λ (b : Bool). named n (o && b) ++ unreported_from (suc n) os ms) same
unreported_set n (o ∷ os) (m ∷ ms) (suc i) x same = ap (λ (rest : List ℕ). named n (o && m.unreported) ++ rest) (unreported_set (suc n) os ms i x same)

-- ---- what a unit that is answered leaves

-- its meaning raises no bit and asks for no change
record Leaves (s : State) (m : Meaning) : Type 0 where
  pub bits : RaisesNone s.volatile.instrument.status (done_by s.flush.unflushed s.volatile.instrument m).status
  pub none : change_in m ≡ None

never_kept : (found : Option ScpiError) (whole fitting : Bool) (text : List ℕ) → Answer text ≡ kept_unless found whole fitting → ⊥
never_kept (Some error) whole fitting text e = cc
never_kept None false fitting text e = cc
never_kept None true false text e = cc
never_kept None true true text e = cc

-- the reply to `*OPC` has no text
never_event : (broken : Bool) (text : List ℕ) → Answer text ≡ cond broken (Error StorageFault) Reply.Done → ⊥
never_event true text e = cc
never_event false text e = cc

leaves : (s : State) (session : ℕ) (command : Command) (text : List ℕ) (m : Meaning) → meaning (here s session) command ≡ m → Answer text ≡ answer_meant s.flush m → Leaves s m
leaves s session command text (Does (Some given) new) is e = record { bits = (each_answer_is_quiet (here s session) command given new is).1; none = refl }
leaves s session command text (Keeps change) is e = absurd (never_kept (nv.refused s.flush.contents change) (is_whole s.flush.store) (fits s.flush.limit (nv.apply s.flush.contents change)) text e)
leaves s session command text (Completes completion.Query) is e = record { bits = none_rises s.volatile.instrument.status; none = refl }
leaves s session command text (Completes completion.Wait) is e = record { bits = none_rises s.volatile.instrument.status; none = refl }
leaves s session command text (Completes completion.Event) is e = absurd (never_event (not (is_whole s.flush.store)) text e)
leaves s session command text other is e = absurd (let bad = e in cc)

means : (s : State) (session : ℕ) (reading : Result Command ScpiError) (text : List ℕ) → MayMean s.flush (meant (here s session) reading) (Answer text) → Leaves s (meant (here s session) reading)
means s session reading text (inr short) = absurd (let bad = short.0 in cc)
means s session (Err error) text (inl e) = absurd (let bad = e in cc)
means s session (Ok command) text (inl e) = leaves s session command text (meaning (here s session) command) refl e

never_call : (given : Result (List ℕ) ScpiError) (text : List ℕ) → Answer text ≡ answer_call given → ⊥
never_call (Ok expansion) text e = cc
never_call (Err error) text e = cc

answered : (s : State) (session : ℕ) (request : Request) (text : List ℕ) → MayAnswer s session request (Answer text) → Leaves s (meant (here s session) request.reading)
answered s session request text (Runs run (Expands body is call)) = absurd (never_call call.given text call.is)
answered s session request text (Runs run (Means none may)) = means s session request.reading text may

work_same : (f : Flush) (change : Option Change) → change ≡ None → (not f.out && (is_broken f.store || (is_whole f.store && not (counted change f.unflushed == 0)))) ≡ has_work f
work_same f change none = ap (λ (c : Option Change). not f.out && (is_broken f.store || (is_whole f.store && not (counted c f.unflushed == 0)))) none

answer_is_quiet : (s new : State) (session : ℕ) (request : Request) (text : List ℕ) → Serves s (Executed session request (Answer text)) new → IsQuiet s new
answer_is_quiet s new session request text a =
    let m = meant (here s session) request.reading in
    let left = answered s session request text a.1.may in
    record {
      bits = rw a.1.is left.bits;
      requests = rw a.1.is (unreported_same s.volatile.instrument.status (done_by s.flush.unflushed s.volatile.instrument m).status left.bits 1 s.volatile.open_now s.volatile.service_states);
      work = rw a.1.is (work_same s.flush (change_in m) left.none);
    }

-- nothing changes but the waits
waits_are_quiet : (s new : State) (waits : List (Option Wait)) → new ≡ followed s (record s { flush = record s.flush { waits = waits } }) → IsQuiet s new
waits_are_quiet s new waits is =
    let status = s.volatile.instrument.status in
    record {
      bits = rw is (none_rises status);
      requests = rw is (unreported_same status status (none_rises status) 1 s.volatile.open_now s.volatile.service_states);
      work = rw is refl;
    }

nothing_is_quiet : (s new : State) → new ≡ s → IsQuiet s new
nothing_is_quiet s new is = rw is (record { bits = none_rises s.volatile.instrument.status; requests = refl; work = refl })

unit_is_quiet : (s new : State) (session : ℕ) (request : Request) (reply : Reply) → may_cause reply ≡ false → Serves s (Executed session request reply) new → IsQuiet s new
unit_is_quiet s new session request Done quiet a = cc
unit_is_quiet s new session request (Error e) quiet a = cc
unit_is_quiet s new session request (Answer text) quiet a = answer_is_quiet s new session request text a
unit_is_quiet s new session request other quiet a = waits_are_quiet s new _ a.1.is

wait_is_quiet : (s new : State) (session : ℕ) (reply : Reply) → may_cause reply ≡ false → Serves s (Settled session reply) new → IsQuiet s new
wait_is_quiet s new session Done quiet a = cc
wait_is_quiet s new session (Error e) quiet a = cc
wait_is_quiet s new session other quiet a = waits_are_quiet s new _ a.2

pub each_unit_is_quiet : EachUnitIsQuiet
each_unit_is_quiet s new session request reply quiet (inl a) = unit_is_quiet s new session request reply quiet a
each_unit_is_quiet s new session request reply quiet (inr none) = nothing_is_quiet s new none.1

pub each_wait_is_quiet : EachWaitIsQuiet
each_wait_is_quiet s new session reply quiet (inl a) = wait_is_quiet s new session reply quiet a
each_wait_is_quiet s new session reply quiet (inr none) = nothing_is_quiet s new none.1

-- ---- calls that cause nothing whatever the state is

-- the service state of one session changes, with no request for service
state_is_quiet : (s new : State) (session : ℕ) (x : ServiceState) → x.unreported ≡ (service_state_of s session).unreported → new ≡ with_service_state s session x → IsQuiet s new
state_is_quiet s new session x same is = rw is (record {
  bits = none_rises s.volatile.instrument.status;
  requests = unreported_set 1 s.volatile.open_now s.volatile.service_states (place_of session) x same;
  work = refl;
})

-- a response is delivered
delivery_is_quiet : (s new : State) (session : ℕ) → new ≡ with_answer s session false → IsQuiet s new
delivery_is_quiet s new session is =
    let status = s.volatile.instrument.status in
    let m = service_state_of s session in
    state_is_quiet s new session (changed status false m)
    (unreported_one (enabled status m.available) (enabled status false) (with_available m false) (mav_cleared status m.available))
    (is ∙ sym (followed_at s session false))

call_is_quiet : (s new : State) (entry : Entry) → is_quiet entry ≡ true → Serves s entry new → IsQuiet s new
call_is_quiet s new (Cleared session) quiet a = rw a.1 (record { bits = none_rises s.volatile.instrument.status; requests = refl; work = refl })
call_is_quiet s new (Delivered session) quiet a = delivery_is_quiet s new session a.1
call_is_quiet s new (Queried session byte) quiet a = state_is_quiet s new session _ refl a.2
call_is_quiet s new (Fetched session byte) quiet a = state_is_quiet s new session _ refl a.2
call_is_quiet s new (Informed info) quiet a = nothing_is_quiet s new a.1
call_is_quiet s new (Due deadline) quiet a = nothing_is_quiet s new a.1
call_is_quiet s new other quiet a = cc

pub each_quiet_call_is_quiet : EachQuietCallIsQuiet
each_quiet_call_is_quiet s new entry quiet (inl a) = call_is_quiet s new entry quiet a
each_quiet_call_is_quiet s new entry quiet (inr none) = nothing_is_quiet s new none.1
