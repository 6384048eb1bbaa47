use Rattle.std.proofs.Common.{◌≡◌, ℕ, false, sym, ◌∙◌, subst, refl}
use Rattle.psu_turn.specs.Seats.{SeatCalls, Sight}
use Rattle.psu_exec.specs.Calls.{Entry}
use Rattle.psu_exec.specs.Device.{Reply, State}
use Rattle.psu_exec.specs.Quiet.{EachUnitIsQuiet, EachWaitIsQuiet, may_cause}
use Rattle.psu_exec.specs.Shown.{outcome_of}
use Rattle.psu_bench.specs.Calls.{AllowsOn}
use Rattle.psu_bench.specs.Callers.{CausesNothing, IsNotified}
use Rattle.psu_bench.specs.Tries.{tried}
use Rattle.psu_bench.specs.declared.operations.Try.{Try}
use Rattle.psu_bench.specs.declared.operations.Try.TheVariants as how
use Rattle.psu_bench.proofs.caller.Caller.try_unit.Goals as goal
use Rattle.psu_bench.proofs.caller.Caller.try_unit.Goals.{then-may_cause, else-may_cause, in-Answer+in-Some-1, in-Answer+in-None-1, in_default}

-- a try that causes nothing, whatever session made it
causes_nothing : EachUnitIsQuiet → EachWaitIsQuiet → (honest : Type 0) (session : ℕ) (t : Try) (reply : Reply) → may_cause reply ≡ false → CausesNothing honest (tried session t reply)
causes_nothing units waits honest session (how.Execute request) reply quiet s new allows = units s new session request.now reply quiet allows.0
causes_nothing units waits honest session how.Settle reply quiet s new allows = waits s new session reply quiet allows.0

pub returns : goal.returns
returns g c =
    let made = c.in_turn-outcome in
    let entry : Entry = tried c.args.session c.args.how (outcome_of made.result) in
    let laws = c.units_and_waits_are_quiet.ensures in
    let seat : c.match-outcome.self ≡ c.if-may_cause.self-inside.seat
    = elim c.match-outcome.branch [ in-Answer+in-Some-1 w ↦ w.self-is | in-Answer+in-None-1 w ↦ w.self-is | in_default w ↦ w.self-is ] in
    let notified : IsNotified g.D.Disk.honest entry made.new.seat c.if-may_cause.caused c.if-may_cause.self-inside.seat
    = elim c.if-may_cause.branch [
      | then-may_cause w ↦ rw (w.caused-is, w.self-inside-is, w.of.ensures.requesting, w.of.ensures.flusher) w.in_turn-notifications.ensures.call
      | else-may_cause w ↦ rw (w.caused-is, w.self-inside-is) (refl, causes_nothing laws.units laws.waits _ _ _ _ (sym c.may_cause.ensures ∙ w.if-may_cause.false))
    ] in
    let called : SeatCalls (AllowsOn g.D.Disk.honest) c.args.self.now entry made.new.seat
    = subst (λ (v : Sight State Entry). SeatCalls (AllowsOn g.D.Disk.honest) v entry made.new.seat) (c.self.view_is ∙ c.enter-guard.ensures) made.ensures.call in
    record { caused = (made.new.seat, called, subst (λ (v : Sight State Entry). IsNotified g.D.Disk.honest entry made.new.seat c.if-may_cause.caused v) (sym seat) notified) }
