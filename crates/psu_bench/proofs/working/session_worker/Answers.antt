use Rattle.std.proofs.Common.{◌≡◌, ℕ, ◌∙◌, arith, sym, refl, subst}
use Rattle.psu_tree.specs.declared.command.Request.{Request}
use Rattle.psu_turn.specs.Seats.{SeatCalls}
use Rattle.psu_exec.specs.Calls.{Entry}
use Rattle.psu_exec.specs.Device.{Reply}
use Rattle.psu_exec.specs.Shown.{outcome_of}
use Rattle.psu_replies.specs.declared.outcome.Outcome.{Outcome}
use Rattle.psu_replies.specs.declared.outcome.Outcome.TheVariants.{Parked}
use Rattle.psu_bench.specs.Calls.{AllowsOn}
use Rattle.psu_bench.specs.Tries.{tried, try_after}
use Rattle.psu_bench.specs.Tries.AreTries.{First, Next}
use Rattle.psu_bench.proofs.working.session_worker.Goals as goal
use Rattle.psu_bench.proofs.working.session_worker.Goals.{in-Parked, in_default}

executed_again : {A : Type 0} (session : ℕ) (request : Request) (outcome : Outcome A) (reply : Reply) → (outcome ≡ Parked → ⊥) → Entry.Executed session request reply ≡ try_after session request (outcome_of outcome) reply
executed_again session request Parked reply not = absurd (not refl)
executed_again session request outcome reply not = refl

pub loop-left-init : goal.loop-left-init
loop-left-init g c = record { own = c.call-outcome.ensures.own; tried = (1, First _ _ c.call-outcome.ensures.call, omega (arith, c.requires.some)) }

pub loop-left-preserved : goal.loop-left-preserved
loop-left-preserved g c =
    let made = c.call-outcome-in-loop-left in
    let earlier = c.loop-left.invariant.tried in
    let entry : tried c.args.session c.match-outcome.how (outcome_of made.result) ≡ try_after c.args.session c.args.request.now (outcome_of c.loop-left.outcome) (outcome_of made.result)
    = elim c.match-outcome.branch [
      | in-Parked w ↦ rw (w.how-is, w.in-Parked.is) refl
      | in_default w ↦ rw w.how-is (executed_again _ _ _ _ w.in_default.not-Parked)
    ] in
    record {
      own = made.ensures.own;
      tried = (
        _,
        Next _ _ _ _ _ earlier.1 (sym c.is_put_off.ensures ∙ c.if-is_put_off.true) (subst (λ (e : Entry). SeatCalls (AllowsOn g.D.Disk.honest) c.loop-left.seat e made.new.seat) entry made.ensures.call),
        (let count = earlier.2 in omega (arith, count, c.loop-left-test.true)),
      );
    }
