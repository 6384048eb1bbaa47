use Rattle.std.proofs.Common.{[], ap, arith, refl, sym, subst, ◌∙◌}
use Rattle.psu_session.specs.Step.{Steps}
use Rattle.psu_session.specs.Step.Steps.{Still}
use Rattle.psu_session.specs.State.{Shown, Start, SessionState, fresh}
use Rattle.psu_session.specs.declared.phase.Phase.TheVariants.{Open}
use Rattle.psu_session.proofs.Stepping.{holds_on_ok}
use Rattle.psu_session.proofs.session.HislipSession.open.Goals as goal

pub invariant_of-result : goal.invariant_of-result
invariant_of-result c = λ e.
    let made = c.new-parts.ensures in
    let given = c.in_ok-channel.ensures.opened in
    let start : Start = record { session = c.args.session; sync = c.in_ok-channel.channel; async = made.0 } in (
      (start, [], ((c.args.opening.now, given.0, given.1), made.1), subst (λ (z : SessionState). Steps (fresh start) [] z) (sym (c.make_reply_room.ensures.same ∙ made.2)) Still),
      holds_on_ok c.make_reply_room.result (sym c.is_err.ensures.value ∙ c.if-is_err.false) c.make_reply_room.ensures.room,
      omega arith,
    )

pub returns-clause-opened : goal.returns-clause-opened
returns-clause-opened c =
    let made = c.new-parts.ensures in
    let given = c.in_ok-channel.ensures.opened in
    let start : Start = record { session = c.args.session; sync = c.in_ok-channel.channel; async = made.0 } in
    let shown : SessionState → Shown = λ z. record { phase = Open; state = z } in
    (start, given.0, given.1, made.1, refl, ap shown (c.make_reply_room.ensures.same ∙ made.2))
