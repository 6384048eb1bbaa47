use Rattle.std.proofs.Common.{◌≤◌, ◌⊎◌, inl, inr, ℕ, ap, length, refl, subst}
use Rattle.psu_messages.proofs.Going.{kept_advances, kept_interrupted}
use Rattle.psu_session.proofs.Executing.{advanced, not_turn, on_some}
use Rattle.psu_session.proofs.Interrupting.{interrupted}
use Rattle.psu_session.proofs.Stopping.{if_err}
use Rattle.psu_session.proofs.execution.Execution.advance.Goals as goal

pub returns-in_err-need-clause-output : goal.returns-in_err-need-clause-output
returns-in_err-need-clause-output g c = kept_interrupted c.in_err-need.ensures.stops (λ x. x.output.ghost_name) (λ x y effect d. d.0) (λ x y request stop d. absurd d) (λ x y stop d. d.0)

pub returns-in_err-need-clause-device : goal.returns-in_err-need-clause-device
returns-in_err-need-clause-device g c = kept_interrupted c.in_err-need.ensures.stops (λ x. x.device.ghost_name) (λ x y effect d. d.1) (λ x y request stop d. absurd d) (λ x y stop d. d.1)

pub returns-clause-advances : goal.returns-clause-advances
returns-clause-advances g c =
    advanced g.D.Device.does (λ x. x.core.now) (λ x. x.origin) (λ x. x.output.now.items) (λ x. x.device.now) (λ x. x.left) (λ x y effect d. (d.3, ap (λ k. k.now) d.4, d.5, d.6, d.7)) c.in_ok-need.ensures.advances c.args.self.now.origin refl

pub returns-clause-output : goal.returns-clause-output
returns-clause-output g c = kept_advances c.in_ok-need.ensures.advances (λ x. x.output.ghost_name) (λ x y effect d. d.0)

pub returns-clause-device : goal.returns-clause-device
returns-clause-device g c = kept_advances c.in_ok-need.ensures.advances (λ x. x.device.ghost_name) (λ x y effect d. d.1)

pub returns-in_err-need-clause-stopped : goal.returns-in_err-need-clause-stopped
returns-in_err-need-clause-stopped g c =
    if_err c.from_residual.result
    (interrupted _ g.D.Device.does (λ x. x.device.now) (λ x y effect d. d.7) (λ x y request stop f. f) (λ x y stop d. d.2) (record { origin = c.args.self.now.origin; source = c.args.transmission.now.source }) _ c.args.transmission.now.progress _ _ _ c.in_err-need.ensures.stops)

pub returns-clause-yields : goal.returns-clause-yields
returns-clause-yields g c =
    let until = kept_advances c.in_ok-need.ensures.advances (λ x. x.until) (λ x y effect d. d.2) in
    on_some c.in_ok-need.need (λ need waits turn. elim waits [
      | inl lets_in ↦ subst (λ (z : ℕ). (c.proceed.new.executor.left ≤ z) ⊎ (65536 ≤ length c.proceed.new.executor.output.now.items)) until lets_in.1
      | inr awaits ↦ absurd (not_turn awaits.4 need turn awaits.7)
    ]) c.in_ok-need.ensures.waits
