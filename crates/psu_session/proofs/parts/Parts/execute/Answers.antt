use Rattle.std.proofs.Common.{◌≡◌, ◌-◌, ◌∙◌, Some, None, ap, refl, subst, sym}
use Rattle.psu_session.specs.Credit.{cost_of}
use Rattle.psu_session.specs.Orders.{Order}
use Rattle.psu_session.specs.Proceeding.{Counts, IsNext, LetsIn}
use Rattle.psu_session.specs.Serving.{PerformsStep}
use Rattle.psu_session.specs.Shown.{one_running, state_of}
use Rattle.psu_session.specs.State.{Running, SessionState, with_held, with_output, with_work}
use Rattle.psu_session.specs.Step.{running}
use Rattle.psu_session.specs.declared.proceeding.Proceeded.TheVariants.{Completed, Waits}
use Rattle.psu_hislip.specs.declared.side.Side.TheVariants.{Sync}
use Rattle.psu_messages.specs.declared.need.Need.{Need}
use Rattle.psu_messages.specs.declared.need.Need.TheVariants.{Turn}
use Rattle.psu_session.proofs.Executing.{of_some}
use Rattle.psu_session.proofs.Stepping.{dropped, next_is, over, waits}
use Rattle.psu_session.proofs.parts.Parts.execute.Goals as goal

pub returns-then-not-is_current-clause-done : goal.returns-then-not-is_current-clause-done
returns-then-not-is_current-clause-done g c = λ s next n.
    let does = g.D.Device.does in
    let t = state_of c.args.self.now in
    let one = one_running c.in-Some.running in
    let here = subst (λ (z : Running). IsNext s z t) (sym (next_is c.args.self.now.running c.in-Some.running s next t c.in-Some.is refl n)) n in
    subst (λ (z : SessionState). PerformsStep does (Counts c.args.left.now Completed c.args.left.now) s c.args.device.now z c.args.device.now) (sym (c.end_transmission.ensures.ended one refl))
    (dropped does s one t c.args.device.now here c.args.left.now (λ current. let e = c.if-not-is_current.ensures.1 current in absurd (cc (e))))

pub returns-in-None-clause-done : goal.returns-in-None-clause-done
returns-in-None-clause-done g c = λ s next n.
    let does = g.D.Device.does in
    let t = state_of c.args.self.now in
    let one = one_running c.in-Some.running in
    let got = one_running c.advance.new.running in
    let output = c.advance.new.output.items in
    let here = subst (λ (z : Running). IsNext s z t) (sym (next_is c.args.self.now.running c.in-Some.running s next t c.in-Some.is refl n)) n in
    let is = c.end_transmission-in-None.ensures.ended got refl ∙ ap (λ (z : Order). with_held (with_work (with_output Sync t output) t.waiting None) (t.held - cost_of z)) c.in_ok-need.ensures.order in
    subst (λ (z : SessionState). PerformsStep does (Counts c.args.left.now Completed c.advance.new.left) s c.args.device.now z c.advance.new.device) (sym is)
    (over does s one t c.args.device.now here got.progress output c.advance.new.device c.args.left.now c.advance.new.left (c.if-not-is_current.ensures.0 refl) c.in_ok-need.ensures.advances (c.in_ok-need.ensures.over c.in-None.is))

pub returns-in-Some-need-clause-done : goal.returns-in-Some-need-clause-done
returns-in-Some-need-clause-done g c = λ s next n.
    let does = g.D.Device.does in
    let t = state_of c.args.self.now in
    let one = one_running c.in-Some.running in
    let got = one_running c.advance.new.running in
    let output = c.advance.new.output.items in
    let here = subst (λ (z : Running). IsNext s z t) (sym (next_is c.args.self.now.running c.in-Some.running s next t c.in-Some.is refl n)) n in
    subst (λ (z : Order). PerformsStep does (Counts c.args.left.now (Waits c.in-Some-need.need) c.advance.new.left) s c.args.device.now (with_output Sync (with_work t t.waiting (Some (running z got.progress))) output) c.advance.new.device) (sym c.in_ok-need.ensures.order)
    (waits does s one t c.args.device.now here got.progress output c.advance.new.device c.args.left.now c.advance.new.left c.in-Some-need.need c.requires (of_some (λ (n : Need). n ≡ Turn → LetsIn c.args.left.now c.advance.new.left output) c.in-Some-need.is c.in_ok-need.ensures.yields) (c.if-not-is_current.ensures.0 refl) c.in_ok-need.ensures.advances)
