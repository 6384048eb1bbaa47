use Rattle.std.proofs.Common.{◌∙◌, inl, ap, sym}
use Rattle.psu_exec.specs.Consistent.{IsConsistent}
use Rattle.psu_exec.specs.Device.{State}
use Rattle.psu_exec.specs.Shown.{outcome_of}
use Rattle.psu_exec.proofs.Acting.{answered_step, held_step, later_step}
use Rattle.psu_exec.proofs.Answered.{unit_has_text}
use Rattle.psu_exec.proofs.Denied.{denied_is_held, held_changes_nothing, held_is_denied, later_changes_nothing}
use Rattle.psu_exec.proofs.Ignored.{serves_executed}
use Rattle.psu_exec.proofs.Seen.{device_is, so_seen}
use Rattle.psu_exec.proofs.exec.ExecOf.execute.Goals as goal

pub returns-then-is_denied-clause-step : goal.returns-then-is_denied-clause-step
returns-then-is_denied-clause-step g c =
    let k = so_seen (λ (s : State). IsConsistent s.flush) c.self.view_is c.self.invariant.1 in
    inl (sym c.is_open.ensures ∙ c.if-not-is_open.false, held_step c.args.self.now.device c.args.session c.args.request.now (sym c.is_denied.ensures ∙ c.if-is_denied.true) k)

pub returns-then-is_late-clause-step : goal.returns-then-is_late-clause-step
returns-then-is_late-clause-step g c =
    let k = so_seen (λ (s : State). IsConsistent s.flush) c.self.view_is c.self.invariant.1 in
    inl (sym c.is_open.ensures ∙ c.if-not-is_open.false, later_step c.args.self.now.device c.args.session c.args.request.now (sym c.is_denied.ensures ∙ c.if-is_denied.false) (sym (rw c.reads_nonvolatile.ensures at c.if-is_late.ensures)) k)

pub returns-clause-step : goal.returns-clause-step
returns-clause-step g c =
    let k = so_seen (λ (s : State). IsConsistent s.flush) c.self-2.view_is c.self-2.invariant.1 in
    let s = c.args.self.now.device in
    let is = device_is c.answer-outcome.ensures.is in
    let follows = device_is (c.follow.ensures s c.enabled-old.ensures (sym (ap (λ (s : State). s.volatile.service_states) is))) in inl (
      sym c.is_open.ensures ∙ c.if-not-is_open.false,
      answered_step s c.answer-outcome.new.self.device c.follow.new.self.device c.args.session c.args.request.now (outcome_of c.answer-outcome.result)
          (record { free = sym c.is_denied.ensures ∙ c.if-is_denied.false; due = sym (rw c.reads_nonvolatile.ensures at c.if-is_late.ensures) }) c.answer-outcome.ensures.may is follows k,
    )

pub returns-clause-later : goal.returns-clause-later
returns-clause-later g c = later_changes_nothing c.args.self.now.device c.follow.new.self.device c.args.session c.args.request.now (outcome_of c.answer-outcome.result) (returns-clause-step g c)

pub returns-clause-held : goal.returns-clause-held
returns-clause-held g c here =
    let step = (serves_executed c.args.self.now.device c.follow.new.self.device c.args.session c.args.request.now (outcome_of c.answer-outcome.result) here (returns-clause-step g c)).1 in (
      held_is_denied c.args.self.now.device c.follow.new.self.device c.args.session c.args.request.now (outcome_of c.answer-outcome.result) step,
      denied_is_held c.args.self.now.device c.follow.new.self.device c.args.session c.args.request.now (outcome_of c.answer-outcome.result) step,
    )

pub returns-clause-same : goal.returns-clause-same
returns-clause-same g c = held_changes_nothing c.args.self.now.device c.follow.new.self.device c.args.session c.args.request.now (outcome_of c.answer-outcome.result) (returns-clause-step g c)

pub returns-clause-text : goal.returns-clause-text
returns-clause-text g c = unit_has_text c.args.self.now.device c.follow.new.self.device c.args.session c.args.request.now (outcome_of c.answer-outcome.result) (returns-clause-step g c)
