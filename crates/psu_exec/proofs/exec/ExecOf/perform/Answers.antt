use Rattle.std.proofs.Common.{◌≡◌, ◌∙◌, ap, sym, subst, false, is_none}
use Rattle.psu_nv.specs.Views.{command_of}
use Rattle.psu_tree.specs.Nonvolatile.{is_nonvolatile}
use Rattle.psu_instrument.specs.Commands.{meaning}
use Rattle.psu_instrument.specs.Meaning.{Completes, Keeps}
use Rattle.psu_instrument.proofs.Kept.{kept_are_nonvolatile}
use Rattle.psu_exec.specs.Device.{Error, State, MayMean, after_meant, here, is_late, Answer, Done, with_device}
use Rattle.psu_exec.specs.Shown.{outcome_of}
use Rattle.psu_exec.proofs.Acting.{completes, failed, keeps, then_done, answers_so, done_so, not_full}
use Rattle.psu_exec.proofs.Seen.{after_seen, device_is, seen, so_seen}
use Rattle.psu_exec.proofs.exec.ExecOf.perform.Goals as goal

pub returns-in-Err-clause-may : goal.returns-in-Err-clause-may
returns-in-Err-clause-may g c =
    let s = (seen c.self.view_is).device in
    let step = failed _ s c.args.session (meaning (here s c.args.session) c.args.command.now) c.in-Err.error _ (rw c.place.ensures.place at c.in-Err.ensures) in
    rw c.refuse.ensures.value (so_seen (λ (t : State). MayMean t.flush (meaning (here t c.args.session) c.args.command.now) (Error c.in-Err.error)) c.self.view_is step.0)

pub returns-in-Err-clause-is : goal.returns-in-Err-clause-is
returns-in-Err-clause-is g c =
    let s = (seen c.self.view_is).device in
    let step = failed _ s c.args.session (meaning (here s c.args.session) c.args.command.now) c.in-Err.error _ (rw c.place.ensures.place at c.in-Err.ensures) in
    rw c.refuse.ensures.value (after_seen (λ (t : State). after_meant t c.args.session (meaning (here t c.args.session) c.args.command.now) (Error c.in-Err.error)) c.self.view_is (c.refuse.ensures.state ∙ ap (with_device (seen c.self.view_is)) step.1))

pub accept-requires : goal.accept-requires
accept-requires g c =
    let s = (seen c.self.view_is).device in
    let kept = keeps _ (meaning (here s c.args.session) c.args.command.now) _ _ c.in-Ok-Keep.change (rw (c.place.ensures.place, c.in-Ok-Keep.field-0-is) at c.in-Ok-Keep.ensures) in
    let nonvolatile = kept_are_nonvolatile (here s c.args.session) c.args.command.now _ kept.0 in
    let late = subst (λ (t : State). is_late t.flush c.args.session (is_nonvolatile c.args.command.now (is_none t.flush.contents.enables)) ≡ false) (sym (device_is c.self.view_is)) c.requires.late in
    record { room = not_full s.flush c.args.session (rw nonvolatile at late) }

pub returns-in-Ok-Keep-clause-may : goal.returns-in-Ok-Keep-clause-may
returns-in-Ok-Keep-clause-may g c =
    let s = (seen c.self.view_is).device in
    let kept = keeps _ (meaning (here s c.args.session) c.args.command.now) _ _ c.in-Ok-Keep.change (rw (c.place.ensures.place, c.in-Ok-Keep.field-0-is) at c.in-Ok-Keep.ensures) in
    let step = then_done s c.args.session (meaning (here s c.args.session) c.args.command.now) (Keeps (command_of c.in-Ok-Keep.change)) _ (outcome_of c.accept.result) kept.0 kept.1 c.accept.ensures.may in
    so_seen (λ (t : State). MayMean t.flush (meaning (here t c.args.session) c.args.command.now) (outcome_of c.accept.result)) c.self.view_is step.0

pub returns-in-Ok-Keep-clause-is : goal.returns-in-Ok-Keep-clause-is
returns-in-Ok-Keep-clause-is g c =
    let s = (seen c.self.view_is).device in
    let kept = keeps _ (meaning (here s c.args.session) c.args.command.now) _ _ c.in-Ok-Keep.change (rw (c.place.ensures.place, c.in-Ok-Keep.field-0-is) at c.in-Ok-Keep.ensures) in
    let step = then_done s c.args.session (meaning (here s c.args.session) c.args.command.now) (Keeps (command_of c.in-Ok-Keep.change)) _ (outcome_of c.accept.result) kept.0 kept.1 c.accept.ensures.may in
    after_seen (λ (t : State). after_meant t c.args.session (meaning (here t c.args.session) c.args.command.now) (outcome_of c.accept.result)) c.self.view_is (c.accept.ensures.is c.args.session ∙ ap (with_device (seen c.self.view_is)) step.1)

pub returns-in-Ok-Complete-clause-may : goal.returns-in-Ok-Complete-clause-may
returns-in-Ok-Complete-clause-may g c =
    let s = (seen c.self.view_is).device in
    let done = completes _ (meaning (here s c.args.session) c.args.command.now) _ _ c.in-Ok-Complete.completion (rw (c.place.ensures.place, c.in-Ok-Complete.field-0-is) at c.in-Ok-Complete.ensures) in
    let step = then_done s c.args.session (meaning (here s c.args.session) c.args.command.now) (Completes c.in-Ok-Complete.completion) _ (outcome_of c.complete.result) done.0 done.1 c.complete.ensures.may in
    so_seen (λ (t : State). MayMean t.flush (meaning (here t c.args.session) c.args.command.now) (outcome_of c.complete.result)) c.self.view_is step.0

pub returns-in-Ok-Complete-clause-is : goal.returns-in-Ok-Complete-clause-is
returns-in-Ok-Complete-clause-is g c =
    let s = (seen c.self.view_is).device in
    let done = completes _ (meaning (here s c.args.session) c.args.command.now) _ _ c.in-Ok-Complete.completion (rw (c.place.ensures.place, c.in-Ok-Complete.field-0-is) at c.in-Ok-Complete.ensures) in
    let step = then_done s c.args.session (meaning (here s c.args.session) c.args.command.now) (Completes c.in-Ok-Complete.completion) _ (outcome_of c.complete.result) done.0 done.1 c.complete.ensures.may in
    after_seen (λ (t : State). after_meant t c.args.session (meaning (here t c.args.session) c.args.command.now) (outcome_of c.complete.result)) c.self.view_is (c.complete.ensures.is ∙ ap (with_device (seen c.self.view_is)) step.1)

pub returns-in-Ok-Answer-clause-may : goal.returns-in-Ok-Answer-clause-may
returns-in-Ok-Answer-clause-may g c =
    let s = (seen c.self.view_is).device in
    let step = answers_so _ s c.args.session (meaning (here s c.args.session) c.args.command.now) c.in-Ok-Answer.text _ (rw (c.place.ensures.place, c.in-Ok-Answer.field-0-is) at c.in-Ok-Answer.ensures) in
    so_seen (λ (t : State). MayMean t.flush (meaning (here t c.args.session) c.args.command.now) (Answer c.in-Ok-Answer.text)) c.self.view_is step.0

pub returns-in-Ok-Answer-clause-is : goal.returns-in-Ok-Answer-clause-is
returns-in-Ok-Answer-clause-is g c =
    let s = (seen c.self.view_is).device in
    let step = answers_so _ s c.args.session (meaning (here s c.args.session) c.args.command.now) c.in-Ok-Answer.text _ (rw (c.place.ensures.place, c.in-Ok-Answer.field-0-is) at c.in-Ok-Answer.ensures) in
    after_seen (λ (t : State). after_meant t c.args.session (meaning (here t c.args.session) c.args.command.now) (Answer c.in-Ok-Answer.text)) c.self.view_is (ap (with_device (seen c.self.view_is)) step.1)

pub returns-in-Ok-Done-clause-may : goal.returns-in-Ok-Done-clause-may
returns-in-Ok-Done-clause-may g c =
    let s = (seen c.self.view_is).device in
    let step = done_so _ s c.args.session (meaning (here s c.args.session) c.args.command.now) _ (rw (c.place.ensures.place, c.in-Ok-Done.field-0-is) at c.in-Ok-Done.ensures) in
    so_seen (λ (t : State). MayMean t.flush (meaning (here t c.args.session) c.args.command.now) Done) c.self.view_is step.0

pub returns-in-Ok-Done-clause-is : goal.returns-in-Ok-Done-clause-is
returns-in-Ok-Done-clause-is g c =
    let s = (seen c.self.view_is).device in
    let step = done_so _ s c.args.session (meaning (here s c.args.session) c.args.command.now) _ (rw (c.place.ensures.place, c.in-Ok-Done.field-0-is) at c.in-Ok-Done.ensures) in
    after_seen (λ (t : State). after_meant t c.args.session (meaning (here t c.args.session) c.args.command.now) Done) c.self.view_is (ap (with_device (seen c.self.view_is)) step.1)
