use Rattle.std.proofs.Common.{ap, sym, ◌∙◌}
use Rattle.psu_nv.specs.Commands.{refused}
use Rattle.psu_nv.specs.Views.{command_of}
use Rattle.psu_exec.specs.Device.{State, is_whole}
use Rattle.psu_exec.proofs.Acting.{not_made}
use Rattle.psu_exec.proofs.Seen.{device_is}
use Rattle.psu_exec.proofs.exec.ExecOf.accept.Goals as goal

pub returns-in-Err-clause-may : goal.returns-in-Err-clause-may
returns-in-Err-clause-may g c =
    let found = ap (λ (s : State). refused s.flush.contents (command_of c.args.change.now)) (sym (device_is c.self.view_is)) ∙ (sym c.refusal.ensures ∙ c.in_default.is) in
    let whole = ap (λ (s : State). is_whole s.flush.store) (sym (device_is c.self.view_is)) ∙ sym (c.if-not-is_whole.ensures) in
    rw c.refuse-in-Err.ensures.value (not_made c.args.self.now.device.flush _ c.in-Err.error found whole c.in-Err.ensures.full c.in-Err.ensures.memory)
