use Rattle.std.proofs.Common.{◌≡◌, ◌<◌, ap, arith, ◌∙◌}
use Rattle.psu_exec.specs.Device.{State}
use Rattle.psu_nv.specs.Commands.{refused}
use Rattle.psu_nv.specs.Contents.{fits}
use Rattle.psu_nv.specs.Views.{command_of}
use Rattle.psu_exec.proofs.Consistent.{consistent_more}
use Rattle.psu_exec.proofs.Seen.{device_is}
use Rattle.psu_exec.proofs.Touching.{change_keeps}
use Rattle.psu_exec.proofs.exec.ExecOf.note.Goals as goal

pub change_if_it_fits-requires : goal.change_if_it_fits-requires
change_if_it_fits-requires g c = record { found = ap (λ (s : State). refused s.flush.contents (command_of c.args.change.now)) (device_is c.self.view_is) ∙ c.requires.found }

pub invariant_of-self : goal.invariant_of-self
invariant_of-self g c = rw c.in_err-change_if_it_fits.ensures.err c.self.invariant

pub invariant_of-self-2 : goal.invariant_of-self-2
invariant_of-self-2 g c =
    let size : c.self.inside.unflushed ≡ c.args.self.now.device.flush.unflushed = ap (λ (s : State). s.flush.unflushed) (device_is c.self.view_is) in
    let room : c.self.inside.unflushed < 1024 = omega (arith, c.requires.room) in
    let made = c.in_ok-change_if_it_fits.ensures in
    (c.self.invariant.0, consistent_more _ _ _ c.self.invariant.1 room made.sound (ap (λ n. fits c.self.inside.limit n) made.ok.1 ∙ made.ok.0) made.ok.1, change_keeps _ _ _ _ _ _ c.self.invariant.2 c.add.ensures made.ok.1, c.self.invariant.3)
