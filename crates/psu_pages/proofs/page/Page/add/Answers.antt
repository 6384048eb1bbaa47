use Rattle.std.proofs.Common.{◌≤◌, ◌+◌, ◌-◌, length, arith, ap}
use Rattle.std.proofs.lemmas.List.{length-take-le}
use Rattle.psu_pages.proofs.Filling.{zeros_left}
use Rattle.psu_pages.proofs.page.Page.add.Goals as goal

pub invariant_of-self : goal.invariant_of-self
invariant_of-self c =
    let s = c.self.inside in
    let within : s.used ≤ length s.bytes = omega (arith, c.self.told, c.self.invariant.0) in
    let long : s.used + length c.args.bytes.now ≤ 512 = omega (arith, c.requires, ap length c.self.view_is, length-take-le s.used s.bytes within) in
    (long, zeros_left s.used (length c.args.bytes.now) (s.used + length c.args.bytes.now - s.used) s.bytes c.copy_from_slice.new.self within c.self.invariant.1 (omega arith) (omega (arith, ap length c.copy_from_slice.ensures.after)))
