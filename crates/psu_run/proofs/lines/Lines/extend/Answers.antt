use Rattle.psu_run.proofs.Common.{◌⊎◌, ◌≡◌, ◌+◌, ◌<◌, length, arith, common_steps}
use Rattle.psu_run.proofs.Cuts.{kept_alike, kept_none}
use Rattle.psu_run.proofs.lines.Lines.extend.Goals as goal

pub invariant_of-self : goal.invariant_of-self
invariant_of-self g c =
    let free = c.args.self.now.free in let kept = kept_none c.args.self.now.line.items c.args.part.now c.min-kept.result free c.requires in let added = c.append.ensures.added in let same = c.append.ensures.same in
    record { free = grind arith }

pub returns : goal.returns
returns g c = λ input.
    let is = c.in_ok-append.ensures.added in let room = c.saturating_sub-room.ensures in let kept = c.min-kept.ensures in
    let enough : (c.min-kept.result ≡ length c.args.part.now) ⊎ (65536 < length c.args.self.now.line.items + c.min-kept.result) = grind (arith, common_steps, room, kept, c.len.ensures) in
    rw is (kept_alike c.args.self.now.line.items c.args.part.now input c.min-kept.result c.args.self.now.free c.requires enough (grind (arith, common_steps, kept)))
