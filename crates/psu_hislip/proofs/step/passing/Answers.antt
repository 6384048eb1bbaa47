use Rattle.std.proofs.Common.{◌-◌, [], ℕ, List, length, sym, subst}
use Rattle.std.proofs.Math.Seq.{take-length}
use Rattle.psu_hislip.specs.Channel.{Moves}
use Rattle.psu_hislip.specs.Channel.Awaited.{Passing}
use Rattle.psu_hislip.proofs.Channels.{moves_passing}
use Rattle.psu_hislip.proofs.step.passing.Goals as goal

pub returns-then-come-count-clause-moves : goal.returns-then-come-count-clause-moves
returns-then-come-count-clause-moves g c =
    let piece = c.args.piece.now in
    subst (λ (z : List ℕ). Moves (Passing c.args.count) z [] (Passing (c.args.count - length piece))) (sym (take-length piece))
    (moves_passing c.args.count piece c.if-come-count.true)
