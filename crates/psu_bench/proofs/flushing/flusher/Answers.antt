use Rattle.std.proofs.Common.{◌≡◌, ℕ, ◌+◌, suc, arith, subst}
use Rattle.psu_bench.specs.Callers.{MakesRounds}
use Rattle.psu_bench.proofs.flushing.flusher.Goals as goal

pub loop-preserved : goal.loop-preserved
loop-preserved g c = let made = c.round-made in let next : suc c.loop.counter ≡ c.loop.counter + 1 = omega arith in
    (made.ensures.own, subst (λ (n : ℕ). MakesRounds g.row.A.Denot g.D.Disk n c.args.seat made.new.seat) next (c.loop.seat, _, c.loop.invariant.1, made.ensures.calls))
