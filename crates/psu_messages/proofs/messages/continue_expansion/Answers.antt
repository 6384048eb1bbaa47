use Rattle.std.proofs.Common.{is_some}
use Rattle.psu_messages.proofs.Outside.{from_within}
use Rattle.psu_messages.proofs.messages.continue_expansion.Goals as goal

pub returns-in-None-clause-advances : goal.returns-in-None-clause-advances
returns-in-None-clause-advances g c = λ source.
    let done = rw c.in-None.is at c.in_ok-need.ensures.advances in
    let went = rw c.as_slice.ensures at done in
    from_within g.F.Executor.relations.does source c.args.executor.now c.expand.new.executor _ c.args.progress.now.units c.args.progress.now.expansion c.in-Some.expansion (is_some c.args.progress.now.parked) c.args.progress.now.gathered c.in-Some.is (went source c.args.progress.now.units)

pub returns-in-Some-need-clause-advances : goal.returns-in-Some-need-clause-advances
returns-in-Some-need-clause-advances g c = λ source.
    let waits = rw c.in-Some-need.is at c.in_ok-need.ensures.advances in
    let went = rw c.as_slice.ensures at waits in
    from_within g.F.Executor.relations.does source c.args.executor.now c.expand.new.executor _ c.args.progress.now.units c.args.progress.now.expansion c.in-Some.expansion (is_some c.args.progress.now.parked) c.args.progress.now.gathered c.in-Some.is (went source c.args.progress.now.units)
