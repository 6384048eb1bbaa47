use Rattle.psu_exec.specs.Device.{State, MayMean, Expands, Means, after_meant, here, meant}
use Rattle.psu_exec.specs.Shown.{outcome_of}
use Rattle.psu_exec.proofs.Seen.{after_seen, so_seen}
use Rattle.psu_exec.proofs.exec.ExecOf.answer.Goals as goal

pub returns-in-Some-clause-may : goal.returns-in-Some-clause-may
returns-in-Some-clause-may g c = let call = c.in-Some.ensures.some in Expands call.0 call.1 call.2

pub returns-clause-may : goal.returns-clause-may
returns-clause-may g c =
    let none = c.in_default.ensures.none in
    let may = so_seen (λ (s : State). MayMean s.flush (meant (here s c.args.session) c.args.request.now.reading) (outcome_of c.act.result)) none.1 c.act.ensures.may in
    Means none.0 may

pub returns-clause-is : goal.returns-clause-is
returns-clause-is g c =
    let none = c.in_default.ensures.none in
    after_seen (λ (s : State). after_meant s c.args.session (meant (here s c.args.session) c.args.request.now.reading) (outcome_of c.act.result)) none.1 c.act.ensures.is
