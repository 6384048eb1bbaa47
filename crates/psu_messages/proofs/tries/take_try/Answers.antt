use Rattle.std.proofs.Common.{refl, ap}
use Rattle.psu_messages.specs.Effects.{needs}
use Rattle.psu_messages.specs.Shown.{reply_of}
use Rattle.psu_messages.proofs.Going.{one_trial}
use Rattle.psu_messages.proofs.tries.take_try.Goals as goal

pub returns-in-Parked-clause-tried : goal.returns-in-Parked-clause-tried
returns-in-Parked-clause-tried g c =
    let e = c.in_ok-wait.ensures in
    (_, one_trial _ _ _ c.args.parked.now c.args.request.now _ e.executed e.settled, ap (λ t. needs (reply_of t)) c.in-Parked.is, refl)
