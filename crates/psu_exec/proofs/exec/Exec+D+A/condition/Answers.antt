use Rattle.std.proofs.Common.{ap, refl, ◌∙◌, is_none}
use Rattle.psu_exec.specs.Device.{State}
use Rattle.psu_exec.specs.Jobs.{IsStoreOf}
use Rattle.psu_exec.proofs.Returning.{store_of}
use Rattle.psu_exec.proofs.Seen.{so_seen, store_is}
use Rattle.psu_exec.proofs.exec.Exec+D+A.condition.Goals as goal

pub returns-clause-stored : goal.returns-clause-stored
returns-clause-stored g c = λ store at.
    let here = store_is c.self.view_is ∙ at in
    so_seen (λ (s : State). IsStoreOf s.flush store) c.self.view_is
    (store_of _ _ c.self.inside.map store c.self.invariant.0 c.self.invariant.1 refl refl (ap is_none here) (c.self.invariant.3 store here))
