use Rattle.std.proofs.Common.{refl, sym}
use Rattle.psu_exec.specs.Calls.{kept}
use Rattle.psu_exec.specs.Device.{State}
use Rattle.psu_exec.specs.Jobs.{IsStoreOf}
use Rattle.psu_exec.specs.declared.idle_store.Condition.TheVariants.{Whole}
use Rattle.psu_exec.proofs.Consistent.{consistent_ended}
use Rattle.psu_exec.proofs.Returning.{placed, whole_belongs}
use Rattle.psu_exec.proofs.Seen.{so_seen}
use Rattle.psu_exec.proofs.Touching.{keeps_all}
use Rattle.psu_exec.proofs.exec.flushing.Exec+D+A.keep.Goals as goal

pub invariant_of-self : goal.invariant_of-self
invariant_of-self g c =
    let belongs = whole_belongs c.args.store Whole c.self.inside.limit _ c.self.inside.map refl refl (so_seen (λ (s : State). IsStoreOf (kept s.flush) c.args.store) (sym c.self.view_is) c.requires.store) in
    rw c.put_store_back.ensures (tt, consistent_ended _ _ _ c.self.invariant.1 refl c.self.invariant.1.waits, keeps_all _ _ _ c.all-self-inside.ensures, placed _ c.args.store _ refl belongs)
