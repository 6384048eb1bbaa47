use Rattle.std.proofs.Common.{◌≡◌, ◌||◌, ◌∙◌, ap, is_none, subst, sym, true, refl, List}
use Rattle.psu_map.specs.Batch.{Edit}
use Rattle.psu_exec.specs.Calls.{broken}
use Rattle.psu_exec.specs.Device.{State, is_broken}
use Rattle.psu_exec.specs.Jobs.{Belongs, IsStoreOf}
use Rattle.psu_exec.specs.declared.idle_store.Condition.TheVariants.{Broken}
use Rattle.psu_exec.proofs.Consistent.{consistent_broken}
use Rattle.psu_exec.proofs.Plans.{as_planned}
use Rattle.psu_exec.proofs.Returning.{placed}
use Rattle.psu_exec.proofs.Seen.{device_is, seen, so_seen}
use Rattle.psu_exec.proofs.Within.{within_cut}
use Rattle.psu_exec.proofs.exec.flushing.Exec+D+A.break_off.Goals as goal

pub invariant_of-self : goal.invariant_of-self
invariant_of-self g c =
    let plan = c.self.inside.map in
    let out : is_none c.self.inside.idle_store ≡ true = ap (λ (s : State). s.flush.out) (device_is c.self.view_is) ∙ c.requires.out in
    let planned = as_planned (seen c.self.view_is).device.flush _ plan c.self.invariant.0 refl refl (c.self.invariant.1.out ∙ ap (λ b. b || is_broken c.self.inside.store) out) in
    let store = so_seen (λ (s : State). IsStoreOf (broken s.flush) c.args.store) (sym c.self.view_is) c.requires.store in
    let belongs = subst (λ (edits : List Edit). Belongs c.args.store Broken c.self.inside.limit (record { map = plan.map; edits = edits })) planned.1 store in
    rw (c.put_store_back.ensures, c.all_cut_off.ensures) (c.self.invariant.0, consistent_broken _ _ c.self.invariant.1 out (within_cut _ _ c.self.invariant.1.waits), c.self.invariant.2, placed _ c.args.store _ refl belongs)
