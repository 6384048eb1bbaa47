use Rattle.std.proofs.Common.{ap, refl, sym, ◌∙◌}
use Rattle.psu_map.specs.Batch.{changed}
use Rattle.psu_map.specs.Plan.{Planned}
use Rattle.psu_exec.specs.Calls.{target_flushed}
use Rattle.psu_exec.specs.Device.{State, held_of, map_held}
use Rattle.psu_exec.specs.Jobs.{IsStoreOf}
use Rattle.psu_exec.specs.declared.idle_store.Condition.TheVariants.{Whole}
use Rattle.psu_exec.proofs.Consistent.{consistent_flushed}
use Rattle.psu_exec.proofs.Returning.{placed, whole_belongs}
use Rattle.psu_exec.proofs.Seen.{so_seen}
use Rattle.psu_exec.proofs.Touching.{keeps_from}
use Rattle.psu_exec.proofs.Within.{within_less}
use Rattle.psu_exec.proofs.exec.flushing.Exec+D+A.flush_target.Goals as goal

pub invariant_of-self : goal.invariant_of-self
invariant_of-self g c =
    let plan = c.self.inside.map in
    let made = ap (λ h. map_held plan.map (held_of h (changed plan.map plan.edits))) c.in-Some.is ∙ sym (ap (λ (p : Planned). p.map) c.make.ensures) in
    let belongs = whole_belongs c.args.store Whole c.self.inside.limit _ _ refl made (so_seen (λ (s : State). IsStoreOf (target_flushed s).flush c.args.store) (sym c.self.view_is) c.requires.store) in
    rw (c.put_store_back.ensures, c.all_less.ensures) (
      tt,
      consistent_flushed _ c.in-Some.k _ _ _ _ c.self.invariant.1 (ap (λ h. held_of h (changed plan.map plan.edits)) c.in-Some.is) (ap (λ (p : Planned). p.map) c.make.ensures) refl
          (within_less _ _ _ c.self.invariant.1.waits),
      keeps_from _ _ _ _ made c.self.invariant.2,
      placed _ c.args.store _ refl belongs,
    )
