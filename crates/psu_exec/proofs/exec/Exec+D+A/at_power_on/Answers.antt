use Rattle.std.proofs.Common.{ℕ, ap, refl, sym, ◌∙◌}
use Rattle.psu_nv.specs.Contents.{fits}
use Rattle.psu_exec.specs.declared.idle_store.IdleStore.TheVariants as idle_store
use Rattle.psu_exec.proofs.Consistent.{consistent_start}
use Rattle.psu_exec.proofs.Returning.{placed}
use Rattle.psu_exec.proofs.Touching.{keeps_same}
use Rattle.psu_exec.proofs.exec.Exec+D+A.at_power_on.Goals as goal

pub invariant_of-result : goal.invariant_of-result
invariant_of-result g c =
    let stored = c.requires.map ∙ c.requires.stored in
    let fitting = ap (λ (limit : ℕ). fits limit c.args.contents) c.limit.ensures.value ∙ c.requires.fitting in
    (tt, consistent_start _ _ _ c.requires.sound fitting stored, keeps_same _ _ _ stored, placed _ (idle_store.Whole c.args.store) _ refl (sym c.requires.map, sym c.limit.ensures.value, refl))
