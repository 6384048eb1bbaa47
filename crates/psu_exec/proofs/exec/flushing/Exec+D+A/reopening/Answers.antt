use Rattle.std.proofs.Common.{◌≡◌, ◌||◌, ◌∙◌, ap, sym, refl, Some, List}
use Rattle.psu_map.specs.Batch.{changed}
use Rattle.psu_map.specs.Map.{Item}
use Rattle.psu_exec.specs.Calls.{JobData, Reopen, job_of, job_out}
use Rattle.psu_exec.specs.Device.{State, is_broken}
use Rattle.psu_exec.specs.declared.idle_store.IdleStore.TheVariants.{Failed}
use Rattle.psu_exec.proofs.Plans.{as_planned}
use Rattle.psu_exec.proofs.Seen.{device_is, seen, so_seen}
use Rattle.psu_exec.proofs.Taking.{reopen_is}
use Rattle.psu_exec.proofs.exec.flushing.Exec+D+A.reopening.Goals as goal

pub unreachable-requires : goal.unreachable-requires
unreachable-requires g c =
    let own = c.self.invariant.3 _ (sym c.take.ensures.value ∙ (c.in-Some-Whole.is ∙ ap Some c.in-Some-Whole.field-0-is)) in
    let bad = sym own.2 ∙ ap (λ (s : State). is_broken s.flush.store) (device_is c.self.view_is) ∙ ap is_broken c.requires.broken in cc

pub returns-clause-data : goal.returns-clause-data
returns-clause-data g c =
    let broken = c.in-Some-Failed.broken in
    let plan = c.self.inside.map in
    let f = (seen c.self.view_is).device.flush in
    let own = c.self.invariant.3 (Failed broken) (sym c.take.ensures.value ∙ (c.in-Some-Failed.is ∙ ap Some c.in-Some-Failed.field-0-is)) in
    let idle = ap (λ (s : State). s.flush.out) (device_is c.self.view_is) ∙ c.requires.idle_store in
    let planned = as_planned f _ plan c.self.invariant.0 refl refl (c.self.invariant.1.out ∙ ap (λ b. b || is_broken c.self.inside.store) idle ∙ ap is_broken own.2) in
    let leads = ap (λ (items : List Item). changed items broken.batch) own.0 ∙ ap (changed plan.map) own.3 ∙ sym planned.0 in
    so_seen (λ (s : State). (let job : JobData = record { kind = Reopen; limit = broken.limit; before = broken.before; target = changed broken.before broken.batch; edits = broken.batch } in job) ≡ job_of (job_out s.flush)) c.self.view_is
    (reopen_is f _ _ _ _ own.2 own.1 own.0 leads (own.3 ∙ sym planned.1))
