use Rattle.std.proofs.Common.{◌≡◌, ◌∙◌, ap, sym, ℕ, Some, List}
use Rattle.psu_map.specs.Batch.{changed}
use Rattle.psu_map.specs.Map.{Item}
use Rattle.psu_nv.specs.Contents.{fits}
use Rattle.psu_nv.specs.Decoding.{has_keys}
use Rattle.psu_nv.proofs.Kept.{contents_keys}
use Rattle.psu_exec.specs.Calls.{Commit, JobData, job_of, job_out}
use Rattle.psu_exec.specs.Device.{State, is_whole}
use Rattle.psu_exec.specs.declared.idle_store.IdleStore.TheVariants.{Whole}
use Rattle.psu_exec.proofs.Acting.{kept_sound}
use Rattle.psu_exec.proofs.Changes.{sound_first}
use Rattle.psu_exec.proofs.Holding.{holds_contents}
use Rattle.psu_exec.proofs.Seen.{device_is, seen, so_seen}
use Rattle.psu_exec.proofs.Taking.{commit_is}
use Rattle.psu_exec.proofs.Touching.{when_idle, keeps_from}
use Rattle.psu_exec.proofs.exec.flushing.Exec+D+A.committing.Goals as goal

pub difference-requires : goal.difference-requires
difference-requires g c =
    let idle_store = ap (λ (s : State). s.flush.out) (device_is c.self.view_is) ∙ c.requires.idle_store in
    let whole = ap (λ (s : State). s.flush.store) (device_is c.self.view_is) ∙ c.requires.whole in
    let k = c.self.invariant.1 in
    let keys = ap has_keys k.first_map ∙ contents_keys k.first (sound_first _ k.first k.rest k.sound).sound in
    record { contents = kept_sound _ k; keys = keys; others = keeps_from _ _ _ _ (when_idle _ k idle_store whole) c.self.invariant.2 }

pub invariant_of-self : goal.invariant_of-self
invariant_of-self g c = rw c.in_default-set.ensures.err c.self.invariant

pub new-requires : goal.new-requires
new-requires g c =
    let contents = c.self.inside.contents in
    let own = c.self.invariant.3 (Whole c.in-Some-Whole.store) (sym c.take.ensures.value ∙ (c.in-Some-Whole.is ∙ ap Some c.in-Some-Whole.field-0-is)) in
    let leads = ap (λ (items : List Item). changed items c.in-Ok.edits) own.0 ∙ c.in-Ok.ensures.leads in
    holds_contents _ _ contents (kept_sound _ c.self.invariant.1) (ap (λ (limit : ℕ). fits limit contents) own.1 ∙ c.self.invariant.1.fitting) leads

pub unreachable-requires : goal.unreachable-requires
unreachable-requires g c =
    let own = c.self.invariant.3 _ (sym c.take.ensures.value ∙ (c.in-Some-Failed.is ∙ ap Some c.in-Some-Failed.field-0-is)) in
    let bad = sym c.requires.whole ∙ sym (ap (λ (s : State). s.flush.store) (device_is c.self.view_is)) ∙ own.2 in cc

pub returns-clause-data : goal.returns-clause-data
returns-clause-data g c =
    let planned = c.new.result in
    let plan = c.self.inside.map in
    let f = (seen c.self.view_is).device.flush in
    let own = c.self.invariant.3 (Whole c.in-Some-Whole.store) (sym c.take.ensures.value ∙ (c.in-Some-Whole.is ∙ ap Some c.in-Some-Whole.field-0-is)) in
    let limit = ap (λ store. store.limit) c.new.ensures.store ∙ own.1 in
    let before = ap (λ store. store.items) c.new.ensures.store ∙ own.0 in
    let leads = ap (λ (items : List Item). changed items planned.batch) before ∙ ap (changed plan.map) c.new.ensures.batch ∙ c.in-Ok.ensures.leads in
    let whole = ap (λ (s : State). is_whole s.flush.store) (device_is c.self.view_is) ∙ ap is_whole c.requires.whole in
    so_seen (λ (s : State). (let job : JobData = record { kind = Commit; limit = planned.store.limit; before = planned.store.items; target = changed planned.store.items planned.batch; edits = planned.batch } in job) ≡ job_of (job_out s.flush)) c.self.view_is
    (commit_is f _ _ _ _ whole limit before leads (c.new.ensures.batch ∙ c.in-Ok.ensures.exact))
