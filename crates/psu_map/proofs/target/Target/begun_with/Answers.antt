use Rattle.std.proofs.Common.{◌∙◌, List, ℕ, Some, ap}
use Rattle.std.specs.Str.{bytes_eq}
use Rattle.psu_map.proofs.FirstTarget.{IsBegun, begun_insert, begun_set}
use Rattle.psu_map.proofs.target.Target.begun_with.Given.{Over}
use Rattle.psu_map.proofs.target.Target.begun_with.Goals.{In_ok-entries-in-Ok, In_ok-entries-in-Err}
use Rattle.psu_map.proofs.target.Target.begun_with.Goals as goal

begun : (g : Over) (c : In_ok-entries-in-Ok g) → IsBegun c.args.before.now c.args.key.now (Some c.args.value.now) c.in_ok-entries-in-Ok.entries.items
begun g c =
    begun_set c.args.before.now c.requires c.args.key.now c.in-Ok.at c.args.value.now c.index-before-at.result c.eq-stands.result c.in_ok-entries-in-Ok.entries.items c.in-Ok.ensures.found c.index-before-at.is
    (c.eq-stands.ensures ∙ ap (λ (v : List ℕ). bytes_eq v c.args.value.now) c.value.ensures) c.in_ok-entries-in-Ok.ensures

begun_new : (g : Over) (c : In_ok-entries-in-Err g) → IsBegun c.args.before.now c.args.key.now (Some c.args.value.now) c.in_ok-entries-in-Err.entries.items
begun_new g c = begun_insert c.args.before.now c.requires c.args.key.now c.in-Err.at c.args.value.now c.in_ok-entries-in-Err.entries.items c.in-Err.ensures.absent c.in_ok-entries-in-Err.ensures

pub invariant_of-result : goal.invariant_of-result
invariant_of-result g c = let b = begun g (goal.at.invariant_of-result g c).In_ok-entries-in-Ok in (b.sorted, b.each)

pub invariant_of-result-in-Err : goal.invariant_of-result-in-Err
invariant_of-result-in-Err g c = let b = begun_new g (goal.at.invariant_of-result-in-Err g c).In_ok-entries-in-Err in (b.sorted, b.each)

pub returns-in_ok-entries-in-Ok-clause-aimed : goal.returns-in_ok-entries-in-Ok-clause-aimed
returns-in_ok-entries-in-Ok-clause-aimed g c = let b = begun g (goal.at.returns-in_ok-entries-in-Ok-clause-aimed g c).In_ok-entries-in-Ok in b.aimed

pub returns-in_ok-entries-in-Ok-clause-standing : goal.returns-in_ok-entries-in-Ok-clause-standing
returns-in_ok-entries-in-Ok-clause-standing g c = λ other its had same.
    let b = begun g (goal.at.returns-in_ok-entries-in-Ok-clause-standing g c).In_ok-entries-in-Ok in
    b.stands other its had (λ one. ap (λ (v : List ℕ). Some v) (same one))

pub returns-in_ok-entries-in-Err-clause-aimed : goal.returns-in_ok-entries-in-Err-clause-aimed
returns-in_ok-entries-in-Err-clause-aimed g c = let b = begun_new g (goal.at.returns-in_ok-entries-in-Err-clause-aimed g c).In_ok-entries-in-Err in b.aimed

pub returns-in_ok-entries-in-Err-clause-standing : goal.returns-in_ok-entries-in-Err-clause-standing
returns-in_ok-entries-in-Err-clause-standing g c = λ other its had same.
    let b = begun_new g (goal.at.returns-in_ok-entries-in-Err-clause-standing g c).In_ok-entries-in-Err in
    b.stands other its had (λ one. ap (λ (v : List ℕ). Some v) (same one))
