use Rattle.std.proofs.Common.{◌∙◌, [], None, sym}
use Rattle.psu_map.specs.Map.{item_of}
use Rattle.psu_map.proofs.FirstTarget.{IsBegun, begun_remove}
use Rattle.psu_map.proofs.Sorted.{without-gap}
use Rattle.psu_map.proofs.target.Target.begun_without.Given.{Over}
use Rattle.psu_map.proofs.target.Target.begun_without.Goals.{In_ok-entries-in-Ok}
use Rattle.psu_map.proofs.target.Target.begun_without.Goals as goal

begun : (g : Over) (c : In_ok-entries-in-Ok g) → IsBegun c.args.before.now c.args.key.now None c.in_ok-entries-in-Ok.entries.items
begun g c = begun_remove c.args.before.now c.requires c.args.key.now c.in-Ok.at (item_of [] []) c.in_ok-entries-in-Ok.entries.items c.in-Ok.ensures.found c.in_ok-entries-in-Ok.ensures

pub invariant_of-result : goal.invariant_of-result
invariant_of-result g c = let b = begun g (goal.at.invariant_of-result g c).In_ok-entries-in-Ok in (b.sorted, b.each)

pub returns-in_ok-entries-in-Ok-clause-aimed : goal.returns-in_ok-entries-in-Ok-clause-aimed
returns-in_ok-entries-in-Ok-clause-aimed g c = let b = begun g (goal.at.returns-in_ok-entries-in-Ok-clause-aimed g c).In_ok-entries-in-Ok in b.aimed

pub returns-in_ok-entries-in-Ok-clause-standing : goal.returns-in_ok-entries-in-Ok-clause-standing
returns-in_ok-entries-in-Ok-clause-standing g c = λ other its had differs.
    let b = begun g (goal.at.returns-in_ok-entries-in-Ok-clause-standing g c).In_ok-entries-in-Ok in
    b.stands other its had (λ one. absurd (differs one))

pub returns-in_ok-standing-in-Err-clause-aimed : goal.returns-in_ok-standing-in-Err-clause-aimed
returns-in_ok-standing-in-Err-clause-aimed g c = c.in_ok-standing-in-Err.ensures.aimed ∙ sym (without-gap c.args.before.now c.args.key.now c.in-Err.field-0 c.requires c.in-Err.ensures.absent)
