use Rattle.std.proofs.Common.{◌∙◌}
use Rattle.psu_exec.proofs.Plans.{batch_between, between_of, led, none_between}
use Rattle.psu_exec.proofs.leading.leads_to.Goals as goal

pub returns-in-Some-clause-is : goal.returns-in-Some-clause-is
returns-in-Some-clause-is g c =
    let plan = c.args.plan.now in
    let target = c.args.target.now in
    let parts = between_of _ plan.map _ target _ _ c.pairs.ensures.all c.pairs-2.ensures.all c.between-first.ensures in
    let is = batch_between plan target _ _ parts c.pairs.ensures.sorted c.pairs-2.ensures.sorted _ (c.edits-2.ensures ∙ c.edits.ensures) c.in-Some.rest.now c.in-Some.ensures.some in
    (λ t. is.0 (c.are_assignments.ensures.0 t), λ b. c.are_assignments.ensures.1 (is.1 b))

pub returns-in-Some-clause-leads : goal.returns-in-Some-clause-leads
returns-in-Some-clause-leads g c t = led c.args.plan.now c.args.target.now c.pairs.ensures.sorted c.pairs-2.ensures.sorted ((returns-in-Some-clause-is g c).0 t)

pub returns-in-None-clause-is : goal.returns-in-None-clause-is
returns-in-None-clause-is g c =
    let plan = c.args.plan.now in
    let target = c.args.target.now in
    let parts = between_of _ plan.map _ target _ _ c.pairs.ensures.all c.pairs-2.ensures.all c.between-first.ensures in
    (λ t. cc, λ b. absurd (none_between plan target _ _ parts c.pairs.ensures.sorted c.pairs-2.ensures.sorted _ (c.edits-2.ensures ∙ c.edits.ensures) c.in-None.ensures.none b))
