use Rattle.std.proofs.Common.{◌∙◌, ap, subst}
use Rattle.std.specs.List.{AllByRecursion}
use Rattle.psu_settings.specs.Settings.{AreSettings}
use Rattle.psu_map.specs.Map.{cost}
use Rattle.psu_nv.specs.Contents.{Contents, enables_items, user_items, recall_items}
use Rattle.psu_nv.specs.Costs.{registers_cost}
use Rattle.psu_nv.proofs.Totals.{parts_total}
use Rattle.psu_nv.proofs.contents.Contents.cost.Goals as goal

pub returns-clause-value : goal.returns-clause-value
returns-clause-value g c =
    let is = c.self.view_is in
    parts_total c.args.self.now _ _ _ _ _ _ c.total.result
    (subst (λ (k : Contents). AllByRecursion AreSettings k.registers) is c.self.invariant.settings)
    (c.enables_pages.ensures ∙ ap (λ (k : Contents). cost (enables_items k.enables)) is)
    (c.pages.ensures ∙ ap (λ (k : Contents). registers_cost k.registers) is)
    (c.user_pages.ensures ∙ ap (λ k. cost (user_items k)) c.bytes.ensures.value ∙ ap (λ (k : Contents). cost (user_items k.user)) is)
    c.macros_now.ensures.value
    (c.cost.ensures.value ∙ ap (λ (k : Contents). cost k.files) is)
    (c.recall_pages.ensures ∙ ap (λ (k : Contents). cost (recall_items k.recall)) is) c.total.ensures
