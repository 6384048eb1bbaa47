use Rattle.std.proofs.Common.{◌≡◌, ◌≤◌, ◌∙◌, ℕ, List, length, ap, subst, refl, rules, arith}
use Rattle.std.specs.List.{AllByRecursion}
use Rattle.psu_map.specs.Map.{Item, get, put}
use Rattle.psu_nv.specs.Costs.{IsShort, page_count, pages_of}
use Rattle.psu_nv.proofs.Totals.{had_within, total_with}
use Rattle.psu_nv.proofs.files.Files.insert.Goals as goal

pub overflow_sub-pages : goal.overflow_sub-pages
overflow_sub-pages g c =
    let within : c.pages_at.result ≤ c.cost.result = had_within c.args.self.now c.args.name.items c.pairs.ensures.sorted (subst (AllByRecursion IsShort) c.self.view_is c.self.invariant.1) c.cost.result c.pages_at.result c.cost.ensures.value
    (c.pages_at.ensures.value ∙ ap (λ (k : List ℕ). pages_of (get c.args.self.now k)) c.deref.ensures.value) in
    omega (arith, within)

pub invariant_of-self-2 : goal.invariant_of-self-2
invariant_of-self-2 g c =
    let long : c.page_count.result ≡ page_count (length c.args.value.items) = search rules in
    total_with c.args.self.now c.args.name.items c.pairs.ensures.sorted (subst (AllByRecursion IsShort) c.self.view_is c.self.invariant.1) c.cost.result c.pages_at.result c.cost.ensures.value
    (c.pages_at.ensures.value ∙ ap (λ (k : List ℕ). pages_of (get c.args.self.now k)) c.deref.ensures.value)
    c.insert.new.self c.args.name.items c.args.value.items c.page_count.result _ c.requires refl (c.in_ok-insert.ensures.ok ∙ ap (λ (l : List Item). put l c.args.name.items c.in_ok-new.field-0) c.self.view_is ∙ ap (λ (v : List ℕ). put c.args.self.now c.args.name.items v) c.in_ok-new.ensures) long refl
