use Rattle.std.proofs.Common.{refl, ℕ, List, ◌≡◌, ◌∙◌, [], ◌∷◌, length, ap, sym, arith}
use Rattle.psu_items.proofs.Placing.{head_less, is_there, slots}
use Rattle.psu_items.proofs.Sparing.{given_step, kept_step, kept_still, left_kept, last_kept, roots_none}
use Rattle.psu_items.proofs.Laying.{last_planned, left_planned, left_apart, still_planned, roots_on}
use Rattle.psu_items.specs.Layout.{slots_of}
use Rattle.psu_items.proofs.layout.release.Given.{Over}
use Rattle.psu_items.proofs.layout.release.Goals.{After-contains}
use Rattle.psu_items.proofs.layout.release.Goals as goal

-- whether the last head is new
contains_is : (g : Over) (c : After-contains g) → c.contains.result ≡ is_there (length c.pop.new.self.items) (let o = c.loop-head.layout in o.unwritten.items)
contains_is g c =
    c.contains.ensures.value ∙ ap (is_there c.len.result) c.deref.ensures.value
    ∙ ap (λ (n : ℕ). is_there n (let o = c.loop-head.layout in o.unwritten.items)) (omega (arith, c.len.ensures))

pub unplan-requires : goal.unplan-requires
unplan-requires g c =
    let l = c.loop-head in
    let rest = c.pop.new.self.items in
    let places = (let o = l.layout in o.unwritten.items) in
    let are = head_less (let o = l.layout in o.heads.items) rest c.in-Some.head places c.in-Some.ensures.items in
    last_planned l.pages (slots_of l.layout) (slots 0 rest places) _ are l.invariant.planned l.invariant.apart (sym (contains_is g (goal.at.unplan-requires g c).After-contains) ∙ c.if-contains.true)

pub loop-head-preserved-then-contains : goal.loop-head-preserved-then-contains
loop-head-preserved-then-contains g c =
    let l = c.loop-head in
    let left = c.pop.new.self.items in
    let places = (let o = l.layout in o.unwritten.items) in
    let are = head_less (let o = l.layout in o.heads.items) left c.in-Some.head places c.in-Some.ensures.items in
    let rest = slots 0 left places in
    record {
      planned = still_planned l.pages (slots_of l.layout) rest _ are l.invariant.planned l.invariant.apart c.unplan.new.self c.unplan.ensures.others;
      apart = left_apart l.pages (slots_of l.layout) rest _ are l.invariant.planned l.invariant.apart;
      roots = roots_on c.args.pages.now l.pages c.unplan.new.self l.invariant.roots c.unplan.ensures.roots;
      kept = kept_still l.pages c.unplan.new.self c.unplan.ensures.roots rest (left_kept (let p = l.pages in p.heads.items) (slots_of l.layout) rest _ are l.invariant.kept);
      spare = λ first. given_step l.pages c.unplan.new.self c.unplan.ensures.roots (slots_of l.layout) rest _ are (l.invariant.spare first) c.unplan.ensures.released;
    }

pub loop-head-preserved : goal.loop-head-preserved
loop-head-preserved g c =
    let l = c.loop-head in
    let left = c.pop.new.self.items in
    let places = (let o = l.layout in o.unwritten.items) in
    let are = head_less (let o = l.layout in o.heads.items) left c.in-Some.head places c.in-Some.ensures.items in
    let rest = slots 0 left places in
    let old = sym (contains_is g (goal.at.loop-head-preserved g c).After-contains) ∙ c.if-contains.false in
    record {
      planned = left_planned l.pages (slots_of l.layout) rest _ are l.invariant.planned l.invariant.apart;
      apart = left_apart l.pages (slots_of l.layout) rest _ are l.invariant.planned l.invariant.apart;
      roots = l.invariant.roots;
      kept = left_kept (let p = l.pages in p.heads.items) (slots_of l.layout) rest _ are l.invariant.kept;
      spare = λ first. kept_step l.pages l.pages (roots_none l.pages) (slots_of l.layout) rest _ are (l.invariant.spare first) (last_kept (let p = l.pages in p.heads.items) (slots_of l.layout) rest _ are l.invariant.kept old) refl;
    }

none_left : {X : Type 0} (xs : List X) → length xs ≡ 0 → xs ≡ []
none_left [] none = refl
none_left (x ∷ xs) none = absurd (omega (arith, none))

pub returns-clause-spare : goal.returns-clause-spare
returns-clause-spare g c = λ first page pool named.
    let l = c.loop-head in
    let o = l.layout in
    let none = none_left o.heads.items (omega (arith, c.in_default.ensures.cases.0, o.heads.ok.0)) in
    l.invariant.spare first page pool named (rw none tt)
