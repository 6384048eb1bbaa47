use Rattle.std.proofs.Common.{inl, inr, arith}
use Rattle.std.proofs.lemmas.Bool.{cases_lt}
use Rattle.psu_items.specs.Layout.{HasHead}
use Rattle.psu_map.specs.Target.{item_in}
use Rattle.psu_items.proofs.Committing.{not_true}
use Rattle.psu_items.proofs.Keeping.{none_more}
use Rattle.psu_items.proofs.kept.find.Goals as goal

pub loop-at-preserved : goal.loop-at-preserved
loop-at-preserved g c = none_more (HasHead c.args.heads.now (item_in c.args.entry.now)) c.args.from c.loop-at.at c.loop-at.invariant (λ has. not_true (c.if-is_of.ensures.1 has))

pub loop-at-2-init : goal.loop-at-2-init
loop-at-2-init g c = record {
  after = λ j low lt. c.loop-at.invariant j low (omega (arith, lt, c.loop-at-test.false));
  before = λ j lt has. absurd (omega (arith, lt));
}

pub loop-at-2-preserved : goal.loop-at-2-preserved
loop-at-2-preserved g c = record {
  after = c.loop-at-2.invariant.after;
  before = λ j lt. none_more (HasHead c.args.heads.now (item_in c.args.entry.now)) 0 c.loop-at-2.at (λ k low. c.loop-at-2.invariant.before k) (λ has. not_true (c.if-is_of-2.ensures.1 has)) j (omega arith) lt;
}

pub returns-clause-found : goal.returns-clause-found
returns-clause-found g c = λ at has. elim (cases_lt at c.args.from) [
  | inl lt ↦ c.loop-at-2.invariant.before at (omega (arith, lt, has.within, c.loop-at-2-test.false, c.min-at-end.ensures)) has
  | inr ge ↦ c.loop-at-2.invariant.after at ge has.within has
]
