use Rattle.std.proofs.Common.{refl, sym, ◌∙◌}
use Rattle.psu_items.proofs.Recovering.{not_strange, one_found}
use Rattle.psu_items.proofs.broken.recover.Goals as goal

pub returns-in-Ok-one_of-clause-number : goal.returns-in-Ok-one_of-clause-number
returns-in-Ok-one_of-clause-number g c = λ h. rw c.in-Ok-one_of.ensures.same (c.in-Ok.ensures.number h)

pub returns-in-Ok-one_of-clause-images : goal.returns-in-Ok-one_of-clause-images
returns-in-Ok-one_of-clause-images g c = record {
  left = λ h. rw c.in-Ok-one_of.ensures.same (c.in-Ok.ensures.images.left h);
  time = λ h t. rw c.in-Ok-one_of.ensures.same (c.in-Ok.ensures.images.time h t);
}

pub returns-in-Err-one_of-clause-strange : goal.returns-in-Err-one_of-clause-strange
returns-in-Err-one_of-clause-strange g c = λ h all is.
    let s = c.in-Ok.store in
    c.in-Err-one_of.ensures.neither (one_found (g.D.Disk.state c.args.disk) c.args.limit s.limit c.args.before.now c.args.target.now c.args.target.now s.items refl all (c.in-Ok.ensures.represented h))

pub returns-in-Err-one_of-clause-images : goal.returns-in-Err-one_of-clause-images
returns-in-Err-one_of-clause-images g c = record {
  left = λ h. rw c.in-Err-one_of.ensures.disk (c.in-Ok.ensures.images.left h);
  time = λ h t. rw c.in-Err-one_of.ensures.disk (c.in-Ok.ensures.images.time h t);
}

pub returns-in-Err-clause-strange : goal.returns-in-Err-clause-strange
returns-in-Err-clause-strange g c = λ h all is. not_strange (g.D.Disk.state c.args.disk) c.args.limit c.args.before.now c.args.target.now c.in-Err.refused.cause all (c.in-Err.ensures.refused h) (sym c.from.ensures ∙ is)

pub returns-in-Ok-one_of-clause-represents : goal.returns-in-Ok-one_of-clause-represents
returns-in-Ok-one_of-clause-represents g c = λ h. rw c.in-Ok-one_of.ensures.same (c.in-Ok.ensures.represents h)
