use Rattle.psu_items.proofs.broken.one_of.Goals as goal

pub returns-then-is_one_of-clause-limit : goal.returns-then-is_one_of-clause-limit
returns-then-is_one_of-clause-limit g c = (c.is_one_of.ensures.0 c.if-is_one_of.true).0

pub returns-then-is_one_of-clause-found : goal.returns-then-is_one_of-clause-found
returns-then-is_one_of-clause-found g c = (c.is_one_of.ensures.0 c.if-is_one_of.true).1
