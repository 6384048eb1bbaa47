use Rattle.psu_items.proofs.Standing.{seen_represent}
use Rattle.psu_items.proofs.store.Store.items.Goals as goal

pub returns-clause-represents : goal.returns-clause-represents
returns-clause-represents g c = seen_represent c.self.inside.pages c.self.inside.items c.self.invariant.shows c.args.self.now c.self.view_is
