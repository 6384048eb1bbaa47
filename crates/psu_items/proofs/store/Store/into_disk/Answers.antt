use Rattle.psu_items.proofs.Standing.{pages_on_disk, pages_represent}
use Rattle.psu_items.proofs.store.Store.into_disk.Goals as goal

pub returns-clause-represents : goal.returns-clause-represents
returns-clause-represents g c = rw (c.into_disk.ensures.value, ← c.self.view_is) (pages_represent c.self.inside.pages c.self.inside.items c.self.invariant.shows)

pub returns-clause-number : goal.returns-clause-number
returns-clause-number g c = λ h. rw (c.into_disk.ensures.value, ← c.self.view_is) (let held = pages_on_disk c.self.inside.pages c.self.inside.items c.self.invariant.shows h in held.numbered)
