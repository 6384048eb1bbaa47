use Rattle.std.proofs.Common.{ℕ, List, arith}
use Rattle.std.specs.List.{AllByRecursion}
use Rattle.psu_pages.specs.Image.{other, pages_of, Head, IsInPool, AreClear}
use Rattle.psu_pages.specs.Writing.{Misses, IsWritten}
use Rattle.psu_pages.proofs.Publishing.{Keeps, missed, shut_missed, lower_missed, still_left, still_run, still_shown, still_encodes, written_still, pool_words, pool_room}
use Rattle.psu_pages.proofs.pages.Pages.write_new.Given.{Over}
use Rattle.psu_pages.proofs.pages.Pages.write_new.Goals.{After-write_item}
use Rattle.psu_pages.proofs.pages.Pages.write_new.Goals as goal

keeps : (g : Over) (c : After-write_item g) → g.D.Disk.honest
    → let p = c.args.self.now in Keeps g.D.Disk.state p.root p.version p.limit p.number p.heads.items (Misses (pages_of c.args.head.now)) p.disk c.write_item.new.disk
keeps g c h =
    let p = c.args.self.now in
    let r = c.requires.planned in
    record {
      each = missed g.D.Disk.state p.root p.version p.limit p.number p.heads.items (pages_of c.args.head.now) p.disk r.pool r.unnamed (p.encodes h c.requires.sure);
      step = c.write_item.ensures.left.left h;
      seen = c.write_item.ensures.seen h;
    }

others : (g : Over) (c : After-write_item g) → g.D.Disk.honest → (head : Head) (its : List ℕ) → let p = c.args.self.now in IsWritten (g.D.Disk.state p.disk).bytes head its
    → AllByRecursion (IsInPool p.limit) (pages_of head) → AreClear (pages_of c.args.head.now) (pages_of head) → IsWritten (g.D.Disk.state c.write_item.new.disk).bytes head its
others g c h head its written pool clear =
    let p = c.args.self.now in
    written_still p.limit (pages_of c.args.head.now) (g.D.Disk.state p.disk).bytes (g.D.Disk.state c.write_item.new.disk).bytes head its (omega (arith, p.room, g.met.D.Disk.sized h p.disk)) c.requires.planned.pool pool clear (c.write_item.ensures.seen h) written

pub returns-in_err-write_item-clause-others : goal.returns-in_err-write_item-clause-others
returns-in_err-write_item-clause-others g c = others g (goal.at.returns-in_err-write_item-clause-others g c).After-write_item

pub returns-in_err-write_item-clause-shown : goal.returns-in_err-write_item-clause-shown
returns-in_err-write_item-clause-shown g c = λ h. still_shown (keeps g (goal.at.returns-in_err-write_item-clause-shown g c).After-write_item h)

pub returns-in_err-write_item-clause-left : goal.returns-in_err-write_item-clause-left
returns-in_err-write_item-clause-left g c = record {
  left = λ h. still_left (keeps g (goal.at.returns-in_err-write_item-clause-left g c).After-write_item h);
  time = λ h t. still_run (keeps g (goal.at.returns-in_err-write_item-clause-left g c).After-write_item h) (c.write_item.ensures.left.time h t);
}

pub invariant_of-self-2-clause-encodes : goal.invariant_of-self-2-clause-encodes
invariant_of-self-2-clause-encodes g c = λ h sure. still_encodes (keeps g (goal.at.invariant_of-self-2-clause-encodes g c).After-write_item h)

pub invariant_of-self-2-clause-shut : goal.invariant_of-self-2-clause-shut
invariant_of-self-2-clause-shut g c = λ h one.
    let p = c.args.self.now in
    shut_missed p.limit (pages_of c.args.head.now) (g.D.Disk.state p.disk) (g.D.Disk.state c.write_item.new.disk) c.requires.planned.pool (c.write_item.ensures.left.left h) (other p.root) (p.shut h one)

pub invariant_of-self-2-clause-lower : goal.invariant_of-self-2-clause-lower
invariant_of-self-2-clause-lower g c = λ h both.
    let p = c.args.self.now in
    let r = c.requires.planned in
    lower_missed g.D.Disk.state p.root p.version p.limit p.number p.heads.items (pages_of c.args.head.now) p.disk r.pool r.unnamed (p.encodes h c.requires.sure) c.write_item.new.disk (c.write_item.ensures.left.left h) (other p.root) p.number (p.lower h both)

pub returns-clause-others : goal.returns-clause-others
returns-clause-others g c = others g (goal.at.returns-clause-others g c).After-write_item

pub returns-clause-shown : goal.returns-clause-shown
returns-clause-shown g c = λ h. still_shown (keeps g (goal.at.returns-clause-shown g c).After-write_item h)

pub returns-clause-left : goal.returns-clause-left
returns-clause-left g c = record {
  left = λ h. still_left (keeps g (goal.at.returns-clause-left g c).After-write_item h);
  time = λ h t. still_run (keeps g (goal.at.returns-clause-left g c).After-write_item h) (c.write_item.ensures.left.time h t);
}

pub write_item-requires-clause-low : goal.write_item-requires-clause-low
write_item-requires-clause-low g c = let p = c.args.self.now in pool_words p.limit (let head = c.args.head.now in head.pages) p.limit_most c.requires.planned.pool.1

pub write_item-requires-clause-room : goal.write_item-requires-clause-room
write_item-requires-clause-room g c = let p = c.args.self.now in pool_room p.limit (g.D.Disk.extent p.disk) (pages_of c.args.head.now) p.room c.requires.planned.pool
