use Rattle.std.proofs.Common.{true, ◌∙◌, arith, length}
use Rattle.psu_pages.specs.Image.{taken, pages_of}
use Rattle.psu_pages.proofs.Marking.{claimed_still}
use Rattle.psu_pages.proofs.Planning.{none_root, pool_within}
use Rattle.psu_pages.proofs.pages.Pages.unplan.Goals as goal

pub invariant_of-self-clause-first_kept : goal.invariant_of-self-clause-first_kept
invariant_of-self-clause-first_kept g c = let p = c.args.self.now in c.free_head.ensures.others 0 (none_root p.limit (pages_of c.args.head) 0 (omega arith) c.requires.pool) ∙ p.first_kept

pub invariant_of-self-clause-second_kept : goal.invariant_of-self-clause-second_kept
invariant_of-self-clause-second_kept g c = let p = c.args.self.now in c.free_head.ensures.others 1 (none_root p.limit (pages_of c.args.head) 1 (omega arith) c.requires.pool) ∙ p.second_kept

pub invariant_of-self-clause-claimed : goal.invariant_of-self-clause-claimed
invariant_of-self-clause-claimed g c = let p = c.args.self.now in claimed_still true (pages_of c.args.head) (taken p.heads.items) p.free c.free_head.new.self c.free_head.ensures p.claimed c.requires.unnamed

pub invariant_of-self-clause-older_claimed : goal.invariant_of-self-clause-older_claimed
invariant_of-self-clause-older_claimed g c = let p = c.args.self.now in claimed_still true (pages_of c.args.head) (taken p.older.items) p.free c.free_head.new.self c.free_head.ensures p.older_claimed c.requires.unnamed_before

pub returns-clause-others : goal.returns-clause-others
returns-clause-others g c = λ other was clear.
    let p = c.args.self.now in
    record {
      is_head = was.is_head;
      pool = was.pool;
      apart = was.apart;
      claimed = claimed_still true (pages_of c.args.head) (pages_of other) p.free c.free_head.new.self c.free_head.ensures was.claimed clear;
      unnamed = was.unnamed;
      unnamed_before = was.unnamed_before;
    }

pub free_head-requires-clause-there : goal.free_head-requires-clause-there
free_head-requires-clause-there g c = let p = c.args.self.now in pool_within p.limit (length p.free) (pages_of c.args.head) p.sized c.requires.pool
