use Rattle.std.proofs.Common.{ℕ, ◌<◌, true, false, length, refl, arith}
use Rattle.psu_pages.proofs.Lists.{all_at}
use Rattle.psu_pages.proofs.Marking.{marks_more, still}
use Rattle.psu_pages.proofs.free_map.FreeMap.free_all.Goals as goal

pub free-requires-clause-claimed : goal.free-requires-clause-claimed
free-requires-clause-claimed g c = still false true c.args.pages.now c.loop-page.page-index 0 c.args.self.now c.loop-page.self c.loop-page-test.true c.requires.claimed c.requires.apart c.loop-page.invariant

pub loop-page-preserved : goal.loop-page-preserved
loop-page-preserved g c =
    let there = all_at (λ (p : ℕ). p < length c.args.self.now) c.args.pages.now c.loop-page.page-index 0 c.loop-page-test.true c.requires.there in
    marks_more true c.args.pages.now c.loop-page.page-index 0 _ c.args.self.now c.loop-page.self c.free.new.self c.loop-page-test.true refl (omega (arith, there, c.loop-page.invariant.size)) c.free.ensures c.loop-page.invariant
