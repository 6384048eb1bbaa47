use Rattle.std.proofs.Common.{ℕ, ◌<◌, false, length, refl, arith}
use Rattle.psu_pages.proofs.Lists.{all_at}
use Rattle.psu_pages.proofs.Marking.{marks_more}
use Rattle.psu_pages.proofs.free_map.FreeMap.keep_all.Goals as goal

pub loop-page-preserved : goal.loop-page-preserved
loop-page-preserved g c =
    let there = all_at (λ (p : ℕ). p < length c.args.self.now) c.args.pages.now c.loop-page.page-index 0 c.loop-page-test.true c.requires in
    marks_more false c.args.pages.now c.loop-page.page-index 0 _ c.args.self.now c.loop-page.self c.keep.new.self c.loop-page-test.true refl (omega (arith, there, c.loop-page.invariant.size)) c.keep.ensures c.loop-page.invariant
