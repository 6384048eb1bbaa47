use Rattle.std.proofs.Common.{◌≡◌, true, false, get_or, refl, sym, ◌∙◌}
use Rattle.psu_pages.specs.Free.{is_free}
use Rattle.psu_pages.proofs.Marking.{marks_more, still, free_within, free_one_more, apart_one_more}
use Rattle.psu_pages.proofs.free_map.FreeMap.take_all.Goals as goal

pub returns-then-not-take-clause-refused : goal.returns-then-not-take-clause-refused
returns-then-not-take-clause-refused g c = λ _ all apart.
    let l = c.loop-page in
    let free = still true false c.args.pages.now l.page-index 0 c.args.self.now l.self c.loop-page-test.true all apart l.invariant.taken in
    let no : false ≡ true = sym c.if-not-take.true ∙ c.take.ensures.was ∙ free in absurd (cc)

pub loop-page-preserved : goal.loop-page-preserved
loop-page-preserved g c =
    let l = c.loop-page in
    let pages = c.args.pages.now in
    let is : is_free l.self (get_or pages l.page-index 0) ≡ true = sym c.take.ensures.was ∙ c.if-not-take.false in
    record {
      were_free = free_one_more pages l.page-index 0 c.args.self.now l.self c.loop-page-test.true l.invariant.taken is l.invariant.were_free;
      apart = apart_one_more pages l.page-index 0 c.args.self.now l.self c.loop-page-test.true l.invariant.taken is l.invariant.apart;
      taken = marks_more false pages l.page-index 0 _ c.args.self.now l.self c.take.new.self c.loop-page-test.true refl (free_within l.self _ is) (c.take.ensures.taken c.if-not-take.false) l.invariant.taken;
    }
