use Rattle.std.proofs.Common.{◌≡◌, ◌*◌, ◌+◌, ◌++◌, ◌≤◌, List, ℕ, ◌∙◌, ap, arith, length}
use Rattle.std.specs.List.{AllByRecursion}
use Rattle.psu_pages.specs.Spelling.{filled}
use Rattle.psu_pages.proofs.Lists.{all_map}
use Rattle.psu_pages.proofs.Steps.{misses_trans, misses_one, follows_on, run_on, written_more, rest_more}
use Rattle.psu_pages.proofs.writing.write_value.Goals as goal

pub returns-in_err-write_page-clause-left : goal.returns-in_err-write_page-clause-left
returns-in_err-write_page-clause-left g c = record {
  left = λ h.
      let pages = c.args.pages.now in
      let l = c.loop-page in
      follows_on pages (λ x y. misses_one pages l.page-index 0 x y c.loop-page-test.true) (l.invariant.left h) (c.write_page.ensures.left.left h);
  time = λ h t.
      let pages = c.args.pages.now in
      let l = c.loop-page in
      run_on pages (λ x y. misses_one pages l.page-index 0 x y c.loop-page-test.true) (c.write_page.ensures.left.time h t) (l.invariant.time h t) (l.invariant.left h);
}

pub loop-page-preserved : goal.loop-page-preserved
loop-page-preserved g c =
    let d = g.D.Disk in
    let l = c.loop-page in
    let pages = c.args.pages.now in
    let i = l.page-index in
    let lt = c.loop-page-test.true in
    record {
      extent = c.write_page.ensures.step.extent ∙ l.invariant.extent;
      works = c.in_ok-write_page.ensures.step.works ∙ l.invariant.works;
      rest = rest_more i c.args.value.now l.rest.now _ l.invariant.rest c.first_page.ensures.rest;
      written = λ h.
          let sized : length (d.state l.disk).bytes ≡ d.extent c.args.disk.now = g.met.D.Disk.sized h l.disk ∙ l.invariant.extent in
          let fits : AllByRecursion (λ (p : ℕ). 512 * p + 512 ≤ length (d.state l.disk).bytes) pages = all_map (λ (p : ℕ). 512 * p + 512 ≤ d.extent c.args.disk.now) (λ (p : ℕ). 512 * p + 512 ≤ length (d.state l.disk).bytes) (λ p le. omega (arith, le, sized)) pages c.requires.room in
          written_more pages c.args.value.now l.rest.now i 0 (d.state l.disk).bytes (d.state c.write_page.new.disk).bytes lt c.requires.apart fits l.invariant.rest (c.write_page.ensures.seen h)
          (c.in_ok-write_page.ensures.written h ∙ ap (filled 512) (c.add.ensures ∙ ap (λ (bytes : List ℕ). bytes ++ c.first_page.result.0.now) c.new-filled.ensures ∙ c.first_page.ensures.first)) (l.invariant.written h);
      seen = λ h. misses_trans pages _ _ _ (l.invariant.seen h) (misses_one pages i 0 _ _ lt (c.write_page.ensures.seen h));
      left = λ h. follows_on pages (λ x y. misses_one pages i 0 x y lt) (l.invariant.left h) (c.write_page.ensures.left.left h);
      time = λ h t. run_on pages (λ x y. misses_one pages i 0 x y lt) (c.write_page.ensures.left.time h t) (l.invariant.time h t) (l.invariant.left h);
    }

pub returns-in_err-write_page-clause-seen : goal.returns-in_err-write_page-clause-seen
returns-in_err-write_page-clause-seen g c = λ h.
    let pages = c.args.pages.now in
    let l = c.loop-page in
    misses_trans pages _ _ _ (l.invariant.seen h) (misses_one pages l.page-index 0 _ _ c.loop-page-test.true (c.write_page.ensures.seen h))
