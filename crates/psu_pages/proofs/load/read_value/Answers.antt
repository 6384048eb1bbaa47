use Rattle.std.proofs.Common.{◌++◌, ℕ, List, get_or, sym, ◌∙◌, ap}
use Rattle.psu_pages.specs.Image.{page_in}
use Rattle.psu_pages.proofs.Quiet.{bytes_more, quiet_runs}
use Rattle.psu_pages.proofs.load.read_value.Goals as goal

pub loop-page-preserved : goal.loop-page-preserved
loop-page-preserved g c =
    let d = g.D.Disk in
    let l = c.loop-page in
    let pages = c.pages-page-items.result.now in
    let image = (d.state c.args.disk.now).bytes in
    record {
      extent = c.read_page.ensures.step.extent ∙ l.invariant.extent;
      works = c.in_ok-read_page.ensures.step.works ∙ l.invariant.works;
      found = λ h.
          c.in_ok-extend_from_slice.ensures.items
          ∙ ap (λ (b : List ℕ). l.value.items ++ b) (c.in_ok-read_page.ensures.bytes h ∙ ap (page_in (get_or pages l.page-index 0)) (l.invariant.seen h))
          ∙ ap (λ (b : List ℕ). b ++ page_in (get_or pages l.page-index 0) image) (l.invariant.found h)
          ∙ sym (bytes_more image pages l.page-index 0 c.loop-page-test.true);
      seen = λ h. c.read_page.ensures.seen h ∙ l.invariant.seen h;
      left = λ h x i. l.invariant.left h x (c.read_page.ensures.left.left h x i);
      time = λ h t. quiet_runs (l.invariant.time h t) (l.invariant.left h) (c.read_page.ensures.left.time h t);
    }

pub returns-in_err-read_page-clause-left : goal.returns-in_err-read_page-clause-left
returns-in_err-read_page-clause-left g c = record {
  left = λ h x l. c.loop-page.invariant.left h x (c.read_page.ensures.left.left h x l);
  time = λ h t. quiet_runs (c.loop-page.invariant.time h t) (c.loop-page.invariant.left h) (c.read_page.ensures.left.time h t);
}

pub returns-in_err-extend_from_slice-clause-left : goal.returns-in_err-extend_from_slice-clause-left
returns-in_err-extend_from_slice-clause-left g c = record {
  left = λ h x l. c.loop-page.invariant.left h x (c.read_page.ensures.left.left h x l);
  time = λ h t. quiet_runs (c.loop-page.invariant.time h t) (c.loop-page.invariant.left h) (c.read_page.ensures.left.time h t);
}

pub returns-in_err-extend_from_slice-clause-seen : goal.returns-in_err-extend_from_slice-clause-seen
returns-in_err-extend_from_slice-clause-seen g c = λ h. c.read_page.ensures.seen h ∙ c.loop-page.invariant.seen h
