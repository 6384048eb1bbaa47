use Rattle.std.proofs.Common.{◌≡◌, ℕ, List, [], ◌∷◌, sym, ◌∙◌, ap, subst, arith, length}
use Rattle.psu_pages.specs.Image.{page_in, pages_of}
use Rattle.psu_pages.specs.Spelling.{filled, value_drafts}
use Rattle.psu_pages.specs.Writing.{Misses, AreWritten}
use Rattle.psu_pages.proofs.Making.{item_written}
use Rattle.psu_pages.proofs.Steps.{misses_first, misses_rest, page_stays, follows_weaker, follows_on, run_weaker, run_on}
use Rattle.psu_pages.proofs.writing.write_item.Given.{Over}
use Rattle.psu_pages.proofs.writing.write_item.Goals.{After-write_page, After-write_value}
use Rattle.psu_pages.proofs.writing.write_item.Goals as goal

pub returns-clause-spelled : goal.returns-clause-spelled
returns-clause-spelled g c = λ h.
    let d = g.D.Disk in
    let head = c.args.head.now in
    let mid = (d.state c.write_page.new.disk).bytes in
    let new = (d.state c.write_value.new.disk).bytes in
    let sized : length mid ≡ d.extent c.args.disk.now = g.met.D.Disk.sized h c.write_page.new.disk ∙ c.write_page.ensures.step.extent in
    let at_is : c.at.result ≡ head.at = c.at.ensures in
    let first : page_in head.at mid ≡ filled 512 c.spell.result = ap (λ (p : ℕ). page_in p mid) (sym at_is) ∙ c.in_ok-write_page.ensures.written h in
    let misses = subst (λ (ps : List ℕ). Misses ps mid new) c.pages.ensures (c.write_value.ensures.seen h) in
    let stays : page_in head.at new ≡ page_in head.at mid = page_stays head.pages head.at mid new (omega (arith, sized, c.requires.room.0)) c.requires.apart.0 misses in
    (stays ∙ first ∙ ap (filled 512) c.spell.ensures, subst (λ (ps : List ℕ). AreWritten (value_drafts ps c.args.value.now) new) c.pages.ensures (c.in_ok-write_value.ensures.written h))

pub returns-clause-written : goal.returns-clause-written
returns-clause-written g c = λ h.
    let d = g.D.Disk in
    item_written (d.state c.write_value.new.disk).bytes c.args.head.now c.args.value.now c.requires.is_head c.requires.low (sym c.requires.size) (returns-clause-spelled g c h)

first : (g : Over) (c : After-write_page g) (x y : List ℕ) → Misses (c.at.result ∷ []) x y → Misses (pages_of c.args.head.now) x y
first g c x y misses = let head = c.args.head.now in misses_first head.at head.pages x y (subst (λ (p : ℕ). Misses (p ∷ []) x y) c.at.ensures misses)

rest : (g : Over) (c : After-write_value g) (x y : List ℕ) → Misses c.pages.result.now x y → Misses (pages_of c.args.head.now) x y
rest g c x y misses = let head = c.args.head.now in misses_rest head.at head.pages x y (subst (λ (ps : List ℕ). Misses ps x y) c.pages.ensures misses)

pub returns-clause-left : goal.returns-clause-left
returns-clause-left g c = record {
  left = λ h.
      let pages = pages_of c.args.head.now in
      let at = goal.at.returns-clause-left g c in
      follows_on pages (rest g at.After-write_value) (follows_weaker pages (first g at.After-write_page) (c.write_page.ensures.left.left h)) (c.write_value.ensures.left.left h);
  time = λ h t.
      let pages = pages_of c.args.head.now in
      let at = goal.at.returns-clause-left g c in
      run_on pages (rest g at.After-write_value) (c.write_value.ensures.left.time h t) (run_weaker pages (first g at.After-write_page) (c.write_page.ensures.left.time h t)) (follows_weaker pages (first g at.After-write_page) (c.write_page.ensures.left.left h));
}

pub returns-in_err-write_value-clause-left : goal.returns-in_err-write_value-clause-left
returns-in_err-write_value-clause-left g c = record {
  left = λ h.
      let pages = pages_of c.args.head.now in
      let at = goal.at.returns-in_err-write_value-clause-left g c in
      follows_on pages (rest g at.After-write_value) (follows_weaker pages (first g at.After-write_page) (c.write_page.ensures.left.left h)) (c.write_value.ensures.left.left h);
  time = λ h t.
      let pages = pages_of c.args.head.now in
      let at = goal.at.returns-in_err-write_value-clause-left g c in
      run_on pages (rest g at.After-write_value) (c.write_value.ensures.left.time h t) (run_weaker pages (first g at.After-write_page) (c.write_page.ensures.left.time h t)) (follows_weaker pages (first g at.After-write_page) (c.write_page.ensures.left.left h));
}

pub returns-in_err-write_page-clause-left : goal.returns-in_err-write_page-clause-left
returns-in_err-write_page-clause-left g c = record {
  left = λ h. follows_weaker (pages_of c.args.head.now) (first g (goal.at.returns-in_err-write_page-clause-left g c).After-write_page) (c.write_page.ensures.left.left h);
  time = λ h t. run_weaker (pages_of c.args.head.now) (first g (goal.at.returns-in_err-write_page-clause-left g c).After-write_page) (c.write_page.ensures.left.time h t);
}

pub write_value-requires-clause-room : goal.write_value-requires-clause-room
write_value-requires-clause-room g c = rw (c.pages.ensures, c.write_page.ensures.step.extent) c.requires.room.1
