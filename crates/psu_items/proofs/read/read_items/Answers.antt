use Rattle.std.proofs.Common.{◌≡◌, ◌∙◌, ap, ℕ, List, [], length, drop, refl, sym, subst, arith}
use Rattle.std.proofs.lemmas.List.{drop_all}
use Rattle.psu_map.specs.Map.{Item}
use Rattle.psu_map.specs.Capacity.{IsMapOf}
use Rattle.psu_pages.specs.Image.{Head}
use Rattle.psu_pages.proofs.Quiet.{quiet_none, quiet_runs}
use Rattle.psu_items.specs.Image.{listed}
use Rattle.psu_items.proofs.Reading.{heads_still, read_step}
use Rattle.psu_items.proofs.read.read_items.Goals as goal

pub loop-at-init : goal.loop-at-init
loop-at-init g c =
    let d = g.D.Disk in
    let p = c.args.pages.now in
    let many : length c.heads-at.result.now ≡ length p.heads.items = ap (λ (hs : List Head). length hs) c.heads-at.ensures.value in
    let none : drop (length c.heads-at.result.now) p.heads.items ≡ [] = drop_all (length c.heads-at.result.now) p.heads.items (omega (arith, many)) in
    let empty : (image : List ℕ) → IsMapOf [] (listed image (drop (length c.heads-at.result.now) p.heads.items)) = λ image. subst (λ (hs : List Head). IsMapOf [] (listed image hs)) (sym none) (λ k. refl) in
    record {
      within = omega (arith, many);
      extent = refl;
      works = refl;
      found = λ h. subst (λ (m : List Item). IsMapOf m (listed (d.state p.disk).bytes (drop (length c.heads-at.result.now) p.heads.items))) (sym c.new-items.ensures) (empty (d.state p.disk).bytes);
      same = record { root = refl; version = refl; limit = refl; number = refl; heads = refl; older = refl; free = refl };
      standing = refl;
      seen = λ h. refl;
      left = λ h x l. l;
      time = λ h t. quiet_none (g.met.D.Disk.only_now t p.disk);
    }

pub loop-at-preserved : goal.loop-at-preserved
loop-at-preserved g c =
    let d = g.D.Disk in
    let l = c.loop-at in
    let old = c.args.pages.now in
    let mid = l.pages in
    let new = c.read_item.new.pages in
    let e = c.read_item.ensures in
    record {
      within = omega (arith, l.invariant.within);
      extent = e.step.extent ∙ l.invariant.extent;
      works = c.in_ok-read_item.ensures.step.works ∙ l.invariant.works;
      found = λ h. read_step (d.state old.disk).bytes (d.state mid.disk).bytes old.heads.items mid.heads.items l.at l.items c.read_item.new.items c.loop-at-test.true (l.invariant.seen h) (heads_still old mid l.invariant.same) (c.in_ok-read_item.ensures.found h) (l.invariant.found h);
      same = record { root = e.same.root ∙ l.invariant.same.root; version = e.same.version ∙ l.invariant.same.version; limit = e.same.limit ∙ l.invariant.same.limit; number = e.same.number ∙ l.invariant.same.number; heads = e.same.heads ∙ l.invariant.same.heads; older = e.same.older ∙ l.invariant.same.older; free = e.same.free ∙ l.invariant.same.free };
      standing = e.standing ∙ l.invariant.standing;
      seen = λ h. e.seen h ∙ l.invariant.seen h;
      left = λ h x i. l.invariant.left h x (e.left.left h x i);
      time = λ h t. quiet_runs (l.invariant.time h t) (l.invariant.left h) (e.left.time h t);
    }

pub returns-in_err-read_item-clause-left : goal.returns-in_err-read_item-clause-left
returns-in_err-read_item-clause-left g c = record {
  left = λ h x l. c.loop-at.invariant.left h x (c.read_item.ensures.left.left h x l);
  time = λ h t.
      let d = g.D.Disk in
      let l = c.loop-at in
      let old = c.args.pages.now in
      let mid = l.pages in
      let new = c.read_item.new.pages in
      quiet_runs (l.invariant.time h t) (l.invariant.left h) (c.read_item.ensures.left.time h t);
}

pub returns-clause-found : goal.returns-clause-found
returns-clause-found g c = λ h.
    let d = g.D.Disk in
    let l = c.loop-at in
    let p = c.args.pages.now in
    let end : l.at ≡ 0 = omega (arith, c.loop-at-test.false) in
    subst (λ (n : ℕ). IsMapOf l.items (listed (d.state p.disk).bytes (drop n p.heads.items))) end (l.invariant.found h)
