use Rattle.std.proofs.Common.{◌≡◌, ◌∙◌, ◌<◌, ℕ, true, List, length, get_or, refl, sym, ap, subst, arith}
use Rattle.std.specs.List.{AllByRecursion}
use Rattle.std.proofs.lemmas.List.{drop_all, get_or_default}
use Rattle.psu_disk.specs.Moments.{started}
use Rattle.psu_items.specs.Layout.{slots_from, slots_of, IsSized, StandsWritten}
use Rattle.psu_items.specs.declared.layout.Slot.{Slot}
use Rattle.psu_pages.specs.Image.{Head, AreApart, AreClear, IsInPool, pages_of, taken}
use Rattle.psu_pages.specs.Outcome.{EncodesPages, IsPlanned}
use Rattle.psu_pages.specs.Writing.{IsWritten, Reaches}
use Rattle.psu_pages.proofs.Lists.{all_at}
use Rattle.psu_map.specs.Target.{aimed}
use Rattle.psu_items.proofs.Taking.{encodes_on, encodes_on_run, same_on}
use Rattle.psu_items.proofs.Placing.{all_written, at_place, heads_are, slot, written_on}
use Rattle.psu_disk.specs.Disk.{IsCrashImage, Follows, LeavesOnly}
use Rattle.psu_items.specs.Writing.{SameAfterPool}
use Rattle.psu_items.proofs.AfterPool.{after_pool_none, after_pool_still, after_pool_on, after_pool_run}
use Rattle.psu_items.proofs.put.write_heads.Given.{Over}
use Rattle.psu_items.proofs.put.write_heads.Goals.{After-index}
use Rattle.psu_items.proofs.put.write_heads.Goals as goal

pub loop-place-init : goal.loop-place-init
loop-place-init g c =
    let d = g.D.Disk in
    let p = c.args.pages.now in
    record {
      extent = refl;
      works = refl;
      same = record { root = refl; version = refl; limit = refl; number = refl; heads = refl; older = refl; free = refl };
      standing = refl;
      planned = λ other is. is;
      stands = λ h kept. kept;
      shown = λ h. refl;
      left = λ h. p.encodes h c.requires.sure;
      time = λ h t. started d.moment d.left_since p.disk (EncodesPages p) (λ x l. p.encodes h c.requires.sure x (g.met.D.Disk.only_now t p.disk x l));
      after_pool = λ h. after_pool_none d p.limit p.disk;
      after_pool_time = λ h t. after_pool_still d p.limit p.disk (g.met.D.Disk.only_now t p.disk);
    }

-- the next place is the place of a head
module _ (g : Over) (c : After-index g) where
  abbrev unwritten : List ℕ
  unwritten = let o = c.args.layout.now in o.unwritten.items

  abbrev heads : List Head
  heads = let o = c.args.layout.now in o.heads.items

  abbrev place : ℕ
  place = get_or c.deref-place-items.result.now c.loop-place.place-index 0

  left : c.loop-place.place-index < length unwritten
  left = omega (arith, c.loop-place-test.true, ap (λ (ps : List ℕ). length ps) c.deref-place-items.ensures.value)

  next : place ≡ get_or unwritten c.loop-place.place-index place
  next = ap (λ (ps : List ℕ). get_or ps c.loop-place.place-index 0) c.deref-place-items.ensures.value ∙ get_or_default unwritten c.loop-place.place-index 0 place left

  within : place < length heads
  within = subst (λ (p : ℕ). p < length heads) (sym next) (all_at (λ (p : ℕ). p < length heads) unwritten c.loop-place.place-index place left c.requires.there)

  -- what holds of all slots holds of its slot
  its : (P : Slot g.row.A.Denot → Type 0) → AllByRecursion P (slots_of c.args.layout.now) → P (slot c.index.result.now true)
  its P all = subst (λ (h : Head). P (slot h true)) (sym c.index.ensures) (at_place g.row.A.Denot P heads unwritten c.loop-place.place-index place c.index.result.now left next within (λ n d lt. all_at P (slots_of c.args.layout.now) n d lt all))

pub write_head-requires-clause-planned : goal.write_head-requires-clause-planned
write_head-requires-clause-planned g c =
    let l = c.loop-place in
    let planned = its g (goal.at.write_head-requires-clause-planned g c).After-index (λ slot. slot.is_new ≡ true → IsPlanned c.args.pages.now slot.head) c.requires.planned in
    l.invariant.planned _ (planned refl)

pub write_head-requires-clause-has : goal.write_head-requires-clause-has
write_head-requires-clause-has g c = let sized = its g (goal.at.write_head-requires-clause-has g c).After-index (IsSized (aimed c.args.target.now)) c.requires.sized in sized.has

pub write_head-requires-clause-size : goal.write_head-requires-clause-size
write_head-requires-clause-size g c = let sized = its g (goal.at.write_head-requires-clause-size g c).After-index (IsSized (aimed c.args.target.now)) c.requires.sized in sized.size_is

pub returns-in_err-write_head-clause-left : goal.returns-in_err-write_head-clause-left
returns-in_err-write_head-clause-left g c = record {
  left = λ h x l.
      let now = c.loop-place in
      encodes_on c.args.pages.now now.pages now.invariant.same (now.invariant.shown h) x (c.write_head.ensures.left.left h x l);
  time = λ h t.
      let l = c.loop-place in
      encodes_on_run c.args.pages.now l.pages l.invariant.same (let p = c.write_head.new.pages in p.disk) (l.invariant.shown h) (l.invariant.time h t) (c.write_head.ensures.left.time h t);
}

pub loop-place-preserved : goal.loop-place-preserved
loop-place-preserved g c =
    let d = g.D.Disk in
    let l = c.loop-place in
    let old = c.args.pages.now in
    let mid = l.pages in
    let new = c.write_head.new.pages in
    let e = c.write_head.ensures in
    let at = (goal.at.loop-place-preserved g c).After-index in
    let named = heads_are g.row.A.Denot 0 (heads g at) (unwritten g at) in
    let others : d.honest → (o : Head) (its : List ℕ) → IsWritten (d.state mid.disk).bytes o its → AllByRecursion (IsInPool old.limit) (pages_of o) → AreClear (pages_of c.index.result.now) (pages_of o) → IsWritten (d.state new.disk).bytes o its =
    λ h o its w pool. e.others h o its w (subst (λ (n : ℕ). AllByRecursion (IsInPool n) (pages_of o)) (sym l.invariant.same.limit) pool) in
    let step : d.honest → Follows (SameAfterPool old.limit) (IsCrashImage (d.state mid.disk)) (IsCrashImage (d.state new.disk)) = λ h. subst (λ (n : ℕ). Follows (SameAfterPool n) (IsCrashImage (d.state mid.disk)) (IsCrashImage (d.state new.disk))) l.invariant.same.limit (e.after_pool.left h) in
    let step_run : d.honest → d.records → LeavesOnly d.moment d.left_since mid.disk new.disk (Reaches (SameAfterPool old.limit) (IsCrashImage (d.state mid.disk))) = λ h t. subst (λ (n : ℕ). LeavesOnly d.moment d.left_since mid.disk new.disk (Reaches (SameAfterPool n) (IsCrashImage (d.state mid.disk)))) l.invariant.same.limit (e.after_pool.time h t) in
    record {
      extent = e.step.extent ∙ l.invariant.extent;
      works = c.in_ok-write_head.ensures.step.works ∙ l.invariant.works;
      same = same_on old mid new l.invariant.same e.same;
      standing = c.in_ok-write_head.ensures.standing ∙ l.invariant.standing;
      planned = λ other is. e.planned other (l.invariant.planned other is);
      stands = λ h kept. written_on g.row.A.Denot (aimed c.args.target.now) (d.state mid.disk).bytes (d.state new.disk).bytes old.limit (heads g at) (unwritten g at) l.place-index (place g at) c.index.result.now (left g at) (next g at) (within g at) c.index.ensures
          (subst (λ (hs : List Head). AllByRecursion (IsInPool old.limit) (taken hs)) named c.requires.pool) (subst (λ (hs : List Head). AreApart (taken hs)) named c.requires.apart) (others h) (c.in_ok-write_head.ensures.written h) (l.invariant.stands h kept);
      shown = λ h. e.shown h ∙ l.invariant.shown h;
      left = λ h x i. encodes_on old mid l.invariant.same (l.invariant.shown h) x (e.left.left h x i);
      time = λ h t. encodes_on_run old mid l.invariant.same new.disk (l.invariant.shown h) (l.invariant.time h t) (e.left.time h t);
      after_pool = λ h. after_pool_on d old.limit old.disk mid.disk (l.invariant.after_pool h) new.disk (step h);
      after_pool_time = λ h t. after_pool_run d old.limit old.disk mid.disk (l.invariant.after_pool h) new.disk (l.invariant.after_pool_time h t) (step_run h t);
    }

pub returns-in_err-write_head-clause-after_pool : goal.returns-in_err-write_head-clause-after_pool
returns-in_err-write_head-clause-after_pool g c = record {
  left = λ h.
      let d = g.D.Disk in
      let l = c.loop-place in
      let old = c.args.pages.now in
      let mid = l.pages in
      let new = c.write_head.new.pages in
      after_pool_on d old.limit old.disk mid.disk (l.invariant.after_pool h) new.disk (subst (λ (n : ℕ). Follows (SameAfterPool n) (IsCrashImage (d.state mid.disk)) (IsCrashImage (d.state new.disk))) l.invariant.same.limit (c.write_head.ensures.after_pool.left h));
  time = λ h t.
      let d = g.D.Disk in
      let l = c.loop-place in
      let old = c.args.pages.now in
      let mid = l.pages in
      let new = c.write_head.new.pages in
      after_pool_run d old.limit old.disk mid.disk (l.invariant.after_pool h) new.disk (l.invariant.after_pool_time h t) (subst (λ (n : ℕ). LeavesOnly d.moment d.left_since mid.disk new.disk (Reaches (SameAfterPool n) (IsCrashImage (d.state mid.disk)))) l.invariant.same.limit (c.write_head.ensures.after_pool.time h t));
}

pub returns-clause-written : goal.returns-clause-written
returns-clause-written g c = λ h kept.
    let d = g.D.Disk in
    let l = c.loop-place in
    let layout = c.args.layout.now in
    let none = drop_all l.place-index layout.unwritten.items (omega (arith, c.loop-place-test.false, ap (λ (ps : List ℕ). length ps) c.deref-place-items.ensures.value)) in
    all_written g.row.A.Denot (aimed c.args.target.now) (d.state (let p = l.pages in p.disk)).bytes 0 layout.heads.items layout.unwritten.items
    (subst (λ (ps : List ℕ). AllByRecursion (StandsWritten (d.state (let p = l.pages in p.disk)).bytes (aimed c.args.target.now)) (slots_from {A = g.row.A.Denot} 0 layout.heads.items ps)) none (l.invariant.stands h kept))
