use Rattle.std.proofs.Common.{◌≡◌, inl, ◌∙◌, ◌+◌, ◌≤◌, ℕ, List, Err, refl, sym, ap, subst, arith}
use Rattle.psu_disk.specs.Disk.{IsCrashImage, LeavesOnly}
use Rattle.psu_map.specs.Map.{Item}
use Rattle.psu_map.specs.Batch.{Edit, changed}
use Rattle.psu_items.specs.Image.{IsEither, IsEitherRoot, Represents}
use Rattle.psu_items.specs.Layout.{HaveKept}
use Rattle.psu_map.specs.Plan.{Planned}
use Rattle.psu_items.specs.Standing.{on_pages}
use Rattle.psu_items.proofs.Standing.{pages_on_disk, pages_represent, pages_as}
use Rattle.psu_items.proofs.Committing.{not_true, none_run, to_either, either_run, number_back, items_back, limit_back, failed_back, left_out}
use Rattle.psu_items.proofs.Renewing.{map_called, edits_called, either_called, weakly_called, time_called, target_called, view_again, keeps_called}
use Rattle.psu_items.proofs.AfterPool.{after_pool_none, after_pool_still}
use Rattle.psu_items.proofs.Retaining.{each_kept}
use Rattle.psu_items.proofs.store.Store.commit.Given.{Over}
use Rattle.psu_items.proofs.store.Store.commit.Goals.{After-renew}
use Rattle.psu_items.proofs.store.Store.commit.Goals as goal

-- ---- the store is worn

pub returns-then-is_worn-clause-unstarted : goal.returns-then-is_worn-clause-unstarted
returns-then-is_worn-clause-unstarted g c = record { store = refl; batch_is = refl; worn = λ e. c.if-is_worn.ensures.0 refl }

pub returns-then-is_worn-clause-represents_unstarted : goal.returns-then-is_worn-clause-represents_unstarted
returns-then-is_worn-clause-represents_unstarted g c = λ h. let s = c.self.inside in rw (← c.self.view_is) (pages_on_disk s.pages s.items c.self.invariant.shows h)

pub returns-then-is_worn-clause-roots : goal.returns-then-is_worn-clause-roots
returns-then-is_worn-clause-roots g c = record {
  left = λ h. let s = c.self.inside in rw (← c.self.view_is) (λ x l. inl (pages_as s.pages s.items c.self.invariant.shows h x l));
  time = λ h t. let s = c.self.inside in rw (← c.self.view_is) (none_run s.pages s.items (changed s.items c.args.batch) c.self.invariant.shows h (g.met.D.Disk.only_now t s.pages.disk));
}

pub returns-then-is_worn-clause-time : goal.returns-then-is_worn-clause-time
returns-then-is_worn-clause-time g c = λ h t. let s = c.self.inside in rw (← c.self.view_is) (either_run g.D.Disk s.pages.version s.pages.number s.pages.limit s.items (changed s.items c.args.batch) s.pages.disk s.pages.disk (none_run s.pages s.items (changed s.items c.args.batch) c.self.invariant.shows h (g.met.D.Disk.only_now t s.pages.disk)))

pub returns-then-is_worn-clause-after_pool : goal.returns-then-is_worn-clause-after_pool
returns-then-is_worn-clause-after_pool g c = record {
  left = λ h. let s = c.self.inside in rw (← c.self.view_is) (after_pool_none g.D.Disk s.pages.limit s.pages.disk);
  time = λ h t. let s = c.self.inside in rw (← c.self.view_is) (after_pool_still g.D.Disk s.pages.limit s.pages.disk (g.met.D.Disk.only_now t s.pages.disk));
}

-- ---- an allocation for the plan of the batch failed

pub returns-in-Err-clause-unstarted : goal.returns-in-Err-clause-unstarted
returns-in-Err-clause-unstarted g c = let s = c.self.inside in record { store = ap (on_pages s.pages) c.in-Err.ensures.err.0 ∙ c.self.view_is; batch_is = c.in-Err.ensures.err.1; worn = λ e. absurd cc }

pub returns-in-Err-clause-represents_unstarted : goal.returns-in-Err-clause-represents_unstarted
returns-in-Err-clause-represents_unstarted g c =
    let s = c.self.inside in
    let kept = keeps_called s.pages c.in-Err.items s.items c.self.invariant c.in-Err.ensures.err.0 in
    pages_on_disk s.pages c.in-Err.items kept.shows

pub returns-in-Err-clause-roots : goal.returns-in-Err-clause-roots
returns-in-Err-clause-roots g c = record {
  left = λ h. let s = c.self.inside in rw (← c.self.view_is) (λ x l. inl (pages_as s.pages s.items c.self.invariant.shows h x l));
  time = λ h t. let s = c.self.inside in rw (← c.self.view_is) (none_run s.pages s.items (changed s.items c.args.batch) c.self.invariant.shows h (g.met.D.Disk.only_now t s.pages.disk));
}

pub returns-in-Err-clause-time : goal.returns-in-Err-clause-time
returns-in-Err-clause-time g c = λ h t. let s = c.self.inside in rw (← c.self.view_is) (either_run g.D.Disk s.pages.version s.pages.number s.pages.limit s.items (changed s.items c.args.batch) s.pages.disk s.pages.disk (none_run s.pages s.items (changed s.items c.args.batch) c.self.invariant.shows h (g.met.D.Disk.only_now t s.pages.disk)))

pub returns-in-Err-clause-after_pool : goal.returns-in-Err-clause-after_pool
returns-in-Err-clause-after_pool g c = record {
  left = λ h. let s = c.self.inside in rw (← c.self.view_is) (after_pool_none g.D.Disk s.pages.limit s.pages.disk);
  time = λ h t. let s = c.self.inside in rw (← c.self.view_is) (after_pool_still g.D.Disk s.pages.limit s.pages.disk (g.met.D.Disk.only_now t s.pages.disk));
}

-- ---- the map before and after the writing

map_is : (g : Over) (c : After-renew g) → c.pairs.result.now ≡ (let s = c.self.inside in s.items)
map_is g c = let s = c.self.inside in map_called s.items c.pairs.result.now c.args.batch c.edits.result.now c.in-Ok.plan c.in-Ok.ensures.ok c.pairs.ensures.all c.edits.ensures

edits_are : (g : Over) (c : After-renew g) → c.edits.result.now ≡ c.args.batch
edits_are g c = let s = c.self.inside in edits_called s.items c.pairs.result.now c.args.batch c.edits.result.now c.in-Ok.plan c.in-Ok.ensures.ok c.pairs.ensures.all c.edits.ensures

roots : (g : Over) (c : After-renew g) → g.D.Disk.honest → (x : List ℕ) → IsCrashImage (g.D.Disk.state (let p = c.renew.new.pages in p.disk)) x
    → let s = c.self.inside in IsEitherRoot s.pages.version s.pages.number s.pages.limit s.items (changed s.items c.args.batch) x
roots g c h x l = let s = c.self.inside in either_called s.items c.pairs.result.now c.args.batch c.edits.result.now (map_is g c) (edits_are g c) s.pages.version s.pages.number s.pages.limit x (c.renew.ensures.left.left h x l)

roots_time : (g : Over) (c : After-renew g) → g.D.Disk.honest → g.D.Disk.records
    → let s = c.self.inside in LeavesOnly g.D.Disk.moment g.D.Disk.left_since s.pages.disk (let p = c.renew.new.pages in p.disk) (IsEitherRoot s.pages.version s.pages.number s.pages.limit s.items (changed s.items c.args.batch))
roots_time g c h t =
    let s = c.self.inside in
    time_called s.items c.pairs.result.now c.args.batch c.edits.result.now (map_is g c) (edits_are g c) g.D.Disk s.pages.version s.pages.number s.pages.limit s.pages.disk (let p = c.renew.new.pages in p.disk) (c.renew.ensures.left.time h t)

time : (g : Over) (c : After-renew g) → g.D.Disk.honest → g.D.Disk.records
    → let s = c.self.inside in LeavesOnly g.D.Disk.moment g.D.Disk.left_since s.pages.disk (let p = c.renew.new.pages in p.disk) (IsEither s.pages.limit s.items (changed s.items c.args.batch))
time g c h t = let s = c.self.inside in either_run g.D.Disk s.pages.version s.pages.number s.pages.limit s.items (changed s.items c.args.batch) s.pages.disk (let p = c.renew.new.pages in p.disk) (roots_time g c h t)

-- ---- the map is written

pub renew-requires-clause-number : goal.renew-requires-clause-number
renew-requires-clause-number g c =
    let s = c.self.inside in
    let not_worn : 18446744073709551616 ≤ (let m = c.args.self in m.number) + 1 → ⊥ = λ w. absurd (not_true (c.if-is_worn.ensures.1 w)) in
    omega (arith, number_back s.pages s.items c.args.self c.self.view_is, not_worn)

pub returns-in-Ok-renew-clause-worn : goal.returns-in-Ok-renew-clause-worn
returns-in-Ok-renew-clause-worn g c = λ w. absurd (not_true (c.if-is_worn.ensures.1 w))

pub returns-in-Ok-renew-clause-roots : goal.returns-in-Ok-renew-clause-roots
returns-in-Ok-renew-clause-roots g c = record {
  left = λ h x l. rw (← c.self.view_is) (roots g (goal.at.returns-in-Ok-renew-clause-roots g c).After-renew h x l);
  time = λ h t. rw (← c.self.view_is) (roots_time g (goal.at.returns-in-Ok-renew-clause-roots g c).After-renew h t);
}

pub returns-in-Ok-renew-clause-time : goal.returns-in-Ok-renew-clause-time
returns-in-Ok-renew-clause-time g c = λ h t. rw (← c.self.view_is) (time g (goal.at.returns-in-Ok-renew-clause-time g c).After-renew h t)

pub returns-in-Ok-renew-clause-heads : goal.returns-in-Ok-renew-clause-heads
returns-in-Ok-renew-clause-heads g c = λ h.
    let s = c.self.inside in
    let at = (goal.at.returns-in-Ok-renew-clause-heads g c).After-renew in
    let new = c.renew.new.pages in
    let have = subst (λ (edits : List Edit). HaveKept edits s.items (let p = s.pages in p.heads.items) new.heads.items) (edits_are g at) (subst (λ (m : List Item). HaveKept c.edits.result.now m (let p = s.pages in p.heads.items) new.heads.items) (map_is g at) c.in-Ok-renew.ensures.heads) in
    rw (← c.self.view_is) (each_kept h s.pages new s.items (changed c.pairs.result.now c.edits.result.now) c.self.invariant.shows c.in-Ok-renew.ensures.keeps.shows c.args.batch have)

pub returns-in-Ok-renew-clause-after_pool : goal.returns-in-Ok-renew-clause-after_pool
returns-in-Ok-renew-clause-after_pool g c = record {
  left = λ h. rw (← c.self.view_is) (c.renew.ensures.after_pool.left h);
  time = λ h t. rw (← c.self.view_is) (c.renew.ensures.after_pool.time h t);
}

pub returns-in-Ok-renew-clause-represents_stored : goal.returns-in-Ok-renew-clause-represents_stored
returns-in-Ok-renew-clause-represents_stored g c =
    let target : c.made.result ≡ changed c.pairs.result.now c.edits.result.now = c.made.ensures ∙ ap (λ (m : List Item). changed m (let p = c.in-Ok.plan in p.edits)) (sym c.pairs.ensures.all) ∙ ap (changed c.pairs.result.now) (sym c.edits.ensures) in
    let kept = keeps_called c.renew.new.pages c.made.result (changed c.pairs.result.now c.edits.result.now) c.in-Ok-renew.ensures.keeps target in
    pages_on_disk c.renew.new.pages c.made.result kept.shows

pub returns-in-Ok-renew-clause-left_stored : goal.returns-in-Ok-renew-clause-left_stored
returns-in-Ok-renew-clause-left_stored g c = λ h x l.
    let s = c.self.inside in
    let at = (goal.at.returns-in-Ok-renew-clause-left_stored g c).After-renew in
    let last = c.renew.new.pages in
    let represents : Represents x last.limit (changed c.pairs.result.now c.edits.result.now) = pages_represent last (changed c.pairs.result.now c.edits.result.now) c.in-Ok-renew.ensures.keeps.shows h x l in
    rw (← c.self.view_is) (subst (λ (n : ℕ). Represents x n (changed s.items c.args.batch)) c.renew.ensures.limit (subst (Represents x last.limit) (target_called s.items c.pairs.result.now c.args.batch c.edits.result.now (map_is g at) (edits_are g at)) represents))

-- ---- an allocation for the writing failed

kept_there : goal.invariant_of-result-in-Err-Memory
kept_there g c = keeps_called c.renew.new.pages c.into_parts-items.result.0 c.pairs.result.now (let same = c.in-Err-Memory.ensures.same (ap Err c.in-Err-Memory.field-0-is) in same.1) (c.into_parts-items.ensures.map ∙ sym c.pairs.ensures.all)

pub invariant_of-result-in-Err-Memory : goal.invariant_of-result-in-Err-Memory
invariant_of-result-in-Err-Memory g c = kept_there g c

pub returns-in-Err-Memory-clause-unstarted : goal.returns-in-Err-Memory-clause-unstarted
returns-in-Err-Memory-clause-unstarted g c =
    let s = c.self.inside in
    let map_is : c.into_parts-items.result.0 ≡ s.items = c.into_parts-items.ensures.map ∙ ap (λ (p : Planned). p.map) c.in-Ok.ensures.ok in
    record {
      store = view_again s.pages c.renew.new.pages (let same = c.in-Err-Memory.ensures.same (ap Err c.in-Err-Memory.field-0-is) in same.0) s.items c.into_parts-items.result.0 c.args.self map_is c.self.view_is;
      batch_is = c.into_parts-items.ensures.edits ∙ ap (λ (p : Planned). p.edits) c.in-Ok.ensures.ok;
      worn = λ e. absurd cc;
    }

pub returns-in-Err-Memory-clause-represents_unstarted : goal.returns-in-Err-Memory-clause-represents_unstarted
returns-in-Err-Memory-clause-represents_unstarted g c = let kept = kept_there g c in pages_on_disk c.renew.new.pages c.into_parts-items.result.0 kept.shows

pub returns-in-Err-Memory-clause-roots : goal.returns-in-Err-Memory-clause-roots
returns-in-Err-Memory-clause-roots g c = record {
  left = λ h x l. rw (← c.self.view_is) (roots g (goal.at.returns-in-Err-Memory-clause-roots g c).After-renew h x l);
  time = λ h t. rw (← c.self.view_is) (roots_time g (goal.at.returns-in-Err-Memory-clause-roots g c).After-renew h t);
}

pub returns-in-Err-Memory-clause-time : goal.returns-in-Err-Memory-clause-time
returns-in-Err-Memory-clause-time g c = λ h t. rw (← c.self.view_is) (time g (goal.at.returns-in-Err-Memory-clause-time g c).After-renew h t)

pub returns-in-Err-Memory-clause-after_pool : goal.returns-in-Err-Memory-clause-after_pool
returns-in-Err-Memory-clause-after_pool g c = record {
  left = λ h. rw (← c.self.view_is) (c.renew.ensures.after_pool.left h);
  time = λ h t. rw (← c.self.view_is) (c.renew.ensures.after_pool.time h t);
}

-- ---- the disk failed

pub invariant_of-result-in-Err-Device : goal.invariant_of-result-in-Err-Device
invariant_of-result-in-Err-Device g c =
    let s = c.self.inside in
    let p = c.renew.new.pages in
    let map_is : c.pairs.result.now ≡ c.into_parts-before.result.0 = c.pairs.ensures.all ∙ sym c.into_parts-before.ensures.map in
    let edits_are : c.edits.result.now ≡ c.into_parts-before.result.1 = c.edits.ensures ∙ sym c.into_parts-before.ensures.edits in
    record {
      either = λ h x l.
          let e = to_either s.pages.version s.pages.number s.pages.limit c.pairs.result.now (changed c.pairs.result.now c.edits.result.now) x (c.renew.ensures.left.left h x (left_out g.D.Disk p.disk c.into_disk.result x c.into_disk.ensures.value l)) in
          ∣ weakly_called c.into_parts-before.result.0 c.pairs.result.now c.into_parts-before.result.1 c.edits.result.now map_is edits_are c.limit.result x
          (subst (λ (n : ℕ). IsEither n c.pairs.result.now (changed c.pairs.result.now c.edits.result.now) x) (sym (c.limit.ensures.value ∙ c.renew.ensures.limit)) e) ∣₁;
    }

pub returns-in-Err-Device-clause-worn : goal.returns-in-Err-Device-clause-worn
returns-in-Err-Device-clause-worn g c = λ w. absurd (not_true (c.if-is_worn.ensures.1 w))

pub returns-in-Err-Device-clause-broken : goal.returns-in-Err-Device-clause-broken
returns-in-Err-Device-clause-broken g c =
    let s = c.self.inside in
    record {
      before = c.into_parts-before.ensures.map ∙ ap (λ (p : Planned). p.map) c.in-Ok.ensures.ok ∙ items_back s.pages s.items c.args.self c.self.view_is;
      batch_is = c.into_parts-before.ensures.edits ∙ ap (λ (p : Planned). p.edits) c.in-Ok.ensures.ok;
      limit = c.limit.ensures.value ∙ c.renew.ensures.limit ∙ limit_back s.pages s.items c.args.self c.self.view_is;
      cause = refl;
      failures = failed_back s.pages s.items c.args.self s.pages.disk (let p = c.renew.new.pages in p.disk) c.into_disk.result c.self.view_is refl c.into_disk.ensures.value (c.in-Err-Device.ensures.step.device c.in-Err-Device.field-0-is);
    }

pub returns-in-Err-Device-clause-left_broken : goal.returns-in-Err-Device-clause-left_broken
returns-in-Err-Device-clause-left_broken g c = λ h x l.
    let s = c.self.inside in
    let left = left_out g.D.Disk (let p = c.renew.new.pages in p.disk) c.into_disk.result x c.into_disk.ensures.value l in
    rw (← c.self.view_is) (to_either s.pages.version s.pages.number s.pages.limit s.items (changed s.items c.args.batch) x (roots g (goal.at.returns-in-Err-Device-clause-left_broken g c).After-renew h x left))

pub returns-in-Err-Device-clause-roots : goal.returns-in-Err-Device-clause-roots
returns-in-Err-Device-clause-roots g c = record {
  left = λ h x l. rw (← c.self.view_is) (roots g (goal.at.returns-in-Err-Device-clause-roots g c).After-renew h x (left_out g.D.Disk (let p = c.renew.new.pages in p.disk) c.into_disk.result x c.into_disk.ensures.value l));
  time = λ h t. rw (← c.self.view_is, c.into_disk.ensures.value) (roots_time g (goal.at.returns-in-Err-Device-clause-roots g c).After-renew h t);
}

pub returns-in-Err-Device-clause-time : goal.returns-in-Err-Device-clause-time
returns-in-Err-Device-clause-time g c = λ h t. rw (← c.self.view_is, c.into_disk.ensures.value) (time g (goal.at.returns-in-Err-Device-clause-time g c).After-renew h t)

pub returns-in-Err-Device-clause-after_pool : goal.returns-in-Err-Device-clause-after_pool
returns-in-Err-Device-clause-after_pool g c = record {
  left = λ h. rw (← c.self.view_is, c.into_disk.ensures.value) (c.renew.ensures.after_pool.left h);
  time = λ h t. rw (← c.self.view_is, c.into_disk.ensures.value) (c.renew.ensures.after_pool.time h t);
}

pub returns-in-Err-clause-extent : goal.returns-in-Err-clause-extent
returns-in-Err-clause-extent g c = rw (← c.self.view_is) refl

pub returns-in-Err-clause-later : goal.returns-in-Err-clause-later
returns-in-Err-clause-later g c = rw (← c.self.view_is) (omega arith)

pub returns-in-Ok-renew-clause-extent : goal.returns-in-Ok-renew-clause-extent
returns-in-Ok-renew-clause-extent g c = rw (← c.self.view_is) c.renew.ensures.step.extent

pub returns-in-Ok-renew-clause-later : goal.returns-in-Ok-renew-clause-later
returns-in-Ok-renew-clause-later g c = rw (← c.self.view_is) c.renew.ensures.step.later

pub returns-in-Err-Memory-clause-extent : goal.returns-in-Err-Memory-clause-extent
returns-in-Err-Memory-clause-extent g c = rw (← c.self.view_is) c.renew.ensures.step.extent

pub returns-in-Err-Memory-clause-later : goal.returns-in-Err-Memory-clause-later
returns-in-Err-Memory-clause-later g c = rw (← c.self.view_is) c.renew.ensures.step.later

pub returns-in-Ok-renew-clause-works : goal.returns-in-Ok-renew-clause-works
returns-in-Ok-renew-clause-works g c = rw (← c.self.view_is) c.in-Ok-renew.ensures.step.works
