use Rattle.std.proofs.Common.{◌≡◌, ◌∙◌, ℕ, List, refl, ap, sym, subst, arith}
use Rattle.psu_disk.specs.Disk.{IsCrashImage, SameBut, Follows, LeavesOnly}
use Rattle.psu_disk.specs.Steps.{step_on, step_fails}
use Rattle.psu_items.specs.Image.{listed, IsEitherRoot}
use Rattle.psu_map.specs.Target.{aimed}
use Rattle.psu_items.proofs.Placing.{heads_are}
use Rattle.psu_items.proofs.Putting.{heads_there, heads_list, from_encodes, run_one, from_either, run_two, from_two, run_three, shown_last}
use Rattle.psu_pages.specs.Free.{AreClaimed, IsRoster}
use Rattle.psu_pages.specs.Image.{Head, gate_at, other, taken}
use Rattle.psu_pages.specs.Writing.{Reaches}
use Rattle.psu_items.specs.declared.layout.Layout.{Layout}
use Rattle.psu_items.specs.Layout.{heads_of, slots_of}
use Rattle.psu_map.specs.Map.{Item}
use Rattle.psu_items.specs.Standing.{ShowsMap}
use Rattle.psu_items.specs.Writing.{SameAfterPool}
use Rattle.psu_items.proofs.Sparing.{spare_closed, spare_published}
use Rattle.psu_items.proofs.AfterPool.{but_after_pool, after_pool_step, after_pool_step_run, after_pool_on, after_pool_run}
use Rattle.psu_pages.specs.declared.standing.Standing.TheVariants.{One, Both, Unsure}
use Rattle.psu_items.proofs.put.put.Given.{Over}
use Rattle.psu_items.proofs.put.put.Goals.{After-publish_root, After-close_old}
use Rattle.psu_items.proofs.put.put.Goals as goal

-- the heads of the slots are those of the layout
named : {A : Type 0} (layout : Layout A) → layout.heads.items ≡ heads_of (slots_of layout)
named {A = A} layout = sym (heads_are A 0 layout.heads.items layout.unwritten.items)

pub returns-in_err-write_heads-clause-left : goal.returns-in_err-write_heads-clause-left
returns-in_err-write_heads-clause-left g c = λ before shows. record {
  left = λ h x l. from_encodes c.args.pages.now c.write_heads.new.pages before (aimed c.args.target.now) h shows x (c.write_heads.ensures.left.left h x l);
  time = λ h t. run_one c.args.pages.now c.write_heads.new.pages before (aimed c.args.target.now) h shows (c.write_heads.ensures.left.time h t);
}

pub publish_root-requires-clause-roster : goal.publish_root-requires-clause-roster
publish_root-requires-clause-roster g c =
    let mid = c.write_heads.new.pages in
    subst (IsRoster mid.limit) (sym (named c.args.layout)) (subst (λ (n : ℕ). IsRoster n (heads_of (slots_of c.args.layout))) (sym c.write_heads.ensures.same.limit) c.requires.roster)

pub publish_root-requires-clause-claimed : goal.publish_root-requires-clause-claimed
publish_root-requires-clause-claimed g c =
    let mid = c.write_heads.new.pages in
    subst (λ (hs : List Head). AreClaimed mid.free (taken hs)) (sym (named c.args.layout)) (subst (λ free. AreClaimed free (taken (heads_of (slots_of c.args.layout)))) (sym c.write_heads.ensures.same.free) c.requires.claimed)

pub publish_root-requires-clause-there : goal.publish_root-requires-clause-there
publish_root-requires-clause-there g c = λ h.
    let d = g.D.Disk in
    let old = c.args.pages.now in
    let mid = c.write_heads.new.pages in
    heads_there (d.state old.disk).bytes (d.state mid.disk).bytes (aimed c.args.target.now) (slots_of c.args.layout) (slots_of c.args.layout) (let layout = c.args.layout in layout.heads.items) refl (named c.args.layout) (c.requires.kept h) (c.in_ok-write_heads.ensures.written h)

-- the items of the published heads are the target
are : (g : Over) (c : After-publish_root g) → g.D.Disk.honest → let mid = c.write_heads.new.pages in listed (g.D.Disk.state mid.disk).bytes (let layout = c.args.layout in layout.heads.items) ≡ aimed c.args.target.now
are g c h =
    let d = g.D.Disk in
    let old = c.args.pages.now in
    let mid = c.write_heads.new.pages in
    heads_list (d.state old.disk).bytes (d.state mid.disk).bytes (aimed c.args.target.now) (slots_of c.args.layout) (slots_of c.args.layout) (let layout = c.args.layout in layout.heads.items) refl (named c.args.layout) (c.requires.kept h) (c.in_ok-write_heads.ensures.written h) c.requires.sorted c.requires.keys

-- the possible crash images after the call that closes the older root's gate
left : (g : Over) (c : After-close_old g) → g.D.Disk.honest → (let mid = c.write_heads.new.pages in listed (g.D.Disk.state mid.disk).bytes (let layout = c.args.layout in layout.heads.items) ≡ aimed c.args.target.now)
    → let old = c.args.pages.now in (before : List Item) → ShowsMap old before → (x : List ℕ) → IsCrashImage (g.D.Disk.state (let last = c.close_old.new.self in last.disk)) x → IsEitherRoot old.version old.number old.limit before (aimed c.args.target.now) x
left g c h e before shows x l =
    from_two c.args.pages.now c.write_heads.new.pages before (aimed c.args.target.now) h shows c.write_heads.ensures.same (c.write_heads.ensures.shown h) c.requires.sorted (let layout = c.args.layout in layout.heads.items) e c.publish_root.new.self c.in_ok-publish_root.ensures.published c.publish_root.ensures.limit (c.in_ok-publish_root.ensures.shown h) x (c.close_old.ensures.left.left h x l)

time : (g : Over) (c : After-close_old g) → g.D.Disk.honest → g.D.Disk.records → (let mid = c.write_heads.new.pages in listed (g.D.Disk.state mid.disk).bytes (let layout = c.args.layout in layout.heads.items) ≡ aimed c.args.target.now)
    → let old = c.args.pages.now in (before : List Item) → ShowsMap old before → LeavesOnly g.D.Disk.moment g.D.Disk.left_since old.disk (let last = c.close_old.new.self in last.disk) (IsEitherRoot old.version old.number old.limit before (aimed c.args.target.now))
time g c h t e before shows =
    run_three c.args.pages.now c.write_heads.new.pages before (aimed c.args.target.now) h shows c.write_heads.ensures.same (c.write_heads.ensures.shown h) c.requires.sorted (let layout = c.args.layout in layout.heads.items) e c.publish_root.new.self c.in_ok-publish_root.ensures.published c.publish_root.ensures.limit (c.in_ok-publish_root.ensures.shown h) (let p = c.close_old.new.self in p.disk) (c.write_heads.ensures.left.time h t) (c.publish_root.ensures.left.time h t) (c.close_old.ensures.left.time h t)

-- nothing after the pool changes
published_after_pool : (g : Over) (c : After-publish_root g) → g.D.Disk.honest
    → let old = c.args.pages.now in Follows (SameAfterPool old.limit) (IsCrashImage (g.D.Disk.state old.disk)) (IsCrashImage (g.D.Disk.state (let two = c.publish_root.new.self in two.disk)))
published_after_pool g c h =
    let d = g.D.Disk in
    let old = c.args.pages.now in
    let mid = c.write_heads.new.pages in
    let two = c.publish_root.new.self in
    after_pool_on d old.limit old.disk mid.disk (c.write_heads.ensures.after_pool.left h) two.disk (after_pool_step d old.limit mid.disk (SameBut (gate_at (other mid.root)) 512) (λ x y b. but_after_pool old.limit (other mid.root) 512 x y (omega arith) b) two.disk (c.publish_root.ensures.touched.left h))

published_time : (g : Over) (c : After-publish_root g) → g.D.Disk.honest → g.D.Disk.records
    → let d = g.D.Disk in let old = c.args.pages.now in LeavesOnly d.moment d.left_since old.disk (let two = c.publish_root.new.self in two.disk) (Reaches (SameAfterPool old.limit) (IsCrashImage (d.state old.disk)))
published_time g c h t =
    let d = g.D.Disk in
    let old = c.args.pages.now in
    let mid = c.write_heads.new.pages in
    let two = c.publish_root.new.self in
    after_pool_run d old.limit old.disk mid.disk (c.write_heads.ensures.after_pool.left h) two.disk (c.write_heads.ensures.after_pool.time h t) (after_pool_step_run d old.limit mid.disk (SameBut (gate_at (other mid.root)) 512) (λ x y b. but_after_pool old.limit (other mid.root) 512 x y (omega arith) b) two.disk (c.publish_root.ensures.touched.time h t))

pub returns-in_err-publish_root-clause-left : goal.returns-in_err-publish_root-clause-left
returns-in_err-publish_root-clause-left g c = λ before shows. record {
  left = λ h x l.
      let at = goal.at.returns-in_err-publish_root-clause-left g c in
      from_either c.args.pages.now c.write_heads.new.pages before (aimed c.args.target.now) h shows c.write_heads.ensures.same (c.write_heads.ensures.shown h) c.requires.sorted (let layout = c.args.layout in layout.heads.items) (are g at.After-publish_root h) x (c.publish_root.ensures.left.left h x l);
  time = λ h t.
      let at = goal.at.returns-in_err-publish_root-clause-left g c in
      run_two c.args.pages.now c.write_heads.new.pages before (aimed c.args.target.now) h shows c.write_heads.ensures.same (c.write_heads.ensures.shown h) c.requires.sorted (let layout = c.args.layout in layout.heads.items) (are g at.After-publish_root h) (let p = c.publish_root.new.self in p.disk) (c.write_heads.ensures.left.time h t) (c.publish_root.ensures.left.time h t);
}

pub returns-in_err-publish_root-clause-after_pool : goal.returns-in_err-publish_root-clause-after_pool
returns-in_err-publish_root-clause-after_pool g c = record {
  left = published_after_pool g (goal.at.returns-in_err-publish_root-clause-after_pool g c).After-publish_root;
  time = published_time g (goal.at.returns-in_err-publish_root-clause-after_pool g c).After-publish_root;
}

pub returns-in_err-close_old-clause-left : goal.returns-in_err-close_old-clause-left
returns-in_err-close_old-clause-left g c = λ before shows.
    let at = goal.at.returns-in_err-close_old-clause-left g c in
    record { left = λ h. left g at.After-close_old h (are g at.After-publish_root h) before shows; time = λ h t. time g at.After-close_old h t (are g at.After-publish_root h) before shows }

pub returns-in_err-close_old-clause-after_pool : goal.returns-in_err-close_old-clause-after_pool
returns-in_err-close_old-clause-after_pool g c = record {
  left = λ h.
      let d = g.D.Disk in
      let old = c.args.pages.now in
      let two = c.publish_root.new.self in
      let last = c.close_old.new.self in
      after_pool_on d old.limit old.disk two.disk (published_after_pool g (goal.at.returns-in_err-close_old-clause-after_pool g c).After-publish_root h) last.disk (after_pool_step d old.limit two.disk (SameBut (gate_at (other two.root)) 1) (λ x y b. but_after_pool old.limit (other two.root) 1 x y (omega arith) b) last.disk (c.close_old.ensures.touched.left h));
  time = λ h t.
      let d = g.D.Disk in
      let old = c.args.pages.now in
      let two = c.publish_root.new.self in
      let last = c.close_old.new.self in
      let at = (goal.at.returns-in_err-close_old-clause-after_pool g c).After-publish_root in
      after_pool_run d old.limit old.disk two.disk (published_after_pool g at h) last.disk (published_time g at h t) (after_pool_step_run d old.limit two.disk (SameBut (gate_at (other two.root)) 1) (λ x y b. but_after_pool old.limit (other two.root) 1 x y (omega arith) b) last.disk (c.close_old.ensures.touched.time h t));
}

pub returns-clause-left : goal.returns-clause-left
returns-clause-left g c = λ before shows.
    let at = goal.at.returns-clause-left g c in
    record { left = λ h. left g at.After-close_old h (are g at.After-publish_root h) before shows; time = λ h t. time g at.After-close_old h t (are g at.After-publish_root h) before shows }

pub returns-clause-after_pool : goal.returns-clause-after_pool
returns-clause-after_pool g c = record {
  left = λ h.
      let d = g.D.Disk in
      let old = c.args.pages.now in
      let two = c.publish_root.new.self in
      let last = c.close_old.new.self in
      after_pool_on d old.limit old.disk two.disk (published_after_pool g (goal.at.returns-clause-after_pool g c).After-publish_root h) last.disk (after_pool_step d old.limit two.disk (SameBut (gate_at (other two.root)) 1) (λ x y b. but_after_pool old.limit (other two.root) 1 x y (omega arith) b) last.disk (c.close_old.ensures.touched.left h));
  time = λ h t.
      let d = g.D.Disk in
      let old = c.args.pages.now in
      let two = c.publish_root.new.self in
      let last = c.close_old.new.self in
      let at = (goal.at.returns-clause-after_pool g c).After-publish_root in
      after_pool_run d old.limit old.disk two.disk (published_after_pool g at h) last.disk (published_time g at h t) (after_pool_step_run d old.limit two.disk (SameBut (gate_at (other two.root)) 1) (λ x y b. but_after_pool old.limit (other two.root) 1 x y (omega arith) b) last.disk (c.close_old.ensures.touched.time h t));
}

pub returns-clause-shows : goal.returns-clause-shows
returns-clause-shows g c = record {
  one = c.in_ok-close_old.ensures.closed.standing;
  sorted = c.requires.sorted;
  holds = λ h. shown_last c.write_heads.new.pages c.publish_root.new.self c.close_old.new.self (aimed c.args.target.now) (let layout = c.args.layout in layout.heads.items) (are g (goal.at.returns-clause-shows g c).After-publish_root h) (c.in_ok-publish_root.ensures.shown h) (c.in_ok-close_old.ensures.shown h);
}

pub returns-clause-spare : goal.returns-clause-spare
returns-clause-spare g c =
    let old = c.args.pages.now in
    let mid = c.write_heads.new.pages in
    let two = c.publish_root.new.self in
    spare_closed two c.close_old.new.self c.in_ok-close_old.ensures.closed c.close_old.ensures.limit (spare_published old mid two (let layout = c.args.layout in layout.heads.items) (heads_of (slots_of c.args.layout)) c.write_heads.ensures.same c.in_ok-publish_root.ensures.published c.publish_root.ensures.limit (named c.args.layout) c.requires.spare)

pub write_heads-requires-clause-sure : goal.write_heads-requires-clause-sure
write_heads-requires-clause-sure g c = λ same. let no : One ≡ Unsure = sym c.requires.shut ∙ same in absurd (cc)

pub close_old-requires : goal.close_old-requires
close_old-requires g c = record { sure = λ same. let no : Both ≡ Unsure = sym c.in_ok-publish_root.ensures.published.standing ∙ same in absurd (cc) }

pub returns-clause-heads : goal.returns-clause-heads
returns-clause-heads g c = ap (λ v. v.items) c.in_ok-close_old.ensures.closed.heads ∙ c.in_ok-publish_root.ensures.published.heads_are ∙ named c.args.layout

pub returns-in_err-publish_root-clause-step : goal.returns-in_err-publish_root-clause-step
returns-in_err-publish_root-clause-step g c = step_on c.in_ok-write_heads.ensures.step (step_fails _ c.from_residual-in_err-publish_root.ensures.0 c.in_err-publish_root.ensures.step (λ e is. tt))

pub returns-in_err-close_old-clause-step : goal.returns-in_err-close_old-clause-step
returns-in_err-close_old-clause-step g c =
    step_on c.in_ok-write_heads.ensures.step (step_on c.in_ok-publish_root.ensures.step (step_fails _ c.from_residual-in_err-close_old.ensures.0 c.in_err-close_old.ensures.step (λ e is. tt)))
