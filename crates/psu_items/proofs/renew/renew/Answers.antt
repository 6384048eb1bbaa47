use Rattle.std.proofs.Common.{inl, List, sym, subst}
use Rattle.psu_map.specs.Map.{IsSorted}
use Rattle.psu_map.specs.Capacity.{CanHold}
use Rattle.psu_map.specs.Batch.{changed}
use Rattle.psu_disk.specs.Steps.{step_ok, step_err}
use Rattle.psu_items.specs.Standing.{ShowsMap}
use Rattle.psu_items.specs.Layout.{slots_of, IsOneOf}
use Rattle.psu_map.specs.Target.{aimed}
use Rattle.psu_pages.specs.Image.{Head}
use Rattle.psu_map.proofs.Maps.{sorted-changed}
use Rattle.psu_items.proofs.Standing.{pages_as}
use Rattle.psu_items.proofs.Laying.{slots_planned}
use Rattle.psu_items.proofs.Roster.{slots_sized, slots_claimed, slots_roster, slots_stand}
use Rattle.psu_items.proofs.Committing.{none_run, still_shows, either_back, time_back, after_pool_back, after_pool_time_back}
use Rattle.psu_items.proofs.Sparing.{laid_spare}
use Rattle.psu_items.proofs.AfterPool.{after_pool_none, after_pool_still}
use Rattle.psu_items.proofs.renew.renew.Goals as goal

pub returns-in_default-clause-left : goal.returns-in_default-clause-left
returns-in_default-clause-left g c = record {
  left = λ h x l. inl (pages_as c.args.pages.now c.args.before.now c.requires.keeps.shows h x l);
  time = λ h t.
      let p = c.args.pages.now in
      none_run p c.args.before.now (changed c.args.before.now c.args.batch.now) c.requires.keeps.shows h (g.met.D.Disk.only_now t p.disk);
}

pub returns-in_default-lay_out-clause-same : goal.returns-in_default-lay_out-clause-same
returns-in_default-lay_out-clause-same g c = λ memory.
    (c.lay_out.ensures.roots, record { shows = still_shows c.args.pages.now c.lay_out.new.pages c.lay_out.ensures.roots c.args.before.now c.requires.keeps.shows; spare = c.in_default-lay_out.ensures.spare; confirmed = rw c.lay_out.ensures.roots.disk c.requires.keeps.confirmed })

pub returns-in_default-lay_out-clause-left : goal.returns-in_default-lay_out-clause-left
returns-in_default-lay_out-clause-left g c = record {
  left = rw c.lay_out.ensures.roots.disk (λ h x l. inl (pages_as c.args.pages.now c.args.before.now c.requires.keeps.shows h x l));
  time = λ h t.
      let p = c.args.pages.now in
      rw c.lay_out.ensures.roots.disk (none_run p c.args.before.now (changed c.args.before.now c.args.batch.now) c.requires.keeps.shows h (g.met.D.Disk.only_now t p.disk));
}

pub put-requires-clause-planned : goal.put-requires-clause-planned
put-requires-clause-planned g c = let t = c.in-Ok.target in slots_planned c.lay_out.new.pages t.before (aimed t) (aimed t) (slots_of c.in-Ok-lay_out.layout) c.in-Ok-lay_out.ensures.laid

pub put-requires-clause-sized : goal.put-requires-clause-sized
put-requires-clause-sized g c = let t = c.in-Ok.target in slots_sized c.lay_out.new.pages t.before (aimed t) (slots_of c.in-Ok-lay_out.layout) c.in-Ok-lay_out.ensures.laid

pub put-requires-clause-roster : goal.put-requires-clause-roster
put-requires-clause-roster g c =
    let t = c.in-Ok.target in
    let p = c.args.pages.now in
    let can : CanHold p.limit (aimed t) = subst (CanHold p.limit) (sym c.in-Ok.ensures.aimed) c.requires.can in
    slots_roster c.lay_out.new.pages t.before (aimed t) (slots_of c.in-Ok-lay_out.layout) c.in-Ok-lay_out.ensures.laid p.limit c.lay_out.ensures.roots.limit can
    (subst IsSorted (sym c.in-Ok.ensures.aimed) (sorted-changed c.args.before.now c.args.batch.now c.requires.keeps.shows.sorted))

pub put-requires-clause-claimed : goal.put-requires-clause-claimed
put-requires-clause-claimed g c = let t = c.in-Ok.target in slots_claimed c.lay_out.new.pages t.before (aimed t) (slots_of c.in-Ok-lay_out.layout) c.in-Ok-lay_out.ensures.laid

pub put-requires-clause-spare : goal.put-requires-clause-spare
put-requires-clause-spare g c = laid_spare c.args.pages.now c.lay_out.new.pages c.lay_out.ensures.roots (slots_of c.in-Ok-lay_out.layout) c.in-Ok-lay_out.ensures.claims c.requires.keeps.spare

pub put-requires-clause-kept : goal.put-requires-clause-kept
put-requires-clause-kept g c =
    let t = c.in-Ok.target in
    slots_stand c.lay_out.new.pages t.before (aimed t) (slots_of c.in-Ok-lay_out.layout) c.in-Ok-lay_out.ensures.laid
    (subst (ShowsMap c.lay_out.new.pages) (sym c.in-Ok.ensures.before) (still_shows c.args.pages.now c.lay_out.new.pages c.lay_out.ensures.roots c.args.before.now c.requires.keeps.shows))

pub returns-in-Ok-put-clause-keeps : goal.returns-in-Ok-put-clause-keeps
returns-in-Ok-put-clause-keeps g c = record { shows = subst (ShowsMap c.put.new.pages) c.in-Ok.ensures.aimed c.in-Ok-put.ensures.shows; spare = c.in-Ok-put.ensures.spare; confirmed = c.in-Ok-put.ensures.confirmed }

pub returns-in-Ok-put-clause-left : goal.returns-in-Ok-put-clause-left
returns-in-Ok-put-clause-left g c = record {
  left = λ h x l.
      let p = c.args.pages.now in
      let m = c.args.before.now in
      either_back p c.lay_out.new.pages c.lay_out.ensures.roots m (aimed c.in-Ok.target) (changed m c.args.batch.now) c.in-Ok.ensures.aimed x
      ((c.put.ensures.left m (still_shows p c.lay_out.new.pages c.lay_out.ensures.roots m c.requires.keeps.shows)).left h x l);
  time = λ h t.
      let p = c.args.pages.now in
      let m = c.args.before.now in
      time_back p c.lay_out.new.pages c.lay_out.ensures.roots m (aimed c.in-Ok.target) (changed m c.args.batch.now) c.in-Ok.ensures.aimed (let last = c.put.new.pages in last.disk)
      ((c.put.ensures.left m (still_shows p c.lay_out.new.pages c.lay_out.ensures.roots m c.requires.keeps.shows)).time h t);
}

pub returns-in-Ok-put-clause-after_pool : goal.returns-in-Ok-put-clause-after_pool
returns-in-Ok-put-clause-after_pool g c = record {
  left = λ h. after_pool_back c.args.pages.now c.lay_out.new.pages c.lay_out.ensures.roots (let last = c.put.new.pages in last.disk) (c.put.ensures.after_pool.left h);
  time = λ h t. after_pool_time_back c.args.pages.now c.lay_out.new.pages c.lay_out.ensures.roots (let last = c.put.new.pages in last.disk) (c.put.ensures.after_pool.time h t);
}

pub returns-clause-left : goal.returns-clause-left
returns-clause-left g c = record {
  left = λ h x l.
      let p = c.args.pages.now in
      let m = c.args.before.now in
      either_back p c.lay_out.new.pages c.lay_out.ensures.roots m (aimed c.in-Ok.target) (changed m c.args.batch.now) c.in-Ok.ensures.aimed x
      ((c.put.ensures.left m (still_shows p c.lay_out.new.pages c.lay_out.ensures.roots m c.requires.keeps.shows)).left h x l);
  time = λ h t.
      let p = c.args.pages.now in
      let m = c.args.before.now in
      time_back p c.lay_out.new.pages c.lay_out.ensures.roots m (aimed c.in-Ok.target) (changed m c.args.batch.now) c.in-Ok.ensures.aimed (let last = c.put.new.pages in last.disk)
      ((c.put.ensures.left m (still_shows p c.lay_out.new.pages c.lay_out.ensures.roots m c.requires.keeps.shows)).time h t);
}

pub returns-clause-after_pool : goal.returns-clause-after_pool
returns-clause-after_pool g c = record {
  left = λ h. after_pool_back c.args.pages.now c.lay_out.new.pages c.lay_out.ensures.roots (let last = c.put.new.pages in last.disk) (c.put.ensures.after_pool.left h);
  time = λ h t. after_pool_time_back c.args.pages.now c.lay_out.new.pages c.lay_out.ensures.roots (let last = c.put.new.pages in last.disk) (c.put.ensures.after_pool.time h t);
}

pub returns-in-Ok-put-clause-heads : goal.returns-in-Ok-put-clause-heads
returns-in-Ok-put-clause-heads g c = λ head value one had keeps size.
    subst (λ (hs : List Head). IsOneOf hs head) (sym c.in-Ok-put.ensures.heads) (c.in-Ok-lay_out.ensures.standing head value one (c.in-Ok.ensures.standing head.key value had keeps) size)

pub returns-in_default-clause-after_pool : goal.returns-in_default-clause-after_pool
returns-in_default-clause-after_pool g c = record {
  left = λ h x l. let p = c.args.pages.now in after_pool_none g.D.Disk p.limit p.disk x l;
  time = λ h t. let p = c.args.pages.now in after_pool_still g.D.Disk p.limit p.disk (g.met.D.Disk.only_now t p.disk);
}

pub returns-in_default-lay_out-clause-after_pool : goal.returns-in_default-lay_out-clause-after_pool
returns-in_default-lay_out-clause-after_pool g c = record {
  left = λ h. let p = c.args.pages.now in rw c.lay_out.ensures.roots.disk (λ x l. after_pool_none g.D.Disk p.limit p.disk x l);
  time = λ h t. let p = c.args.pages.now in rw c.lay_out.ensures.roots.disk (after_pool_still g.D.Disk p.limit p.disk (g.met.D.Disk.only_now t p.disk));
}

pub returns-in-Ok-put-clause-step : goal.returns-in-Ok-put-clause-step
returns-in-Ok-put-clause-step g c = rw (← c.lay_out.ensures.roots.disk) (step_ok c.in-Ok-put.ensures.step)

pub returns-clause-step : goal.returns-clause-step
returns-clause-step g c = rw (← c.lay_out.ensures.roots.disk) (step_err c.in-Err.ensures.step (λ is. tt))
