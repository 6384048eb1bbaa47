use Rattle.psu_pages.specs.Image.{pages_of}
use Rattle.psu_pages.specs.Writing.{Misses}
use Rattle.psu_items.proofs.AfterPool.{misses_after_pool, after_pool_step, after_pool_step_run}
use Rattle.psu_items.proofs.put.write_head.Goals as goal

pub returns-clause-after_pool : goal.returns-clause-after_pool
returns-clause-after_pool g c = record {
  left = λ h.
      let p = c.args.pages.now in
      let head = c.args.head.now in
      let pool = (let is = c.requires.planned in is.pool) in
      after_pool_step g.D.Disk p.limit p.disk (Misses (pages_of head)) (λ x y m. misses_after_pool p.limit (pages_of head) x y pool m) (let n = c.write_new.new.self in n.disk) (c.write_new.ensures.touched.left h);
  time = λ h t.
      let p = c.args.pages.now in
      let head = c.args.head.now in
      let pool = (let is = c.requires.planned in is.pool) in
      after_pool_step_run g.D.Disk p.limit p.disk (Misses (pages_of head)) (λ x y m. misses_after_pool p.limit (pages_of head) x y pool m) (let n = c.write_new.new.self in n.disk) (c.write_new.ensures.touched.time h t);
}
