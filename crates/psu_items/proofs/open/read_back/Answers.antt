use Rattle.psu_items.proofs.Taking.{encodes_back, follows_back, encodes_run, closes_run}
use Rattle.psu_items.proofs.Sparing.{spare_closed, spare_same}
use Rattle.psu_items.proofs.open.read_back.Goals as goal

pub returns-in_err-close_old-clause-left : goal.returns-in_err-close_old-clause-left
returns-in_err-close_old-clause-left g c = record {
  left = λ h x l.
      let r = c.read_items.ensures in
      encodes_back c.args.pages.now c.read_items.new.pages r.same (r.seen h) x (c.close_old.ensures.left.left h x l);
  time = λ h t.
      let r = c.read_items.ensures in
      encodes_run c.args.pages.now c.read_items.new.pages r.same (let p = c.close_old.new.self in p.disk) (c.args.pages.now.encodes h c.requires.sure) (r.seen h) (r.left.time h t) (c.close_old.ensures.left.time h t);
}

pub returns-clause-left : goal.returns-clause-left
returns-clause-left g c = record {
  left = λ h x l.
      let r = c.read_items.ensures in
      encodes_back c.args.pages.now c.read_items.new.pages r.same (r.seen h) x (c.close_old.ensures.left.left h x l);
  time = λ h t.
      let r = c.read_items.ensures in
      encodes_run c.args.pages.now c.read_items.new.pages r.same (let p = c.close_old.new.self in p.disk) (c.args.pages.now.encodes h c.requires.sure) (r.seen h) (r.left.time h t) (c.close_old.ensures.left.time h t);
}

pub returns-clause-touched : goal.returns-clause-touched
returns-clause-touched g c = record {
  left = λ h.
      let r = c.read_items.ensures in
      follows_back c.args.pages.now c.read_items.new.pages r.same (r.left.left h) (let p = c.close_old.new.self in p.disk) (c.close_old.ensures.touched.left h);
  time = λ h t.
      let r = c.read_items.ensures in
      closes_run c.args.pages.now c.read_items.new.pages r.same (let p = c.close_old.new.self in p.disk) (r.left.left h) (r.left.time h t) (c.close_old.ensures.touched.time h t);
}

pub returns-clause-spare : goal.returns-clause-spare
returns-clause-spare g c =
    let old = c.args.pages.now in
    let mid = c.read_items.new.pages in
    let r = c.read_items.ensures in
    spare_closed mid c.close_old.new.self c.in_ok-close_old.ensures.closed c.close_old.ensures.limit (spare_same old mid r.same c.requires.none_older c.requires.spare)

pub returns-in_err-close_old-clause-touched : goal.returns-in_err-close_old-clause-touched
returns-in_err-close_old-clause-touched g c = record {
  left = λ h.
      let r = c.read_items.ensures in
      follows_back c.args.pages.now c.read_items.new.pages r.same (r.left.left h) (let p = c.close_old.new.self in p.disk) (c.close_old.ensures.touched.left h);
  time = λ h t.
      let r = c.read_items.ensures in
      closes_run c.args.pages.now c.read_items.new.pages r.same (let p = c.close_old.new.self in p.disk) (r.left.left h) (r.left.time h t) (c.close_old.ensures.touched.time h t);
}
