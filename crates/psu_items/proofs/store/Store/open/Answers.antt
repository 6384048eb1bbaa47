use Rattle.std.proofs.Common.{inr, refl}
use Rattle.psu_disk.specs.Moments.{weaken}
use Rattle.psu_disk.specs.Steps.{step_on}
use Rattle.psu_items.specs.Image.{Represents}
use Rattle.psu_items.specs.Finding.{IsOldOrSame}
use Rattle.psu_items.specs.Outcome.{opened_disk}
use Rattle.psu_items.proofs.Opening.{err_any, readable, closed, closed_run, still_represents, pages_refused}
use Rattle.psu_items.proofs.Opened.{found_represented, found_number, found_version, found_one}
use Rattle.psu_items.proofs.store.Store.open.Goals as goal

pub returns-in-Ok-clause-represented : goal.returns-in-Ok-clause-represented
returns-in-Ok-clause-represented g c = λ h. found_represented c.in-Ok.pages (g.D.Disk.state c.args.disk).bytes (c.in-Ok.ensures.found h) (c.in-Ok.ensures.seen h) c.take_up.result c.take_up.ensures.words c.take_up.ensures.sorted (c.take_up.ensures.found h)

pub returns-in-Ok-clause-number : goal.returns-in-Ok-clause-number
returns-in-Ok-clause-number g c = λ h. found_number c.in-Ok.pages (g.D.Disk.state c.args.disk).bytes (c.in-Ok.ensures.found h) c.take_up.result c.take_up.ensures.words

pub returns-in-Ok-clause-version : goal.returns-in-Ok-clause-version
returns-in-Ok-clause-version g c = λ h. found_version c.in-Ok.pages (g.D.Disk.state c.args.disk).bytes (c.in-Ok.ensures.found h) c.take_up.result c.take_up.ensures.words

pub returns-in-Ok-clause-memory : goal.returns-in-Ok-clause-memory
returns-in-Ok-clause-memory g c = λ h.
    let p = c.in-Ok.pages in
    err_any c.take_up.result _ (λ e is. readable p.root p.version p.limit p.number p.heads.items (g.D.Disk.state c.args.disk).bytes (c.in-Ok.ensures.found h))

pub returns-in-Ok-clause-images : goal.returns-in-Ok-clause-images
returns-in-Ok-clause-images g c = record {
  left = λ h x l. inr (closed c.in-Ok.pages (g.D.Disk.state c.args.disk).bytes (c.in-Ok.ensures.found h) (c.in-Ok.ensures.seen h) (c.in-Ok.ensures.synced h) x (c.take_up.ensures.left.left h x l) (c.take_up.ensures.touched.left h x l));
  time = λ h t.
      let old = g.D.Disk.state c.args.disk in
      closed_run c.in-Ok.pages old.bytes (c.in-Ok.ensures.found h) (c.in-Ok.ensures.seen h) (c.in-Ok.ensures.synced h) old c.args.disk (opened_disk c.take_up.result) refl (c.in-Ok.ensures.left.time h t) (c.take_up.ensures.left.time h t) (c.take_up.ensures.touched.time h t);
}

pub returns-in-Ok-clause-finds : goal.returns-in-Ok-clause-finds
returns-in-Ok-clause-finds g c = λ h limit m all. found_one (g.D.Disk.state c.args.disk) limit m all c.take_up.result (returns-in-Ok-clause-represented g c h)

pub returns-in-Ok-clause-left : goal.returns-in-Ok-clause-left
returns-in-Ok-clause-left g c = λ limit m all.
    let d = g.D.Disk in
    let images = returns-in-Ok-clause-images g c in
    let represents = still_represents (d.state c.args.disk) limit m all in
    record {
      left = λ h x l. represents x (images.left h x l);
      time = λ h t. weaken d.moment d.left_since c.args.disk (opened_disk c.take_up.result) (IsOldOrSame (d.state c.args.disk)) (λ x. Represents x limit m) (images.time h t) represents;
    }

pub returns-in-Err-clause-refused : goal.returns-in-Err-clause-refused
returns-in-Err-clause-refused g c = λ h. pages_refused (g.D.Disk.state c.args.disk).bytes c.in-Err.refused.cause (c.in-Err.ensures.refused h)

pub returns-in-Ok-clause-quiet : goal.returns-in-Ok-clause-quiet
returns-in-Ok-clause-quiet g c = rw (← c.in-Ok.ensures.step.works) c.take_up.ensures.quiet

pub returns-in-Ok-clause-untouched : goal.returns-in-Ok-clause-untouched
returns-in-Ok-clause-untouched g c = λ h. rw (← c.in-Ok.ensures.seen h) (c.take_up.ensures.untouched h)

pub returns-in-Ok-clause-step : goal.returns-in-Ok-clause-step
returns-in-Ok-clause-step g c = step_on c.in-Ok.ensures.step c.take_up.ensures.step
