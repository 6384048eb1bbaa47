use Rattle.psu_items.proofs.Standing.{pages_on_disk}
use Rattle.psu_items.proofs.Taking.{shown_back, not_device}
use Rattle.psu_items.proofs.open.take_up.Goals as goal

pub invariant_of-result : goal.invariant_of-result
invariant_of-result g c = record {
  shows = record {
    one = c.in-Ok.ensures.one;
    sorted = c.in-Ok.ensures.sorted;
    holds = λ h. shown_back c.args.pages c.read_back.new.pages c.in-Ok.items c.requires.sure h (c.in-Ok.ensures.shown h) (c.in-Ok.ensures.found h);
  };
  spare = c.in-Ok.ensures.spare;
  confirmed = c.in-Ok.ensures.confirmed;
}

pub returns-in-Ok-clause-represents : goal.returns-in-Ok-clause-represents
returns-in-Ok-clause-represents g c = pages_on_disk c.read_back.new.pages c.in-Ok.items (let kept = invariant_of-result g c in kept.shows)

pub returns-in-Err-clause-quiet : goal.returns-in-Err-clause-quiet
returns-in-Err-clause-quiet g c = λ not. rw c.into_disk.ensures.value (c.in-Err.ensures.quiet (not_device c.in-Err.fault c.unread.result c.unread.ensures not))

pub returns-in-Err-clause-left : goal.returns-in-Err-clause-left
returns-in-Err-clause-left g c = record {
  left = rw c.into_disk.ensures.value c.read_back.ensures.left.left;
  time = rw c.into_disk.ensures.value c.read_back.ensures.left.time;
}

pub unread-requires : goal.unread-requires
unread-requires g c = c.in-Err.ensures.pages

pub read_back-requires-clause-sure : goal.read_back-requires-clause-sure
read_back-requires-clause-sure g c = c.requires.sure
