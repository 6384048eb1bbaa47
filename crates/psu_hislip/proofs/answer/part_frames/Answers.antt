use Rattle.psu_hislip.proofs.Cuts.{a_part, a_full_part}
use Rattle.psu_hislip.proofs.Channels.{no_more, some_more}
use Rattle.psu_hislip.proofs.answer.part_frames.Goals as goal

pub returns-then-is_empty : goal.returns-then-is_empty
returns-then-is_empty g c =
    a_full_part c.args.size c.args.id c.args.bytes.now c.in_ok-frames.last.now c.in_ok-frames.frames.items c.requires c.in_ok-frames.ensures
    (no_more c.in_ok-frames.last.now c.is_empty.result c.is_empty.ensures c.if-is_empty.true)

pub returns : goal.returns
returns g c =
    a_part c.args.size c.args.id c.args.bytes.now c.in_ok-frames.last.now c.in_ok-frames.frames.items c.put_frame.new.bytes.items c.requires
    c.in_ok-frames.ensures (some_more c.in_ok-frames.last.now c.is_empty.result c.is_empty.ensures c.if-is_empty.false) c.in_ok-put_frame.ensures
