use Rattle.psu_hislip.proofs.Cuts.{an_answer}
use Rattle.psu_hislip.proofs.answer.answer_frames.Goals as goal

pub returns : goal.returns
returns g c =
    an_answer c.args.size c.args.id c.args.bytes.now c.in_ok-frames.last.now c.in_ok-frames.frames.items c.put_frame.new.bytes.items
    c.in_ok-frames.ensures c.in_ok-put_frame.ensures
