use Rattle.psu_hislip.proofs.Cuts.{cut_piece}
use Rattle.std.proofs.Common.{[], ◌∷◌, ◌++◌, take}
use Rattle.psu_hislip.proofs.answer.cut.Goals as goal

pub loop-rest-preserved : goal.loop-rest-preserved
loop-rest-preserved g c =
    let rest = c.loop-rest.rest.now in (
      c.loop-rest.invariant.0 ++ take c.args.size rest ∷ [],
      cut_piece c.args.size c.args.id c.args.bytes.now rest c.loop-rest.frames.items c.put_frame.new.bytes.items c.loop-rest.invariant.0 c.loop-rest.invariant.1 c.loop-rest-test.true c.in_ok-put_frame.ensures,
    )
