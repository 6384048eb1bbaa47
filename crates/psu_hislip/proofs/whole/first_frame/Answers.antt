use Rattle.std.proofs.Common.{arith}
use Rattle.psu_hislip.proofs.Channels.{frame_bytes_are}
use Rattle.psu_hislip.proofs.whole.first_frame.Goals as goal

pub returns : goal.returns
returns c =
    let h = c.in_ok-header.header in
    let cases = c.in_ok-head.ensures.cases in (
      c.in_ok-header.ensures.fits,
      frame_bytes_are h c.args.bytes.now c.in_ok-head.head.now c.in_ok-head.after.now c.split_at.result.0.now c.split_at.result.1.now
          c.in_ok-header.ensures.bytes cases.0 cases.1 c.split_at.ensures.by_index.0,
      c.split_at.ensures.front_len,
      omega arith,
    )
