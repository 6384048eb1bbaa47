use Rattle.std.proofs.Common.{List, ℕ, ap}
use Rattle.psu_hislip.specs.Stream.Received.{Frame}
use Rattle.psu_hislip.specs.declared.message.Message.TheVariants as message
use Rattle.psu_hislip.proofs.Channels.{cut_frame, frame_shorter}
use Rattle.psu_hislip.proofs.whole.take_frames.Goals as goal

pub loop-header-smaller : goal.loop-header-smaller
loop-header-smaller g c = frame_shorter c.in-Some.header c.in-Some.payload.now c.loop-header.left.now c.in-Some.after.now c.in-Some.ensures

pub loop-header-preserved : goal.loop-header-preserved
loop-header-preserved g c =
    let h = c.in-Some.header in
    let frame = message.Frame h c.in_ok-payload.payload in
    record {
      so_far = cut_frame c.args.messages.now.items c.loop-header.messages.items c.push_back.new.self.items frame h c.in-Some.payload.now c.args.piece.now
          c.loop-header.left.now c.in-Some.after.now c.loop-header.invariant.so_far c.in-Some.ensures
          (ap (λ (z : List ℕ). Frame h z) c.in_ok-payload.ensures.items) c.in_ok-push_back.ensures.items;
    }
