use Rattle.std.proofs.Common.{ap}
use Rattle.psu_hislip.specs.Rest.{awaited}
use Rattle.psu_hislip.proofs.Channels.{cut_none, cut_message, cut_no_message, cut_whole_piece, no_more}
use Rattle.psu_hislip.proofs.decoded.decode.Goals as goal
use Rattle.psu_hislip.proofs.decoded.decode.Goals.{in-Some+in_ok-push_back, in_default}

pub loop-left-init : goal.loop-left-init
loop-left-init g c = record { good = c.requires; so_far = cut_none c.args.messages.now.items (awaited c.args.rest) c.args.piece.now }

pub loop-left-preserved : goal.loop-left-preserved
loop-left-preserved g c =
    let step = c.in_ok-used.field-0 in
    let before = c.args.messages.now.items in
    let mid = c.loop-left.messages.items in
    let old = awaited c.args.rest in
    let now = awaited c.loop-left.rest in
    let next = awaited step.rest in
    record {
      good = c.in_ok-used.ensures.rest;
      so_far = elim c.match-message.branch [
        | in-Some+in_ok-push_back w ↦ cut_message before mid w.push_back.new.self.items c.match-message.messages.items step.message w.in-Some.message old now next c.args.piece.now c.loop-left.left.now step.used
            c.loop-left.invariant.so_far c.in_ok-used.ensures.moves w.in-Some.is (ap (λ z. z.items) w.messages-is) w.in_ok-push_back.ensures.items
        | in_default w ↦ cut_no_message before mid c.match-message.messages.items step.message old now next c.args.piece.now c.loop-left.left.now step.used
            c.loop-left.invariant.so_far c.in_ok-used.ensures.moves w.in_default.is (ap (λ z. z.items) w.messages-is)
      ];
    }

pub returns-clause-messages : goal.returns-clause-messages
returns-clause-messages g c =
    cut_whole_piece c.args.messages.now.items c.loop-left.messages.items (awaited c.args.rest) (awaited c.loop-left.rest) c.args.piece.now c.loop-left.left.now
    c.loop-left.invariant.so_far (no_more c.loop-left.left.now c.is_empty.result c.is_empty.ensures c.loop-left-test.false)
