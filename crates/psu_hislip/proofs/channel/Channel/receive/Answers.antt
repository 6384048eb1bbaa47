use Rattle.std.proofs.Common.{◌≡◌, [], sym, subst, ◌∙◌, rules}
use Rattle.std.proofs.lemmas.Result.{IfOk-weaker}
use Rattle.psu_hislip.specs.Channel.{Awaited}
use Rattle.psu_hislip.specs.Channel.Awaited.{Partial}
use Rattle.psu_hislip.specs.Rest.{IsFedBy}
use Rattle.psu_hislip.proofs.Channels.{cut_whole_piece, fed_cut, fed_none, fed_then, no_more}
use Rattle.psu_hislip.proofs.channel.Channel.receive.Goals as goal

pub returns-then-is_empty-clause-fed : goal.returns-then-is_empty-clause-fed
returns-then-is_empty-clause-fed g c =
    let piece = c.args.piece.now in
    let left = c.in_ok-left.left.now in
    let before = c.args.messages.now.items in
    let after = c.take_frames.new.messages.items in
    let begins : Partial [] ≡ c.args.self.now = sym (c.is_empty.ensures (search rules)) ∙ c.self.view_is in
    let cut = cut_whole_piece before after (Partial []) (Partial []) piece left c.in_ok-left.ensures.frames (no_more left c.is_empty-2.result c.is_empty-2.ensures c.if-is_empty.true) in
    subst (λ (z : Awaited). IsFedBy z piece z before after) begins (fed_cut (Partial []) (Partial []) before after piece fed_none.0 cut)

pub returns-clause-fed : goal.returns-clause-fed
returns-clause-fed g c =
    let piece = c.args.piece.now in
    let left = c.in_ok-left.left.now in
    let old = c.args.self.now in
    let new = c.receive_in_steps-2.new.self in
    let before = c.args.messages.now.items in
    let mid = c.take_frames.new.messages.items in
    let after = c.receive_in_steps-2.new.messages.items in
    let begins : Partial [] ≡ old = sym (c.is_empty.ensures (search rules)) ∙ c.self.view_is in
    let frames = c.in_ok-left.ensures.frames in
    let first = subst (λ (z : Awaited). IsFedBy z frames.0 z before mid) begins (fed_cut (Partial []) (Partial []) before mid frames.0 fed_none.0 frames.2) in
    IfOk-weaker c.receive_in_steps-2.result (λ _. IsFedBy old left new mid after) (λ _. IsFedBy old piece new before after)
    (λ _ then. fed_then old old new frames.0 left piece before mid after frames.1 first then) c.receive_in_steps-2.ensures.fed
