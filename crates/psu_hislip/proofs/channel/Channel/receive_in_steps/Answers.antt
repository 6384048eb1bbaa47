use Rattle.std.proofs.Common.{ℕ, ◌-◌, ◌++◌, slice_set, List, refl, sym, subst, ap, ◌∙◌, arith, length-append}
use Rattle.psu_hislip.specs.Channel.{Awaited}
use Rattle.psu_hislip.specs.Header.{header_bytes}
use Rattle.psu_hislip.specs.Channel.Awaited.{Partial}
use Rattle.psu_hislip.specs.Rest.{awaited, IsFedBy}
use Rattle.psu_hislip.specs.Stream.Received.{Frame}
use Rattle.psu_hislip.specs.declared.message.Message.TheVariants as message
use Rattle.psu_hislip.proofs.Channels.{fed_cut, fed_part, fed_whole, settled, payload_awaited, payload_rest}
use Rattle.psu_hislip.proofs.channel.Channel.receive_in_steps.Goals as goal

pub returns-in-Some-clause-fed : goal.returns-in-Some-clause-fed
returns-in-Some-clause-fed g c =
    let next = c.in_ok-self-inside.field-0 in
    let before = c.args.messages.now.items in
    let after = c.decode.new.messages.items in
    let piece = c.args.piece.now in
    subst (λ (z : Awaited). IsFedBy z piece (awaited next) before after) (c.in-Some.ensures.same ∙ c.self.view_is)
    (fed_cut (awaited c.in-Some.rest) (awaited next) before after piece (settled next c.in_ok-self-inside.ensures.rest) c.in_ok-self-inside.ensures.messages)

pub returns-then-piece-wanted-clause-fed : goal.returns-then-piece-wanted-clause-fed
returns-then-piece-wanted-clause-fed g c =
    let h = c.in-Payload.header in
    let p = c.in-Payload.payload in
    let piece = c.args.piece.now in
    let next = c.extend_from_slice.new.self.items in
    let messages = c.args.messages.now.items in
    let good = payload_rest c.self.inside.rest h p c.in-Payload.is c.self.invariant in
    subst (λ (z : Awaited). IsFedBy z piece (Partial (header_bytes h ++ next)) messages messages)
    (sym (payload_awaited c.self.inside.rest h p c.args.self.now c.in-Payload.is c.self.view_is))
    (fed_part h p.items piece next messages c.in_ok-extend_from_slice.ensures.items good.0
    (omega (arith, length-append p.items piece, c.if-piece-wanted.true, c.len.ensures, good.1)) good.2)

pub returns-clause-fed : goal.returns-clause-fed
returns-clause-fed g c =
    let h = c.in-Payload.header in
    let p = c.in-Payload.payload in
    let piece = c.args.piece.now in
    let next = c.in_ok-rest.rest in
    let before = c.args.messages.now.items in
    let place = c.len-place.result in
    let frame = message.Frame h c.replace-payload.result in
    let after = slice_set c.decode-2.new.messages.items place frame in
    let good = payload_rest c.self.inside.rest h p c.in-Payload.is c.self.invariant in
    let whole = ap (λ z. Frame h z.items) c.replace-payload.ensures.value ∙ ap (λ (z : List ℕ). Frame h z) c.in_ok-extend_from_slice-2.ensures.items in
    subst (λ (z : Awaited). IsFedBy z piece (awaited next) before after)
    (sym (payload_awaited c.self.inside.rest h p c.args.self.now c.in-Payload.is c.self.view_is))
    (fed_whole h p.items piece (h.length - c.len.result) (awaited next) c.new-2.result.items before c.push_back.new.self.items c.decode-2.new.messages.items after
    place _ frame c.new-2.ensures (c.len-place.ensures ∙ c.args.messages.now.ok.0) c.in_ok-push_back.ensures.items c.in_ok-rest.ensures.messages refl whole
    good.0 good.1 good.2 (omega (arith, c.len.ensures)) c.if-piece-wanted.false (settled next c.in_ok-rest.ensures.rest))

pub returns-clause-appended : goal.returns-clause-appended
returns-clause-appended g c = let f = returns-clause-fed g c in (f.0, f.1)
