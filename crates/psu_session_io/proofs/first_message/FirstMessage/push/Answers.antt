use Rattle.std.proofs.Common.{◌≡◌, sym, subst, ap, ◌∙◌, List, [], ◌∷◌, ◌++◌, ℕ, arith}
use Rattle.std.proofs.lemmas.Grind.{common_steps}
use Rattle.psu_hislip.specs.Channel.{Fed}
use Rattle.psu_hislip.specs.Rest.{all_received}
use Rattle.psu_session_io.specs.Opening.{IsFirst}
use Rattle.psu_session_io.proofs.FirstBytes.{fed_once, none, whole}
use Rattle.psu_session_io.proofs.first_message.FirstMessage.push.Goals as goal

pub invariant_of-result : goal.invariant_of-result
invariant_of-result c =
    let are : c.feed.new.messages.items ≡ [] = grind (arith, common_steps, c.in-None.ensures, c.in-None.is) in
    none c.feed.new.messages.items c.feed.new.self c.push.new.self.items are
    (subst (λ (z : List ℕ). Fed c.feed.new.self z (all_received c.feed.new.messages.items)) (sym c.in_ok-push.ensures.items)
    (fed_once _ _ _ _ _ c.new-messages.ensures.items c.in_ok-feed.ensures.fed c.self.inside.bytes.items c.self.invariant))

pub returns-in-Some : goal.returns-in-Some
returns-in-Some c =
    let items : c.push.new.self.items ≡ c.args.self ++ (c.args.byte ∷ []) = c.in_ok-push.ensures.items ∙ ap (λ (z : List ℕ). z ++ (c.args.byte ∷ [])) c.self.view_is in (
      items,
      subst (λ (z : List ℕ). IsFirst c.of.result z) items
          (whole c.feed.new.messages.items _ c.in-Some.message c.of.result c.feed.new.self c.push.new.self.items c.in-Some.ensures.items c.of.ensures
          (subst (λ (z : List ℕ). Fed c.feed.new.self z (all_received c.feed.new.messages.items)) (sym c.in_ok-push.ensures.items)
          (fed_once _ _ _ _ _ c.new-messages.ensures.items c.in_ok-feed.ensures.fed c.self.inside.bytes.items c.self.invariant))),
    )
