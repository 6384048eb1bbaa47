-- Which transmissions are executed, and which are not any more.
use Rattle.std.proofs.Common.{◌≡◌, ℕ, ◌<◌, ◌^◌, true, All, Option, Some, None, List, [], ◌∷◌, ◌++◌, length, refl, sym, ap, ◌∙◌, subst, append_assoc, length-append, arith}
use Rattle.std.specs.Prelude.{flat_map, map}
use Rattle.std.proofs.lemmas.List.Concat.{flat_map-append}
use Rattle.std.proofs.lemmas.List.Folds.{flat_map-map}
use Rattle.psu_hislip.specs.Action.{Act}
use Rattle.psu_hislip.specs.Core.{IsCurrent}
use Rattle.psu_hislip.specs.Runs.{Arrival, actions_of, begins_clear, clears_in, core_after, origins, started}
use Rattle.psu_hislip.specs.Stream.{IsStream, Received}
use Rattle.psu_hislip.specs.Transmitted.{action_text, transmissions}
use Rattle.psu_hislip.specs.declared.action.Origin.{Origin}
use Rattle.psu_hislip.specs.declared.side.Side.TheVariants.{Sync, Async}
use Rattle.psu_messages.specs.Effects.{Effect}
use Rattle.psu_session_laws.specs.Answered.{AreTheStreams, text_in}
use Rattle.psu_session_laws.specs.Exchange.{IsExchange, acts_requested}
use Rattle.psu_session.specs.Orders.{Order, Turn, order_in}
use Rattle.psu_session_laws.specs.Exchanged.{ExchangeEvent, Came, Did, came, came_on, arrivals_in}

-- ---- the client's transmissions

abbrev pub text_of : Order → List (Option (List ℕ))
text_of order = text_in order.source

texts : (acts : List Act) → flat_map text_of (flat_map order_in acts) ≡ map action_text (transmissions acts)
texts [] = refl
texts (Act.Send side bytes ∷ acts) = texts acts
texts (Act.Execute o bytes ∷ acts) = ap (λ (z : List (Option (List ℕ))). Some bytes ∷ z) (texts acts)
texts (Act.TooMuch o ∷ acts) = ap (λ (z : List (Option (List ℕ))). None ∷ z) (texts acts)
texts (Act.Trigger o ∷ acts) = texts acts
texts (Act.Delivered ∷ acts) = texts acts
texts (Act.Status d ∷ acts) = texts acts
texts (Act.Lock timeout string ∷ acts) = texts acts
texts (Act.Release ∷ acts) = texts acts
texts (Act.Info ∷ acts) = texts acts
texts (Act.Clear ∷ acts) = texts acts
texts (Act.Closed ∷ acts) = texts acts

-- what was executed are the first of the transmissions that were requested
pub texts_executed : (session : ℕ) (sync async : List ℕ) (history : List ExchangeEvent) (turns : List Turn) → (x : IsExchange session sync async history turns)
    → map action_text (transmissions (acts_requested session history)) ≡ flat_map (λ (turn : Turn). text_in turn.order.source) turns ++ flat_map text_of x.waiting
texts_executed session sync async history turns x =
    sym (texts (acts_requested session history)) ∙ ap (λ (z : List Order). flat_map text_of z) x.in_order
    ∙ flat_map-append text_of (map (λ (turn : Turn). turn.order) turns) x.waiting
    ∙ ap (λ (z : List (Option (List ℕ))). z ++ flat_map text_of x.waiting) (flat_map-map text_of (λ (turn : Turn). turn.order) turns)

-- ---- device clears

abbrev pub NoAnswerOfBefore : Type 0
NoAnswerOfBefore = (session : ℕ) (before later : List Arrival) → 0 < clears_in later → length (before ++ later) < 2 ^ 64
    → All (λ o. IsCurrent (core_after (started session) (before ++ later)) o → ⊥) (origins (actions_of (started session) before))

some_clear : (t : Arrival) (later : List Arrival) → begins_clear t ≡ true → 0 < clears_in (t ∷ later)
some_clear t later e = rw e (omega arith)

pub none_of_before : NoAnswerOfBefore → (session : ℕ) (sync async : List ℕ) (history : List ExchangeEvent) (turns : List Turn) → IsExchange session sync async history turns → length (came history) < 2 ^ 64
    → (before between after : List ExchangeEvent) (clear : Received) (origin : Origin) (effect : Effect) (frames : List ℕ)
    → history ≡ before ++ Came Async clear ∷ (between ++ Did origin effect frames ∷ after) → begins_clear (record { side = Async; message = clear }) ≡ true
    → All (λ (o : Origin). o ≡ origin → ⊥) (origins (acts_requested session before))
none_of_before law session sync async history turns x few before between after clear origin effect frames is begins =
    let t : Arrival = record { side = Async; message = clear } in
    let start : List ExchangeEvent = before ++ Came Async clear ∷ between in
    let split : history ≡ start ++ Did origin effect frames ∷ after = is ∙ sym (append_assoc before (Came Async clear ∷ between) (Did origin effect frames ∷ after)) in
    let heard : came start ≡ came before ++ t ∷ came between = flat_map-append arrivals_in before (Came Async clear ∷ between) in
    let long : came history ≡ came start ++ came (Did origin effect frames ∷ after) = ap came split ∙ flat_map-append arrivals_in start (Did origin effect frames ∷ after) in
    let short : length (came before ++ t ∷ came between) < 2 ^ 64
    = subst (λ (z : List Arrival). length z < 2 ^ 64) heard (omega (arith, few, ap length long, length-append (came start) (came (Did origin effect frames ∷ after)))) in
    let current : IsCurrent (core_after (started session) (came before ++ t ∷ came between)) origin
    = subst (λ (z : List Arrival). IsCurrent (core_after (started session) z) origin) heard (x.done start after origin effect frames split).current in
    λ k d h same. law session (came before) (t ∷ came between) (some_clear t (came between) begins) short k d h
    (subst (λ (o : Origin). IsCurrent (core_after (started session) (came before ++ t ∷ came between)) o) (sym same) current)

-- ---- the client's bytes

abbrev pub OneDivision : Type 0
OneDivision = (stream : List ℕ) (messages others : List Received) → IsStream stream messages → IsStream stream others → messages ≡ others

pub the_streams : OneDivision → (session : ℕ) (sync async : List ℕ) (history : List ExchangeEvent) (turns : List Turn) → IsExchange session sync async history turns → AreTheStreams sync async history
the_streams one session sync async history turns x = record {
  on_sync = λ messages s. (x.first, one sync messages (x.first ∷ came_on Sync history) s x.sync_messages);
  on_async = λ messages s. one async messages (came_on Async history) s x.async_messages;
}
