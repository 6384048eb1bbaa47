-- The events of a session, transmission by transmission.
use Rattle.std.proofs.Common.{◌≡◌, ℕ, suc, ◌<◌, All, Option, Some, None, List, [], ◌∷◌, ◌++◌, refl, sym, ap, ◌∙◌, subst, append_assoc, inl, inr, arith}
use Rattle.std.specs.Prelude.{flat_map, map}
use Rattle.std.proofs.lemmas.List.Concat.{flat_map-append}
use Rattle.std.proofs.lemmas.List.Elements.{All-cons, All-nil}
use Rattle.psu_hislip.specs.Answer.{answer_size}
use Rattle.psu_hislip.specs.declared.action.Origin.{Origin}
use Rattle.psu_messages.specs.Executions.{Reaches}
use Rattle.psu_messages.specs.Messages.{OverIsMessages, SoFarIsMessages}
use Rattle.psu_session_laws.specs.Answered.{EachIsWholeOrEnded, IsAnswered, TakesAtMost, Weaves, pieces}
use Rattle.psu_session_laws.specs.Answered.Weaves.{Nothing, Reply, Piece}
use Rattle.psu_session.specs.Orders.{Done, Turn, effects}
use Rattle.psu_session_laws.specs.Exchange.{EachEnds, EachIsDone, IsExchange, core_at, happened}
use Rattle.psu_session_laws.specs.Exchanged.{ExchangeEvent, Came, Replied, Did, executions, replied, written}
use Rattle.psu_session_laws.proofs.Framing.{EachFits, Fits, PartsAreAnAnswer}
use Rattle.psu_session_laws.proofs.AnsweredMessages.{answered_turn}

-- ---- frames of what was done

-- what was done is sent in payloads of at most some size
abbrev pub AllFit : ℕ → List ExchangeEvent → Type 0
AllFit greatest [] = Unit {0}
AllFit greatest (Came side message ∷ history) = AllFit greatest history
AllFit greatest (Replied out ∷ history) = AllFit greatest history
AllFit greatest (Did origin effect out ∷ history) = Fits greatest origin.id effect out × AllFit greatest history

some_size : (size : Option ℕ) → 0 < answer_size size
some_size None = omega arith
some_size (Some size) = omega arith

all_fit : (session greatest : ℕ) (history : List ExchangeEvent) → EachIsDone session history → TakesAtMost greatest session history → (before after : List ExchangeEvent) → history ≡ before ++ after → AllFit greatest (executions after)
all_fit session greatest history each most before [] is = tt
all_fit session greatest history each most before (Came side message ∷ after) is =
    all_fit session greatest history each most (before ++ Came side message ∷ []) after (is ∙ sym (append_assoc before (Came side message ∷ []) after))
all_fit session greatest history each most before (Replied out ∷ after) is =
    all_fit session greatest history each most (before ++ Replied out ∷ []) after (is ∙ sym (append_assoc before (Replied out ∷ []) after))
all_fit session greatest history each most before (Did origin effect out ∷ after) is =
    let size = (core_at session before).size in (
      record { size = answer_size size; some = some_size size; small = most before after origin effect out is; framed = (each before after origin effect out is).framed },
      all_fit session greatest history each most (before ++ Did origin effect out ∷ []) after (is ∙ sym (append_assoc before (Did origin effect out ∷ []) after)),
    )

-- ---- turns

turn_fits : (greatest : ℕ) (origin : Origin) (done : List Done) (later : List ExchangeEvent) → AllFit greatest (map (λ (d : Done). Did origin d.effect d.frames) done ++ later)
    → EachFits greatest origin.id done × AllFit greatest later
turn_fits greatest origin [] later f = (tt, f)
turn_fits greatest origin (d ∷ done) later f = let rest = turn_fits greatest origin done later f.1 in ((f.0, rest.0), rest.1)

pub each_answered : PartsAreAnAnswer → OverIsMessages → SoFarIsMessages → (greatest : ℕ) (turns : List Turn) → AllFit greatest (flat_map happened turns)
    → All (λ (turn : Turn). Reaches turn.order.source (effects turn.done) turn.progress) turns → All (IsAnswered greatest) turns
each_answered law over so_far greatest [] f comes = All-nil (IsAnswered greatest)
each_answered law over so_far greatest (turn ∷ turns) f comes =
    let fit = turn_fits greatest turn.order.origin turn.done (flat_map happened turns) f in
    All-cons (IsAnswered greatest) turn turns (answered_turn law over so_far greatest turn (comes 0 turn (omega arith)) fit.0)
    (each_answered law over so_far greatest turns fit.1 (λ k d h. comes (suc k) d (omega (arith, h))))

whole_or_ended : (greatest session : ℕ) (history : List ExchangeEvent) (turns : List Turn) → EachEnds session history turns → All (IsAnswered greatest) turns → EachIsWholeOrEnded greatest session history turns
whole_or_ended greatest session history [] ends a = tt
whole_or_ended greatest session history (turn ∷ []) ends a = tt
whole_or_ended greatest session history (turn ∷ next ∷ later) (ended, ends) a = (
  elim ended [ inl over ↦ inl ((a 0 turn (omega arith)).whole over) | inr gone ↦ inr gone ],
  whole_or_ended greatest session history (next ∷ later) ends (λ k d h. a (suc k) d (omega (arith, h))),
)

pub each_is_answered : PartsAreAnAnswer → OverIsMessages → SoFarIsMessages → (session greatest : ℕ) (sync async : List ℕ) (history : List ExchangeEvent) (turns : List Turn) → IsExchange session sync async history turns
    → TakesAtMost greatest session history → All (IsAnswered greatest) turns × EachIsWholeOrEnded greatest session history turns
each_is_answered law over so_far session greatest sync async history turns x most =
    let fit : AllFit greatest (flat_map happened turns) = subst (λ (z : List ExchangeEvent). AllFit greatest z) x.turns_done (all_fit session greatest history x.done most [] history refl) in
    let all = each_answered law over so_far greatest turns fit x.reached in
    (all, whole_or_ended greatest session history turns x.ends all)

-- ---- what is sent

abbrev piece_in : ExchangeEvent → List (List ℕ)
piece_in (Did origin effect out) = out ∷ []
piece_in _ = []

woven : (history : List ExchangeEvent) → Weaves (replied history) (flat_map piece_in history) (written history)
woven [] = Nothing
woven (Came side message ∷ history) = woven history
woven (Replied out ∷ history) = Reply out (woven history)
woven (Did origin effect out ∷ history) = Piece out (woven history)

of_deeds : (history : List ExchangeEvent) → flat_map piece_in (executions history) ≡ flat_map piece_in history
of_deeds [] = refl
of_deeds (Came side message ∷ history) = of_deeds history
of_deeds (Replied out ∷ history) = of_deeds history
of_deeds (Did origin effect out ∷ history) = ap (λ (z : List (List ℕ)). out ∷ z) (of_deeds history)

of_turn : (origin : Origin) (done : List Done) → flat_map piece_in (map (λ (d : Done). Did origin d.effect d.frames) done) ≡ map (λ (d : Done). d.frames) done
of_turn origin [] = refl
of_turn origin (d ∷ done) = ap (λ (z : List (List ℕ)). d.frames ∷ z) (of_turn origin done)

of_turns : (turns : List Turn) → flat_map piece_in (flat_map happened turns) ≡ pieces turns
of_turns [] = refl
of_turns (turn ∷ turns) =
    flat_map-append piece_in (happened turn) (flat_map happened turns)
    ∙ ap (λ (z : List (List ℕ)). z ++ flat_map piece_in (flat_map happened turns)) (of_turn turn.order.origin turn.done)
    ∙ ap (λ (z : List (List ℕ)). map (λ (d : Done). d.frames) turn.done ++ z) (of_turns turns)

pub nothing_else : (session : ℕ) (sync async : List ℕ) (history : List ExchangeEvent) (turns : List Turn) → IsExchange session sync async history turns → Weaves (replied history) (pieces turns) (written history)
nothing_else session sync async history turns x =
    let same : flat_map piece_in history ≡ pieces turns = sym (of_deeds history) ∙ ap (λ (z : List ExchangeEvent). flat_map piece_in z) x.turns_done ∙ of_turns turns in
    subst (λ (z : List (List ℕ)). Weaves (replied history) z (written history)) same (woven history)
