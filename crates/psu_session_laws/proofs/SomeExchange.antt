-- The session of the example.
use Rattle.std.proofs.Common.{◌≡◌, ℕ, true, None, List, [], ◌∷◌, ◌++◌, length, refl, sym, subst, arith}
use Rattle.std.proofs.lemmas.List.{append-nil}
use Rattle.std.proofs.lemmas.List.Elements.{All-cons, All-nil}
use Rattle.psu_lex.specs.declared.scpi_error.ScpiError.TheVariants.{TriggerIgnored}
use Rattle.psu_hislip.specs.Answer.{IsAnswer, answer_size}
use Rattle.psu_hislip.specs.Stream.{IsStream}
use Rattle.psu_hislip.specs.declared.message_type.MessageType.TheVariants.{AsyncInitialize, Initialize, Trigger}
use Rattle.psu_hislip.specs.declared.action.Origin.{Origin}
use Rattle.psu_hislip.specs.declared.side.Side.TheVariants.{Sync, Async}
use Rattle.psu_hislip.proofs.Channels.{none_short}
use Rattle.psu_messages.specs.Executions.{Reaches, IsOver}
use Rattle.psu_messages.specs.Executions.Reaches.{Begins, Ends, Tries}
use Rattle.psu_messages.specs.Effects.{Effect, Executed, Sent}
use Rattle.psu_messages.specs.Units.{faulty}
use Rattle.psu_session_laws.specs.Exchange.{EachIsReplied, IsDone, IsExchange, replies}
use Rattle.psu_session.specs.Orders.{Turn, effects}
use Rattle.psu_session_laws.specs.Exchanged.{ExchangeEvent, Came, Did, came_on, replied}
use Rattle.psu_session_laws.specs.SomeExchange.{answer, async_stream, bare, bare_message, its_effects, its_order, its_origin, its_reply, some_history, some_turn, sync_stream, text}

nothing_left : IsStream [] []
nothing_left = none_short [] (omega arith)

on_sync : IsStream sync_stream (bare_message Initialize 0 ∷ came_on Sync some_history)
on_sync = (
  bare Trigger 2,
  ((omega arith, omega arith, omega arith, omega arith), refl, refl, omega arith),
  ([], ((omega arith, omega arith, omega arith, omega arith), sym (append-nil (bare Trigger 2)), refl, omega arith), nothing_left),
)

on_async : IsStream async_stream (came_on Async some_history)
on_async = ([], ((omega arith, omega arith, omega arith, omega arith), sym (append-nil async_stream), refl, omega arith), nothing_left)

comes : Reaches its_order.source (effects its_effects) some_turn.progress
comes = Ends (Tries Begins (faulty TriggerIgnored) (true, (refl, refl, refl), λ e. refl) (Executed (faulty TriggerIgnored) its_reply) its_reply (refl, refl)) (record { ends = λ e. refl; answered = refl })

framed : IsAnswer (answer_size None) 2 text answer
framed = ([], text, record { whole = refl; filled = All-nil (λ (piece : List ℕ). length piece ≡ answer_size None); within = omega arith; some = λ e. e }, refl)

same_done : (known before : List ExchangeEvent) (its origin : Origin) (one effect : Effect) (out frames : List ℕ) → before ≡ known → origin ≡ its → effect ≡ one → frames ≡ out → IsDone 1 known its one out
    → IsDone 1 before origin effect frames
same_done known before its origin one effect out frames h o d f is =
    subst (λ (z : List ExchangeEvent). IsDone 1 z origin effect frames) (sym h)
    (subst (λ (z : Origin). IsDone 1 known z effect frames) (sym o) (subst (λ (z : Effect). IsDone 1 known its z frames) (sym d) (subst (λ (z : List ℕ). IsDone 1 known its one z) (sym f) is)))

none_yet : (known before : List ExchangeEvent) → before ≡ known → (owed : List (List ℕ)) × (replies 1 known ≡ replied known ++ owed) → (owed : List (List ℕ)) × (replies 1 before ≡ replied before ++ owed)
none_yet known before h is = subst (λ (z : List ExchangeEvent). (owed : List (List ℕ)) × (replies 1 z ≡ replied z ++ owed)) (sym h) is

abbrev heard : List ExchangeEvent
heard = Came Async (bare_message AsyncInitialize 1) ∷ Came Sync (bare_message Trigger 2) ∷ []

abbrev executed : Effect
executed = Executed (faulty TriggerIgnored) its_reply

-- where the effects are
done : (before after : List ExchangeEvent) (origin : Origin) (effect : Effect) (frames : List ℕ) → some_history ≡ before ++ Did origin effect frames ∷ after → IsDone 1 before origin effect frames
done [] after origin effect frames e = absurd (cc (e))
done (a ∷ []) after origin effect frames e = absurd (cc (e))
done (a ∷ b ∷ []) after origin effect frames e = same_done heard (a ∷ b ∷ []) its_origin origin executed effect [] frames (cc (e)) (cc (e)) (cc (e)) (cc (e)) (record { has_come = ([], [], refl); current = (refl, refl); framed = refl })
done (a ∷ b ∷ c ∷ []) after origin effect frames e =
    same_done (heard ++ Did its_origin executed [] ∷ []) (a ∷ b ∷ c ∷ []) its_origin origin (Sent text true) effect answer frames (cc (e)) (cc (e)) (cc (e)) (cc (e)) (record { has_come = ([], [], refl); current = (refl, refl); framed = framed })
done (a ∷ b ∷ c ∷ d ∷ []) after origin effect frames e = absurd (cc (e))
done (a ∷ b ∷ c ∷ d ∷ f ∷ before) after origin effect frames e = absurd (cc (e))

-- the core gives nothing for the synchronous channel
replied_then : EachIsReplied 1 some_history
replied_then [] after e = ([], refl)
replied_then (a ∷ []) after e = none_yet (Came Async (bare_message AsyncInitialize 1) ∷ []) (a ∷ []) (cc (e)) ([], refl)
replied_then (a ∷ b ∷ []) after e = none_yet heard (a ∷ b ∷ []) (cc (e)) ([], refl)
replied_then (a ∷ b ∷ c ∷ []) after e = none_yet (heard ++ Did its_origin executed [] ∷ []) (a ∷ b ∷ c ∷ []) (cc (e)) ([], refl)
replied_then (a ∷ b ∷ c ∷ d ∷ []) after e = none_yet some_history (a ∷ b ∷ c ∷ d ∷ []) (cc (e)) ([], refl)
replied_then (a ∷ b ∷ c ∷ d ∷ f ∷ before) after e = absurd (cc (e))

pub some_exchange : IsExchange 1 sync_stream async_stream some_history (some_turn ∷ [])
some_exchange = record {
  first = bare_message Initialize 0;
  sync_messages = on_sync;
  async_messages = on_async;
  waiting = [];
  in_order = refl;
  turns_done = refl;
  reached = All-cons (λ (turn : Turn). Reaches turn.order.source (effects turn.done) turn.progress) some_turn [] comes (All-nil (λ (turn : Turn). Reaches turn.order.source (effects turn.done) turn.progress));
  ends = tt;
  done = done;
  replies_sent = replied_then;
}

pub its_end : IsOver its_order.source some_turn.progress
its_end = record { units = omega arith; sent = refl }
