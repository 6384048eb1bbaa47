-- Each history of a session is an exchange.
use Rattle.std.proofs.Common.{◌≡◌, ℕ, suc, All, Option, Some, None, List, [], ◌∷◌, ◌++◌, refl, sym, ap, ◌∙◌, subst, append_assoc, arith}
use Rattle.std.specs.Prelude.{map}
use Rattle.std.proofs.lemmas.List.{append-nil}
use Rattle.std.proofs.lemmas.List.Concat.{flat_map-append}
use Rattle.std.proofs.lemmas.List.Elements.{All-append, All-cons, All-nil}
use Rattle.psu_hislip.specs.Channel.{Fed}
use Rattle.psu_hislip.specs.Stream.{Received}
use Rattle.psu_hislip.specs.declared.side.Side.{Side}
use Rattle.psu_hislip.specs.declared.side.Side.TheVariants.{Sync, Async}
use Rattle.psu_session_laws.specs.Exchange as exchange
use Rattle.psu_session.specs.Orders.{Done, Order, Turn}
use Rattle.psu_session_laws.specs.Exchange.{EachEnds, HasEnded, orders, replies}
use Rattle.psu_session_laws.specs.Exchanged.{ExchangeEvent, Did, replied}
use Rattle.psu_session.specs.Events.{Event}
use Rattle.psu_session_laws.specs.Views.{exchange_history}
use Rattle.psu_session_laws.specs.History.{IsExchangeHistory}
use Rattle.psu_session.specs.Step.{IsHistory, Steps}
use Rattle.psu_session.specs.Step.Steps.{Still, Then}
use Rattle.psu_session.specs.State.{Running, Start, SessionState, fresh, orders_in}
use Rattle.psu_session_laws.proofs.ExchangeEvents.{written_is_put}
use Rattle.psu_session_laws.proofs.Keeping.{map-append, order_in_turn, turn_of, current, HasReached, TurnReaches, Kept, none_after}
use Rattle.psu_session_laws.proofs.StepKeeping.{step_keeps}
use Rattle.psu_session_laws.proofs.Outputs.{IsOutput, balanced, balances}
use Rattle.psu_session_laws.proofs.Streams.{IsStreamed, streamed}

-- ---- all steps

pub record AllKept (start : Start) (xs : List Event) (s : SessionState) : Type 0 where
  pub kept : Kept start.session (exchange_history xs) s
  pub outputs : (side : Side) → IsOutput side xs s
  pub on_sync : (opening : List ℕ) (first : Received) → Fed start.sync opening (first ∷ []) → IsStreamed Sync opening (first ∷ []) xs s
  pub on_async : Fed start.async [] [] → IsStreamed Async [] [] xs s

no_output : (start : Start) (side : Side) → IsOutput side [] (fresh start)
no_output start Sync = refl
no_output start Async = refl

at_first : (start : Start) → AllKept start [] (fresh start)
at_first start = record {
  kept = record {
    ended = [];
    done = [];
    core = refl;
    in_order = refl;
    turns_done = refl;
    reached = All-nil TurnReaches;
    reaches = tt;
    ends = All-nil (HasEnded start.session []);
    each_done = λ before after o d f is. absurd (none_after before (Did o d f) after (sym is));
    each_replied = λ before after is. no_front before after is;
    all_replied = refl;
  };
  outputs = no_output start;
  on_sync = λ opening first fed. subst (λ (z : List ℕ). Fed start.sync z (first ∷ [])) (sym (append-nil opening)) fed;
  on_async = λ fed. fed;
} where
  no_front : (before after : List ExchangeEvent) → [] ≡ before ++ after → (owed : List (List ℕ)) × (replies start.session before ≡ replied before ++ owed)
  no_front [] after is = ([], refl)
  no_front (x ∷ before) after is = absurd (cc (is))

pub all_kept : (start : Start) (xs : List Event) (s : SessionState) → Steps (fresh start) xs s → AllKept start xs s
all_kept start xs s Still = at_first start
all_kept start xs s (Then {done = done} {t = t} steps more u m) =
    let k = all_kept start done t steps in
    record {
      kept = step_keeps start.session done t more u k.kept m;
      outputs = λ side. balanced side done t more u (k.outputs side) (balances side t more u m);
      on_sync = λ opening first fed. streamed start.session Sync opening (first ∷ []) done t more u k.kept m (k.on_sync opening first fed);
      on_async = λ fed. streamed start.session Async [] [] done t more u k.kept m (k.on_async fed);
    }

-- ---- the exchange

with_one : (session : ℕ) (l : List ExchangeEvent) (turn : Turn) (rest : List Turn) → HasEnded session l turn → EachEnds session l rest → EachEnds session l (turn ∷ rest)
with_one session l turn [] ended rest_ends = tt
with_one session l turn (next ∷ later) ended rest_ends = (ended, rest_ends)

one_last : (session : ℕ) (l : List ExchangeEvent) (g : Option Running) (done : List Done) → EachEnds session l (current g done)
one_last session l None done = tt
one_last session l (Some g) done = tt

each_ends : (session : ℕ) (l : List ExchangeEvent) (ended : List Turn) (g : Option Running) (done : List Done) → All (HasEnded session l) ended → EachEnds session l (ended ++ current g done)
each_ends session l [] g done all = one_last session l g done
each_ends session l (turn ∷ ended) g done all = with_one session l turn (ended ++ current g done) (all 0 turn (omega arith)) (each_ends session l ended g done (λ k d h. all (suc k) d (omega (arith, h))))

last_reaches : (g : Option Running) (done : List Done) → HasReached g done → All TurnReaches (current g done)
last_reaches None done c = All-nil TurnReaches
last_reaches (Some g) done c = All-cons TurnReaches (turn_of g done) [] c (All-nil TurnReaches)

pub are_exchanges : (start : Start) (history : List Event) (s : SessionState) → IsHistory start history s → IsExchangeHistory start history s
are_exchanges start history s is_history =
    let all = all_kept start history s is_history in
    let k = all.kept in
    let l = exchange_history history in
    let last = current s.running k.done in
    let turns = k.ended ++ last in
    let in_order : orders start.session l ≡ map order_in_turn turns ++ orders_in s.waiting =
    k.in_order ∙ sym (append_assoc (map order_in_turn k.ended) (map order_in_turn last) (orders_in s.waiting)) ∙ ap (λ (z : List Order). z ++ orders_in s.waiting) (sym (map-append order_in_turn k.ended last)) in
    record {
      turns = turns;
      exchange = λ opening first on_sync on_async. record {
        first = first;
        sync_messages = (all.on_sync opening first on_sync).0;
        async_messages = (all.on_async on_async).0;
        waiting = orders_in s.waiting;
        in_order = in_order;
        turns_done = k.turns_done ∙ sym (flat_map-append exchange.happened k.ended last);
        reached = All-append TurnReaches k.ended last k.reached (last_reaches s.running k.done k.reaches);
        ends = each_ends start.session l k.ended s.running k.done k.ends;
        done = k.each_done;
        replies_sent = k.each_replied;
      };
      core = k.core;
      waiting = in_order;
      sent = written_is_put history ∙ all.outputs Sync;
      outputs = all.outputs;
    }
