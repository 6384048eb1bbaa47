-- What holds of the events of a session and of its state: messages and transmissions keep it.
use Rattle.std.proofs.Common.{◌≡◌, ◌⊎◌, ℕ, All, Option, Some, None, List, [], ◌∷◌, ◌++◌, refl, sym, ap, ◌∙◌, subst, append_assoc, inl, inr}
use Rattle.std.specs.Prelude.{flat_map, map}
use Rattle.std.proofs.lemmas.List.{append-nil}
use Rattle.std.proofs.lemmas.List.Concat.{flat_map-append}
use Rattle.std.proofs.lemmas.List.Elements.{All-append, All-cons, All-nil}
use Rattle.psu_hislip.specs.Action.{Act}
use Rattle.psu_hislip.specs.Answer.{answer_size}
use Rattle.psu_hislip.specs.Core.{Core, IsCurrent, Outcome, outcome_of}
use Rattle.psu_hislip.specs.Runs.{Arrival, actions_of, core_after, origins}
use Rattle.psu_hislip.specs.Stream.{Received}
use Rattle.psu_hislip.specs.declared.action.Origin.{Origin}
use Rattle.psu_hislip.specs.declared.side.Side.{Side}
use Rattle.psu_hislip.specs.declared.side.Side.TheVariants.{Sync}
use Rattle.psu_messages.specs.Executions.{Reaches, Progress, IsOver, beginning}
use Rattle.psu_messages.specs.Executions.Reaches.{Begins as ReachesBegins}
use Rattle.psu_messages.specs.Effects.{Effect}
use Rattle.psu_session_laws.specs.Exchange as exchange
use Rattle.psu_session.specs.Orders.{Done, IsFramed, Order, Turn, effects, order_in}
use Rattle.psu_session_laws.specs.Exchange.{EachIsDone, EachIsReplied, HasEnded, IsDone, acts_requested, core_at, orders, replies, reply_of}
use Rattle.psu_session_laws.specs.Exchanged.{ExchangeEvent, Came, Did, came, executions, replied}
use Rattle.psu_session.specs.Step.{AreFramed, running, works_in}
use Rattle.psu_session.specs.State.{Running, SessionState, Work, Execute, order_of_work, orders_in, with_core, with_output, with_work}
use Rattle.psu_session_laws.proofs.ExchangeEvents.{as_effects, as_replies, requested-append, asked_still, came-append, core-append, core_still, effects_done, effects_replied, effects_no_arrivals, done-append, orders_of_works, origin_among, origins_of_orders, replied-append, replies_done, replies_replied, replies_no_arrivals}
use Rattle.psu_session_laws.proofs.Splitting.{prefix_split, within}
use Rattle.psu_session_laws.proofs.Splitting.PrefixSplit.{Short, Long}
use Rattle.psu_session_laws.proofs.Splitting.Within.{Left, Right}

pub map-append : {X Y : Type 0} (f : X → Y) (xs ys : List X) → map f (xs ++ ys) ≡ map f xs ++ map f ys
map-append f [] ys = refl
map-append f (x ∷ xs) ys = ap (λ z. f x ∷ z) (map-append f xs ys)

abbrev pub order_in_turn : Turn → Order
order_in_turn turn = turn.order

abbrev pub turn_of : Running → List Done → Turn
turn_of g done = record { order = g.order; done = done; progress = g.progress }

abbrev pub current : Option Running → List Done → List Turn
current None done = []
current (Some g) done = turn_of g done ∷ []

abbrev pub HasReached : Option Running → List Done → Type 0
HasReached None done = Unit {0}
HasReached (Some g) done = Reaches g.order.source (effects done) g.progress

abbrev pub TurnReaches : Turn → Type 0
TurnReaches turn = Reaches turn.order.source (effects turn.done) turn.progress

-- what holds of a session's events and state
pub record Kept (session : ℕ) (l : List ExchangeEvent) (s : SessionState) : Type 0 where
  pub ended : List Turn
  pub done : List Done
  pub core : s.core ≡ core_at session l
  pub in_order : orders session l ≡ map order_in_turn ended ++ (map order_in_turn (current s.running done) ++ orders_in s.waiting)
  pub turns_done : executions l ≡ flat_map exchange.happened ended ++ flat_map exchange.happened (current s.running done)
  pub reached : All TurnReaches ended
  pub reaches : HasReached s.running done
  pub ends : All (HasEnded session l) ended
  pub each_done : EachIsDone session l
  pub each_replied : EachIsReplied session l
  pub all_replied : replies session l ≡ replied l

-- ---- lists

pub none_after : {X : Type 0} (xs : List X) (y : X) (ys : List X) → xs ++ y ∷ ys ≡ [] → ⊥
none_after [] y ys e = absurd (cc (e))
none_after (x ∷ xs) y ys e = absurd (cc (e))

no_effect : (m more after : List ExchangeEvent) (o : Origin) (d : Effect) (f : List ℕ) → executions m ≡ [] → m ≡ more ++ Did o d f ∷ after → ⊥
no_effect m more after o d f none is = none_after (executions more) (Did o d f) (executions after) (sym (done-append more (Did o d f ∷ after)) ∙ ap executions (sym is) ∙ none)

-- a prefix of events without a message
no_arrivals : (m more after : List ExchangeEvent) → came m ≡ [] → m ≡ more ++ after → came more ≡ []
no_arrivals m more after none is = first (came more) (came after) (sym (came-append more after) ∙ ap came (sym is) ∙ none) where
  first : (xs ys : List Arrival) → xs ++ ys ≡ [] → xs ≡ []
  first [] ys e = refl
  first (x ∷ xs) ys e = absurd (cc (e))

none_replied : (m more after : List ExchangeEvent) → replied m ≡ [] → m ≡ more ++ after → replied more ≡ []
none_replied m more after none is = first (replied more) (replied after) (sym (replied-append more after) ∙ ap replied (sym is) ∙ none) where
  first : (xs ys : List (List ℕ)) → xs ++ ys ≡ [] → xs ≡ []
  first [] ys e = refl
  first (x ∷ xs) ys e = absurd (cc (e))

All-map : {X : Type 0} (P Q : X → Type 0) → ((x : X) → P x → Q x) → (xs : List X) → All P xs → All Q xs
All-map P Q f xs all = λ k d h. f _ (all k d h)

-- ---- more events

gone_on : (session : ℕ) (l m : List ExchangeEvent) (turn : Turn) → HasEnded session l turn → HasEnded session (l ++ m) turn
gone_on session l m turn (inl over) = inl over
gone_on session l m turn (inr g) =
    inr (record { before = g.before; after = g.after ++ m; is = ap (λ (z : List ExchangeEvent). z ++ m) g.is ∙ append_assoc g.before g.after m; has_come = g.has_come; gone = g.gone })

done_on : (session : ℕ) (l m : List ExchangeEvent) → EachIsDone session l → ((more after : List ExchangeEvent) (o : Origin) (d : Effect) (f : List ℕ) → m ≡ more ++ Did o d f ∷ after → IsDone session (l ++ more) o d f) → EachIsDone session (l ++ m)
done_on session l m each new before after o d f is = elim (within l m before after (Did o d f) is) [
  | Left more here ↦ each before more o d f here
  | Right more here then ↦ subst (λ (z : List ExchangeEvent). IsDone session z o d f) (sym here) (new more after o d f then)
]

replied_on : (session : ℕ) (l m : List ExchangeEvent) → EachIsReplied session l → ((more after : List ExchangeEvent) → m ≡ more ++ after → (owed : List (List ℕ)) × (replies session (l ++ more) ≡ replied (l ++ more) ++ owed))
    → EachIsReplied session (l ++ m)
replied_on session l m each new before after is = elim (prefix_split l m before after is) [
  | Short more here ↦ each before more here
  | Long more here then ↦ subst (λ (z : List ExchangeEvent). (owed : List (List ℕ)) × (replies session z ≡ replied z ++ owed)) (sym here) (new more after then)
]

-- ---- a message

abbrev pub arrival : Side → Received → Arrival
arrival side message = record { side = side; message = message }

module _ (session : ℕ) (l : List ExchangeEvent) (side : Side) (message : Received) where
  abbrev pub out : Outcome
  out = outcome_of (core_at session l) side message

  abbrev pub frames : List (List ℕ)
  frames = flat_map reply_of out.actions

  abbrev pub message_events : List (List ℕ) → List ExchangeEvent
  message_events replies = Came side message ∷ as_replies replies

  pub asked_more : (m : List ExchangeEvent) → came m ≡ arrival side message ∷ [] → acts_requested session (l ++ m) ≡ acts_requested session l ++ out.actions
  asked_more m one =
      requested-append session l m ∙ ap (λ (z : List Arrival). acts_requested session l ++ actions_of (core_at session l) z) one ∙ ap (λ (z : List Act). acts_requested session l ++ z) (append-nil out.actions)

  orders_more : (m : List ExchangeEvent) → came m ≡ arrival side message ∷ [] → orders session (l ++ m) ≡ orders session l ++ flat_map order_in out.actions
  orders_more m one = ap (λ (z : List Act). flat_map order_in z) (asked_more m one) ∙ flat_map-append order_in (acts_requested session l) out.actions

  replies_more : (m : List ExchangeEvent) → came m ≡ arrival side message ∷ [] → replies session (l ++ m) ≡ replies session l ++ frames
  replies_more m one = ap (λ (z : List Act). flat_map reply_of z) (asked_more m one) ∙ flat_map-append reply_of (acts_requested session l) out.actions

  replied_then : replies session l ≡ replied l → (more after : List ExchangeEvent) → message_events frames ≡ more ++ after → (owed : List (List ℕ)) × (replies session (l ++ more) ≡ replied (l ++ more) ++ owed)
  replied_then all [] after is =
      ([], subst (λ (z : List ExchangeEvent). replies session z ≡ replied z ++ []) (sym (append-nil l)) (all ∙ sym (append-nil (replied l))))
  replied_then all (x ∷ more) after is =
      let first : Came side message ≡ x = cc (is) in
      let rest : as_replies frames ≡ more ++ after = cc (is) in
      let quiet : came more ≡ [] = no_arrivals (as_replies frames) more after (replies_no_arrivals frames) rest in
      let one : came (Came side message ∷ more) ≡ arrival side message ∷ [] = ap (λ (z : List Arrival). arrival side message ∷ z) quiet in
      let parts : frames ≡ replied more ++ replied after = sym (replies_replied frames) ∙ ap replied rest ∙ replied-append more after in
      subst (λ (z : ExchangeEvent). (owed : List (List ℕ)) × (replies session (l ++ z ∷ more) ≡ replied (l ++ z ∷ more) ++ owed)) first (
        replied after,
        replies_more (Came side message ∷ more) one ∙ ap (λ (z : List (List ℕ)). z ++ frames) all ∙ ap (λ (z : List (List ℕ)). replied l ++ z) parts
            ∙ sym (append_assoc (replied l) (replied more) (replied after)) ∙ ap (λ (z : List (List ℕ)). z ++ replied after) (sym (replied-append l (Came side message ∷ more))),
      )

  pub message_keeps : (s : SessionState) → Kept session l s → Kept session (l ++ message_events frames) (with_work (with_core s out.core) (s.waiting ++ flat_map works_in out.actions) s.running)
  message_keeps s k =
      let m = message_events frames in
      let one : came m ≡ arrival side message ∷ [] = ap (λ (z : List Arrival). arrival side message ∷ z) (replies_no_arrivals frames) in
      let none : executions m ≡ [] = replies_done frames in
      let more : orders_in s.waiting ++ flat_map order_in out.actions ≡ orders_in (s.waiting ++ flat_map works_in out.actions)
      = ap (λ (z : List Order). orders_in s.waiting ++ z) (sym (orders_of_works out.actions)) ∙ sym (flat_map-append order_of_work s.waiting (flat_map works_in out.actions)) in
      record {
        ended = k.ended;
        done = k.done;
        core = sym (core-append session l m ∙ ap (λ (z : List Arrival). core_after (core_at session l) z) one);
        in_order = orders_more m one ∙ ap (λ (z : List Order). z ++ flat_map order_in out.actions) k.in_order
            ∙ append_assoc (map order_in_turn k.ended) (map order_in_turn (current s.running k.done) ++ orders_in s.waiting) (flat_map order_in out.actions)
            ∙ ap (λ (z : List Order). map order_in_turn k.ended ++ z) (append_assoc (map order_in_turn (current s.running k.done)) (orders_in s.waiting) (flat_map order_in out.actions))
            ∙ ap (λ (z : List Order). map order_in_turn k.ended ++ (map order_in_turn (current s.running k.done) ++ z)) more;
        turns_done = done-append l m ∙ ap (λ (z : List ExchangeEvent). executions l ++ z) none ∙ append-nil (executions l) ∙ k.turns_done;
        reached = k.reached;
        reaches = k.reaches;
        ends = All-map (HasEnded session l) (HasEnded session (l ++ m)) (gone_on session l m) k.ended k.ends;
        each_done = done_on session l m k.each_done (λ more after o d f is. absurd (no_effect m more after o d f none is));
        each_replied = replied_on session l m k.each_replied (replied_then k.all_replied);
        all_replied = replies_more m one ∙ ap (λ (z : List (List ℕ)). z ++ frames) k.all_replied ∙ ap (λ (z : List (List ℕ)). replied l ++ z) (sym (replies_replied frames)) ∙ sym (replied-append l m);
      }

-- ---- transmissions

-- the message of the transmission in execution was received
has_come : (session : ℕ) (l : List ExchangeEvent) (s : SessionState) (k : Kept session l s) (order : Order) (progress : Progress) → s.running ≡ Some (running order progress)
    → (first : List Origin) × (others : List Origin) × (origins (acts_requested session l) ≡ first ++ order.origin ∷ others)
has_come session l s k order progress is =
    let in_order : orders session l ≡ map order_in_turn k.ended ++ order ∷ orders_in s.waiting
    = subst (λ (z : Option Running). orders session l ≡ map order_in_turn k.ended ++ (map order_in_turn (current z k.done) ++ orders_in s.waiting)) is k.in_order in (
      map (λ (o : Order). o.origin) (map order_in_turn k.ended),
      map (λ (o : Order). o.origin) (orders_in s.waiting),
      origins_of_orders (acts_requested session l) ∙ ap (λ (z : List Order). map (λ (o : Order). o.origin) z) in_order ∙ origin_among (map order_in_turn k.ended) order (orders_in s.waiting),
    )

pub begins : (session : ℕ) (l : List ExchangeEvent) (s : SessionState) (order : Order) (later : List Work) → s.running ≡ None → s.waiting ≡ Execute order ∷ later → Kept session l s → Kept session l (with_work s later (Some (running order beginning)))
begins session l s order later none first k = record {
  ended = k.ended;
  done = [];
  core = k.core;
  in_order = k.in_order ∙ ap (λ (z : Option Running). map order_in_turn k.ended ++ (map order_in_turn (current z k.done) ++ orders_in s.waiting)) none ∙ ap (λ (z : List Work). map order_in_turn k.ended ++ orders_in z) first;
  turns_done = k.turns_done ∙ ap (λ (z : Option Running). flat_map exchange.happened k.ended ++ flat_map exchange.happened (current z k.done)) none;
  reached = k.reached;
  reaches = ReachesBegins;
  ends = k.ends;
  each_done = k.each_done;
  each_replied = k.each_replied;
  all_replied = k.all_replied;
}

pub ends_order : (session : ℕ) (l : List ExchangeEvent) (s : SessionState) (order : Order) (progress : Progress) → s.running ≡ Some (running order progress) → IsOver order.source progress ⊎ (IsCurrent s.core order.origin → ⊥) → Kept session l s
    → Kept session l (with_work s s.waiting None)
ends_order session l s order progress is ended k =
    let turn : Turn = record { order = order; done = k.done; progress = progress } in
    let over : HasEnded session l turn = elim ended [
      | inl o ↦ inl o
      | inr gone ↦ inr (record { before = l; after = []; is = sym (append-nil l); has_come = has_come session l s k order progress is; gone = subst (λ (z : Core). IsCurrent z order.origin → ⊥) k.core gone })
    ] in
    let reaches : TurnReaches turn = subst (λ (z : Option Running). HasReached z k.done) is k.reaches in
    record {
      ended = k.ended ++ turn ∷ [];
      done = [];
      core = k.core;
      in_order = k.in_order ∙ ap (λ (z : Option Running). map order_in_turn k.ended ++ (map order_in_turn (current z k.done) ++ orders_in s.waiting)) is
          ∙ sym (append_assoc (map order_in_turn k.ended) (order ∷ []) (orders_in s.waiting)) ∙ ap (λ (z : List Order). z ++ orders_in s.waiting) (sym (map-append order_in_turn k.ended (turn ∷ [])));
      turns_done = k.turns_done ∙ ap (λ (z : Option Running). flat_map exchange.happened k.ended ++ flat_map exchange.happened (current z k.done)) is
          ∙ sym (flat_map-append exchange.happened k.ended (turn ∷ [])) ∙ sym (append-nil (flat_map exchange.happened (k.ended ++ turn ∷ [])));
      reached = All-append TurnReaches k.ended (turn ∷ []) k.reached (All-cons TurnReaches turn [] reaches (All-nil TurnReaches));
      reaches = tt;
      ends = All-append (HasEnded session l) k.ended (turn ∷ []) k.ends (All-cons (HasEnded session l) turn [] over (All-nil (HasEnded session l)));
      each_done = k.each_done;
      each_replied = k.each_replied;
      all_replied = k.all_replied;
    }

-- an effect among others
record EffectAt (size : ℕ) (origin : Origin) (more : List ExchangeEvent) (o : Origin) (d : Effect) (f : List ℕ) : Type 0 where
  same : origin ≡ o
  framed : IsFramed size origin.id d f
  quiet : came more ≡ []

effect_at : (size : ℕ) (origin : Origin) (done : List Done) (more after : List ExchangeEvent) (o : Origin) (d : Effect) (f : List ℕ) → AreFramed size origin.id done → as_effects origin done ≡ more ++ Did o d f ∷ after
    → EffectAt size origin more o d f
effect_at size origin [] more after o d f framed is = absurd (none_after more (Did o d f) after (sym is))
effect_at size origin (one ∷ done) [] after o d f framed is =
    let effect : one.effect ≡ d = cc (is) in
    let out : one.frames ≡ f = cc (is) in
    record {
      same = cc (is);
      framed = subst (λ (z : Effect). IsFramed size origin.id z f) effect (subst (λ (z : List ℕ). IsFramed size origin.id one.effect z) out framed.0);
      quiet = refl;
    }
effect_at size origin (one ∷ done) (x ∷ more) after o d f framed is =
    let first : Did origin one.effect one.frames ≡ x = cc (is) in
    let rest : as_effects origin done ≡ more ++ Did o d f ∷ after = cc (is) in
    let r = effect_at size origin done more after o d f framed.1 rest in
    record { same = r.same; framed = r.framed; quiet = ap (λ (z : ExchangeEvent). came (z ∷ more)) (sym first) ∙ r.quiet }

pub works : (session : ℕ) (l : List ExchangeEvent) (s : SessionState) (order : Order) (progress new : Progress) (done : List Done) → s.running ≡ Some (running order progress) → IsCurrent s.core order.origin
    → ((before : List Effect) → Reaches order.source before progress → Reaches order.source (before ++ effects done) new) → AreFramed (answer_size s.core.size) order.origin.id done → (bytes : List ℕ) → Kept session l s
    → Kept session (l ++ as_effects order.origin done) (with_output Sync (with_work s s.waiting (Some (running order new))) bytes)
works session l s order progress new done is here reaches framed bytes k =
    let m = as_effects order.origin done in
    let quiet : came m ≡ [] = effects_no_arrivals order.origin done in
    let unsaid : replied m ≡ [] = effects_replied order.origin done in
    let asks = asked_still session l m quiet in
    let answers : replies session (l ++ m) ≡ replied (l ++ m) =
    ap (λ (z : List Act). flat_map reply_of z) asks ∙ k.all_replied ∙ sym (append-nil (replied l)) ∙ ap (λ (z : List (List ℕ)). replied l ++ z) (sym unsaid) ∙ sym (replied-append l m) in
    record {
      ended = k.ended;
      done = k.done ++ done;
      core = k.core ∙ sym (core_still session l m quiet);
      in_order = ap (λ (z : List Act). flat_map order_in z) asks ∙ k.in_order ∙ ap (λ (z : Option Running). map order_in_turn k.ended ++ (map order_in_turn (current z k.done) ++ orders_in s.waiting)) is;
      turns_done = done-append l m ∙ ap (λ (z : List ExchangeEvent). z ++ executions m) k.turns_done ∙ ap (λ (z : List ExchangeEvent). (flat_map exchange.happened k.ended ++ flat_map exchange.happened (current s.running k.done)) ++ z) (effects_done order.origin done)
          ∙ ap (λ (z : Option Running). (flat_map exchange.happened k.ended ++ flat_map exchange.happened (current z k.done)) ++ m) is
          ∙ append_assoc (flat_map exchange.happened k.ended) (as_effects order.origin k.done ++ []) m
          ∙ ap (λ (z : List ExchangeEvent). flat_map exchange.happened k.ended ++ (z ++ m)) (append-nil (as_effects order.origin k.done))
          ∙ ap (λ (z : List ExchangeEvent). flat_map exchange.happened k.ended ++ z) (sym (map-append (λ (d : Done). Did order.origin d.effect d.frames) k.done done) ∙ sym (append-nil (as_effects order.origin (k.done ++ done))));
      reached = k.reached;
      reaches = subst (λ (z : List Effect). Reaches order.source z new) (sym (map-append (λ (d : Done). d.effect) k.done done)) (reaches (effects k.done) (subst (λ (z : Option Running). HasReached z k.done) is k.reaches));
      ends = All-map (HasEnded session l) (HasEnded session (l ++ m)) (gone_on session l m) k.ended k.ends;
      each_done = done_on session l m k.each_done (λ more after o d f then.
          let at = effect_at (answer_size s.core.size) order.origin done more after o d f framed then in
          let core : core_at session (l ++ more) ≡ s.core = core_still session l more at.quiet ∙ sym k.core in
          let come = has_come session l s k order progress is in
          let asked_here : origins (acts_requested session (l ++ more)) ≡ come.0 ++ order.origin ∷ come.1 = ap origins (asked_still session l more at.quiet) ∙ come.2 in
          subst (λ (z : Origin). IsDone session (l ++ more) z d f) at.same (record {
            has_come = (come.0, come.1, asked_here);
            current = subst (λ (z : Core). IsCurrent z order.origin) (sym core) here;
            framed = subst (λ (z : Core). IsFramed (answer_size z.size) order.origin.id d f) (sym core) at.framed;
          }));
      each_replied = replied_on session l m k.each_replied (λ more after then. (
        [],
        ap (λ (z : List Act). flat_map reply_of z) (asked_still session l more (no_arrivals m more after quiet then)) ∙ k.all_replied ∙ sym (append-nil (replied l))
            ∙ ap (λ (z : List (List ℕ)). replied l ++ z) (sym (none_replied m more after unsaid then)) ∙ sym (replied-append l more) ∙ sym (append-nil (replied (l ++ more))),
      ));
      all_replied = answers;
    }
