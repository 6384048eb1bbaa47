-- A session's history beside that of its device: the responses to its transmissions are formed from the entries of their effects.
use Rattle.std.proofs.Common.{◌≡◌, ◌⊎◌, ℕ, true, Some, List, [], ◌∷◌, ◌++◌, flat_map, refl, sym, ap, ◌∙◌, subst, inl, inr, append-nil, map}
use Rattle.std.specs.List.{AllByRecursion}
use Rattle.std.proofs.lemmas.List.{map-append}
use Rattle.psu_hislip.specs.Answer.{IsAnswerCutAnywhere}
use Rattle.psu_hislip.specs.Core.{Core}
use Rattle.psu_hislip.specs.declared.action.Origin.{Origin}
use Rattle.psu_messages.specs.Response.{are_some, response}
use Rattle.psu_exec.specs.Calls.{Entry}
use Rattle.psu_messages.specs.Answers.{answers}
use Rattle.psu_messages.specs.Effects as messages
use Rattle.psu_messages.specs.Effects.{Effect}
use Rattle.psu_session_laws.specs.Answered.{AreMessagesAnswered, AreTheClients, IsMessageAnswered, EachIsAnswered, MessagesAreTheStreams, NothingElseIsSent, TakesAtMost, TransmissionsAreTheClients, Weaves, pieces}
use Rattle.psu_session_laws.specs.Answered as replies
use Rattle.psu_session.specs.Events.{Event, Did, call_of, Put}
use Rattle.psu_session_laws.specs.Views.{exchange_history, bytes_received}
use Rattle.psu_session.specs.Orders.{Done, Order, effects, frames, Turn}
use Rattle.psu_session_laws.specs.Exchange.{orders}
use Rattle.psu_session.specs.Step.{happened}
use Rattle.psu_session_laws.proofs.Mapped.{none_mapped, split}
use Rattle.psu_threads.specs.Called.{AreAllEntries, AreEntries, MayNotify}
use Rattle.psu_client_laws.specs.Recorded.{AreEffects, AreSent, IsSent, Recorded, responses, responses_in, IsAnswered, RecordedTurn, effects_of, HasOne, IsReplied, OneResponseIsSent, EachResponseIsOfTheHistory, HasEntries}
use Rattle.psu_client_laws.specs.Recorded.AreSent.{NoMessage, OneMore}
use Rattle.psu_client_laws.proofs.Recording.{of_history}
use Rattle.psu_hislip.specs.declared.side.Side.TheVariants.{Sync, Async}
use Rattle.psu_session_laws.specs.Exchange as exchange
use Rattle.psu_session_laws.specs.Exchanged as exchange_events
use Rattle.psu_session_laws.specs.Exchanged.{ExchangeEvent, executions, replied, written}
use Rattle.std.proofs.lemmas.List.Elements.{All-from_recursion, recursion_from_All}
use Rattle.std.proofs.lemmas.Simd.{map-map}
use Rattle.psu_session_laws.specs.History.{HistoriesAreExchanges}
use Rattle.psu_session.specs.State.{orders_in}

-- what holds of each element of two lists holds of each of both
pub both_of : {X : Type 0} (P : X → Type 0) (xs ys : List X) → AllByRecursion P (xs ++ ys) → AllByRecursion P xs × AllByRecursion P ys
both_of P [] ys all = (tt, all)
both_of P (x ∷ xs) ys (one, all) = let more = both_of P xs ys all in ((one, more.0), more.1)

-- ---- replies

notified : (entry : Entry) (entries : List Entry) → MayNotify entry entries → flat_map responses_in entries ≡ responses_in entry
notified entry entries (inl one) = ap (λ (z : List Entry). flat_map responses_in z) one ∙ append-nil (responses_in entry)
notified entry entries (inr (requesting, work, two)) = ap (λ (z : List Entry). flat_map responses_in z) two ∙ append-nil (responses_in entry)

-- the response in an effect is that in the reply of its entry
reply_in : (session : ℕ) (effect : Effect) (entries : List Entry) → AreEntries session (call_of effect) entries → (later : List Effect) → answers (effect ∷ later) ≡ flat_map responses_in entries ++ answers later
reply_in session (messages.Executed request reply) entries is later = ap (λ (z : List (List ℕ)). z ++ answers later) (sym (notified (Entry.Executed session request reply) entries is))
reply_in session (messages.Settled reply) entries is later = ap (λ (z : List (List ℕ)). z ++ answers later) (sym (notified (Entry.Settled session reply) entries is))
reply_in session (messages.Sent text last) entries is later = ap (λ (z : List Entry). flat_map responses_in z ++ answers later) (sym is.2)

reply_is : (session : ℕ) (effect : Effect) (entries : List Entry) → AreAllEntries session (call_of effect ∷ []) entries → (later : List Effect) → answers (effect ∷ later) ≡ flat_map responses_in entries ++ answers later
reply_is session effect entries (first, rest, are, is, none) later =
    subst (λ (z : List Entry). answers (effect ∷ later) ≡ flat_map responses_in z ++ answers later) (sym (are ∙ ap (λ (z : List Entry). first ++ z) none ∙ append-nil first)) (reply_in session effect first is later)

module _ (number : ℕ) where
  -- the responses of effects are those in the replies of their entries
  pub responses_are : (origin : Origin) (events : List Recorded) (done : List Done) → AreEffects origin events done → AllByRecursion (HasEntries number) events → answers (effects done) ≡ responses events
  responses_are origin [] [] e each = refl
  responses_are origin [] (d ∷ done) e each = absurd (cc (e))
  responses_are origin (r ∷ events) [] e each = absurd (cc (e))
  responses_are origin (r ∷ events) (d ∷ done) e (one, each) =
      let here : r.event ≡ Did origin d.effect d.frames = cc (e) in
      let rest : AreEffects origin events done = cc (e) in
      reply_is number d.effect r.entries (subst (λ (z : Event). HasEntries number (record { event = z; entries = r.entries })) here one) (effects done)
      ∙ ap (λ (z : List (List ℕ)). flat_map responses_in r.entries ++ z) (responses_are origin events done rest each)

  -- ---- messages

  sent : (greatest id : ℕ) (origin : Origin) (message : List Recorded) (done : List Done) → AreEffects origin message done → AllByRecursion (HasEntries number) message → IsMessageAnswered greatest id done → IsSent greatest id message (frames done)
  sent greatest id origin message done are each is =
      subst (λ (z : List (List ℕ)). ((are_some z ≡ true) × IsAnswerCutAnywhere greatest id (response z) (frames done)) ⊎ ((z ≡ []) × (frames done ≡ []))) (responses_are origin message done are each) is

  pub all_sent : (greatest : ℕ) (order : Order) {units : ℕ} {done : List Done} (events : List Recorded) → AreMessagesAnswered greatest order.origin.id order.source units done → AreEffects order.origin events done
      → AllByRecursion (HasEntries number) events → AreSent greatest order units events
  all_sent greatest order events replies.AreMessagesAnswered.NoMessage e each = subst (λ (z : List Recorded). AreSent greatest order 0 z) (sym (none_mapped (λ (r : Recorded). r.event) events e)) NoMessage
  all_sent greatest order events (replies.AreMessagesAnswered.OneMore {done = before} earlier to message is answer) e each =
      let s = split (λ (r : Recorded). r.event) events (happened order.origin before) (happened order.origin message) (e ∙ map-append (λ (d : Done). Did order.origin d.effect d.frames) before message) in
      let each_of = both_of (HasEntries number) s.front s.back (subst (λ (z : List Recorded). AllByRecursion (HasEntries number) z) s.is each) in
      subst (λ (z : List Recorded). AreSent greatest order to z) (sym s.is)
      (OneMore (all_sent greatest order s.front earlier s.of_left each_of.0) to s.back message s.of_right is (sent greatest order.origin.id order.origin s.back message s.of_right each_of.1 answer))

-- the effects among events, as the laws of an exchange see them
abbrev pub seen : List Recorded → List ExchangeEvent
seen events = executions (exchange_history (map (λ r. r.event) events))

-- such an effect, as an event of the session
abbrev as_event : ExchangeEvent → List Event
as_event (exchange_events.Did origin effect frames) = Did origin effect frames ∷ []
as_event _ = []

abbrev recorded : Event → List Entry → Recorded
recorded event entries = record { event = event; entries = entries }

happened_seen : (origin : Origin) (done : List Done) (more : List ExchangeEvent) → flat_map as_event (map (λ d. exchange_events.Did origin d.effect d.frames) done ++ more) ≡ happened origin done ++ flat_map as_event more
happened_seen origin [] more = refl
happened_seen origin (d ∷ done) more = ap (λ (z : List Event). Did origin d.effect d.frames ∷ z) (happened_seen origin done more)

module _ (number : ℕ) where
  -- the effects among events are those that the laws see, each with the entries of its calls
  abbrev AreSeen : List Recorded → Type 0
  AreSeen events = (map (λ r. r.event) (effects_of events) ≡ flat_map as_event (seen events)) × AllByRecursion (HasEntries number) (effects_of events)

  seen_at : (event : Event) (entries : List Entry) (events : List Recorded) → HasEntries number (recorded event entries) → AreSeen events → AreSeen (recorded event entries ∷ events)
  seen_at (Did origin effect frames) entries events one more = (ap (λ (z : List Event). Did origin effect frames ∷ z) more.0, (one, more.1))
  seen_at (Put Sync frames) entries events one more = more
  seen_at event entries events one more = more

  effects_seen : (events : List Recorded) → AllByRecursion (HasEntries number) events → AreSeen events
  effects_seen [] each = (refl, tt)
  effects_seen (r ∷ events) (one, each) = seen_at r.event r.entries events one (effects_seen events each)

  -- effects by the transmissions of which they are
  pub record Turns (turns : List Turn) (effects : List Recorded) : Type 0 where
    pub recorded_turns : List RecordedTurn
    pub are : map (λ r. r.turn) recorded_turns ≡ turns
    pub all_effects : effects ≡ flat_map (λ r. r.events) recorded_turns
    pub each_effect : AllByRecursion (λ (r : RecordedTurn). AreEffects r.turn.order.origin r.events r.turn.done) recorded_turns
    pub each : AllByRecursion (λ (r : RecordedTurn). AllByRecursion (HasEntries number) r.events) recorded_turns

  by_turns : (turns : List Turn) (effects : List Recorded) → map (λ r. r.event) effects ≡ flat_map as_event (flat_map exchange.happened turns) → AllByRecursion (HasEntries number) effects → Turns turns effects
  by_turns [] effects e each = record { recorded_turns = []; are = refl; all_effects = none_mapped (λ (r : Recorded). r.event) effects e; each_effect = tt; each = tt }
  by_turns (turn ∷ turns) effects e each =
      let later : List ExchangeEvent = flat_map exchange.happened turns in
      let s = split (λ (r : Recorded). r.event) effects (happened turn.order.origin turn.done) (flat_map as_event later) (e ∙ happened_seen turn.order.origin turn.done later) in
      let each_of = both_of (HasEntries number) s.front s.back (subst (λ (z : List Recorded). AllByRecursion (HasEntries number) z) s.is each) in
      let more = by_turns turns s.back s.of_right each_of.1 in
      record {
        recorded_turns = record { turn = turn; events = s.front } ∷ more.recorded_turns;
        are = ap (λ (z : List Turn). turn ∷ z) more.are;
        all_effects = s.is ∙ ap (λ (z : List Recorded). s.front ++ z) more.all_effects;
        each_effect = (s.of_left, more.each_effect);
        each = (each_of.0, more.each);
      }

  pub turns_of : (turns : List Turn) (events : List Recorded) → seen events ≡ flat_map exchange.happened turns → AllByRecursion (HasEntries number) events → Turns turns (effects_of events)
  turns_of turns events e each = let are = effects_seen events each in by_turns turns (effects_of events) (are.0 ∙ ap (λ (z : List ExchangeEvent). flat_map as_event z) e) are.1

  -- those that are over are answered
  pub all_answered : (greatest : ℕ) (recorded_turns : List RecordedTurn) → AllByRecursion (replies.IsAnswered greatest) (map (λ r. r.turn) recorded_turns)
      → AllByRecursion (λ (r : RecordedTurn). AreEffects r.turn.order.origin r.events r.turn.done) recorded_turns → AllByRecursion (λ (r : RecordedTurn). AllByRecursion (HasEntries number) r.events) recorded_turns → AllByRecursion (IsAnswered greatest) recorded_turns
  all_answered greatest [] answered are each = tt
  all_answered greatest (r ∷ recorded_turns) (one, answered) (here, are) (its, each) =
      (λ over. all_sent number greatest r.turn.order r.events (one.whole over) here its, all_answered greatest recorded_turns answered are each)

none_of : {B : Type 0} (xs ys : List B) → xs ++ ys ≡ [] → xs ≡ []
none_of [] ys e = refl
none_of (x ∷ xs) ys e = absurd (cc (e))

module _ {A B : Type 0} (f : A → List B) where
  only_at : (a : A) (all : List A) (b : B) (given : List B) → f a ≡ given → (flat_map f all ≡ b ∷ [] → HasOne f all b) → given ++ flat_map f all ≡ b ∷ [] → HasOne f (a ∷ all) b
  only_at a all b [] gives more e = let o = more e in record { before = a ∷ o.before; one = o.one; after = o.after; is = ap (λ (z : List A). a ∷ z) o.is; gives = o.gives }
  only_at a all b (x ∷ given) gives more e =
      let same : x ≡ b = cc (e) in
      let rest : given ++ flat_map f all ≡ [] = cc (e) in
      let none : given ≡ [] = none_of given (flat_map f all) rest in
      record { before = []; one = a; after = all; is = refl; gives = cc (gives, same, none) }

  only : (all : List A) (b : B) → flat_map f all ≡ b ∷ [] → HasOne f all b
  only [] b e = absurd (cc (e))
  only (a ∷ all) b e = only_at a all b (f a) refl (only all b) e

one_replied : (message : List Recorded) (text : List ℕ) → responses message ≡ text ∷ [] → IsReplied message text
one_replied message text e = let event = only (λ (r : Recorded). flat_map responses_in r.entries) message text e in (event, only responses_in event.one.entries text event.gives)

response_sent : (greatest id : ℕ) (message : List Recorded) (text frames : List ℕ) → responses message ≡ text ∷ [] → IsSent greatest id message frames → IsAnswerCutAnywhere greatest id (text ++ 10 ∷ []) frames
response_sent greatest id message text frames e (inl (some, cut)) = subst (λ (z : List (List ℕ)). IsAnswerCutAnywhere greatest id (response z) frames) e cut
response_sent greatest id message text frames e (inr (none, nothing)) = absurd (cc (none, e))

pub one_response : OneResponseIsSent
one_response = λ greatest id message text frames e is. (one_replied message text e, response_sent greatest id message text frames e is)

-- ---- the history

pub each_response : (honest : Type 0) → HistoriesAreExchanges → MessagesAreTheStreams → TransmissionsAreTheClients → EachIsAnswered → NothingElseIsSent → EachResponseIsOfTheHistory honest
each_response honest exchanges messages transmissions answers nothing_else = λ session closed s seat is.
    let history = is.history in
    let l = exchange_history history in
    let all = of_history session history is.rest is.entries is.are in
    let h = exchanges is.start history is.reached is.is in
    let x = h.exchange is.opening.0.0 is.opening.0.1 is.opening.0.2 is.opening.1 in
    let sync : List ℕ = is.opening.0.0 ++ bytes_received Sync history in
    let async : List ℕ = bytes_received Async history in
    let turns = turns_of session h.turns all.events (ap (λ (z : List Event). executions (exchange_history z)) all.are ∙ x.turns_done) (recursion_from_All (HasEntries session) all.events all.each) in
    record {
      start = is.start;
      history = history;
      reached = is.reached;
      opening = is.opening;
      number = is.number;
      is = is.is;
      now = λ alive. (is.now alive).0;
      events = all.events;
      are = all.are;
      each = all.each;
      rest = is.rest;
      part = is.part;
      rest_entries = all.rest_entries;
      rest_are = all.rest_are;
      stopped = λ alive. (is.now alive).1;
      legal = is.device.legal;
      closing = is.closing;
      closes = is.closes;
      own = is.device.own ∙ is.mine ∙ ap (λ (z : List Entry). Entry.Opened (Some session) ∷ (z ++ is.closing)) all.split;
      streams = λ stream first fed. messages is.start.session (stream ++ bytes_received Sync history) async l h.turns (h.exchange stream first fed is.opening.1);
      turns = turns.recorded_turns;
      in_order = subst (λ (n : ℕ). orders n (exchange_history history) ≡ map (λ r. r.turn.order) turns.recorded_turns ++ orders_in is.reached.waiting) is.number
          (h.waiting ∙ ap (λ (z : List Turn). map (λ turn. turn.order) z ++ orders_in is.reached.waiting) (sym turns.are) ∙ ap (λ (z : List Order). z ++ orders_in is.reached.waiting) (map-map (λ (turn : Turn). turn.order) (λ (r : RecordedTurn). r.turn) turns.recorded_turns));
      all_effects = turns.all_effects;
      each_effect = All-from_recursion (λ (r : RecordedTurn). AreEffects r.turn.order.origin r.events r.turn.done) turns.recorded_turns turns.each_effect;
      transmissions = subst (λ (z : List Turn). AreTheClients l is.reached.core.failed z) (sym turns.are)
          (subst (λ (z : Core). AreTheClients l z.failed h.turns) (sym h.core) (transmissions is.start.session sync async l h.turns x));
      answered = λ greatest most. All-from_recursion (IsAnswered greatest) turns.recorded_turns
          (all_answered session greatest turns.recorded_turns
          (subst (λ (z : List Turn). AllByRecursion (replies.IsAnswered greatest) z) (sym turns.are)
          (recursion_from_All (replies.IsAnswered greatest) h.turns (answers is.start.session greatest sync async (exchange_history history) h.turns x (subst (λ (n : ℕ). TakesAtMost greatest n (exchange_history history)) (sym is.number) most)).0)) turns.each_effect turns.each);
      sent = subst (λ (z : List ℕ). Weaves (replied (exchange_history history)) (pieces (map (λ r. r.turn) turns.recorded_turns)) z) h.sent
          (subst (λ (z : List Turn). Weaves (replied (exchange_history history)) (pieces z) (written (exchange_history history))) (sym turns.are) (nothing_else is.start.session sync async (exchange_history history) h.turns x));
    }
