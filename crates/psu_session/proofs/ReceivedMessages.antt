-- Messages, one after another.
use Rattle.std.proofs.Common.{◌≡◌, ℕ, ◌+◌, ◌<◌, ◌≤◌, Bool, List, [], ◌∷◌, ◌++◌, length, drop, get_or, suc, refl, sym, ap, ◌∙◌, subst, append_assoc, add-one, drop-cons, arith}
use Rattle.std.specs.Prelude.{map}
use Rattle.std.proofs.lemmas.Grind.{common_steps}
use Rattle.std.proofs.lemmas.List.{append-nil}
use Rattle.std.specs.List.{list_any}
use Rattle.psu_hislip.specs.Action.{Act, act, acts}
use Rattle.psu_hislip.specs.Channel.{Awaited, Fed}
use Rattle.psu_hislip.specs.Rest.{IsFedBy, all_received}
use Rattle.psu_hislip.specs.Stream.{IsStream, Received, received}
use Rattle.psu_hislip.specs.declared.action.Action.{Action}
use Rattle.psu_hislip.specs.declared.message.Message.{Message}
use Rattle.psu_hislip.specs.declared.side.Side.{Side}
use Rattle.psu_session.specs.Events.{Call, Event, calls}
use Rattle.psu_session.specs.Step.{EachReceived, Feeds, IsMessageReceived}
use Rattle.psu_session.specs.Serving.{PerformsStep, Runs}
use Rattle.psu_session.specs.State.{SessionState}
use Rattle.psu_session.proofs.Serving.{runs_after}

pub any_act : {A : Type 0} (is : Act → Bool) (actions : List (Action A)) → list_any (λ (action : Action A). is (act action)) actions ≡ list_any is (acts actions)
any_act is [] = refl
any_act is (action ∷ actions) = rw (any_act is actions) refl

-- the message at a place, and those after it
pub at_message : {A : Type 0} (messages : List (Message A)) (at : ℕ) (message : Message A) → at < length messages → message ≡ get_or messages at message
    → map received (drop at messages) ≡ received message ∷ map received (drop (at + 1) messages)
at_message messages at message within is =
    ap (map received) (drop-cons messages at message within
    ∙ ap (λ (m : Message _). m ∷ drop (suc at) messages) (sym is) ∙ ap (λ (n : ℕ). message ∷ drop n messages) (sym (add-one at)))

pub at_end : {A : Type 0} (messages : List (Message A)) (at : ℕ) → length messages ≤ at → map received (drop at messages) ≡ []
at_end messages at all = let none : drop at messages ≡ [] = grind (arith, common_steps, all) in ap (map received) none

pub are_received : {A : Type 0} (messages : List (Message A)) → all_received messages ≡ map received messages
are_received [] = refl
are_received (message ∷ messages) = ap (λ (z : List Received). received message ∷ z) (are_received messages)

module _ {X : Type 0} (does : X → Call → X → Type 0) (now : ℕ) (side : Side) where
  -- the messages that were received, and then those that are left, are all messages
  pub record Receiving (all left : List Received) (s : SessionState) (x : X) (t : SessionState) (y : X) : Type 0 where
    pub done : List Event
    pub runs : Runs does x (calls done) y
    pub completes : (more : List Event) (u : SessionState) → EachReceived now side left t more u → EachReceived now side all s (done ++ more) u

  pub begins : (all : List Received) (s : SessionState) (x : X) → Receiving all all s x s x
  begins all s x = record { done = []; runs = refl; completes = λ more u each. each }

  pub receives : (all : List Received) (message : Received) (left : List Received) (s : SessionState) (x : X) (t : SessionState) (y : X) (u : SessionState) (z : X) → Receiving all (message ∷ left) s x t y → PerformsStep does (IsMessageReceived now side message) t y u z
      → Receiving all left s x u z
  receives all message left s x t y u z r m = record {
    done = r.done ++ m.done;
    runs = runs_after does r.done m.done x y z r.runs m.runs;
    completes = λ more v each. subst (λ (w : List Event). EachReceived now side all s w v) (sym (append_assoc r.done m.done more)) (r.completes (m.done ++ more) v (u, m.done, more, refl, m.is, each));
  }

  pub received_all : (all : List Received) (s : SessionState) (x : X) (t : SessionState) (y : X) → Receiving all [] s x t y → PerformsStep does (EachReceived now side all) s x t y
  received_all all s x t y r = record { done = r.done; is = subst (λ (w : List Event). EachReceived now side all s w t) (append-nil r.done) (r.completes [] t (refl, refl)); runs = r.runs }

-- a channel that has returned one message
pub only_one : {A : Type 0} (messages : List (Message A)) (channel : Awaited) (stream : List ℕ) → length messages ≡ 1 → Fed channel stream (all_received messages) → (first : Received) × Fed channel stream (first ∷ [])
only_one [] channel stream one fed = absurd (omega (arith, one))
only_one (message ∷ []) channel stream one fed = (received message, fed)
only_one (message ∷ next ∷ messages) channel stream one fed = absurd (omega (arith, one))

-- the messages that a channel appends to an empty list
pub fed_all : {A : Type 0} (old new : Awaited) (bytes : List ℕ) (before after : List (Message A)) → before ≡ [] → IsFedBy old bytes new before after → Feeds old bytes (map received after) new
fed_all old new bytes before after none fed stream given f =
    let are : map received after ≡ map received fed.0 = ap (map received) (fed.1 ∙ ap (λ (z : List (Message _)). z ++ fed.0) none) in
    subst (λ (z : List Received). Fed new (stream ++ bytes) (given ++ z)) (are_received fed.0 ∙ sym are) (fed.2 stream given f)

-- a new channel of which a feed completes one message
pub one_fed : {A : Type 0} (old new : Awaited) (bytes : List ℕ) (before after : List (Message A)) → before ≡ [] → IsFedBy old bytes new before after → Fed old [] [] → length after ≡ 1
    → (first : Received) × Fed new bytes (first ∷ [])
one_fed old new bytes before after none fed start one =
    only_one after new bytes one (subst (λ (z : List (Message _)). Fed new bytes (all_received z)) (sym (fed.1 ∙ ap (λ (z : List (Message _)). z ++ fed.0) none)) (fed.2 [] [] start))

as_many : {A : Type 0} (messages : List (Message A)) → length (all_received messages) ≡ length messages
as_many [] = refl
as_many (message ∷ messages) = omega (arith, as_many messages)

-- where the bytes are one message, a feed of a new channel completes one
pub one_message : {A : Type 0} (old new : Awaited) (bytes : List ℕ) (before after : List (Message A)) → before ≡ [] → IsFedBy old bytes new before after → Fed old [] []
    → ((stream : List ℕ) (messages others : List Received) → IsStream stream messages → IsStream stream others → messages ≡ others) → (first : Received) → IsStream bytes (first ∷ []) → length after ≡ 1
one_message old new bytes before after none fed start one first is =
    let all : Fed new bytes (all_received after) = subst (λ (z : List (Message _)). Fed new bytes (all_received z)) (sym (fed.1 ∙ ap (λ (z : List (Message _)). z ++ fed.0) none)) (fed.2 [] [] start) in
    let same : all_received after ≡ first ∷ [] = one bytes (all_received after) (first ∷ []) all.0 is in
    sym (as_many after) ∙ ap length same
