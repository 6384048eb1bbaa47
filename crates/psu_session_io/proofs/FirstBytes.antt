-- The first message of a connection.
use Rattle.std.proofs.Common.{◌≡◌, ℕ, List, [], ◌∷◌, ◌++◌, ap, sym, subst, ◌∙◌}
use Rattle.psu_hislip.specs.Channel.{Awaited, Fed}
use Rattle.psu_hislip.specs.First.{first_of}
use Rattle.psu_hislip.specs.Rest.{IsFedBy, all_received}
use Rattle.psu_hislip.specs.Stream.{IsStream, received}
use Rattle.psu_hislip.specs.declared.first.First.{First}
use Rattle.psu_hislip.specs.declared.message.Message.{Message}
use Rattle.psu_session_io.specs.Opening.{IsFirst}

-- a channel has returned messages, of which this is the first
pub whole : {A : Type 0} (messages rest : List (Message A)) (message : Message A) (first : First) (channel : Awaited) (stream : List ℕ) → messages ≡ message ∷ rest → first ≡ first_of (received message)
    → Fed channel stream (all_received messages) → IsFirst first stream
whole messages rest message first channel stream are requests fed = record {
  message = received message;
  later = all_received rest;
  are = subst (λ (z : List (Message _)). IsStream stream (all_received z)) are fed.0;
  requests = requests;
}

-- it has returned none
pub none : {A : Type 0} (messages : List (Message A)) (channel : Awaited) (stream : List ℕ) → messages ≡ [] → Fed channel stream (all_received messages) → Fed channel stream []
none messages channel stream are fed = subst (λ (z : List (Message _)). Fed channel stream (all_received z)) are fed

-- what a channel that has returned no message returns for these bytes
pub fed_once : {A : Type 0} (old new : Awaited) (bytes : List ℕ) (before after : List (Message A)) → before ≡ [] → IsFedBy old bytes new before after → (stream : List ℕ) → Fed old stream [] → Fed new (stream ++ bytes) (all_received after)
fed_once old new bytes before after empty fed stream f =
    subst (λ (z : List (Message _)). Fed new (stream ++ bytes) (all_received z)) (sym (fed.1 ∙ ap (λ (z : List (Message _)). z ++ fed.0) empty)) (fed.2 stream [] f)
