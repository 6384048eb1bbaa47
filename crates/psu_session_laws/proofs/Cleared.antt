-- What is sent after a device clear has begun is no response to what was received before it.
use Rattle.std.proofs.Common.{◌≡◌, ℕ, All, List, [], ◌∷◌, ◌++◌, refl, sym, ap, ◌∙◌, append_assoc}
use Rattle.std.proofs.lemmas.List.Elements.{All-cons, All-nil}
use Rattle.psu_hislip.specs.Runs.{origins}
use Rattle.psu_hislip.specs.Stream.{Received}
use Rattle.psu_hislip.specs.declared.action.Origin.{Origin}
use Rattle.psu_hislip.specs.declared.side.Side.TheVariants.{Sync, Async}
use Rattle.psu_messages.specs.Effects.{Effect}
use Rattle.psu_session_laws.specs.Exchange.{acts_requested}
use Rattle.psu_session_laws.specs.Cleared.{IsAfterResponses, worked}
use Rattle.psu_session.specs.Events as events
use Rattle.psu_session.specs.Events.{Event, Came, Did, Put, put}
use Rattle.psu_session_laws.specs.Views.{exchange_history, taken}
use Rattle.psu_session.specs.State.{SessionState}
use Rattle.psu_session.proofs.Serving.{put-append}

each_worked : (P : Origin → Type 0) (xs : List Event) → ((before after : List Event) (origin : Origin) (effect : Effect) (frames : List ℕ) → xs ≡ before ++ Did origin effect frames ∷ after → P origin) → All P (worked xs)
each_worked P [] f = All-nil P
each_worked P (events.Did origin effect frames ∷ xs) f =
    All-cons P origin (worked xs) (f [] xs origin effect frames refl)
    (each_worked P xs (λ before after o d g is. f (events.Did origin effect frames ∷ before) after o d g (ap (λ (z : List Event). events.Did origin effect frames ∷ z) is)))
each_worked P (event ∷ xs) f = each_worked P xs (λ before after o d g is. f (event ∷ before) after o d g (ap (λ (z : List Event). event ∷ z) is))

module _ (session : ℕ) (before between : List Event) (clear : Received) (reply : List ℕ) (after history : List Event) (s : SessionState) (is : history ≡ before ++ Came Async clear ∷ (between ++ Put Sync reply ∷ after))
    (none : (middle later : List Event) (origin : Origin) (effect : Effect) (frames : List ℕ) → history ≡ before ++ Came Async clear ∷ (middle ++ Did origin effect frames ∷ later) → All (λ old. old ≡ origin → ⊥) (origins (acts_requested session (exchange_history before))))
    (outputs : put Sync history ≡ taken Sync history ++ s.sync) where
  pub acknowledged_last : IsAfterResponses session before between reply after history s
  acknowledged_last = record {
    sent = sym outputs ∙ ap (put Sync) is ∙ put-append Sync before (Came Async clear ∷ (between ++ Put Sync reply ∷ after)) ∙ ap (λ (z : List ℕ). put Sync before ++ z) (put-append Sync between (Put Sync reply ∷ after));
    until_then = each_worked _ between (λ xs ys origin effect frames at.
        none xs (ys ++ Put Sync reply ∷ after) origin effect frames
        (is ∙ ap (λ (z : List Event). before ++ Came Async clear ∷ (z ++ Put Sync reply ∷ after)) at
        ∙ ap (λ (z : List Event). before ++ Came Async clear ∷ z) (append_assoc xs (Did origin effect frames ∷ ys) (Put Sync reply ∷ after))));
    from_then = each_worked _ after (λ xs ys origin effect frames at.
        none (between ++ Put Sync reply ∷ xs) ys origin effect frames
        (is ∙ ap (λ (z : List Event). before ++ Came Async clear ∷ (between ++ Put Sync reply ∷ z)) at
        ∙ ap (λ (z : List Event). before ++ Came Async clear ∷ z) (sym (append_assoc between (Put Sync reply ∷ xs) (Did origin effect frames ∷ ys)))));
  }
