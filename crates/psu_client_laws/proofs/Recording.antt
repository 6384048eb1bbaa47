-- The calls of a session's history as entries of the device's history, event by event.
use Rattle.std.proofs.Common.{◌≡◌, ℕ, List, [], ◌∷◌, ◌++◌, refl, sym, ap, ◌∙◌, subst, All, append_assoc, map}
use Rattle.std.proofs.lemmas.List.Elements.{All-cons, All-nil}
use Rattle.psu_exec.specs.Calls.{Entry}
use Rattle.psu_session.specs.Events.{Call, Event, calls, calls_in}
use Rattle.psu_threads.specs.Called.{AreAllEntries}
use Rattle.psu_client_laws.specs.Recorded.{HasEntries, Recorded, all_entries}

-- the entries of calls, and then those of further ones
pub record Divided (session : ℕ) (first later : List Call) (entries : List Entry) : Type 0 where
  pub of_first : List Entry
  pub of_later : List Entry
  pub is : entries ≡ of_first ++ of_later
  pub first_are : AreAllEntries session first of_first
  pub later_are : AreAllEntries session later of_later

pub divided : (session : ℕ) (first later : List Call) (entries : List Entry) → AreAllEntries session (first ++ later) entries → Divided session first later entries
divided session [] later entries are = record { of_first = []; of_later = entries; is = refl; first_are = refl; later_are = are }
divided session (call ∷ first) later entries (one, more, is, are, others) =
    let c = divided session first later more others in
    record {
      of_first = one ++ c.of_first;
      of_later = c.of_later;
      is = is ∙ ap (λ (z : List Entry). one ++ z) c.is ∙ sym (append_assoc one c.of_first c.of_later);
      first_are = (one, c.of_first, refl, are, c.first_are);
      later_are = c.later_are;
    }

-- the events of a history, each with the entries of its calls, and the entries of what was called after them
pub record OfHistory (session : ℕ) (history : List Event) (rest : List Call) (entries : List Entry) : Type 0 where
  pub events : List Recorded
  pub are : map (λ r. r.event) events ≡ history
  pub each : All (HasEntries session) events
  pub rest_entries : List Entry
  pub rest_are : AreAllEntries session rest rest_entries
  pub split : entries ≡ all_entries events ++ rest_entries

pub of_history : (session : ℕ) (history : List Event) (rest : List Call) (entries : List Entry) → AreAllEntries session (calls history ++ rest) entries → OfHistory session history rest entries
of_history session [] rest entries are = record { events = []; are = refl; each = All-nil (HasEntries session); rest_entries = entries; rest_are = are; split = refl }
of_history session (event ∷ history) rest entries are =
    let c = divided session (calls_in event) (calls history ++ rest) entries (subst (λ (z : List Call). AreAllEntries session z entries) (append_assoc (calls_in event) (calls history) rest) are) in
    let more = of_history session history rest c.of_later c.later_are in
    let first : Recorded = record { event = event; entries = c.of_first } in
    record {
      events = first ∷ more.events;
      are = ap (λ (z : List Event). event ∷ z) more.are;
      each = All-cons (HasEntries session) first more.events c.first_are more.each;
      rest_entries = more.rest_entries;
      rest_are = more.rest_are;
      split = c.is ∙ ap (λ (z : List Entry). c.of_first ++ z) more.split ∙ sym (append_assoc c.of_first (all_entries more.events) more.rest_entries);
    }
