-- The effect of a command, as the step of its unit.
use Rattle.std.proofs.Common.{◌≡◌, ◌⊎◌, inl, inr, ℕ, Bool, true, false, ◌&&◌, ◌||◌, Some, is_some, None, Ok, Err, List, refl, sym, ap, subst, ◌∙◌}
use Rattle.psu_lex.specs.declared.scpi_error.ScpiError.{ScpiError}
use Rattle.psu_lex.specs.declared.scpi_error.ScpiError.TheVariants.{MediaFull, OutOfMemory}
use Rattle.psu_nv.specs.Commands as nv
use Rattle.std.proofs.lemmas.Bool.{cases_Bool}
use Rattle.psu_nv.specs.Contents.{Contents, IsContents, fits}
use Rattle.psu_nv.specs.Views.{command_of}
use Rattle.psu_nv.specs.declared.command.NvCommand.{NvCommand}
use Rattle.psu_tree.specs.declared.command.Request.{Request}
use Rattle.psu_instrument.specs.Instrument.{Instrument}
use Rattle.psu_instrument.specs.Meaning.{ActsAs, Meaning, Refuses, Does, Keeps, Completes}
use Rattle.psu_instrument.specs.declared.act.Act.TheVariants as act
use Rattle.psu_instrument.specs.declared.act.Completion.{Completion}
use Rattle.psu_exec.specs.Device.{Reply, Answer, Done, Error, Held, Later, State, Flush, MayMean, MayRun, RunGives, Step, LockedOut, TooEarly, Runs, after_meant, followed, here, is_denied, is_full, is_late, is_later, is_whole, kept_unless, meant, refused, NeedsMemory, wait_of, with_instrument}
use Rattle.psu_exec.specs.Consistent.{IsConsistent}
use Rattle.psu_exec.proofs.RqsUpdates.{followed_same}
use Rattle.psu_exec.proofs.Changes.{sound_after}

-- ---- steps

pub kept_sound : (f : Flush) → IsConsistent f → IsContents f.contents
kept_sound f k = subst IsContents (sym k.made) (sound_after f.limit k.first k.rest k.sound).sound

pub held_step : (s : State) (session : ℕ) (request : Request) → is_denied s session ≡ true → IsConsistent s.flush → Step s session request Held s
held_step s session request denied k = record { may = LockedOut denied; is = sym (followed_same s); sound = kept_sound s.flush k; fitting = k.fitting }

pub later_step : (s : State) (session : ℕ) (request : Request) → is_denied s session ≡ false → is_later s session request ≡ true → IsConsistent s.flush → Step s session request Later s
later_step s session request free late k = record { may = TooEarly free late; is = sym (followed_same s); sound = kept_sound s.flush k; fitting = k.fitting }

-- the step of a unit that is executed
pub answered_step : (s mid new : State) (session : ℕ) (request : Request) (reply : Reply) → MayRun s session request → RunGives s session request reply
    → mid ≡ after_meant s session (meant (here s session) request.reading) reply → new ≡ followed s mid → IsConsistent new.flush → Step s session request reply new
answered_step s mid new session request reply run gives is then k = record {
  may = Runs run gives;
  is = then ∙ ap (followed s) is;
  sound = kept_sound new.flush k;
  fitting = k.fitting;
}

-- ---- the effect of a command

pub failed : (A : Type 0) (s : State) (session : ℕ) (m : Meaning) (e : ScpiError) (new : Instrument) → ActsAs {A = A} m s.volatile.instrument (Err e) new
    → MayMean s.flush m (Error e) × (refused (with_instrument s new) e ≡ after_meant s session m (Error e))
failed A s session (Refuses x) e new h = (inl cc, ap (λ (i : Instrument). refused (with_instrument s i) e) h.1)
failed A s session (Does None after) e new h = absurd (let bad = h.0 in cc)
failed A s session (Does (Some text) after) e new (inl h) = absurd (let bad = h.0 in cc)
failed A s session (Does (Some text) after) e new (inr h) = (inr (let same = h.0 in cc, h.2), ap (λ (i : Instrument). refused (with_instrument s i) e) h.1)
failed A s session (Keeps change) e new h = absurd h
failed A s session (Completes c) e new h = absurd (let bad = h.0 in cc)

pub answers_so : (A : Type 0) (s : State) (session : ℕ) (m : Meaning) (text : List ℕ) (new : Instrument) → ActsAs {A = A} m s.volatile.instrument (Ok (act.Answer text)) new
    → MayMean s.flush m (Answer text) × (with_instrument s new ≡ after_meant s session m (Answer text))
answers_so A s session (Refuses x) text new h = absurd (let bad = h.0 in cc)
answers_so A s session (Does None after) text new h = absurd (let bad = h.0 in cc)
answers_so A s session (Does (Some other) after) text new (inl h) = (inl (let same = h.0 in cc), ap (with_instrument s) h.1)
answers_so A s session (Does (Some other) after) text new (inr h) = absurd (let bad = h.0 in cc)
answers_so A s session (Keeps change) text new h = absurd h
answers_so A s session (Completes c) text new h = absurd (let bad = h.0 in cc)

pub done_so : (A : Type 0) (s : State) (session : ℕ) (m : Meaning) (new : Instrument) → ActsAs {A = A} m s.volatile.instrument (Ok act.Done) new
    → MayMean s.flush m Done × (with_instrument s new ≡ after_meant s session m Done)
done_so A s session (Refuses x) new h = absurd (let bad = h.0 in cc)
done_so A s session (Does None after) new h = (inl refl, ap (with_instrument s) h.1)
done_so A s session (Does (Some text) after) new (inl h) = absurd (let bad = h.0 in cc)
done_so A s session (Does (Some text) after) new (inr h) = absurd (let bad = h.0 in cc)
done_so A s session (Keeps change) new h = absurd h
done_so A s session (Completes c) new h = absurd (let bad = h.0 in cc)

pub keeps : (A : Type 0) (m : Meaning) (i new : Instrument) (change : NvCommand) → ActsAs {A = A} m i (Ok (act.Keep change)) new → (m ≡ Keeps (command_of change)) × (new ≡ i)
keeps A (Refuses x) i new change h = absurd (let bad = h.0 in cc)
keeps A (Does None after) i new change h = absurd (let bad = h.0 in cc)
keeps A (Does (Some text) after) i new change (inl h) = absurd (let bad = h.0 in cc)
keeps A (Does (Some text) after) i new change (inr h) = absurd (let bad = h.0 in cc)
keeps A (Keeps other) i new change h = (ap Keeps (sym h.0), h.1)
keeps A (Completes c) i new change h = absurd (let bad = h.0 in cc)

pub completes : (A : Type 0) (m : Meaning) (i new : Instrument) (c : Completion) → ActsAs {A = A} m i (Ok (act.Complete c)) new → (m ≡ Completes c) × (new ≡ i)
completes A (Refuses x) i new c h = absurd (let bad = h.0 in cc)
completes A (Does None after) i new c h = absurd (let bad = h.0 in cc)
completes A (Does (Some text) after) i new c (inl h) = absurd (let bad = h.0 in cc)
completes A (Does (Some text) after) i new c (inr h) = absurd (let bad = h.0 in cc)
completes A (Keeps other) i new c h = absurd h
completes A (Completes other) i new c h = (cc, h.1)

-- what is done for an equal meaning is done for the command
pub then_done : (s : State) (session : ℕ) (m n : Meaning) (new : Instrument) (reply : Reply) → m ≡ n → new ≡ s.volatile.instrument → MayMean s.flush n reply
    → MayMean s.flush m reply × (after_meant (with_instrument s new) session n reply ≡ after_meant s session m reply)
then_done s session m n new reply e same may = rw e (may, ap (λ (i : Instrument). after_meant (with_instrument s i) session n reply) same)

-- ---- changes of the nonvolatile contents

-- a change that is not made: it doesn't fit, or an allocation fails
pub not_made : (f : Flush) (change : nv.Command) (e : ScpiError) → nv.refused f.contents change ≡ None → is_whole f.store ≡ true
    → ((e ≡ OutOfMemory) × (fits f.limit (nv.apply f.contents change) ≡ true)) ⊎ ((e ≡ MediaFull) × (fits f.limit (nv.apply f.contents change) ≡ false)) → (e ≡ OutOfMemory → nv.takes_memory change ≡ true)
    → MayMean f (Keeps change) (Error e)
not_made f change e found whole (inl m) takes = inr (ap Error m.0, subst (NeedsMemory (Some change)) (sym (answers true m.1)) (takes m.0)) where
  answers : (b : Bool) → fits f.limit (nv.apply f.contents change) ≡ b → kept_unless (nv.refused f.contents change) (is_whole f.store) (fits f.limit (nv.apply f.contents change)) ≡ kept_unless None true b
  answers b fit = rw (found, whole, fit) refl
not_made f change e found whole (inr m) takes = inl (ap Error m.0 ∙ sym (answers false m.1)) where
  answers : (b : Bool) → fits f.limit (nv.apply f.contents change) ≡ b → kept_unless (nv.refused f.contents change) (is_whole f.store) (fits f.limit (nv.apply f.contents change)) ≡ kept_unless None true b
  answers b fit = rw (found, whole, fit) refl

-- where a change is not late, no flush has to make room for it
pub not_full : (f : Flush) (session : ℕ) → is_late f session true ≡ false → is_full f ≡ false
not_full f session h = at (is_some (wait_of f session)) (is_full f) h where
  at : (waits full : Bool) → (waits || (full && true)) ≡ false → full ≡ false
  at false false e = refl
  at other another e = cc
