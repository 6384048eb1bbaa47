-- The steps of a session whose output is discarded.
use Rattle.std.proofs.Common.{◌≡◌, ◌⊎◌, ◌∙◌, inl, inr, ℕ, Bool, true, false, Option, Some, None, Result, Ok, Err, IfOk, OnOk, IfErr, List, [], ◌∷◌, ◌++◌, ap, refl, subst, sym}
use Rattle.std.specs.Prelude.{IfSome, IsNone}
use Rattle.psu_hislip.specs.declared.side.Side.{Side}
use Rattle.psu_hislip.specs.declared.side.Side.TheVariants.{Sync, Async}
use Rattle.psu_session.specs.Events.{Call, Took, Wrote, calls}
use Rattle.psu_session.specs.Phases.{phase_ended}
use Rattle.psu_session.specs.State.{KeepsPhase, Shown, SessionState, output, with_output, with_writes, writes}
use Rattle.psu_session.specs.Step.{IsTaken, IsWritten, Steps}
use Rattle.psu_session.specs.Step.SessionStep.{Takes, Writes}
use Rattle.psu_session.specs.Step.Steps.{Still, Then}
use Rattle.psu_session.specs.declared.phase.EndCause.{EndCause}
use Rattle.psu_session.specs.declared.phase.EndCause.TheVariants.{Memory}
use Rattle.psu_session.specs.declared.phase.Phase.{Phase}
use Rattle.psu_session.specs.declared.phase.Phase.TheVariants.{Open, Ending, Over}
use Rattle.psu_session.proofs.Serving.{calls-append}
use Rattle.psu_session.proofs.Stepping.{steps_on}
use Rattle.psu_session_io.specs.Ending.{Discards, IsDiscarded, IsEnding}
use Rattle.psu_session_io.specs.Shared.{Shared, with_value}

-- the session's value has changed so
abbrev pub to : Shared → Shown → Shared
to s shown = with_value s shown.phase shown.state

same_discards : (s : Shared) (shown : Shown) → shown.state ≡ s.state → shown.phase ≡ s.phase → Discards s (to s shown)
same_discards s shown state phase = record {
  done = [];
  steps = subst (λ (z : SessionState). Steps s.state [] z) (sym state) Still;
  uncalled = refl;
  phase = inl phase;
  adds_none = λ side none. ap (output side) state ∙ none;
  rest = refl;
}

-- what is to be sent is not what is written
output_kept : (side on : Side) (s : SessionState) (b : Bool) → output side (with_writes on s b) ≡ output side s
output_kept Sync Sync s b = refl
output_kept Sync Async s b = refl
output_kept Async Sync s b = refl
output_kept Async Async s b = refl

-- output that is taken leaves none on its connection, and the other one's
output_left : (side on : Side) (s : SessionState) → output side s ≡ [] → output side (with_output on s []) ≡ []
output_left Sync Sync s none = refl
output_left Sync Async s none = none
output_left Async Sync s none = none
output_left Async Async s none = refl

taken_none : (side : Side) (s : SessionState) → output side (with_output side s []) ≡ []
taken_none Sync s = refl
taken_none Async s = refl

written_none : (side : Side) (s : SessionState) → writes side (with_writes side s false) ≡ false
written_none Sync s = refl
written_none Async s = refl

-- ---- a write ends

write_ends_if : (side : Side) (s : Shared) (shown : Shown) (over writing : Bool) → (over ≡ false → writing ≡ true → IsWritten side s.state (Wrote side ∷ []) shown.state) → (writing ≡ false → shown.state ≡ s.state)
    → (over ≡ true → shown.state ≡ s.state) → shown.phase ≡ s.phase → Discards s (to s shown)
write_ends_if side s shown true writing done none over phase = same_discards s shown (over refl) phase
write_ends_if side s shown false false done none over phase = same_discards s shown (none refl) phase
write_ends_if side s shown false true done none over phase = record {
  done = Wrote side ∷ [];
  steps = Then Still (Wrote side ∷ []) shown.state (Writes side (done refl refl));
  uncalled = refl;
  phase = inl phase;
  adds_none = λ on none. let is = done refl refl in ap (output on) is.then ∙ output_kept on side s.state false ∙ none;
  rest = refl;
}

pub write_ends : (side : Side) (s : Shared) (old shown : Shown) → old ≡ record { phase = s.phase; state = s.state } → (phase_ended old.phase ≡ false → writes side old.state ≡ true → IsWritten side old.state (Wrote side ∷ []) shown.state)
    → (writes side old.state ≡ false → shown ≡ old) → (phase_ended old.phase ≡ true → shown ≡ old) → shown.phase ≡ old.phase → Discards s (to s shown)
write_ends side s old shown is done none over phase =
    write_ends_if side s shown (phase_ended s.phase) (writes side s.state)
    (subst (λ (z : Shown). phase_ended z.phase ≡ false → writes side z.state ≡ true → IsWritten side z.state (Wrote side ∷ []) shown.state) is done)
    (λ e. ap (λ (z : Shown). z.state) (subst (λ (z : Shown). writes side z.state ≡ false → shown ≡ z) is none e))
    (λ e. ap (λ (z : Shown). z.state) (subst (λ (z : Shown). phase_ended z.phase ≡ true → shown ≡ z) is over e))
    (subst (λ (z : Shown). shown.phase ≡ z.phase) is phase)

-- ---- output is taken, and dropped

kept_or_over : (s : Shared) (shown : Shown) → KeepsPhase (record { phase = s.phase; state = s.state }) shown → (shown.phase ≡ s.phase) ⊎ (shown.phase ≡ Over Memory)
kept_or_over s shown (inl kept) = inl kept
kept_or_over s shown (inr refused) = inr refused.0

pub output_dropped : {B : Type 0} (Q : Type 0) (C : EndCause → Type 0) (items : B → List ℕ) (side : Side) (s : Shared) (shown : Shown) (taken : Result (Option B) EndCause)
    → IfOk taken (λ (some : Option B). IfSome some (λ (bytes : B). IsTaken side (items bytes) s.state (Took side (items bytes) ∷ []) shown.state))
    → IfOk taken (λ (some : Option B). IsNone some → (shown.state ≡ s.state) × Q) → OnOk taken (KeepsPhase (record { phase = s.phase; state = s.state }) shown)
    → IfErr taken (λ (cause : EndCause). C cause × (shown ≡ record { phase = s.phase; state = s.state })) → Discards s (to s shown)
output_dropped Q C items side s shown (Ok (Some bytes)) some none continues failed = record {
  done = Took side (items bytes) ∷ [];
  steps = Then Still (Took side (items bytes) ∷ []) shown.state (Takes side (items bytes) some);
  uncalled = refl;
  phase = kept_or_over s shown continues;
  adds_none = λ on none. ap (output on) some.then ∙ output_kept on side (with_output side s.state []) true ∙ output_left on side s.state none;
  rest = refl;
}
output_dropped Q C items side s shown (Ok None) some none continues failed = record {
  done = [];
  steps = subst (λ (z : SessionState). Steps s.state [] z) (sym (none refl).0) Still;
  uncalled = refl;
  phase = kept_or_over s shown continues;
  adds_none = λ on empty. ap (output on) (none refl).0 ∙ empty;
  rest = refl;
}
output_dropped Q C items side s shown (Err cause) some none continues failed = same_discards s shown (ap (λ (z : Shown). z.state) failed.1) (ap (λ (z : Shown). z.phase) failed.1)

-- ---- one after another

later_phase : (s t u : Phase) → (t ≡ s) ⊎ (t ≡ Over Memory) → (u ≡ t) ⊎ (u ≡ Over Memory) → (u ≡ s) ⊎ (u ≡ Over Memory)
later_phase s t u first (inr over) = inr over
later_phase s t u (inl kept) (inl same) = inl (same ∙ kept)
later_phase s t u (inr over) (inl same) = inr (same ∙ over)

over_stays : (s t : Phase) → s ≡ Over Memory → (t ≡ s) ⊎ (t ≡ Over Memory) → t ≡ Over Memory
over_stays s t over (inl same) = same ∙ over
over_stays s t over (inr again) = again

pub then_discards : (s t u : Shared) → Discards s t → Discards t u → Discards s u
then_discards s t u a b = record {
  done = a.done ++ b.done;
  steps = steps_on a.steps b.steps;
  uncalled = calls-append a.done b.done ∙ ap (λ (z : List Call). z ++ calls b.done) a.uncalled ∙ b.uncalled;
  phase = later_phase s.phase t.phase u.phase a.phase b.phase;
  adds_none = λ side none. b.adds_none side (a.adds_none side none);
  rest = b.rest ∙ ap (λ (z : Shared). with_value z u.phase u.state) a.rest;
}

-- ---- nothing is to be sent any more

-- a write that has ended: no thread writes on the connection
pub write_ended : (side : Side) (s : SessionState) (shown : Shown) (writing : Bool) → writes side s ≡ writing → (writing ≡ true → IsWritten side s (Wrote side ∷ []) shown.state) → (writing ≡ false → shown.state ≡ s) → writes side shown.state ≡ false
write_ended side s shown true is done none = let written = done refl in ap (writes side) written.then ∙ written_none side s
write_ended side s shown false is done none = ap (writes side) (none refl) ∙ is

-- output that was taken where no thread writes
pub output_gone : {B : Type 0} (Q : Type 0) (items : B → List ℕ) (side : Side) (s : SessionState) (phase : Phase) (shown : Shown) (taken : Result (Option B) EndCause)
    → IfOk taken (λ (some : Option B). IfSome some (λ (bytes : B). IsTaken side (items bytes) s (Took side (items bytes) ∷ []) shown.state))
    → IfOk taken (λ (some : Option B). IsNone some → (shown.state ≡ s) × ((writes side s ≡ true) ⊎ (output side s ≡ []))) → IfErr taken (λ (cause : EndCause). (phase ≡ Over cause) × Q)
    → phase_ended phase ≡ false → writes side s ≡ false → output side shown.state ≡ []
output_gone Q items side s phase shown (Ok (Some bytes)) some none ended going free = ap (output side) some.then ∙ output_kept side side (with_output side s []) true ∙ taken_none side s
output_gone Q items side s phase shown (Ok None) some none ended going free = elim (none refl).1 [
  | inl writing ↦ absurd (let bad = sym free ∙ writing in cc)
  | inr empty ↦ ap (output side) (none refl).0 ∙ empty
]
output_gone Q items side s phase shown (Err cause) some none ended going free = absurd (let bad = sym going ∙ ap phase_ended ended.0 in cc)

-- so it stays
still_discarded : (side : Side) (s t : Shared) → Discards s t → IsDiscarded side s → IsDiscarded side t
still_discarded side s t d (inl over) = inl (over_stays s.phase t.phase over d.phase)
still_discarded side s t d (inr none) = inr (d.adds_none side none)

going_if : (phase : Phase) → IsEnding phase → phase_ended phase ≡ false
going_if Open is = absurd is
going_if (Ending left) is = refl
going_if (Over cause) is = absurd is

-- a write ends on each connection, and then its output is taken
pub both_discarded : (s0 s1 s2 s3 s4 : Shared) → IsEnding s0.phase → (phase_ended s0.phase ≡ false → writes Sync s1.state ≡ false) → s1.phase ≡ s0.phase
    → (phase_ended s1.phase ≡ false → writes Sync s1.state ≡ false → output Sync s2.state ≡ []) → Discards s1 s2 → (phase_ended s2.phase ≡ false → writes Async s3.state ≡ false) → s3.phase ≡ s2.phase → Discards s2 s3
    → (phase_ended s3.phase ≡ false → writes Async s3.state ≡ false → output Async s4.state ≡ []) → Discards s3 s4 → (side : Side) → IsDiscarded side s4
both_discarded s0 s1 s2 s3 s4 ending ended_one same_one dropped_one d2 ended_two same_two d3 dropped_two d4 = by where
  going : phase_ended s1.phase ≡ false
  going = ap phase_ended same_one ∙ going_if s0.phase ending

  last : (s2.phase ≡ s1.phase) ⊎ (s2.phase ≡ Over Memory) → IsDiscarded Async s4
  last (inl same) =
      let on : phase_ended s2.phase ≡ false = ap phase_ended same ∙ going in
      inr (dropped_two (ap phase_ended same_two ∙ on) (ended_two on))
  last (inr over) = still_discarded Async s3 s4 d4 (inl (same_two ∙ over))

  by : (side : Side) → IsDiscarded side s4
  by Sync = still_discarded Sync s3 s4 d4 (still_discarded Sync s2 s3 d3 (inr (dropped_one going (ended_one (going_if s0.phase ending)))))
  by Async = last d2.phase
