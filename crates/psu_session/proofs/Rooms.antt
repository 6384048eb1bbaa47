-- Room for the next reply, and the phase after a step.
use Rattle.std.proofs.Common.{◌≡◌, ◌∙◌, ◌-◌, ◌⊎◌, inl, inr, ℕ, ◌<◌, ◌==◌, if◌then◌else◌, Bool, true, false, Result, Ok, Err, OnOk, IfErr, IfOk, is_err, length, ap, refl, arith, zero, suc, subst, sym}
use Rattle.psu_session.specs.Events.{Call, calls}
use Rattle.psu_session.specs.Phases.{phase_ended, phase_after, tries, units_in, with_left}
use Rattle.psu_session.specs.Proceeding.{Counts, PassesTo, Proceeds}
use Rattle.psu_session.specs.Serving.{PerformsStep}
use Rattle.psu_session.specs.State.{SessionState}
use Rattle.psu_session.specs.Room.{HasReplyRoom, KeepsCapacity}
use Rattle.psu_session.specs.Shown.{state_of}
use Rattle.psu_session.specs.declared.parts.Parts.{Parts}
use Rattle.psu_session.specs.declared.phase.EndCause.{EndCause}
use Rattle.psu_session.specs.declared.phase.EndCause.TheVariants.{Memory, Disconnected}
use Rattle.psu_session.specs.declared.phase.Phase.{Phase}
use Rattle.psu_session.specs.declared.phase.Phase.TheVariants.{Open, Ending, Over}
use Rattle.psu_session.specs.declared.proceeding.Proceeded.{Proceeded}
use Rattle.psu_session.specs.declared.proceeding.Proceeded.TheVariants.{Idle, Completed, Waits}
use Rattle.psu_messages.specs.declared.need.Need.TheVariants.{Flush, Lock, Room, Turn}

-- it is there while the output does not change
pub room_kept : (old new : Parts) → KeepsCapacity old new → (state_of new).async ≡ (state_of old).async → HasReplyRoom old → HasReplyRoom new
room_kept old new keeps same room = omega (arith, old.async_output.ok.0, new.async_output.ok.0, ap length same, keeps, room)

-- ---- phases

pub not_over : (phase : Phase) → ((cause : EndCause) → phase ≡ Over cause → ⊥) → phase_ended phase ≡ false
not_over Open never = refl
not_over (Ending left) never = refl
not_over (Over cause) never = absurd (never cause refl)

-- a session is not over after a step: it was completed, and there is room
pub still : (t u : Parts) (phase result : Phase) → ((result ≡ phase) × HasReplyRoom u) ⊎ ((result ≡ Over Memory) × (HasReplyRoom t → ⊥)) → phase_ended result ≡ false → (result ≡ phase) × HasReplyRoom u
still t u phase result (inl kept) e = kept
still t u phase result (inr refused) e = let over = subst (λ (z : Phase). phase_ended z ≡ false) refused.0 e in absurd (cc (over))

pub still_ok : {T : Type 0} (t u : Parts) (phase result : Phase) (done : Result T EndCause) → IfErr done (λ (cause : EndCause). result ≡ Over cause)
    → OnOk done (((result ≡ phase) × HasReplyRoom u) ⊎ ((result ≡ Over Memory) × (HasReplyRoom t → ⊥))) → phase_ended result ≡ false → (is_err done ≡ false) × (result ≡ phase) × HasReplyRoom u
still_ok t u phase result (Ok x) ended kept e = let s = still t u phase result kept e in (refl, s.0, s.1)
still_ok t u phase result (Err cause) ended kept e = let over = subst (λ (z : Phase). phase_ended z ≡ false) ended e in absurd (cc (over))

-- units are left to it
units_left : (none : Bool) (left : ℕ) → (none ≡ false → 0 < left) → phase_ended (if none then Over Disconnected else Ending left) ≡ false → 0 < units_in (if none then Over Disconnected else Ending left)
units_left true left some e = absurd (cc (e))
units_left false left some e = some refl

some_left : (left : ℕ) → (left == 0) ≡ false → 0 < left
some_left zero e = absurd (cc (e))
some_left (suc left) e = omega arith

left_units : (left : ℕ) (proceeded : Proceeded) → phase_ended (with_left left proceeded) ≡ false → 0 < units_in (with_left left proceeded)
left_units left Idle e = units_left (left == 0) left (some_left left) e
left_units left Completed e = units_left (left == 0) left (some_left left) e
left_units left (Waits Flush) e = absurd (cc (e))
left_units left (Waits Lock) e = absurd (cc (e))
left_units left (Waits Room) e = absurd (cc (e))
left_units left (Waits Turn) e = units_left (left == 0) left (some_left left) e

pub units_after : (old : Phase) (left : ℕ) (proceeded : Proceeded) → phase_ended (phase_after old left proceeded) ≡ false → 0 < units_in (phase_after old left proceeded)
units_after Open left proceeded e = omega arith
units_after (Ending was) left proceeded e = left_units left proceeded e
units_after (Over cause) left proceeded e = absurd (cc (e))

-- of a call that was completed
pub units_after_ok : {E : Type 0} (done : Result Proceeded E) (old new : Phase) (left : ℕ) → is_err done ≡ false → IfOk done (λ (proceeded : Proceeded). new ≡ phase_after old left proceeded) → phase_ended new ≡ false → 0 < units_in new
units_after_ok (Ok proceeded) old new left ok is e = subst (λ (z : Phase). phase_ended z ≡ false → 0 < units_in z) (sym is) (units_after old left proceeded) e
units_after_ok (Err cause) old new left ok is e = absurd (cc (ok))

-- the phase that a completed call leads to counts the units that it has tried
pub passes : {X : Type 0} (does : X → Call → X → Type 0) (done : Result Proceeded EndCause) (s t u : Parts) (old mid new : Phase) (units left : ℕ) (x y : X) → units ≡ units_in old
    → IfOk done (λ (proceeded : Proceeded). PerformsStep does (Counts units proceeded left) (state_of s) x (state_of t) y) → IfOk done (λ (proceeded : Proceeded). mid ≡ phase_after old left proceeded)
    → OnOk done (((new ≡ mid) × HasReplyRoom u) ⊎ ((new ≡ Over Memory) × (HasReplyRoom t → ⊥))) → KeepsCapacity s t → HasReplyRoom s → state_of u ≡ state_of t
    → IfOk done (λ (proceeded : Proceeded). PerformsStep does (PassesTo old proceeded new) (state_of s) x (state_of u) y)
passes does (Ok proceeded) s t u old mid new units left x y all performs is kept capacity room same =
    let counted : left ≡ units_in old - tries (calls performs.done) = performs.is.counted ∙ ap (λ (z : ℕ). z - tries (calls performs.done)) all in
    record {
      done = performs.done;
      is = record {
        proceeds = subst (λ (z : SessionState). Proceeds proceeded (state_of s) performs.done z) (sym same) performs.is.proceeds;
        phase = elim kept [
          | inl here ↦ inl (here.0 ∙ is ∙ ap (λ (z : ℕ). phase_after old z proceeded) counted)
          | inr refused ↦ inr (refused.0, λ unchanged. refused.1 (room_kept s t capacity (sym (ap (λ (z : SessionState). z.async) same) ∙ unchanged) room))
        ];
      };
      runs = performs.runs;
    }
passes does (Err cause) s t u old mid new units left x y all performs is kept capacity room same = tt
