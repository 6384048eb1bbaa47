-- The model of a file has the effect of each call.
use Rattle.std.specs.Prelude.{not}
use Rattle.std.proofs.Common.{◌≡◌, inl, inr, ℕ, ◌+◌, ◌≤◌, Bool, true, false, List, [], ◌∷◌, ◌++◌, length, get_or, replicate, refl, sym, ◌∙◌, ap, subst, arith, length-append}
use Rattle.std.proofs.lemmas.List.{length-take-le, length-replicate, get_or-replicate}
use Rattle.std.proofs.Math.ListN.{get_or-eq_default}
use Rattle.std.proofs.lemmas.Bool.{cases_lt, cases_Bool}
use Rattle.psu_disk.specs.Memory.{memory, marked}
use Rattle.psu_disk.specs.Medium.{NoneMore}
use Rattle.psu_disk.specs.FileCalls.{FileCall, Keeps, Reads, Syncs}
use Rattle.psu_disk.specs.FileModel.{FileModel, Recorded, IsSound, IsNoted, IsWithin, after_call, after_read, after_sync, at_opening, calls_of, disk_in, forgotten_in, model_of, past_of, passed, replaced, replay}
use Rattle.psu_disk.specs.Marks.{in_range_or_out, put_again, mark_again, mark_others, mark_inside, mark_stays, length-marked, unmarked, put_touches, put_flags}
use Rattle.psu_disk.specs.Splice as splices

-- no mark is set
none_of : (n k : ℕ) → get_or (replicate n false) k false ≡ false
none_of n k = elim (cases_lt k n) [
  | inl lt ↦ get_or-replicate n k false false lt
  | inr ge ↦ get_or-eq_default (replicate n false) false (omega (arith, ge, length-replicate n false))
]

-- ---- what holds always

pub sound_at_opening : (size : ℕ) (unsynced : List Bool) → IsSound size (at_opening size unsynced)
sound_at_opening size unsynced = record {
  bytes = length-replicate size 0;
  unsynced = length-take-le size (unsynced ++ replicate size false) (omega (arith, length-append unsynced (replicate size false), length-replicate size false));
  forgotten = length-replicate size false;
  at_risk = λ k is. let none = none_of size k in absurd cc;
}

module _ (size : ℕ) (m : FileModel) (sound : IsSound size m) where
  length-replaced : (at : ℕ) (bytes : List ℕ) → at + length bytes ≤ size → length (replaced m.bytes at bytes) ≡ size
  length-replaced at bytes fits = splices.length-splice at bytes m.bytes (omega (arith, fits, sound.bytes)) ∙ sound.bytes

  -- a byte that is forgotten after a write was forgotten before, or lies in its range
  risk_after : (at n : ℕ) (mark : Bool) → at + n ≤ size → (k : ℕ) → get_or (marked mark at n m.forgotten) k false ≡ true → get_or (marked true at n m.unsynced) k false ≡ true
  risk_after at n mark fits k is = elim (in_range_or_out at n k) [
    | inl here ↦ mark_inside true at n m.unsynced (omega (arith, fits, sound.unsynced)) k here.0 here.1
    | inr out ↦ mark_stays at n m.unsynced (omega (arith, fits, sound.unsynced)) k (sound.at_risk k (sym (mark_others mark at n m.forgotten (omega (arith, fits, sound.forgotten)) k out) ∙ is))
  ]

  sound_read : (at : ℕ) (bytes : List ℕ) (worked : Bool) → at + length bytes ≤ size → IsSound size (after_read worked at bytes m)
  sound_read at bytes true fits = record { bytes = length-replaced at bytes fits; unsynced = sound.unsynced; forgotten = sound.forgotten; at_risk = sound.at_risk }
  sound_read at bytes false fits = sound

  sound_sync : (worked : Bool) → IsSound size (after_sync worked m)
  sound_sync true = record { bytes = sound.bytes; unsynced = sound.forgotten; forgotten = sound.forgotten; at_risk = λ k is. is }
  sound_sync false = record { bytes = sound.bytes; unsynced = sound.unsynced; forgotten = sound.unsynced; at_risk = λ k is. is }

  pub sound_after : (call : FileCall) → IsWithin size call → IsSound size (after_call call m)
  sound_after (FileCall.ReadAt at bytes worked) fits = sound_read at bytes worked fits
  sound_after (FileCall.WriteAt at bytes worked) fits = record {
    bytes = length-replaced at bytes fits;
    unsynced = length-marked true at (length bytes) m.unsynced (omega (arith, fits, sound.unsynced)) ∙ sound.unsynced;
    forgotten = length-marked (not worked) at (length bytes) m.forgotten (omega (arith, fits, sound.forgotten)) ∙ sound.forgotten;
    at_risk = risk_after at (length bytes) (not worked) fits;
  }
  sound_after (FileCall.SyncData worked) fits = sound_sync worked
  sound_after (FileCall.SyncAll worked) fits = sound_sync worked
  sound_after (FileCall.Looked seen) fits = sound
  sound_after (FileCall.TriedLock answer) fits = sound

  -- ---- the effect of each call

  -- the marks of a write that succeeded
  fewer : (at n : ℕ) (worked : Bool) → at + n ≤ size → worked ≡ true → NoneMore (forgotten_in m) (λ k. get_or (marked (not worked) at n m.forgotten) k false)
  fewer at n true fits is k none = unmarked at n m.forgotten (omega (arith, fits, sound.forgotten)) k none
  fewer at n false fits is k none = absurd cc

  reads : (at : ℕ) (bytes : List ℕ) (worked : Bool) → Reads at bytes worked (disk_in m) (disk_in (after_read worked at bytes m)) (forgotten_in m) (forgotten_in (after_read worked at bytes m))
  reads at bytes true = record { returned = λ is. refl; failed = λ is. absurd cc; flags = refl; none_more = λ k none. none }
  reads at bytes false = record { returned = λ is. absurd cc; failed = λ is. refl; flags = refl; none_more = λ k none. none }

  syncs : (worked : Bool) → Syncs worked (disk_in m) (disk_in (after_sync worked m)) (forgotten_in m) (forgotten_in (after_sync worked m))
  syncs true = record {
    seen = refl;
    settles = λ is. record {
      safe = λ k none. none;
      fewer = λ k none. elim (cases_Bool (get_or m.forgotten k false)) [
        | inl lost ↦ let flag = sound.at_risk k lost in absurd cc
        | inr known ↦ known
      ];
    };
    none_more = λ is k none. none;
    failed = λ is. absurd cc;
  }
  syncs false = record { seen = refl; settles = λ is. absurd cc; none_more = λ is. absurd cc; failed = λ is. refl }

  pub keeps_after : (call : FileCall) → IsWithin size call → Keeps call (disk_in m) (disk_in (after_call call m)) (forgotten_in m) (forgotten_in (after_call call m))
  keeps_after (FileCall.ReadAt at bytes worked) fits = reads at bytes worked
  keeps_after (FileCall.WriteAt at bytes worked) fits =
      let room : at + length bytes ≤ length m.bytes = omega (arith, fits, sound.bytes) in
      let marks : length m.unsynced ≡ length m.bytes = sound.unsynced ∙ sym sound.bytes in
      record {
        written = refl;
        flagged = put_flags m.bytes (replaced m.bytes at bytes) m.unsynced _ at (length bytes) room marks refl;
        state = put_touches m.bytes m.unsynced at bytes _ _ room marks refl refl;
        again = λ same flagged. ap (λ (l : List ℕ). memory l (marked true at (length bytes) m.unsynced)) (put_again at bytes m.bytes room same) ∙ ap (memory m.bytes) (mark_again at (length bytes) m.unsynced (omega (arith, fits, sound.unsynced)) flagged);
        none_more = fewer at (length bytes) worked fits;
        known = λ is k ge lt. mark_inside (not worked) at (length bytes) m.forgotten (omega (arith, fits, sound.forgotten)) k ge lt ∙ ap not is;
      }
  keeps_after (FileCall.SyncData worked) fits = syncs worked
  keeps_after (FileCall.SyncAll worked) fits = syncs worked
  keeps_after (FileCall.Looked seen) fits = record { state = refl; none_more = λ k none. none }
  keeps_after (FileCall.TriedLock answer) fits = record { state = refl; none_more = λ k none. none }

-- ---- of what is recorded

pub sound_noted : (size : ℕ) (old new : Recorded) (call : FileCall) → IsNoted size old call new → IsSound size (model_of size old) → IsSound size (model_of size new)
sound_noted size old new call noted sound =
    subst (λ (start : List Bool). IsSound size (replay (at_opening size start) (calls_of new))) (sym noted.start)
    (subst (λ (calls : List FileCall). IsSound size (replay (at_opening size old.0) calls)) (sym noted.calls) (sound_after size (model_of size old) sound call noted.within))

module _ (size size' : ℕ) (old new : Recorded) (call : FileCall) (same : size' ≡ size) (noted : IsNoted size old call new) where
  abbrev Effect : FileModel → Type 0
  Effect m = Keeps call (disk_in (model_of size old)) (disk_in m) (forgotten_in (model_of size old)) (forgotten_in m)

  pub effect_noted : IsSound size (model_of size old) → Keeps call (disk_in (model_of size old)) (disk_in (model_of size' new)) (forgotten_in (model_of size old)) (forgotten_in (model_of size' new))
  effect_noted sound =
      subst (λ (n : ℕ). Effect (model_of n new)) (sym same)
      (subst (λ (start : List Bool). Effect (replay (at_opening size start) (calls_of new))) (sym noted.start)
      (subst (λ (calls : List FileCall). Effect (replay (at_opening size old.0) calls)) (sym noted.calls) (keeps_after size (model_of size old) sound call noted.within)))

  pub passes_noted : past_of size' new ≡ past_of size old ++ disk_in (model_of size old) ∷ []
  passes_noted =
      ap (λ (n : ℕ). past_of n new) same
      ∙ ap (λ (start : List Bool). passed (at_opening size start) (calls_of new)) noted.start
      ∙ ap (passed (at_opening size old.0)) noted.calls

-- a file that was just opened has forgotten nothing
pub none_forgotten : (size : ℕ) (noted : Recorded) → noted.1 ≡ [] → (k : ℕ) → forgotten_in (model_of size noted) k ≡ false
none_forgotten size noted is k = ap (λ (calls : List (List ℕ × List ℕ)). forgotten_in (model_of size (noted.0, calls)) k) is ∙ none_of size k

pub sound_opened : (size : ℕ) (noted : Recorded) → noted.1 ≡ [] → IsSound size (model_of size noted)
sound_opened size noted is = subst (λ (calls : List (List ℕ × List ℕ)). IsSound size (model_of size (noted.0, calls))) (sym is) (sound_at_opening size noted.0)
