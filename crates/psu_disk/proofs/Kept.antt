-- The states that a disk has had, with one more appended.
use Rattle.std.proofs.Common.{◌≡◌, ◌⊎◌, inl, inr, ⊎_elim, ℕ, zero, suc, ◌≤◌, List, [], ◌∷◌, ◌++◌, length, drop, refl, sym, subst, arith, length-append}
use Rattle.psu_disk.specs.Disk.{DiskState, IsCrashImage, Elapses}
use Rattle.psu_disk.specs.Past.{WasCrashImage, IsCrashImageSince}

keeps : (past : List DiskState) (m : DiskState) (x : List ℕ) → WasCrashImage past x → WasCrashImage (past ++ m ∷ []) x
keeps [] m x had = absurd had
keeps (p ∷ past) m x (inl here) = inl here
keeps (p ∷ past) m x (inr there) = inr (keeps past m x there)

adds : (past : List DiskState) (m : DiskState) (x : List ℕ) → WasCrashImage (past ++ m ∷ []) x → WasCrashImage past x ⊎ IsCrashImage m x
adds [] m x (inl here) = inr here
adds [] m x (inr none) = absurd none
adds (p ∷ past) m x (inl here) = inl (inl here)
adds (p ∷ past) m x (inr there) = ⊎_elim (λ had. inl (inr had)) (λ new. inr new) (adds past m x there)

newest : (past : List DiskState) (m : DiskState) (x : List ℕ) → IsCrashImage m x → WasCrashImage (past ++ m ∷ []) x
newest [] m x is = inl is
newest (p ∷ past) m x is = inr (newest past m x is)

drop_push : (t : ℕ) (past : List DiskState) (m : DiskState) → t ≤ length past → drop t (past ++ m ∷ []) ≡ drop t past ++ m ∷ []
drop_push zero past m le = refl
drop_push (suc t) [] m le = absurd (omega arith)
drop_push (suc t) (p ∷ past) m le = drop_push t past m (omega arith)

elapses_push : (past : List DiskState) (m new : DiskState) → Elapses (length past) (length (past ++ m ∷ [])) (IsCrashImageSince past m) (IsCrashImageSince (past ++ m ∷ []) new) (IsCrashImage new)
elapses_push past m new = record {
  later = omega (arith, length-append past (m ∷ []));
  nothing_else = λ t x le left. ⊎_elim (λ now. inr now) (λ had. inl (was t x (adds (drop t past) m x (subst (λ (l : List DiskState). WasCrashImage l x) (drop_push t past m le) had)))) left;
  keeps = λ t x le left. inr (subst (λ (l : List DiskState). WasCrashImage l x) (sym (drop_push t past m le)) (⊎_elim (λ now. newest (drop t past) m x now) (keeps (drop t past) m x) left));
}
  where
    was : (t : ℕ) (x : List ℕ) → WasCrashImage (drop t past) x ⊎ IsCrashImage m x → IsCrashImageSince past m t x
    was t x (inl had) = inr had
    was t x (inr new) = inl new

pub elapses_to : (past later : List DiskState) (old new : DiskState) → later ≡ past ++ old ∷ [] → Elapses (length past) (length later) (IsCrashImageSince past old) (IsCrashImageSince later new) (IsCrashImage new)
elapses_to past later old new same = subst (λ (l : List DiskState). Elapses (length past) (length l) (IsCrashImageSince past old) (IsCrashImageSince l new) (IsCrashImage new)) (sym same) (elapses_push past old new)
