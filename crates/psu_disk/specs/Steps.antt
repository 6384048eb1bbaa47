-- A step of several calls of a disk: what it means for the disk's size and its count of failures, and which crash images
-- it leaves possible.
use Rattle.std.specs.Prelude.{◌≡◌, ℕ, ◌≤◌, List, Result, Ok, Err, IsErr, OnOk, IfErr}
use Rattle.std.proofs.Common.{◌∙◌, subst}
use Rattle.psu_disk.specs.declared.disk.Disk.{Ghosts}
use Rattle.psu_disk.specs.declared.medium.Medium as medium
use Rattle.psu_disk.specs.Disk.{DiskState, IsCrashImage, Elapses, LeavesOnly, HasFailed}

-- The size stays. The count of failures never falls; it stays where the step succeeds, and it rises or is at its maximum
-- where the step ends because a call of the disk failed.
pub record DiskStep {D T E : Type 0} (d : Ghosts D) (old new : D) (result : Result T E) (is_device : E → Type 0) : Type 0 where
  pub extent : d.extent new ≡ d.extent old
  pub works : OnOk result (d.failures new ≡ d.failures old)
  pub later : d.failures old ≤ d.failures new
  pub device : IfErr result (λ e. is_device e → HasFailed (d.failures old) (d.failures new))

-- time elapses in calls of a disk, and the only new crash images are those of the disk after them
abbrev pub DiskElapses : {D : Type 0} → Ghosts D → D → D → Type 0
DiskElapses d old new = Elapses (d.moment old) (d.moment new) (d.left_since old) (d.left_since new) (IsCrashImage (d.state new))

-- the same for a medium, where the new ones are those of this state
abbrev pub MediumElapses : {M : Type 0} → medium.Ghosts M → M → M → DiskState → Type 0
MediumElapses m old new state = Elapses (m.moment old) (m.moment new) (m.left_since old) (m.left_since new) (IsCrashImage state)

-- Each possible crash image, after the step and at each moment of it, has P.
pub record LeavesImages {D : Type 0} (d : Ghosts D) (old new : D) (P : List ℕ → Type 0) : Type 0 where
  pub left : d.honest → (x : List ℕ) → IsCrashImage (d.state new) x → P x
  pub time : d.honest → d.records → LeavesOnly d.moment d.left_since old new P

-- # How that follows

-- a step after one that succeeded
pub step_on : {D T E U F : Type 0} {d : Ghosts D} {a b c : D} {x : T} {r : Result U F} {one : E → Type 0} {two : F → Type 0} → DiskStep d a b (Ok x) one → DiskStep d b c r two → DiskStep d a c r two
step_on {d = d} {c = c} {r = r} {two = two} first second = record {
  extent = second.extent ∙ first.extent;
  works = subst (λ (n : ℕ). OnOk r (d.failures c ≡ n)) first.works second.works;
  later = subst (λ (n : ℕ). n ≤ d.failures c) first.works second.later;
  device = subst (λ (n : ℕ). IfErr r (λ e. two e → HasFailed n (d.failures c))) first.works second.device;
}

-- a step that succeeded, with another value
pub step_ok : {D T E U F : Type 0} {d : Ghosts D} {a b : D} {x : T} {y : U} {one : E → Type 0} {two : F → Type 0} → DiskStep d a b (Ok x) one → DiskStep d a b (Ok y) two
step_ok step = record { extent = step.extent; works = step.works; later = step.later; device = tt }

-- a step that failed, with the error of another type
pub step_err : {D T E U F : Type 0} {d : Ghosts D} {a b : D} {e : E} {f : F} {one : E → Type 0} {two : F → Type 0} → DiskStep {T = T} d a b (Err e) one → (two f → one e) → DiskStep {T = U} d a b (Err f) two
step_err step same = record { extent = step.extent; works = tt; later = step.later; device = λ is. step.device (same is) }

-- the same, where it is only known that the result is an error
pub step_fails : {D T E U F : Type 0} {d : Ghosts D} {a b : D} {e : E} {one : E → Type 0} {two : F → Type 0} (r : Result U F) → IsErr r → DiskStep {T = T} d a b (Err e) one → ((f : F) → two f → one e) → DiskStep d a b r two
step_fails (Ok x) bad step same = absurd (cc (bad))
step_fails (Err f) bad step same = step_err step (same f)
