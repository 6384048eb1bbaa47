-- One range is written.
use Rattle.std.proofs.Common.{ℕ, List}
use Rattle.psu_disk.specs.Disk.{SameBut, Follows, LeavesOnly, Elapses}
use Rattle.psu_disk.specs.Moments.{started, continues}
use Rattle.psu_disk.specs.Ranges.{same_but_refl}
use Rattle.psu_pages.specs.Writing.{Reaches}

pub run_written : (at n : ℕ) {D : Type 0} {moment : D → ℕ} {left_since : D → ℕ → List ℕ → Type 0} {old new : D} {before after : List ℕ → Type 0}
    → ((x : List ℕ) → left_since old (moment old) x → before x) → Follows (SameBut at n) before after → Elapses (moment old) (moment new) (left_since old) (left_since new) after → LeavesOnly moment left_since old new (Reaches (SameBut at n) before)
run_written at n {D} {moment} {left_since} {old} {new} {before} {after} only_now step time =
    continues moment left_since old old new (Reaches (SameBut at n) before) after (started moment left_since old (Reaches (SameBut at n) before) (λ x l. (x, only_now x l, same_but_refl at n x))) time step
