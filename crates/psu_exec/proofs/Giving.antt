-- The flush part and the open sessions after the end of a job.
use Rattle.std.proofs.Common.{◌≡◌, ◌⊎◌, inl, inr, ap, refl}
use Rattle.std.specs.Prelude.{◌≢◌}
use Rattle.psu_items.specs.declared.commit.UnstartedCause.TheVariants as unstarted
use Rattle.psu_exec.specs.Device.{Flush, State, target}
use Rattle.psu_exec.specs.Calls.{JobEnd, Stored, Unstarted, Failed, Reopened, stored, kept, broken, worn, GivesBack}

abbrev pub FlushGives : Flush → JobEnd → Flush → Type 0
FlushGives f (Stored limit map) new = new ≡ stored f
FlushGives f (Unstarted limit before edits unstarted.Memory) new = new ≡ kept f
FlushGives f (Unstarted limit before edits unstarted.Worn) new = new ≡ worn f
FlushGives f (Failed limit before edits cause) new = new ≡ broken f
FlushGives f (Reopened limit map) new = ((map ≡ target f) × (new ≡ stored f)) ⊎ ((map ≢ target f) × (new ≡ kept f))

pub flush_gives : (s new : State) (finished : JobEnd) → GivesBack s finished new → FlushGives s.flush finished new.flush
flush_gives s new (Unstarted limit before edits unstarted.Memory) is = ap (λ (t : State). t.flush) is
flush_gives s new (Reopened limit map) (inl all) = inl (all.0, ap (λ (t : State). t.flush) all.1)
flush_gives s new (Reopened limit map) (inr none) = inr (none.0, ap (λ (t : State). t.flush) none.1)
flush_gives s new other is = ap (λ (t : State). t.flush) is

-- the same sessions are open
pub open_after : (s new : State) (finished : JobEnd) → GivesBack s finished new → new.volatile.open_now ≡ s.volatile.open_now
open_after s new (Unstarted limit before edits unstarted.Memory) is = ap (λ (t : State). t.volatile.open_now) is
open_after s new (Reopened limit map) (inl all) = ap (λ (t : State). t.volatile.open_now) all.1
open_after s new (Reopened limit map) (inr none) = ap (λ (t : State). t.volatile.open_now) none.1
open_after s new other is = ap (λ (t : State). t.volatile.open_now) is
