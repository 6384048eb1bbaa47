-- The store of a job that was given back.
use Rattle.std.proofs.Common.{◌≡◌, inl, inr, ◌⊎◌, ◌||◌, false, ℕ, Option, Some, refl, sym, ap, subst, ◌∙◌}
use Rattle.psu_map.specs.Plan.{Planned}
use Rattle.psu_map.specs.Batch.{changed}
use Rattle.psu_disk.specs.declared.disk.Disk.{Ghosts}
use Rattle.psu_items.specs.declared.commit.UnstartedCause.TheVariants as unstarted
use Rattle.psu_exec.specs.Consistent.{HasEdits, IsConsistent}
use Rattle.psu_exec.specs.Device.{Flush, held_of, is_broken, target}
use Rattle.psu_exec.specs.declared.idle_store.Condition.{Condition}
use Rattle.psu_exec.specs.Calls.{IsExpected}
use Rattle.psu_exec.specs.Jobs.{Belongs, IsStoreOf, finished_of, idle_store_of}
use Rattle.psu_exec.specs.declared.idle_store.IdleStore.{IdleStore}
use Rattle.psu_exec.specs.declared.idle_store.IdleStore.TheVariants as idle_store
use Rattle.psu_exec.specs.declared.job.End.{End}
use Rattle.psu_exec.specs.declared.job.End.TheVariants as finished
use Rattle.psu_exec.proofs.Giving.{FlushGives}
use Rattle.psu_exec.proofs.Plans.{as_planned}

-- the store of an expected end is that of the device after it
pub returned : {D A : Type 0} {G : Ghosts D} (f new : Flush) (end : End D A G) → IsExpected f (finished_of end) → FlushGives f (finished_of end) new → IsStoreOf new (idle_store_of end)
returned f new (finished.Unstarted store edits unstarted.Memory) expected is = rw is (expected.1, expected.0, refl)
returned f new (finished.Broken store) expected is = rw is (expected.1, expected.0, refl, expected.2)
returned f new (finished.Reopened store) expected (inl is) = rw is.1 (is.0, expected.0, refl)
returned f new (finished.Reopened store) expected (inr is) = rw is.1 (before_is expected.1, expected.0, refl)
  where
    before_is : (store.items ≡ f.before) ⊎ (store.items ≡ target f) → store.items ≡ f.before
    before_is (inl e) = e
    before_is (inr e) = absurd (is.0 e)
returned f new other expected is = rw is (expected.1, expected.0, refl)

-- the store of a device's invariant is that of its state
pub store_of : {D A : Type 0} {G : Ghosts D} (f : Flush) (held : Option ℕ) (plan : Planned) (store : IdleStore D A G) → HasEdits held plan → IsConsistent f → f.before ≡ plan.map → f.held ≡ held_of held (changed plan.map plan.edits) → f.out ≡ false
    → Belongs store f.store f.limit plan → IsStoreOf f store
store_of f held plan (idle_store.Whole store) edits k before is idle own = (own.0 ∙ sym before, own.1, own.2)
store_of f held plan (idle_store.Failed broken) edits k before is idle own =
    let planned = as_planned f held plan edits before is (k.out ∙ ap (λ b. b || is_broken f.store) idle ∙ ap is_broken own.2) in
    (own.0 ∙ sym before, own.1, own.2, own.3 ∙ sym planned.1)

-- a store that is not broken belongs to a device by its map alone
pub whole_belongs : {D A : Type 0} {G : Ghosts D} (store : IdleStore D A G) (c : Condition) (limit : ℕ) (plan other : Planned) → is_broken c ≡ false → plan.map ≡ other.map → Belongs store c limit plan → Belongs store c limit other
whole_belongs (idle_store.Whole store) c limit plan other whole same belongs = (belongs.0 ∙ same, belongs.1, belongs.2)
whole_belongs (idle_store.Failed broken) c limit plan other whole same belongs = absurd (let bad = sym whole ∙ ap is_broken belongs.2 in cc)

-- a property of a value that is put into a place holds for what the place then contains
pub placed : {X : Type 0} (P : X → Type 0) (x : X) (place : Option X) → place ≡ Some x → P x → (y : X) → place ≡ Some y → P y
placed P x place is p y at = let both = sym is ∙ at in subst P (let same : x ≡ y = cc in same) p
