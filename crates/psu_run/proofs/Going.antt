-- From a device at rest to a later moment, step by step.
use Rattle.std.specs.Prelude.{unwrap_or}
use Rattle.psu_run.proofs.Common.{◌≡◌, ℕ, ◌≤◌, ◌&&◌, List, ◌∷◌, refl, sym, ap, ◌∙◌, subst, inl, inr, arith, ⊎_elim, Option, Some, option_map, Calls, DeviceStops, DiskAfter, DiskState, Entry, Exec, ForSome, GaveBack, Ghosts, HasFailed, IdleStore, IsAlong, IsAt, IsCrashImage, IsWornOut, JobEnd, Leads, LeavesOnly, NoNumber, Ran, RunCause, RunPoint, Running, Serves, State, StoreBroken, World, and_then, disk_in, failures_of, fault_of, idle_disk, is_broken, is_calm, recorded, started, weaken, same_Some, ◌^◌, ◌+◌, reads_left, after}
use Rattle.psu_items.specs.Image.{current_root, number_in}
use Rattle.psu_run.proofs.OneList.{Continues, Reached, along_here, goes_then, prefix_of_reached, reached_on, stays_on, step_goes}

-- ---- failures, and the disk of the idle store

pub failed_before : (a b c : ℕ) → a ≤ b → HasFailed b c → HasFailed a c
failed_before a b c later f = grind arith

pub failures_is : {D A : Type 0} {G : Ghosts D} (exec : Exec D A G) (disk : D) → disk_in exec ≡ Some disk → failures_of exec ≡ Ghosts.failures G disk
failures_is {D} {A} {G} exec disk is = ap (λ (z : Option D). unwrap_or (option_map (Ghosts.failures G) z) 0) is

pub for_disk : {D A : Type 0} {G : Ghosts D} (exec : Exec D A G) {disk : D} (P : D → Type 0) → disk_in exec ≡ Some disk → P disk → ForSome (disk_in exec) P
for_disk exec {disk} P there p other is = subst P (same_Some disk other (sym there ∙ is)) p

-- an honest disk shows the number of its store
pub worn_shows : (disk : DiskState) (number : ℕ) → ((image : List ℕ) → IsCrashImage disk image → number_in (current_root image) image ≡ number) → 2 ^ 64 ≤ number + 1 → IsWornOut disk.bytes
worn_shows disk number shown last = subst (λ (n : ℕ). 2 ^ 64 ≤ n + 1) (sym (shown disk.bytes (reads_left disk))) last

-- ---- one after another

-- to a device at rest, and from it
pub ran_then : {D A : Type 0} {G : Ghosts D} {old mid : Exec D A G} {from there to : D} {P Q : RunPoint → RunPoint → Type 0} (R : RunPoint → RunPoint → Type 0) → Ran old from there (λ p m. IsAt mid there m × P p m) → Ran mid there to Q
    → ((p m q : RunPoint) → P p m → Q m q → R p q) → Ran old from to R
ran_then {D} {A} {G} {from = from} {there = there} {to = to} R first second join = record {
  extent = second.extent ∙ first.extent;
  later = let one = first.later in let two = second.later in omega (arith, one, two);
  leads = λ p at.
      let (m, (there_at, a), one) = first.leads p at in let (q, b, two) = second.leads m there_at in (
        q,
        join p m q a b,
        λ h. let (on, moments) = one h in let (further, later) = two h in (
          goes_then p m q on further,
          λ t now r. and_then (Ghosts.moment G) (Ghosts.left_since G) from there to (IsAlong q) (IsAlong q)
              (weaken (Ghosts.moment G) (Ghosts.left_since G) from there (IsAlong m) (IsAlong q) (moments t now r) further.1) (later t now (reached_on p.world m.world on.0 r)) (λ x along. along),
        ),
      );
}

-- to a device at rest, and to a further disk with no step
pub ran_on : {D A : Type 0} {G : Ghosts D} {old : Exec D A G} (mid : Exec D A G) {from there : D} {P : RunPoint → RunPoint → Type 0} (to : D) → Ran old from there (λ p m. IsAt mid there m × P p m) → Ghosts.extent G to ≡ Ghosts.extent G there
    → Ghosts.failures G there ≤ Ghosts.failures G to → (Ghosts.honest G → Ghosts.records G → (m : RunPoint) → IsAt mid there m → Reached m.world → LeavesOnly (Ghosts.moment G) (Ghosts.left_since G) there to (IsAlong m))
    → Ran old from to (λ p m. IsAt mid there m × P p m)
ran_on {G = G} mid {from} {there} to ran size rose time = record {
  extent = size ∙ ran.extent;
  later = let one = ran.later in omega (arith, one, rose);
  leads = λ p at.
      let (m, a, goes) = ran.leads p at in
      (m, a, λ h. let (on, moments) = goes h in (on, λ t now r. and_then (Ghosts.moment G) (Ghosts.left_since G) from there to (IsAlong m) (IsAlong m) (moments t now r) (time h t m a.0 (reached_on p.world m.world on.0 r)) (λ x along. along)));
}

-- what is known of the points, in other words
pub ran_as : {D A : Type 0} {G : Ghosts D} {old : Exec D A G} {from to : D} {P : RunPoint → RunPoint → Type 0} (Q : RunPoint → RunPoint → Type 0) → Ran old from to P
    → ((p q : RunPoint) → IsAt old from p → P p q → Q p q) → Ran old from to Q
ran_as Q ran turn = record { extent = ran.extent; later = ran.later; leads = λ p at. let a = ran.leads p at in (a.0, turn p a.0 at a.1, a.2) }

pub steps_then : {D A : Type 0} {G : Ghosts D} {old mid new : Exec D A G} {P Q : RunPoint → RunPoint → Type 0} (R : RunPoint → RunPoint → Type 0) → Leads old mid P → Leads mid new Q → ((p m q : RunPoint) → P p m → Q m q → R p q) → Leads old new R
steps_then {new = new} R first second join = record {
  ran = λ from is.
      let a = first.ran from is in let b = second.ran a.0 a.1 in
      (b.0, b.1, ran_then (λ (p q : RunPoint). IsAt new b.0 q × R p q) a.2 b.2 (λ p m q x y. (y.0, join p m q x y.1)));
  later = let one = first.later in let two = second.later in omega (arith, one, two);
  tied = λ before t. second.tied before (first.tied before t);
}

pub steps_as : {D A : Type 0} {G : Ghosts D} {old new : Exec D A G} {P : RunPoint → RunPoint → Type 0} (Q : RunPoint → RunPoint → Type 0) → Leads old new P → ((p q : RunPoint) → P p q → Q p q) → Leads old new Q
steps_as {new = new} Q goes turn = record {
  ran = λ from is. let a = goes.ran from is in (a.0, a.1, ran_as (λ (p q : RunPoint). IsAt new a.0 q × Q p q) a.2 (λ p q at b. (b.0, turn p q b.1)));
  later = goes.later;
  tied = goes.tied;
}

-- ---- no step, and one

-- The disk stays as it is.
ran_still : {D A : Type 0} {G : Ghosts D} {old : Exec D A G} {from : D} (P : RunPoint → RunPoint → Type 0)
    → ((p : RunPoint) → IsAt old from p → (q : RunPoint) × P p q × (Ghosts.honest G → Continues p q) × (q.world.disk ≡ Ghosts.state G from)) → Ran old from from P
ran_still {G = G} {from = from} P goes = record {
  extent = refl;
  later = omega arith;
  leads = λ p at.
      let (q, is, continues, disk) = goes p at in (
        q,
        is,
        λ h.
            let on = continues h in let here = λ (x : List ℕ) (left : IsCrashImage (Ghosts.state G from) x) (r : Reached p.world). prefix_of_reached q.world x (reached_on p.world q.world on.0 r) (subst (λ (d : DiskState). IsCrashImage d x) (sym disk) left) in
            (on, λ t now r. started (Ghosts.moment G) (Ghosts.left_since G) from (IsAlong q) (λ x left. along_here q x (here x (now from x left) r))),
      );
}

-- The device stays as it is, and each point stays, but for its text.
pub steps_none : {D A : Type 0} {G : Ghosts D} (exec : Exec D A G) (text : List ℕ → List ℕ) (P : RunPoint → RunPoint → Type 0) → ((p : RunPoint) → P p (record p { text = text p.text })) → Leads exec exec P
steps_none exec text P same = record {
  ran = λ from is. (from, is, ran_still _ (λ p at. (record p { text = text p.text }, (at, same p), λ h. stays_on p, at.2)));
  later = omega arith;
  tied = λ before t. t;
}

-- the point after a call
abbrev pub stepped : RunPoint → Entry → State → DiskState → ℕ → RunPoint
stepped p entry s disk failures = record p {
  world = record p.world { state = s; history = recorded p.world.state entry p.world.history; disk = disk };
  failures = failures;
  calm = p.calm && is_calm (Some entry);
  passed = p.world ∷ p.passed;
}

pub call_steps : {H : Type 0} (p : RunPoint) (entry : Entry) (s : State) (disk : DiskState) (failures : ℕ) → p.world.mode ≡ Running → Serves p.world.state entry s → (H → DiskAfter p.world entry disk) → p.failures ≤ failures
    → ((finished : JobEnd) (over : Option (List ℕ)) → entry ≡ GaveBack finished over → H → (fault_of finished ≡ Some StoreBroken → HasFailed p.failures failures) × (fault_of finished ≡ Some NoNumber → IsWornOut disk.bytes))
    → Calls H p entry (stepped p entry s disk failures)
call_steps p entry s disk failures on serves after later gave = record { leads = (disk, (s, on, serves, after, refl)); later = later; gave = λ finished over e. gave finished over (same_Some entry (GaveBack finished over) e); is = refl }

-- A call that leaves the store as it is, so no end of a job.
pub steps_call : {D A : Type 0} {G : Ghosts D} {old new : Exec D A G} (entry : Entry) (P : RunPoint → RunPoint → Type 0) → Serves old.device entry new.device → new.idle_store ≡ old.idle_store → new.device.flush.store ≡ old.device.flush.store
    → ((w : World) → DiskAfter w entry w.disk) → ((finished : JobEnd) (over : Option (List ℕ)) → entry ≡ GaveBack finished over → ⊥) → ((p q : RunPoint) → Calls (Ghosts.honest G) p entry q → P p q) → Leads old new P
steps_call {D} {A} {G} {old} {new} entry P serves there keeps stays other turn = record {
  ran = λ from is. (
    from,
    ap (λ (z : Option (IdleStore D A G)). option_map idle_disk z) there ∙ is,
    ran_still _ (λ p at.
        let (state, on, disk, count) = at in
        let c = call_steps p entry new.device p.world.disk p.failures on (subst (λ (s : State). Serves s entry new.device) (sym state) serves) (λ h. stays p.world) (omega arith) (λ finished over e. absurd (other finished over e)) in
        (stepped p entry new.device p.world.disk p.failures, ((refl, on, disk, count), turn p _ c), λ h. step_goes h c, disk)),
  );
  later = omega (arith, same);
  tied = λ before t. (omega (arith, same, t.0), ⊎_elim inl (λ counts. inr (λ broke. subst (HasFailed before) (sym same) (counts (sym (ap is_broken keeps) ∙ broke)))) t.1);
}
  where
    same : failures_of new ≡ failures_of old
    same = ap (λ (z : Option (IdleStore D A G)). unwrap_or (option_map (Ghosts.failures G) (option_map idle_disk z)) 0) there

-- ---- a device that stops

pub device_stops_then : {D A : Type 0} {G : Ghosts D} {old mid new : Exec D A G} {P Q : RunPoint → RunPoint → Type 0} (R : RunPoint → RunPoint → Type 0) {cause : RunCause} → Leads old mid P → DeviceStops mid new Q cause
    → ((p m q : RunPoint) → P p m → Q m q → R p q) → DeviceStops old new R cause
device_stops_then R goes s join = record { leads = steps_then R goes s.leads join; own = s.own; why = λ e before t. s.why e before (goes.tied before t) }
