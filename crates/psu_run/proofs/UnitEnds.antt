-- The steps of a job, of a flush, of a wait and of a unit; the changes that a flush leaves unflushed; and why a unit may be `Later`.
use Rattle.psu_run.proofs.Common.{true, ◌≡◌, ◌⊎◌, ℕ, suc, ◌≤◌, Some, List, [], refl, sym, ap, ◌∙◌, subst, inr, arith, ◌<◌, None, Allows, Begins, Calls, Cleared, Commit, DeviceStops, Exec, Executed, Flush, GaveBack, Ghosts, HasFailed, IsAlong, IsAt, IsEither, IsFlush, IsJob, IsWornOut, Job, JobData, JobEnd, JobKind, Jobs, Later, Leads, LeavesOnly, MayAnswer, NoNumber, Ran, Reopen, Reply, Request, RunCause, RunPoint, Serves, Settled, State, StoreBroken, Taken, Took, Whole, Worn, disk_in, failures_of, fault_of, is_broken, is_whole, job_data, job_disk, job_of, job_store, serves_took, target, wait_of, weaken, Halts, finished}
use Rattle.psu_exec.specs.AcceptedEnd.{IsTrueOf}
use Rattle.psu_exec.specs.declared.job.Job.{Job as AnyJob}
use Rattle.psu_run.proofs.Going.{call_steps, failures_is, for_disk, ran_as, stepped, steps_call, steps_then}
use Rattle.psu_run.proofs.OneList.{Reached, along_here, goes_then, prefix_of_either, reached_on, step_goes}
use Rattle.psu_run.proofs.Walking.{begins_behind, begins_call, begins_idle, flush_begins, job_begins, refused_before}

-- ---- a take and a job as steps

-- a take of no job
pub steps_take : {D A : Type 0} {G : Ghosts D} {old new : Exec D A G} (taken : Taken) → Allows old.device (Took taken) new.device → new.idle_store ≡ old.idle_store → Leads old new (λ p q. Calls (Ghosts.honest G) p (Took taken) q)
steps_take {old = old} {new = new} taken given there =
    let took = serves_took old.device new.device taken given in steps_call (Took taken) (λ p q. Calls _ p (Took taken) q) took there (grind arith) (λ w. refl) (λ finished over e. cc) (λ p q c. c)

-- a job that is taken, runs and is given back
pub steps_job : {D A : Type 0} {G : Ghosts D} (old taken new : Exec D A G) (j : AnyJob D A G) (disk : D) (finished : JobEnd) (over : List ℕ) (P : RunPoint → RunPoint → Type 0) → Allows old.device (Took (Job (job_data j))) taken.device → old.idle_store ≡ Some (job_store j)
    → Serves taken.device (GaveBack finished (Some over)) new.device → disk_in new ≡ Some disk
    → (Ghosts.honest G → IsTrueOf (target taken.device.flush) finished (Ghosts.state G disk)
    × (fault_of finished ≡ Some StoreBroken → HasFailed (Ghosts.failures G (job_disk j)) (Ghosts.failures G disk)) × (fault_of finished ≡ Some NoNumber → IsWornOut (Ghosts.state G disk).bytes))
    → Ghosts.failures G (job_disk j) ≤ Ghosts.failures G disk → Ghosts.extent G disk ≡ Ghosts.extent G (job_disk j)
    → (Ghosts.honest G → Ghosts.records G → LeavesOnly (Ghosts.moment G) (Ghosts.left_since G) (job_disk j) disk (IsEither (job_data j).limit (job_data j).before (job_data j).target))
    → ((job_data j).kind ≡ Commit → is_broken new.device.flush.store ≡ true → HasFailed (Ghosts.failures G (job_disk j)) (failures_of new))
    → ((p out q : RunPoint) → Calls (Ghosts.honest G) p (Took (Job (job_data j))) out → Calls (Ghosts.honest G) out (GaveBack finished (Some over)) q → P p q) → Leads old new P
steps_job {D} {A} {G} old taken new j disk finished over P given there give now at later extent time breaks turn =
    let took = serves_took old.device taken.device (Job (job_data j)) given in
    let was : disk_in old ≡ Some (job_disk j) = grind arith in
    let own : job_data j ≡ job_of taken.device.flush = took.0.2 ∙ ap (λ (s : State). job_of s.flush) (sym took.1) in
    let had = failures_is old (job_disk j) was in let has = failures_is new disk now in
    let ran : Ran old (job_disk j) disk (λ p q. IsAt new disk q × P p q) = record {
      extent = extent;
      later = later;
      leads = λ p stands.
          let (state, on, bytes, count) = stands in
          let out = stepped p (Took (Job (job_data j))) taken.device p.world.disk p.failures in
          let q = stepped out (GaveBack finished (Some over)) new.device (Ghosts.state G disk) (Ghosts.failures G disk) in
          let takes : Calls (Ghosts.honest G) p (Took (Job (job_data j))) out
          = call_steps p (Took (Job (job_data j))) taken.device p.world.disk p.failures on (subst (λ (s : State). Serves s (Took (Job (job_data j))) taken.device) (sym state) took) (λ h. refl) (omega arith) (λ f o e. cc) in
          let gives : Calls (Ghosts.honest G) out (GaveBack finished (Some over)) q
          = call_steps out (GaveBack finished (Some over)) new.device (Ghosts.state G disk) (Ghosts.failures G disk) on give (λ h. (at h).0) (subst (λ (n : ℕ). n ≤ Ghosts.failures G disk) (sym count) later)
          (λ f o e h. let same : finished ≡ f = cc in let (true_of, broke, worn) = at h in (λ x. subst (λ (n : ℕ). HasFailed n (Ghosts.failures G disk)) (sym count) (broke (ap fault_of same ∙ x)), λ x. worn (ap fault_of same ∙ x))) in (
            q,
            ((refl, on, refl, refl), turn p out q takes gives),
            λ h.
                let first = step_goes h takes in let second = step_goes h gives in
                let along = λ (x : List ℕ) (r : Reached p.world) (either : IsEither (job_data j).limit (job_data j).before (job_data j).target x). along_here out x (prefix_of_either out.world x (reached_on p.world out.world first.0 r) on (subst (λ (d : JobData). IsEither d.limit d.before d.target x) own either)) in
                (goes_then p out q first second, λ t none r. weaken (Ghosts.moment G) (Ghosts.left_since G) (job_disk j) disk _ (IsAlong q) (time h t) (λ x either. second.1 x (along x r either))),
          );
    } in
    record {
      ran = for_disk old (λ d. (to : D) × (disk_in new ≡ Some to) × Ran old d to (λ p q. IsAt new to q × P p q)) was (disk, now, ran);
      later = omega (arith, had, has, later);
      tied = λ before t. (grind arith, grind arith);
    }

-- the job that is taken where the store is broken reopens it
pub job_reopens : {D A : Type 0} {G : Ghosts D} {old new : Exec D A G} → is_broken old.device.flush.store ≡ true → Leads old new (λ p q. (kind : JobKind) × IsJob (Ghosts.honest G) kind p q) → Leads old new (λ p q. (q ≡ p) ⊎ IsJob (Ghosts.honest G) Reopen p q)
job_reopens {G = G} {new = new} broken goes = record {
  later = goes.later;
  tied = goes.tied;
  ran = λ from is. let a = goes.ran from is in (a.0, a.1, ran_as (λ p q. IsAt new a.0 q × ((q ≡ p) ⊎ IsJob (Ghosts.honest G) Reopen p q)) a.2 (λ p q at b. (b.0, inr (by p q (ap (λ (s : State). is_broken s.flush.store) at.0 ∙ broken) b.1))));
}
  where
    by : (p q : RunPoint) → is_broken p.world.state.flush.store ≡ true → (kind : JobKind) × IsJob (Ghosts.honest G) kind p q → IsJob (Ghosts.honest G) Reopen p q
    by p q broke (kind, job) = let taken = job.4.leads.1.2 in let of_kind = job.6 in let reopens : kind ≡ Reopen = grind arith in subst (λ (k : JobKind). IsJob (Ghosts.honest G) k p q) reopens job

-- ---- a flush

-- no unit is executed by these jobs, and with at most so many jobs more they are a flush
abbrev pub IsFlushAfter : Type 0 → ℕ → RunPoint → RunPoint → Type 0
IsFlushAfter honest left p q = Begins honest [] p q × ((r : RunPoint) → Jobs honest left q r → IsFlush honest p r)

pub one_more : {D A : Type 0} {G : Ghosts D} {first old new : Exec D A G} (left : ℕ) → Leads first old (IsFlushAfter (Ghosts.honest G) (suc left)) → Leads old new (λ p q. (kind : JobKind) × IsJob (Ghosts.honest G) kind p q) → Leads first new (IsFlushAfter (Ghosts.honest G) left)
one_more left jobs job = steps_then (IsFlushAfter _ left) jobs job (λ p m q a is. (begins_behind [] a.0 (job_begins is.1), λ r rest. a.1 r (inr (is.0, q, is.1, rest))))

-- ---- the changes that a flush leaves unflushed

-- After `i` jobs: a disk call failed, or no number is left for a commit, or the store is whole, and after two of them all
-- changes are flushed.
abbrev pub IsFlushed : ℕ → ℕ → ℕ → Flush → Type 0
IsFlushed before now i f = HasFailed before now ⊎ (f.store ≡ Worn) ⊎ (i ≡ 0) ⊎ ((f.store ≡ Whole) × (2 ≤ i → f.unflushed ≡ 0))

-- ---- calls on session 1

-- a flush, and a settle
pub steps_wait : {D A : Type 0} {G : Ghosts D} {old mid new : Exec D A G} (reply : Reply) → Leads old mid (IsFlush (Ghosts.honest G)) → Serves mid.device (Settled 1 reply) new.device → new.idle_store ≡ mid.idle_store
    → Leads old new (λ p q. (over : RunPoint) × IsFlush (Ghosts.honest G) p over × Calls (Ghosts.honest G) over (Settled 1 reply) q)
steps_wait reply flushes serves there =
    steps_then (λ p q. (over : RunPoint) × IsFlush _ p over × Calls _ over (Settled 1 reply) q) flushes
    (steps_call (Settled 1 reply) (λ p q. Calls _ p (Settled 1 reply) q) serves there (grind arith) (λ w. refl) (λ finished over e. cc) (λ p q c. c)) (λ p m q f c. (m, f, c))

-- a stop, and then the wait is dropped
pub device_stops_cleared : {D A : Type 0} {G : Ghosts D} {old mid new : Exec D A G} (cause : RunCause) → DeviceStops old mid (Halts (Ghosts.honest G) (Some cause) []) cause → Serves mid.device (Cleared 1) new.device → new.idle_store ≡ mid.idle_store → DeviceStops old new (Halts (Ghosts.honest G) (Some cause) []) cause
device_stops_cleared {old = old} {mid = mid} {new = new} cause stops serves there = record {
  leads = steps_then (Halts _ (Some cause) []) stops.leads (steps_call (Cleared 1) (λ p q. Calls _ p (Cleared 1) q) serves there (grind arith) (λ w. refl) (λ finished over e. cc) (λ p q c. c))
      (λ p m q b c. (begins_idle [] b.0 (begins_call (Cleared 1) [] refl c refl), refused_before cause 1 b.1 c));
  own = stops.own;
  why = λ e before t. let w = stops.why e before t in grind arith;
}

-- ---- a unit whose reply is `Later`

-- that call, and a flush
abbrev pub IsLate : Type 0 → Request → RunPoint → RunPoint → Type 0
IsLate honest request p q = (late : RunPoint) × Calls honest p (Executed 1 request Later) late × IsFlush honest late q

pub late_begins : {H : Type 0} (request : Request) {p q : RunPoint} → IsLate H request p q → Begins H [] p q
late_begins request (late, c, f) = begins_behind [] (begins_call (Executed 1 request Later) [] refl c refl) (flush_begins f)

pub steps_late : {D A : Type 0} {G : Ghosts D} {old mid over : Exec D A G} (request : Request) → Leads old mid (λ p q. Calls (Ghosts.honest G) p (Executed 1 request Later) q) → Leads mid over (IsFlush (Ghosts.honest G)) → Leads old over (IsLate (Ghosts.honest G) request)
steps_late request late flushes = steps_then (IsLate _ request) late flushes (λ p m q c f. (m, c, f))

-- the session waits for nothing, so a flush has to make room
pub late_full : (s : State) (request : Request) → wait_of s.flush 1 ≡ None → MayAnswer s 1 request Later → (is_whole s.flush.store ≡ true) × (0 < s.flush.unflushed)
late_full s request free may = grind arith
