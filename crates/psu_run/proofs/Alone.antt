-- Where nothing goes wrong, a unit is executed as the script says.
use Rattle.psu_run.proofs.Common.{◌≡◌, ◌≢◌, ℕ, ◌≤◌, ◌==◌, Bool, true, false, if◌then◌else◌, List, [], ◌∷◌, ◌++◌, refl, sym, ap, ◌∙◌, subst, subst₂, inl, inr, arith, append-nil, Option, Some, Acts, Calls, Commit, DiskAfter, EachRepresents, EndsJob, Entry, Executed, Flush, GaveBack, HasOutcome, IsContents, IsFlush, IsJob, IsUnit, Item, Job, JobData, JobEnd, JobKind, Jobs, Later, LeadsTo, MayAnswer, Nothing, Parked, Point, Replies, Reply, Request, RunPoint, Serves, Settled, State, Stored, Took, Whole, World, after_settle, answer_in, answer_meant, called, finished, flushed, is_calm, is_later, items_of, job_out, nat_tests, replied, settle_answer, settled, target, wait_of, with_flush, with_stored}
use Rattle.psu_lex.specs.declared.scpi_error.ScpiError.TheVariants.{OutOfMemory}
use Rattle.psu_exec.specs.Device.{Error, Held, LockedOut, TooEarly, Runs, Expands, Means, after_unit, here, meant}
use Rattle.psu_instrument.specs.Meaning.{Meaning}
use Rattle.psu_exec.proofs.RqsUpdates.{followed_same}
use Rattle.psu_run.proofs.Readings.{Holds}
use Rattle.psu_run.proofs.Walking.{begins_keep, calm_step, jobs_begin, unit_begins}

-- the reply to a call, and the disk after it
serves : {s : State} {p q : RunPoint} {entry : Entry} {H : Type 0} → H → p.world.state ≡ s → Calls H p entry q → Serves s entry q.world.state × DiskAfter p.world entry q.world.disk
serves {s} {p} {q} {entry} {H} h same call = by call.leads where
  by : LeadsTo H p.world (Some entry) q.world → Serves s entry q.world.state × DiskAfter p.world entry q.world.disk
  by (disk, (after, running, gives, kept, is)) = rw (← same, is) (gives, kept h)

-- ---- a device at rest

-- The device is in the script's state; its store is whole, and each possible crash image of its disk represents the
-- contents that the script has stored.
pub record Still (at : Point) (w : World) : Type 0 where
  pub state : w.state ≡ at.state
  pub whole : at.state.flush.store ≡ Whole
  pub kept : IsContents at.stored
  pub sound : IsContents at.state.flush.contents
  pub disk : EachRepresents w.disk at.state.flush.limit (items_of at.stored)

-- after a call that leaves the disk unchanged
pub still_on : {at : Point} {w new : World} → Still at w → (answers : List (List ℕ)) (s : State) → new.state ≡ s → new.disk ≡ w.disk → s.flush.store ≡ at.state.flush.store → s.flush.limit ≡ at.state.flush.limit
    → IsContents s.flush.contents → Still (record at { state = s; answers = answers }) new
still_on still answers s state disk store limit sound = record { state = state; whole = store ∙ still.whole; kept = still.kept; sound = sound; disk = rw (disk, limit) still.disk }

-- ---- flushes

-- once a job for all changes is given back as stored
abbrev committed : Point → Point
committed at = record at { state = with_stored (with_flush at.state (job_out at.state.flush)); stored = at.state.flush.contents }

flushed_same : (at : Point) → (flushed at).answers ≡ at.answers
flushed_same at = grind arith

-- a job that is taken
pub take_alone : {at : Point} {p q : RunPoint} {job : JobData} {H : Type 0} → H → Still at p.world → Calls H p (Took (Job job)) q
    → (1 ≤ at.state.flush.unflushed) × (job.kind ≡ Commit) × (q.world.state ≡ with_flush at.state (job_out at.state.flush))
take_alone {at} h still take = let t = serves h still.state take in let whole = still.whole in (grind arith, grind arith, t.0.1)

-- and does not fail
job_alone : {at : Point} {p q : RunPoint} {kind : JobKind} {H : Type 0} → H → Still at p.world → IsJob H kind p q → q.calm ≡ true → (1 ≤ at.state.flush.unflushed) × Still (committed at) q.world
job_alone {at} {p} {q} {H = H} h still (job, finished, over, out, take, give, is, own, long) calm =
    let t = take_alone h still take in (t.0, by finished (subst (λ (k : JobKind). EndsJob k finished) (sym is ∙ t.1) own) give t.2)
  where
    by : (finished : JobEnd) → EndsJob Commit finished → Calls H out (GaveBack finished (Some over)) q → out.world.state ≡ with_flush at.state (job_out at.state.flush) → Still (committed at) q.world
    by (Stored limit map) own give taken =
        let f = at.state.flush in
        let commit : job_out f ≡ record f { out = true; held = Some (record { count = f.unflushed; map = items_of f.contents }) } = rw still.whole refl in
        let g = serves h taken give in
        let disk = subst₂ (λ (n : ℕ) (m : List Item). EachRepresents q.world.disk n m) g.0.expected.0 (g.0.expected.1 ∙ ap (λ (f : Flush). target f) commit) g.1 in
        record { state = g.0.gives; whole = refl; kept = still.sound; sound = rw commit still.sound; disk = disk }
    by finished own give taken = let good = (calm_step give calm).1 in grind arith

-- a take that finds no job
none_alone : {at : Point} {p q : RunPoint} {H : Type 0} → H → Still at p.world → Calls H p (Took Nothing) q → (at.state.flush.unflushed ≡ 0) × Still at q.world
none_alone {at} h still take = let t = serves h still.state take in let whole = still.whole in (grind arith, still_on still at.answers at.state t.0.1 t.1 refl refl still.sound)

-- once no change is left
idle_alone : {at : Point} {p q : RunPoint} {H : Type 0} → H → at.state.flush.unflushed ≡ 0 → Still at p.world → Jobs H 3 p q → q.calm ≡ true → Still at q.world
idle_alone h none still (inl nothing) calm = (none_alone h still nothing).1
idle_alone {q = q} h none still (inr (kind, mid, job, rest)) calm = let some = (job_alone h still job ((begins_keep [] (jobs_begin 2 mid q rest)).1 calm)).0 in absurd (omega (arith, some, none))

-- one job where changes are left, and otherwise none
flush_alone : {at : Point} {p q : RunPoint} {H : Type 0} → H → Still at p.world → IsFlush H p q → q.calm ≡ true → Still (flushed at) q.world
flush_alone {at} h still (inl nothing) calm =
    let t = none_alone h still nothing in
    let all : (at.state.flush.unflushed == 0) ≡ true = let none = t.0 in grind (arith, nat_tests, none) in rw all t.1
flush_alone {at} {q = q} h still (inr (kind, mid, job, rest)) calm =
    let one = job_alone h still job ((begins_keep [] (jobs_begin 3 mid q rest)).1 calm) in
    let some : (at.state.flush.unflushed == 0) ≡ false = let least = one.0 in grind (arith, nat_tests, least) in let whole = still.whole in
    let no_more : (committed at).state.flush.unflushed ≡ 0 = grind arith in rw some (idle_alone h no_more one.1 rest calm)

-- ---- units

-- no meaning of a unit answers that the unit is too early
never_late : (f : Flush) (m : Meaning) → Later ≡ answer_meant f m → ⊥
never_late f m is = grind arith

late_answer : {s : State} {c : Request} → MayAnswer s 1 c Later → is_later s 1 c ≡ true
late_answer (TooEarly allowed late) = late
late_answer (Runs run (Expands body is call)) = let given = call.is in grind arith
late_answer {s} {c} (Runs run (Means no_call (inl is))) = absurd (never_late s.flush (meant (here s 1) c.reading) is)
late_answer (Runs run (Means no_call (inr short))) = let bad = short.0 in cc

-- no lock denies the one session; where no memory is refused, a unit that is not too early is answered by the script
calm_answer : (s : State) (c : Request) (o : Reply) → Holds c → MayAnswer s 1 c o → o ≢ Held → o ≢ Later → o ≢ Error OutOfMemory → (is_later s 1 c ≡ false) × Replies s c (called s c) o
calm_answer s c o holds (TooEarly allowed late) free due calm = absurd (due refl)
calm_answer s c o holds (Runs run (Expands body is call)) free due calm =
    let gives = call.gives holds.0 holds.1 in let gave = call.is in
    (run.due, subst (λ (b : Option (List ℕ)). Replies s c b o) (sym is) (holds.0, call.given, holds.1, grind arith, gave))
calm_answer s c o holds (Runs run (Means no_call may)) free due calm = (run.due, subst (λ (b : Option (List ℕ)). Replies s c b o) (sym no_call) (grind arith))
calm_answer s c o holds (LockedOut denied) free due calm = absurd (free refl)

-- a unit is answered
unit_called : {at : Point} {p q : RunPoint} {c : Request} {o : Reply} {H : Type 0} (h : H) (answers : List (List ℕ)) → Still at p.world → Calls H p (Executed 1 c o) q
    → MayAnswer at.state 1 c o × Still (record at { state = after_unit at.state 1 c o; answers = answers }) q.world
unit_called {at} {c = c} {o = o} h answers still call =
    let t = serves h still.state call in let step = t.0.1 in
    (step.may, still_on still answers (after_unit at.state 1 c o) step.is t.1 refl refl (subst (λ (z : State). IsContents z.flush.contents) step.is step.sound))

settle_alone : {at : Point} {p q : RunPoint} {o : Reply} {H : Type 0} → H → Still at p.world → Calls H p (Settled 1 o) q → (o ≡ settle_answer (wait_of at.state.flush 1)) × Still (replied at o (after_settle at.state 1 o)) q.world
settle_alone {at} {o = o} h still call =
    let t = serves h still.state call in let same : (settled at.state.flush 1 o).contents ≡ at.state.flush.contents = grind arith in
    (t.0.1, still_on still (at.answers ++ answer_in o) (after_settle at.state 1 o) t.0.2 t.1 (grind arith) (grind arith) (rw same still.sound))

-- the outcome of a unit that is executed at this point
abbrev pub OutcomeAt : Point → Request → Reply → Point → Type 0
OutcomeAt at c o new = (first : Reply) × Replies at.state c (called at.state c) first × (finished at c first ≡ (o, new))

-- a finished unit, in the script's terms
abbrev ActsAs : Point → Request → Reply → World → Type 0
ActsAs at c o new = (is_later at.state 1 c ≡ false) × (rest : Point) × OutcomeAt at c o rest × Still rest new × (rest.answers ≡ at.answers ++ answer_in o)

acts_alone : {at : Point} {p q : RunPoint} {c : Request} {o : Reply} {H : Type 0} → H → Still at p.world → Holds c → Acts H c o p q → q.calm ≡ true → ActsAs at c o q.world
acts_alone {at} {c = c} {o = o} h still holds (final, inl call) calm =
    let u = unit_called h (at.answers ++ answer_in o) still call in
    let granted : o ≢ Error OutOfMemory = λ e. absurd (cc (subst (λ (z : Reply). is_calm (Some (Executed 1 c z)) ≡ true) e (calm_step call calm).1)) in
    let a = calm_answer at.state c o holds u.0 (grind arith) (grind arith) granted in (a.0, replied at o (after_unit at.state 1 c o), (o, a.1, grind arith), u.1, refl)
acts_alone {at} {c = c} {o = o} h still holds (final, inr (waits, over, call, flush, settle)) calm =
    let parked = replied at Parked (after_unit at.state 1 c Parked) in let now = flushed parked in
    let u = unit_called h (at.answers ++ []) still call in let t = settle_alone h (flush_alone h u.1 flush (calm_step settle calm).0) settle in
    let a = calm_answer at.state c Parked holds u.0 (λ e. cc) (λ e. cc) (λ e. cc) in (
      a.0,
      replied now o (after_settle now.state 1 o),
      (Parked, a.1, ap {B = Reply × Point} (λ (z : Reply). (z, replied now z (after_settle now.state 1 z))) (sym t.0)),
      t.1,
      ap (λ (l : List (List ℕ)). l ++ answer_in o) (flushed_same parked ∙ append-nil at.answers),
    )

-- the outcome of a unit, in the script's terms
abbrev pub UnitTells : Point → Request → Reply → World → Type 0
UnitTells at c o new = (rest : Point) × HasOutcome at c o rest × Still rest new × (rest.answers ≡ at.answers ++ answer_in o)

pub unit_alone : {at : Point} {p q : RunPoint} {c : Request} {o : Reply} {H : Type 0} → H → Still at p.world → Holds c → IsUnit H c o p q → q.calm ≡ true → UnitTells at c o q.world
unit_alone {at} {c = c} {o = o} h still holds (inl acts) calm = let a = acts_alone h still holds acts calm in (a.1, subst (λ (late : Bool). OutcomeAt (if late then flushed at else at) c o a.1) (sym a.0) a.2, a.3, a.4)
unit_alone {at} {c = c} {o = o} h still holds (inr (late, again, call, flush, acts)) calm =
    let u = unit_called h at.answers still call in
    let same : Still at late.world = subst (λ (s : State). Still (record at { state = s }) late.world) (followed_same at.state) u.1 in
    let a = acts_alone h (flush_alone h same flush ((begins_keep (c ∷ []) (unit_begins c o (inl acts))).1 calm)) holds acts calm in
    (a.1, subst (λ (late : Bool). OutcomeAt (if late then flushed at else at) c o a.1) (sym (late_answer u.0)) a.2, a.3, a.4 ∙ ap (λ (l : List (List ℕ)). l ++ answer_in o) (flushed_same at))
