-- The steps of threads happen, step by step, with the disks of the threads.
use Rattle.std.proofs.Common.{◌≡◌, inl, inr, ℕ, ◌≤◌, Bool, true, false, cond, Option, Some, None, List, [], ◌∷◌, refl, sym, ap, subst, ◌∙◌}
use Rattle.std.specs.Prelude.{⊤}
use Rattle.psu_disk.specs.Disk.{DiskState, IsCrashImage}
use Rattle.psu_disk.specs.declared.disk.Disk.{Ghosts}
use Rattle.psu_disk.specs.Ranges.{reads_left}
use Rattle.psu_items.specs.Image.{EachIsEither, IsEither, Represents}
use Rattle.psu_nv.specs.Contents.{items_of}
use Rattle.psu_exec.specs.Consistent.{IsConsistent, MayBeKept}
use Rattle.psu_exec.specs.Device.{Reply, State, Flush, is_whole, target}
use Rattle.psu_exec.specs.Calls.{Entry, JobData, JobEnd, Taken, Allows, Serves, ends_wait, job_of, job_out, sessions_over, settled, unparked, with_stored}
use Rattle.psu_exec.specs.Calls.Entry.{Executed, Settled, Took, GaveBack, Opened, Closed, Sent, Queried, Fetched, Notified, Locked, Released}
use Rattle.psu_exec.specs.Jobs.{finished_disk, finished_of, job_data, job_disk}
use Rattle.psu_power_loss.specs.Headline.{IsPrefix}
use Rattle.psu_power_loss.specs.World.{World, Running, DiskAfter, DiskOfEnd, Event, IsStart, Moves, Run, after, recorded, without_power}
use Rattle.psu_power_loss.proofs.Carrying.{still_either, true_of}
use Rattle.psu_exec.proofs.Consistent.{consistent_start}
use Rattle.psu_power_loss.proofs.Events.{other_disk, run_keeps, while_running}
use Rattle.psu_power_loss.proofs.Invariant.{ByMode, IsKept, kept_at_start, only_left, prefix_left}
use Rattle.psu_power_loss.proofs.Staying.{each_stays_consistent}
use Rattle.psu_turn.specs.History.{numbered}
use Rattle.psu_turn.specs.Seats.{Sight}
use Rattle.psu_turn.specs.declared.numbered.Numbered.{Numbered}
use Rattle.psu_bench.specs.Calls.{AllowsOn}
use Rattle.psu_bench.specs.Callers.{HasRun}
use Rattle.psu_bench.specs.JobRun.{JobRun}
use Rattle.psu_bench_power_loss.specs.Lives.{Happening, Called, Moved, LeadsOverDisks, Lives, calls_in, events_in}
use Rattle.psu_bench.specs.declared.flushing.JobEnding.{JobEnding}
use Rattle.psu_bench_power_loss.specs.Threads.{AreOfRounds, DisksLeavePrefix, EndsAreTrue, HaveDisks, IsDiskCall, IsOfMoment, IsOfRounds, IsPlain, Occurs, RoundsAreRuns, RoundsHaveSteps, SomeStepsExist, ThreadStep, CallMade, Takes, Reaches, Gives, ThreadsAreEvents, shown, taken, under_way}
use Rattle.psu_bench_power_loss.proofs.Lives.{over_disks, threads_leave_prefix}

-- ---- the job that is out

-- whether one is out, and which one it is
record InHand : Type 0 where
  out : Bool
  job : JobData

abbrev in_hand : Flush → InHand
in_hand f = record { out = f.out; job = job_of f }

abbrev taken_of : JobData → InHand
taken_of job = record { out = true; job = job }

-- it is that of the run that is under way
abbrev IsOut : {D A : Type 0} {G : Ghosts D} → Option (JobRun D A G) → Flush → Type 0
IsOut None f = ⊤
IsOut (Some run) f = in_hand f ≡ taken_of (job_data run.job)

still_out : {D A : Type 0} {G : Ghosts D} (run : Option (JobRun D A G)) (f new : Flush) → in_hand new ≡ in_hand f → IsOut run f → IsOut run new
still_out None f new same is = tt
still_out (Some run) f new same is = same ∙ is

out_is : (whole : Bool) (x y : Flush) → x.out ≡ true → y.out ≡ true → (cond whole x y).out ≡ true
out_is true x y p q = p
out_is false x y p q = q

-- after its take
taken_out : (job : JobData) (s new : State) → Allows s (Took (Taken.Job job)) new → in_hand new.flush ≡ taken_of job
taken_out job s new (inl a) = ap (λ (t : State). in_hand t.flush) a.1 ∙ ap (λ (b : Bool). record (in_hand (job_out s.flush)) { out = b }) (out_is (is_whole s.flush.store) _ _ refl refl) ∙ sym (ap taken_of a.0.2)
taken_out job s new (inr none) = absurd none.0

-- ---- a call that takes no job, and by which no end is accepted: the job that is out stays

settled_same : (f : Flush) (session : ℕ) (reply : Reply) → in_hand (settled f session reply) ≡ in_hand f
settled_same f session reply = at (ends_wait reply) where
  at : (b : Bool) → in_hand (cond b (unparked f session) f) ≡ in_hand f
  at true = refl
  at false = refl

serves_same : (s new : State) (entry : Entry) → IsPlain entry → Serves s entry new → in_hand new.flush ≡ in_hand s.flush
serves_same s new (Took (Taken.Job job)) plain a = absurd (let bad = plain.0 in cc)
serves_same s new (GaveBack finished (Some over)) plain a = absurd (let bad = plain.1 in cc)
serves_same s new (Executed session request reply) plain a = ap (λ (t : State). in_hand t.flush) a.1.is
serves_same s new (Settled session reply) plain a = ap (λ (t : State). in_hand t.flush) a.2 ∙ settled_same s.flush session reply
serves_same s new (Opened (Some session)) plain a = ap (λ (t : State). in_hand t.flush) a.1
serves_same s new (Closed session granted) plain a = ap (λ (t : State). in_hand t.flush) a.2
serves_same s new (Queried session byte) plain a = ap (λ (t : State). in_hand t.flush) a.2
serves_same s new (Fetched session byte) plain a = ap (λ (t : State). in_hand t.flush) a.2
serves_same s new (Notified sessions work) plain a = ap (λ (t : State). in_hand t.flush) a.2
serves_same s new (Locked session kind now timeout result) plain a = ap (λ (t : State). in_hand t.flush) a.2
serves_same s new (Released session result) plain a = ap (λ (t : State). in_hand t.flush) a.2
serves_same s new (Sent session sessions work) plain a = ap (λ (t : State). in_hand t.flush) a.1.2
serves_same s new entry plain a = ap (λ (t : State). in_hand t.flush) a.1

plain_same : (s new : State) (entry : Entry) → IsPlain entry → Allows s entry new → in_hand new.flush ≡ in_hand s.flush
plain_same s new entry plain (inl a) = serves_same s new entry plain a
plain_same s new entry plain (inr none) = ap (λ (t : State). in_hand t.flush) none.1

-- ---- all steps

-- the possible crash images now are among those since any moment so far
abbrev pub Counts : (D : Type 0) → Ghosts D → Type 0
Counts D G = (d : D) (t : ℕ) (x : List ℕ) → t ≤ Ghosts.moment G d → IsCrashImage (Ghosts.state G d) x → Ghosts.left_since G d t x

abbrev after_call : World → Entry → State → DiskState → World
after_call w entry next disk = record w { state = next; history = recorded w.state entry w.history; disk = disk }

-- a call that is an event, before what happens then
one_call : (w : World) (call : Numbered Entry) (next : State) (disk : DiskState) (more : List Happening) (state : State) (last : DiskState)
    → w.mode ≡ Running → Allows w.state call.entry next → DiskAfter w call.entry disk → Occurs (after_call w call.entry next disk) more state last → Occurs w (Called call disk ∷ more) state last
one_call w call next disk more state last running allows after r =
    record { new = r.new; lives = (after_call w call.entry next disk, (next, running, allows, after, refl), r.lives); running = r.running; state_is = r.state_is; disk_is = r.disk_is }

-- a disk call of the run, before what happens then
one_disk_call : (D A : Type 0) (G : Ghosts D) → (Ghosts.records G → Counts D G) → Ghosts.honest G
    → (run : JobRun D A G) (w : World) (disk next : D) (more : List Happening) (state : State) (last : DiskState) → w.mode ≡ Running → in_hand w.state.flush ≡ taken_of (job_data run.job) → w.disk ≡ Ghosts.state G disk → IsDiskCall run disk next
    → Occurs (record w { disk = Ghosts.state G next }) more state last → Occurs w (Moved (Ghosts.state G next) ∷ more) state last
one_disk_call D A G counts honest run w disk next more state last running out is call r =
    let mid : World = record w { disk = Ghosts.state G next } in
    let moves : Moves w.disk (Ghosts.state G next) = subst (λ (d : DiskState). Moves d (Ghosts.state G next)) (sym is) call.moves in
    let either : EachIsEither (Ghosts.state G next) w.state.flush.limit w.state.flush.before (target w.state.flush)
    = still_either G (counts call.recorded) (job_disk run.job) next (finished_disk run.finished) (job_data run.job).limit w.state.flush.limit (job_data run.job).before w.state.flush.before (job_data run.job).target (target w.state.flush)
    (run.time honest call.recorded) call.later call.within (ap (λ (h : InHand). h.job.limit) out) (ap (λ (h : InHand). h.job.before) out) (ap (λ (h : InHand). h.job.target) out) in
    record { new = r.new; lives = (mid, (moves, inl (record { running = running; out = ap (λ (h : InHand). h.out) out; either = either }, refl)), r.lives); running = r.running; state_is = r.state_is; disk_is = r.disk_is }

step_by_step : (D A : Type 0) (G : Ghosts D) → (Ghosts.records G → Counts D G) → Ghosts.honest G
    → (steps : List (ThreadStep D A G)) (run : Option (JobRun D A G)) (w : World) (disk last : D) (state : State) → w.mode ≡ Running → IsConsistent w.state.flush → IsOut run w.state.flush → w.disk ≡ Ghosts.state G disk
    → HaveDisks D A G run disk steps last → LeadsOverDisks w.state (calls_in (shown w.disk steps)) state → Occurs w (shown w.disk steps) state (Ghosts.state G last)
step_by_step D A G counts honest [] run w disk last state running k out is have leads = record { new = w; lives = refl; running = running; state_is = leads; disk_is = is ∙ sym (ap (λ (d : D). Ghosts.state G d) have) }
step_by_step D A G counts honest (CallMade call ∷ steps) run w disk last state running k out is have (next, allows, on, rest) =
    let still = still_out run w.state.flush next.flush (plain_same w.state next call.entry have.0 allows) out in
    let r = step_by_step D A G counts honest steps run (after_call w call.entry next w.disk) disk last state running (each_stays_consistent w.state next call.entry allows k) still is have.1 rest in
    one_call w call next w.disk (shown w.disk steps) state (Ghosts.state G last) running allows (subst (λ (end : Option JobEnd). DiskOfEnd w end w.disk) (sym have.0.1) refl) r
step_by_step D A G counts honest (Takes seat begun ∷ steps) run w disk last state running k out is have (next, allows, on, rest) =
    let call : Numbered Entry = numbered seat (Took (Taken.Job (job_data begun.job))) in
    let started = taken_out (job_data begun.job) w.state next allows in
    let r = step_by_step D A G counts honest steps (Some begun) (after_call w call.entry next w.disk) disk last state running (each_stays_consistent w.state next call.entry allows k) started is have rest in
    one_call w call next w.disk (shown w.disk steps) state (Ghosts.state G last) running allows refl r
step_by_step D A G counts honest (Reaches next ∷ steps) None w disk last state running k out is have leads = absurd have.0
step_by_step D A G counts honest (Reaches next ∷ steps) (Some now) w disk last state running k out is have leads =
    let r = step_by_step D A G counts honest steps (Some now) (record w { disk = Ghosts.state G next }) next last state running k out refl have.1 leads in
    one_disk_call D A G counts honest now w disk next (shown (Ghosts.state G next) steps) state (Ghosts.state G last) running out is have.0 r
step_by_step D A G counts honest (Gives seat finished over ∷ steps) run w disk last state running k out is have (next, inl allows, on, rest) =
    let call : Numbered Entry = numbered seat (GaveBack (finished_of finished) (Some over)) in
    let carried : DiskState = Ghosts.state G (finished_disk finished) in
    let own = true_of w.state.flush finished k allows.expected (have.0 honest) in
    let r = step_by_step D A G counts honest steps None (after_call w call.entry next carried) (finished_disk finished) last state running (each_stays_consistent w.state next call.entry (inl allows) k) tt refl have.1 rest in
    one_call w call next carried (shown carried steps) state (Ghosts.state G last) running (inl allows) own r
step_by_step D A G counts honest (Gives seat finished over ∷ steps) run w disk last state running k out is have (next, inr (absent, same), on, rest) = absurd absent

-- ---- the laws

pub ends_are_true : (D A : Type 0) (G : Ghosts D) → EndsAreTrue D A G
ends_are_true D A G s new finished over k stands (inl accepted) = true_of s.flush finished k accepted.expected stands
ends_are_true D A G s new finished over k stands (inr none) = absurd none.0

pub threads_are_events : (D A : Type 0) (G : Ghosts D) → (Ghosts.records G → Counts D G) → Ghosts.honest G → ThreadsAreEvents D A G
threads_are_events D A G counts honest w first last steps state running k is have leads =
    step_by_step D A G counts honest steps None w first last state running k tt is have (over_disks (Ghosts.honest G) (calls_in (shown w.disk steps)) w.state state honest leads)

-- the job that is out after the steps is that of the run that is under way then
out_after : {D A : Type 0} {G : Ghosts D} (steps : List (ThreadStep D A G)) (run : Option (JobRun D A G)) (s state : State) (disk : DiskState) (first last : D) → IsOut run s.flush
    → HaveDisks D A G run first steps last → LeadsOverDisks s (calls_in (shown disk steps)) state → IsOut (under_way run steps) state.flush
out_after [] run s state disk first last out have leads = subst (λ (t : State). IsOut run t.flush) leads out
out_after (CallMade call ∷ steps) run s state disk first last out have (next, allows, on, rest) =
    out_after steps run next state disk first last (still_out run s.flush next.flush (plain_same s next call.entry have.0 allows) out) have.1 rest
out_after (Takes seat begun ∷ steps) run s state disk first last out have (next, allows, on, rest) = out_after steps (Some begun) next state disk first last (taken_out (job_data begun.job) s next allows) have rest
out_after {G = G} (Reaches reached ∷ steps) run s state disk first last out have leads = out_after steps run s state (Ghosts.state G reached) reached last out have.1 leads
out_after {G = G} (Gives seat finished over ∷ steps) run s state disk first last out have (next, allows, on, rest) =
    out_after steps None next state (Ghosts.state G (finished_disk finished)) (finished_disk finished) last tt have.1 rest

-- the image represents a prefix of what was executed up to this world
abbrev LeftPrefix : World → List ℕ → Type 0
LeftPrefix w image = (k : ℕ) × IsPrefix w k × MayBeKept w.limit (after w k) × Represents image w.limit (items_of (after w k))

-- so does one that represents the map before or the target: a power loss may leave it of a disk that leaves no other
either_is_prefix : (first now : World) (events : List Event) (image : List ℕ) → IsStart first → Run first events now → now.mode ≡ Running
    → IsEither now.state.flush.limit now.state.flush.before (target now.state.flush) image → LeftPrefix now image
either_is_prefix first now events image start run running either =
    let d : DiskState = without_power image in
    let f : Flush = now.state.flush in
    let each : EachIsEither d f.limit f.before (target f) = λ other left. rw (only_left image other left) either in
    let life = other_disk now d each (while_running now running (run_keeps first now events run (kept_at_start first start))) in
    let torn : World = record now { disk = d } in
    let kept : IsKept torn = subst (λ m. ByMode m torn) (sym running) life in
    let p = prefix_left torn kept image (reads_left d) in
    (p.k, record { from = p.prefix.from; to = p.prefix.to }, p.kept, p.stands)

-- an image at a moment of the run of the job that is out represents a prefix
of_moment : {D A : Type 0} {G : Ghosts D} → Ghosts.honest G → (run : Option (JobRun D A G)) (first now : World) (happenings : List Happening) (image : List ℕ)
    → IsStart first → Lives first happenings now → now.mode ≡ Running → IsOut run now.state.flush → IsOfMoment run image → LeftPrefix now image
of_moment honest None first now happenings image start lives running out left = absurd left
of_moment {G = G} honest (Some run) first now happenings image start lives running out left =
    let f = now.state.flush in
    let either : IsEither (job_data run.job).limit (job_data run.job).before (job_data run.job).target image = (run.time honest left.0).each image left.1 in
    let own : IsEither f.limit f.before (target f) image = subst (λ (h : InHand). IsEither h.job.limit h.job.before h.job.target image) (sym out) either in
    either_is_prefix first now (events_in happenings) image start lives running own

pub disks_leave_prefix : (D A : Type 0) (G : Ghosts D) → (Ghosts.records G → Counts D G) → Ghosts.honest G → DisksLeavePrefix D A G
disks_leave_prefix D A G counts honest w first last steps state image start is have leads left =
    let over = over_disks (Ghosts.honest G) (calls_in (shown w.disk steps)) w.state state honest leads in
    let o = threads_are_events D A G counts honest w first last steps state start.mode
    (subst (λ (s : State). IsConsistent s.flush) (sym start.state) (consistent_start w.limit w.start (items_of w.start) start.sound start.fitting refl)) is have leads in
    let out : IsOut (under_way None steps) o.new.state.flush = subst (λ (s : State). IsOut (under_way None steps) s.flush) (sym o.state_is) (out_after steps None w.state state w.disk first last tt have over) in
    elim left [
      | inl now ↦ let p = threads_leave_prefix w o.new (shown w.disk steps) image start o.lives (subst (λ (d : DiskState). IsCrashImage d image) (sym o.disk_is) now) in
          (o.new, p.0, o.lives, p.1, p.2, p.3)
      | inr moment ↦ let p = of_moment honest (under_way None steps) w o.new (shown w.disk steps) image start o.lives o.running out moment in
          (o.new, p.0, o.lives, p.1, p.2, p.3)
    ]

-- ---- the rounds of seats

pub rounds_are_runs : (D A : Type 0) (G : Ghosts D) → RoundsAreRuns D A G
rounds_are_runs D A G ending over old new round seat = (inr (inl (round.run, refl)), given round.given) where
  given : (over : Option (List ℕ)) → IsOfRounds D A G (numbered seat (GaveBack (finished_of round.run.finished) over))
  given None = inl (refl, refl)
  given (Some over) = inr (inr (round.run, over, round.stands, refl))

-- the steps of a history, which have their disks whatever run is under way before them
record Made (D A : Type 0) (G : Ghosts D) (disk : DiskState) (first : D) (history : List (Numbered Entry)) : Type 0 where
  steps : List (ThreadStep D A G)
  last : D
  have : (run : Option (JobRun D A G)) → HaveDisks D A G run first steps last
  calls : calls_in (shown disk steps) ≡ history

-- a call is that of a step with this entry
as_entry : (call : Numbered Entry) (entry : Entry) (steps more : List (Numbered Entry)) → call.entry ≡ entry → steps ≡ more → numbered call.seat entry ∷ steps ≡ call ∷ more
as_entry call entry steps more is same = ap (λ (e : Entry). numbered call.seat e ∷ steps) (sym is) ∙ ap (λ (calls : List (Numbered Entry)). call ∷ calls) same

made : (D A : Type 0) (G : Ghosts D) (disk : DiskState) (first : D) (history : List (Numbered Entry)) → AreOfRounds D A G history → Made D A G disk first history
made D A G disk first [] are = record { steps = []; last = first; have = λ run. refl; calls = refl }
made D A G disk first (call ∷ more) (inl plain, are) =
    let r = made D A G disk first more are in
    record { steps = CallMade call ∷ r.steps; last = r.last; have = λ run. (plain, r.have run); calls = as_entry call call.entry (calls_in (shown disk r.steps)) more refl r.calls }
made D A G disk first (call ∷ more) (inr (inl (run, is)), are) =
    let r = made D A G disk first more are in
    record {
      steps = Takes call.seat run ∷ r.steps;
      last = r.last;
      have = λ before. r.have (Some run);
      calls = as_entry call (Took (Taken.Job (job_data run.job))) (calls_in (shown disk r.steps)) more is r.calls;
    }
made D A G disk first (call ∷ more) (inr (inr (run, over, stands, is)), are) =
    let carried : DiskState = Ghosts.state G (finished_disk run.finished) in
    let r = made D A G carried (finished_disk run.finished) more are in
    record {
      steps = Gives call.seat run.finished over ∷ r.steps;
      last = r.last;
      have = λ before. (stands, r.have None);
      calls = as_entry call (GaveBack (finished_of run.finished) (Some over)) (calls_in (shown carried r.steps)) more is r.calls;
    }

pub rounds_have_steps : (D A : Type 0) (G : Ghosts D) → RoundsHaveSteps D A G
rounds_have_steps D A G disk first history are =
    let m = made D A G disk first history are in
    record { steps = m.steps; last = m.last; have = m.have None; calls = m.calls }

-- ---- such steps exist

abbrev HasGiven : Type 0 → World → JobEnd → Type 0
HasGiven honest w end = AllowsOn honest (taken w) (GaveBack end (Some (sessions_over (with_stored (taken w)).flush))) (with_stored (taken w))

pub some_steps_exist : (D A : Type 0) (G : Ghosts D) → SomeStepsExist D A G
some_steps_exist D A G w first run store s =
    let given : HasGiven (Ghosts.honest G) w (finished_of run.finished) = subst (λ (end : JobEnd). HasGiven (Ghosts.honest G) w end) (sym s.ended)
    (inl (record { out = out_is (is_whole w.state.flush.store) _ _ refl refl; expected = (s.limit, s.items); gives = refl; over_is = refl }), λ honest. (Ghosts.state G store.disk, s.on.represents)) in
    ((s.call, ((λ honest. s.stands), refl)), (taken w, (inl ((s.free, s.work, s.job), refl), λ honest. tt), (with_stored (taken w), given, refl)))
