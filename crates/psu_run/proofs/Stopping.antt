-- Why a run ends, and where.
use Rattle.psu_run.proofs.Common.{◌≡◌, ◌⊎◌, ℕ, ◌≤◌, ◌&&◌, true, List, [], ◌∷◌, ◌++◌, refl, sym, ap, ◌∙◌, subst, inl, inr, arith, ⊎_elim, append_assoc, append-nil, length, Option, Some, false, None, Contents, DeviceStops, DiskState, EachRepresents, Exec, FaultOf, Flush, ForSome, Ghosts, HasFailed, IsAlong, IsAt, IsByFailure, IsContents, IsCrashImage, IsFlush, IsJob, IsLeftBy, IsOldOrSame, IsTied, IsWornOut, Item, Leads, LeavesOnly, Memory, Message, NextBegins, NotStarted, PowersOn, Ran, Reopen, Represents, RunCause, RunFault, RunPoint, Runs, RunsUpTo, State, Steps, StopsFor, World, Worn, Write, at_power_on, cause_of, disk_in, failures_of, is_broken, items_of, reads_left, weaken, ⊤, nat_tests, same_Some, represents_one, Device, Open, Halts, IsAtPower, IsBetween, IsMemory, Read, RecoverFault, TooLong, fault_disk, start_of}
use Rattle.psu_pages.specs.declared.faults.BadImage.TheVariants as BadImage
use Rattle.psu_items.proofs.Fitting.{represents_unrefused, represents_within}
use Rattle.psu_nv.specs.Contents.{fits}
use Rattle.psu_exec.proofs.Changes.{sound_first}
use Rattle.psu_exec.specs.Consistent.{IsConsistent}
use Rattle.psu_exec.specs.declared.start_cause.StartCause.{StartCause}
use Rattle.psu_exec.specs.declared.start_cause.StartCause.TheVariants as start
use Rattle.psu_exec.specs.declared.start_cause.StartFault.TheVariants as start_fault
use Rattle.psu_run.specs.declared.recover_fault.RecoverFault.TheVariants as recover_fault
use Rattle.psu_messages.specs.Executions.{Reaches, beginning}
use Rattle.psu_run.proofs.Going.{failed_before, failures_is, for_disk, ran_as, ran_on, ran_then, steps_as, steps_none, steps_then}
use Rattle.psu_run.proofs.Walking.{begins_keep, flush_begins, keeps_then, reopening, step_keeps}
use Rattle.psu_run.proofs.OneList.{Reached, along_here, prefix_of_map, step_goes}
use Rattle.psu_items.proofs.Opening.{still_represents}

-- ---- why

-- an image that represents contents powers on, unless a call failed or memory ran out
refused_device : (before now : ℕ) (image : List ℕ) (limit : ℕ) (contents : Contents) (why : StartCause) → IsContents contents
    → Represents image limit (items_of contents) → NotStarted image before now (start_fault.Start why) → (why ≡ start.Device) × HasFailed before now
refused_device before now image limit contents start.Device sound stands why = (refl, why)
refused_device before now image limit contents start.NoRoot sound stands why = absurd (represents_unrefused image limit (items_of contents) BadImage.NoRoot stands why)
refused_device before now image limit contents start.BadRoot sound stands why = absurd (represents_unrefused image limit (items_of contents) BadImage.BadRoot stands why)
refused_device before now image limit contents start.BadVersion sound stands why = absurd (represents_unrefused image limit (items_of contents) BadImage.BadVersion stands why)
refused_device before now image limit contents start.BadItems sound stands why =
    let one = represents_one limit why.0 (items_of contents) why.1 image stands why.2 in
    let cheap = represents_within image limit (items_of contents) stands in let few = sound.most_macros in let fitting : fits limit contents ≡ true = grind (arith, nat_tests, cheap, few) in
    absurd (why.3 contents sound (subst (λ (n : ℕ). fits n contents ≡ true) one.0 fitting) one.1)

restart_stops : {H : Type 0} (at last : RunPoint) (before now : ℕ) (rest : List Message) (old new : DiskState) (why : RecoverFault) (f : Flush) → at.failures ≤ before → (IsMemory (cause_of why) → last.failures ≡ now) → IsConsistent f
    → (H → EachRepresents old f.limit f.before) → (H → NotStarted old.bytes before now (start_of why)) → StopsFor H (Message.Power ∷ rest) at last now new (Some (cause_of why))
restart_stops at last before now rest old new (recover_fault.Start why) f later memory c stands reason = (
  tt,
  λ h.
      let r = refused_device before now old.bytes f.limit c.first why (sound_first f.limit c.first c.rest c.sound).sound (subst (λ (m : List Item). Represents old.bytes f.limit m) c.first_map (stands h old.bytes (reads_left old))) (reason h) in
      (r.0, failed_before at.failures before now later r.1),
)
restart_stops at last before now rest old new (recover_fault.Memory sign) f later memory c stands reason = memory tt

-- the device gives no such cause
abbrev pub IsOther : RunCause → Type 0
IsOther (Open cause) = ⊥
IsOther Device = ⊥
IsOther cause = ⊤

stops_between : (H : Type 0) (rest : List Message) (at last : RunPoint) (now : ℕ) (disk : DiskState) (cause : RunCause) → IsOther cause → IsBetween at last now disk → StopsFor H rest at last now disk (Some cause)
stops_between H rest at last now disk Read other between = between
stops_between H rest at last now disk TooLong other between = between
stops_between H rest at last now disk Write other between = tt
stops_between H rest at last now disk (Memory sign) other between = between.2
stops_between H rest at last now disk (Open cause) other between = absurd other
stops_between H rest at last now disk Device other between = absurd other

stops_device : {H : Type 0} (rest : List Message) (at last : RunPoint) (now : ℕ) (disk : DiskState) → (IsAtPower rest → ⊥) → (H → HasFailed at.failures now ⊎ ((1 ≤ last.world.state.flush.unflushed) × IsWornOut disk.bytes)) → StopsFor H rest at last now disk (Some Device)
stops_device rest at last now disk plain why = λ h. ⊎_elim inl (λ worn. inr (plain, worn.0, worn.1)) (why h)

stops_memory : (H : Type 0) (rest : List Message) (at last : RunPoint) (now : ℕ) (disk : DiskState) (cause : RunCause) → IsMemory cause → last.failures ≡ now → StopsFor H rest at last now disk (Some cause)
stops_memory H rest at last now disk (Memory sign) memory same = same
stops_memory H rest at last now disk Read memory same = absurd memory
stops_memory H rest at last now disk TooLong memory same = absurd memory
stops_memory H rest at last now disk Write memory same = absurd memory
stops_memory H rest at last now disk (Open cause) memory same = absurd memory
stops_memory H rest at last now disk Device memory same = absurd memory

-- a device that stops has not refused to power on
not_opening : (cause : RunCause) (why : StartCause) → (cause ≡ Device) ⊎ IsMemory cause ⊎ (cause ≡ Write) → cause ≡ Open why → ⊥
not_opening cause why (inl is) e = let bad = sym is ∙ e in cc
not_opening cause why (inr (inl memory)) e = subst IsMemory e memory
not_opening cause why (inr (inr is)) e = let bad = sym is ∙ e in cc

-- ---- up to which message

pub runs_join : (H : Type 0) (p m q : RunPoint) (xs ys : List Message) → Runs H xs p m → Runs H ys m q → Runs H (xs ++ ys) p q
runs_join H p m q [] ys is runs = subst (λ (z : RunPoint). Runs H ys z q) is runs
runs_join H p m q (Message.Power ∷ xs) ys (mid, on, reopens, restarts, rest) runs = (mid, on, reopens, restarts, runs_join H on m q xs ys rest runs)
runs_join H p m q (Message.Line source ∷ xs) ys (mid, end, goes, over, rest) runs = (mid, end, goes, over, runs_join H mid m q xs ys rest runs)

abbrev begun : {H : Type 0} (end : Option RunCause) (p q : RunPoint) (rest : List Message) → NextBegins H end rest p q → RunsUpTo H end rest p q
begun end p q rest b = record { done = []; rest = rest; is = refl; at = p; runs = refl; begun = b }

-- after messages that were executed
abbrev behind : {H : Type 0} (end : Option RunCause) (p m q : RunPoint) (done due : List Message) → Runs H done p m → RunsUpTo H end due m q → RunsUpTo H end (done ++ due) p q
behind {H} end p m q done due runs r = record {
  done = done ++ r.done;
  rest = r.rest;
  is = ap (λ (z : List Message). done ++ z) r.is ∙ sym (append_assoc done r.done r.rest);
  at = r.at;
  runs = runs_join H p m r.at done r.done runs r.runs;
  begun = r.begun;
}

-- nothing is executed
none_begins : (H : Type 0) (end : Option RunCause) (rest : List Message) (p : RunPoint) → NextBegins H end rest p p
none_begins H end [] p = inl refl
none_begins H end (Message.Power ∷ ms) p = inl refl
none_begins H end (Message.Line source ∷ ms) p = (
  p,
  beginning,
  record { added = []; runs = refl; reaches = λ before reached. subst (λ z. Reaches source z beginning) (sym (append-nil before)) reached },
  inl (ap (λ (text : List ℕ). record p { text = text }) (sym (append-nil p.text))),
)

-- and the writer fails then
begins_writing : (H : Type 0) (end : Option RunCause) (rest : List Message) (p q : RunPoint) → NextBegins H end rest p q → NextBegins H (Some Write) rest p q
begins_writing H end [] p q (inl same) = inl same
begins_writing H end [] p q (inr halts) = inr (halts.0, tt)
begins_writing H end (Message.Power ∷ ms) p q (inl same) = inl same
begins_writing H end (Message.Power ∷ ms) p q (inr (inl reopened)) = inr (inl reopened)
begins_writing H end (Message.Power ∷ ms) p q (inr (inr halts)) = inr (inr (halts.0, tt))
begins_writing H end (Message.Line source ∷ ms) p q (mid, at, went, inl same) = (mid, at, went, inl same)
begins_writing H end (Message.Line source ∷ ms) p q (mid, at, went, inr (request, next, inl unit)) = (mid, at, went, inr (request, next, inl unit))
begins_writing H end (Message.Line source ∷ ms) p q (mid, at, went, inr (request, next, inr halts)) = (mid, at, went, inr (request, next, inr (halts.0, tt)))

-- ---- the end of a run

-- these messages ran up to an end for this reason, with this disk, and their text was this
abbrev pub RunsTo : {D : Type 0} (G : Ghosts D) → Option RunCause → D → List Message → List ℕ → RunPoint → RunPoint → Type 0
RunsTo G end disk due text p q = (runs : RunsUpTo (Ghosts.honest G) end due p q)
    × ((q.failures ≤ Ghosts.failures G disk) × StopsFor (Ghosts.honest G) runs.rest runs.at q (Ghosts.failures G disk) (Ghosts.state G disk) end × (Ghosts.honest G → IsLeftBy q.world (Ghosts.state G disk))) × (q.text ≡ p.text ++ text)

abbrev pub RunStops : {D A : Type 0} {G : Ghosts D} → Exec D A G → Option RunCause → D → List Message → List ℕ → Type 0
RunStops {D} {A} {G} old end disk due text = ForSome (disk_in old) (λ from. Ran old from disk (RunsTo G end disk due text))

-- the first of these messages has begun, and its text so far is this
abbrev pub BeginsText : Type 0 → Option RunCause → List Message → List ℕ → RunPoint → RunPoint → Type 0
BeginsText honest end rest part p q = NextBegins honest end rest p q × (q.text ≡ p.text ++ part)

-- in the first of these messages, or before it
stops_at : {D A : Type 0} {G : Ghosts D} {old new : Exec D A G} {P : RunPoint → RunPoint → Type 0} (fault : RunFault D A G) (rest : List Message) (part : List ℕ) → Leads old new P → disk_in new ≡ Some (fault_disk fault)
    → ((p q : RunPoint) → P p q → BeginsText (Ghosts.honest G) (Some fault.cause) rest part p q)
    → ((at last : RunPoint) → P at last → at.failures ≡ failures_of old → last.world.state ≡ new.device → last.world.disk ≡ Ghosts.state G (fault_disk fault) → last.failures ≡ Ghosts.failures G (fault_disk fault)
    → StopsFor (Ghosts.honest G) rest at last (Ghosts.failures G (fault_disk fault)) (Ghosts.state G (fault_disk fault)) (Some fault.cause))
    → RunStops old (Some fault.cause) (fault_disk fault) rest part
stops_at {D} {A} {G} {old} {new} {P} fault rest part goes there begins why from is =
    let given = fault_disk fault in let a = goes.ran from is in
    let ran : Ran old from given (λ p q. IsAt new given q × P p q)
    = subst (λ (d : D). Ran old from d (λ p q. IsAt new d q × P p q)) (same_Some a.0 given (sym a.1 ∙ there)) a.2 in
    ran_as (RunsTo G (Some fault.cause) given rest part) ran (λ p q at b.
    let (state, on, disk, count) = b.0 in let text = begins p q b.1 in
    (begun (Some fault.cause) p q rest text.0, (omega (arith, count), why p q b.1 (at.3 ∙ sym (failures_is old from is)) state disk count, λ h. inl (λ image left. subst (λ (d : DiskState). IsCrashImage d image) (sym disk) left)), text.1))

pub halted_fails : {D A : Type 0} {G : Ghosts D} (before : ℕ) {old new : Exec D A G} {P : RunPoint → RunPoint → Type 0} (cause : RunCause) (fault : RunFault D A G) → FaultOf new cause fault → DeviceStops old new P cause → IsTied before old → IsByFailure G before fault
halted_fails {D} {A} {G} before {old} {new} cause fault f s t =
    let is = failures_is new (fault_disk fault) f.disk in record {
      opening = λ e. absurd (not_opening cause start.Device s.own (sym f.cause_is ∙ e));
      device = λ e. ⊎_elim (λ x. inl (subst (HasFailed before) is x)) (λ x. inr (f.worn_is x.0)) (s.why (sym f.cause_is ∙ e) before t);
      worn = λ worn h. f.worn h worn;
    }

-- the device stops
pub halted : {D A : Type 0} {G : Ghosts D} {old new : Exec D A G} (cause : RunCause) (fault : RunFault D A G) (rest : List Message) (part : List ℕ) → DeviceStops old new (BeginsText (Ghosts.honest G) (Some cause) rest part) cause → FaultOf new cause fault → (IsAtPower rest → ⊥)
    → RunStops old (Some fault.cause) (fault_disk fault) rest part
halted {D} {A} {G} {old} {new} cause fault rest part s f plain = stops_at fault rest part s.leads f.disk (λ p q b. subst (λ (x : RunCause). BeginsText (Ghosts.honest G) (Some x) rest part p q) (sym f.cause_is) b) (λ at last b count state bytes same.
    let now = Ghosts.failures G (fault_disk fault) in let disk = Ghosts.state G (fault_disk fault) in let has = failures_is new (fault_disk fault) f.disk in
    let for : (c : RunCause) → cause ≡ c → StopsFor (Ghosts.honest G) rest at last now disk (Some c) → StopsFor (Ghosts.honest G) rest at last now disk (Some fault.cause) = λ c is stops. subst (λ (x : RunCause). StopsFor (Ghosts.honest G) rest at last now disk (Some x)) (sym (f.cause_is ∙ is)) stops in
    ⊎_elim (λ device. for Device device (stops_device rest at last now disk plain (λ h. ⊎_elim
    (λ failed. inl (subst (λ (n : ℕ). HasFailed n now) (sym count) (subst (HasFailed (failures_of old)) has failed)))
    (λ worn. inr (subst (λ (t : State). 1 ≤ t.flush.unflushed) (sym state) worn.1, f.worn h (f.worn_is worn.0))) (s.why device (failures_of old) (omega arith, inl h)))))
    (⊎_elim (λ memory. for cause refl (stops_memory (Ghosts.honest G) rest at last now disk cause memory same)) (λ write. for Write write tt)) s.own)

-- before anything of these messages is executed
pub stops_now : {D A : Type 0} {G : Ghosts D} {exec : Exec D A G} (cause : RunCause) (fault : RunFault D A G) (rest : List Message) → FaultOf exec cause fault → IsOther cause → RunStops exec (Some fault.cause) (fault_disk fault) rest []
stops_now {D} {A} {G} {exec} cause fault rest f other =
    stops_at fault rest [] (steps_none exec (λ t. t) (λ p q. q ≡ p) (λ p. refl)) f.disk
    (λ p q same. subst (λ (z : RunPoint). BeginsText (Ghosts.honest G) (Some fault.cause) rest [] p z) (sym same) (none_begins (Ghosts.honest G) (Some fault.cause) rest p, sym (append-nil p.text)))
    (λ at last same count state disk now.
    subst (λ (c : RunCause). StopsFor (Ghosts.honest G) rest at last (Ghosts.failures G (fault_disk fault)) (Ghosts.state G (fault_disk fault)) (Some c)) (sym f.cause_is)
    (stops_between (Ghosts.honest G) rest at last (Ghosts.failures G (fault_disk fault)) (Ghosts.state G (fault_disk fault)) cause other (same, disk, now)))

pub other_fails : {D A : Type 0} {G : Ghosts D} {exec : Exec D A G} (cause : RunCause) (fault : RunFault D A G) → FaultOf exec cause fault → IsOther cause → (before : ℕ) → IsByFailure G before fault
other_fails {exec = exec} cause fault f other before = record { opening = λ e. absurd (grind arith); device = λ e. absurd (grind arith); worn = λ worn h. f.worn h worn }

-- after these messages
pub stops_then : {D A : Type 0} {G : Ghosts D} {old mid : Exec D A G} (end : Option RunCause) (disk : D) (done due : List Message) (text part : List ℕ) → Leads old mid (λ p q. Runs (Ghosts.honest G) done p q × (q.text ≡ p.text ++ text)) → RunStops mid end disk due part
    → RunStops old end disk (done ++ due) (text ++ part)
stops_then {D} {A} {G} end disk done due text part goes s from is =
    let a = goes.ran from is in
    ran_then (RunsTo G end disk (done ++ due) (text ++ part)) a.2 (s a.0 a.1) (λ p m q x y. (behind end p m q done due x.0 y.0, y.1, y.2 ∙ ap (λ (z : List ℕ). z ++ part) x.1 ∙ append_assoc p.text text part))

-- for a writer that fails then
pub stops_writing : {D A : Type 0} {G : Ghosts D} {old : Exec D A G} (end : Option RunCause) (disk : D) (due : List Message) (text : List ℕ) → RunStops old end disk due text → RunStops old (Some Write) disk due text
stops_writing {D} {A} {G} end disk due text s from is =
    ran_as (RunsTo G (Some Write) disk due text) (s from is)
    (λ p q at x. let r = x.0 in (record { done = r.done; rest = r.rest; is = r.is; at = r.at; runs = r.runs; begun = begins_writing (Ghosts.honest G) end r.rest r.at q r.begun }, (x.1.0, tt, x.1.2), x.2))

-- ---- at the end of the input

-- a flush that stops
pub flush_stops : {D A : Type 0} {G : Ghosts D} {old new : Exec D A G} (cause : RunCause) (fault : RunFault D A G) → DeviceStops old new (Halts (Ghosts.honest G) (Some cause) []) cause → FaultOf new cause fault → RunStops old (Some fault.cause) (fault_disk fault) [] []
flush_stops {G = G} cause fault s f = halted cause fault [] [] (record { leads = steps_as (BeginsText (Ghosts.honest G) (Some cause) [] []) s.leads (λ p q b. (inr b, (begins_keep [] b.0).0)); own = s.own; why = s.why }) f (λ at. at)

-- a flush that leaves changes
pub unflushed_stops : {D A : Type 0} {G : Ghosts D} {old new : Exec D A G} → Leads old new (IsFlush (Ghosts.honest G))
    → ((before : ℕ) → IsTied before old → HasFailed before (failures_of new) ⊎ (new.device.flush.store ≡ Worn) ⊎ (new.device.flush.unflushed ≡ 0)) → (new.device.flush.unflushed ≡ 0 → ⊥) → DeviceStops old new (Halts (Ghosts.honest G) (Some Device) []) Device
unflushed_stops goes clean some = record { leads = steps_as (Halts _ (Some Device) []) goes (λ p q f. (flush_begins f, tt)); own = inl refl; why = λ e before t. let left = clean before t in grind arith }

-- a flush that leaves none
pub flushed_ends : {D A : Type 0} {G : Ghosts D} {old new : Exec D A G} (disk : D) → Leads old new (IsFlush (Ghosts.honest G)) → new.device.flush.unflushed ≡ 0 → disk_in new ≡ Some disk → RunStops old None disk [] []
flushed_ends {D} {A} {G} {old} {new} disk goes none there from is =
    let a = goes.ran from is in
    let ran : Ran old from disk (λ p q. IsAt new disk q × IsFlush (Ghosts.honest G) p q) = subst (λ (d : D). Ran old from d (λ p q. IsAt new d q × IsFlush (Ghosts.honest G) p q)) (same_Some a.0 disk (sym a.1 ∙ there)) a.2 in
    ran_as (RunsTo G None disk [] []) ran (λ p q at b.
    let (state, on, bytes, count) = b.0 in let idle = flush_begins b.1 in (
      begun None p q [] (inr (idle, tt)),
      (omega (arith, count), (refl, b.1, ap (λ (s : State). s.flush.unflushed) state ∙ none, bytes, count), λ h. inl (λ image left. subst (λ (d : DiskState). IsCrashImage d image) (sym bytes) left)),
      (begins_keep [] idle).0,
    ))

-- ---- a power loss at rest, and a restart

-- The disk of a device that was ended at rest, after which the store was not broken.
pub record EndedWhole {D A : Type 0} {G : Ghosts D} (exec : Exec D A G) (disk : D) : Type 0 where
  pub whole : is_broken exec.device.flush.store ≡ false
  pub same : disk_in exec ≡ Some disk
  pub stands : Ghosts.honest G → EachRepresents (Ghosts.state G disk) exec.device.flush.limit exec.device.flush.before

module _ {D A : Type 0} {G : Ghosts D} (exec : Exec D A G) (disk : D) (ends : EndedWhole exec disk) where
  -- an image while the device powers on from it
  along_restart : (p : RunPoint) → Ghosts.honest G → IsAt exec disk p → Reached p.world → (image : List ℕ) → IsOldOrSame (Ghosts.state G disk) image → IsAlong p image
  along_restart p h at reached image kept =
      let f = exec.device.flush in let stands = ends.stands h in
      along_here p image (prefix_of_map p.world f.limit f.before image reached (subst (λ (d : DiskState). EachRepresents d f.limit f.before) (sym at.2) stands) (still_represents (Ghosts.state G disk) f.limit f.before stands image kept))

  pub restarts : (new : Exec D A G) → ((power : World) × PowersOn (Ghosts.honest G) (Ghosts.state G disk).bytes power × ForSome (disk_in new) (λ d. IsAt new d (at_power_on power (Ghosts.failures G d))))
      → (on : (d : D) × (disk_in new ≡ Some d) × (Ghosts.failures G d ≡ Ghosts.failures G disk) × (Ghosts.extent G d ≡ Ghosts.extent G disk)) → is_broken new.device.flush.store ≡ false
      → (Ghosts.honest G → Ghosts.records G → ForSome (disk_in new) (λ d. LeavesOnly (Ghosts.moment G) (Ghosts.left_since G) disk d (IsOldOrSame (Ghosts.state G disk)))) → Leads exec new (λ p q. Steps (Ghosts.honest G) p None q)
  restarts new starts (to, there, works, size) whole time =
      let had = failures_is exec disk ends.same in let has = failures_is new to there in
      let ran : Ran exec disk to (λ p q. IsAt new to q × Steps (Ghosts.honest G) p None q) = record {
        extent = size;
        later = omega (arith, works);
        leads = λ p at.
            let power = starts.0 in let stands = starts.2 to there in let count = at.3 in
            let q : RunPoint = record p { world = power; failures = Ghosts.failures G to; calm = p.calm && true; passed = p.world ∷ p.passed } in
            let step : Steps (Ghosts.honest G) p None q = record {
              leads = (subst (λ (s : State). is_broken s.flush.store ≡ false) (sym at.0) ends.whole, subst (λ (d : DiskState). PowersOn (Ghosts.honest G) d.bytes power) (sym at.2) starts.1);
              later = omega (arith, works, count);
              gave = λ finished over e h. cc;
              is = refl;
            } in
            (q, ((stands.0, stands.1, stands.2, refl), step), λ h. let goes = step_goes h step in (goes, λ t now r. weaken (Ghosts.moment G) (Ghosts.left_since G) disk to (IsOldOrSame (Ghosts.state G disk)) (IsAlong q) (time h t to there) (λ x kept. goes.1 x (along_restart p h at r x kept))));
      } in
      record {
        ran = for_disk exec (λ d. (u : D) × (disk_in new ≡ Some u) × Ran exec d u (λ p q. IsAt new u q × Steps (Ghosts.honest G) p None q)) ends.same (to, there, ran);
        later = omega (arith, had, has, works);
        tied = λ before t. (omega (arith, had, has, works, t.0), inr (λ broke. let bad = sym whole ∙ broke in cc));
      }

  -- one that fails makes no step
  pub power_stops : {old : Exec D A G} (fault : RunFault D A G) (rest : List Message) → Leads old exec (λ p q. (q ≡ p) ⊎ IsJob (Ghosts.honest G) Reopen p q) → IsConsistent exec.device.flush
      → ((why : RecoverFault) × (fault.cause ≡ cause_of why) × (Ghosts.honest G → NotStarted (Ghosts.state G disk).bytes (Ghosts.failures G disk) (Ghosts.failures G (fault_disk fault)) (start_of why)))
      → (IsMemory fault.cause → Ghosts.failures G (fault_disk fault) ≡ Ghosts.failures G disk)
      → Ghosts.failures G disk ≤ Ghosts.failures G (fault_disk fault) → Ghosts.extent G (fault_disk fault) ≡ Ghosts.extent G disk
      → (Ghosts.honest G → (limit : ℕ) (map : List Item) → EachRepresents (Ghosts.state G disk) limit map → EachRepresents (Ghosts.state G (fault_disk fault)) limit map)
      → (Ghosts.honest G → length (Ghosts.state G (fault_disk fault)).bytes ≡ length (Ghosts.state G disk).bytes)
      → (Ghosts.honest G → Ghosts.records G → LeavesOnly (Ghosts.moment G) (Ghosts.left_since G) disk (fault_disk fault) (IsOldOrSame (Ghosts.state G disk))) → RunStops old (Some fault.cause) (fault_disk fault) (Message.Power ∷ rest) []
  power_stops {old} fault rest reopens consistent why memory rose size left long time from is =
      let f = exec.device.flush in let now = Ghosts.state G (fault_disk fault) in let due = Message.Power ∷ rest in
      let a = reopens.ran from is in
      let ran : Ran old from disk (λ p q. IsAt exec disk q × ((q ≡ p) ⊎ IsJob (Ghosts.honest G) Reopen p q)) = subst (λ (d : D). Ran old from d (λ p q. IsAt exec d q × ((q ≡ p) ⊎ IsJob (Ghosts.honest G) Reopen p q))) (same_Some a.0 disk (sym a.1 ∙ ends.same)) a.2 in
      let later = ran.later in
      ran_as (RunsTo G (Some fault.cause) (fault_disk fault) due []) (ran_on exec (fault_disk fault) ran size rose (λ h t m at r. weaken (Ghosts.moment G) (Ghosts.left_since G) disk (fault_disk fault) (IsOldOrSame (Ghosts.state G disk)) (IsAlong m) (time h t) (λ x kept. along_restart m h at r x kept)))
      (λ p q begun_at b.
      let idle = reopening b.1 in let first = begun_at.3 in let count = b.0.3 in (
        begun (Some fault.cause) p q due (⊎_elim inl (λ job. inr (inl (job, ap (λ (s : State). is_broken s.flush.store) b.0.0 ∙ ends.whole))) b.1),
        (
          omega (arith, count, rose),
          subst (λ (c : RunCause). StopsFor (Ghosts.honest G) due p q (Ghosts.failures G (fault_disk fault)) now (Some c)) (sym why.1)
              (restart_stops p q (Ghosts.failures G disk) (Ghosts.failures G (fault_disk fault)) rest (Ghosts.state G disk) now why.0 f (omega (arith, first, later)) (λ m. count ∙ sym (memory (subst IsMemory (sym why.1) m))) consistent ends.stands why.2),
          λ h. let stands = ends.stands h in inr (f.limit, f.before, subst (λ (d : DiskState). EachRepresents d f.limit f.before) (sym b.0.2) stands, left h f.limit f.before stands, long h ∙ ap (λ (d : DiskState). length d.bytes) (sym b.0.2)),
        ),
        (begins_keep [] idle).0,
      ))

  pub power_fails : {old : Exec D A G} (fault : RunFault D A G) → Leads old exec (λ p q. (q ≡ p) ⊎ IsJob (Ghosts.honest G) Reopen p q) → IsByFailure G (Ghosts.failures G disk) fault → (before : ℕ) → IsTied before old → IsByFailure G before fault
  power_fails fault reopens by before t =
      let u = (reopens.tied before t).0 in let same = failures_is exec disk ends.same in let earlier : before ≤ Ghosts.failures G disk = omega (arith, u, same) in
      record { opening = λ e. failed_before _ _ _ earlier (by.opening e); device = λ e. ⊎_elim (λ x. inl (failed_before _ _ _ earlier x)) inr (by.device e); worn = by.worn }

-- the message of a power loss
pub power_runs : {D A : Type 0} {G : Ghosts D} {old mid new : Exec D A G} → Leads old mid (λ p q. (q ≡ p) ⊎ IsJob (Ghosts.honest G) Reopen p q) → Leads mid new (λ p q. Steps (Ghosts.honest G) p None q) → Leads old new (Runs (Ghosts.honest G) (Message.Power ∷ []))
power_runs reopens restarts = steps_then (Runs _ (Message.Power ∷ [])) reopens restarts (λ p m q r s. (m, q, r, s, refl))

pub power_text : {H : Type 0} (p q : RunPoint) → Runs H (Message.Power ∷ []) p q → q.text ≡ p.text ++ []
power_text p q (mid, on, reopens, restarts, is) = ap (λ (z : RunPoint). z.text) is ∙ (keeps_then p mid on [] [] (begins_keep [] (reopening reopens)) (step_keeps restarts)).0

-- a store that can't be reopened
pub reopen_stops : {D A : Type 0} {G : Ghosts D} {old new : Exec D A G} (cause : RunCause) (fault : RunFault D A G) (rest : List Message) → DeviceStops old new (Halts (Ghosts.honest G) (Some cause) []) cause → FaultOf new cause fault
    → (cause ≡ Device → (before : ℕ) → IsTied before old → HasFailed before (failures_of new)) → RunStops old (Some fault.cause) (fault_disk fault) (Message.Power ∷ rest) []
reopen_stops {D} {A} {G} {old} {new} cause fault rest s f failed =
    stops_at fault (Message.Power ∷ rest) [] s.leads f.disk (λ p q b. subst (λ (x : RunCause). BeginsText (Ghosts.honest G) (Some x) (Message.Power ∷ rest) [] p q) (sym f.cause_is) (inr (inr b), (begins_keep [] b.0).0)) (λ at last b count state bytes same.
    let now = Ghosts.failures G (fault_disk fault) in let disk = Ghosts.state G (fault_disk fault) in
    let has = failures_is new (fault_disk fault) f.disk in
    let for : (c : RunCause) → cause ≡ c → StopsFor (Ghosts.honest G) (Message.Power ∷ rest) at last now disk (Some c) → StopsFor (Ghosts.honest G) (Message.Power ∷ rest) at last now disk (Some fault.cause) = λ c is stops. subst (λ (x : RunCause). StopsFor (Ghosts.honest G) (Message.Power ∷ rest) at last now disk (Some x)) (sym (f.cause_is ∙ is)) stops in
    ⊎_elim (λ device. for Device device (λ h. inl (subst (λ (n : ℕ). HasFailed n now) (sym count) (subst (HasFailed (failures_of old)) has (failed device (failures_of old) (omega arith, inl h))))))
    (⊎_elim (λ memory. for cause refl (stops_memory (Ghosts.honest G) (Message.Power ∷ rest) at last now disk cause memory same)) (λ write. for Write write tt)) s.own)
