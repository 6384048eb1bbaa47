-- Each event preserves the invariant, and so do all.
use Rattle.std.proofs.Common.{◌≡◌, inl, inr, ℕ, Some, None, List, [], ◌∷◌, refl, sym, ap, ap₂, subst, ◌∙◌}
use Rattle.psu_disk.specs.Disk.{DiskState}
use Rattle.psu_disk.specs.Ranges.{reads_left}
use Rattle.psu_items.specs.Image.{EachIsEither}
use Rattle.psu_items.proofs.Standing.{represents_one}
use Rattle.psu_nv.specs.Contents.{items_of, Contents}
use Rattle.psu_nv.proofs.Determining.{same_contents}
use Rattle.psu_status.proofs.FirstRequest.{request_at_power_on}
use Rattle.psu_exec.proofs.Giving.{flush_gives}
use Rattle.psu_outputs.specs.Outputs.{conditions}
use Rattle.psu_instrument.specs.Instrument.{outputs_at_power_on}
use Rattle.psu_exec.specs.Device.{State, target, power_on}
use Rattle.psu_exec.specs.Calls.{Entry, Taken, Allows, Serves, MayTake, after_take}
use Rattle.psu_exec.specs.Consistent.{MayBeKept}
use Rattle.psu_power_loss.specs.World.{World, Mode, Running, Stopped, Restarting, Event, Call, DiskCall, Loss, Stop, Restart, Happens, KeepsMaps, Run, IsDown, Finds, after, begun_with, recorded, DiskAfter, without_power}
use Rattle.psu_power_loss.specs.Headline.{IsPrefix, NoneIsBad, PrefixLeft, PowersOnWithPrefix, EachIsAccounted}
use Rattle.psu_power_loss.proofs.Invariant.{InLife, InDark, ByMode, IsKept, prefix_left, prefix_moved, only_left, life_begins, kept_at_start}
use Rattle.psu_power_loss.proofs.Ignored.{ignored_disk, ignored_recorded}
use Rattle.psu_power_loss.proofs.Units.{executed_keeps}
use Rattle.psu_power_loss.proofs.Ends.{settled_keeps, dropped_keeps, opened_keeps}
use Rattle.psu_power_loss.proofs.Jobs.{job_keeps, end_keeps}

-- a call, and the disk after it
serves_keeps : (w : World) (c : Entry) (s : State) (d : DiskState) → Serves w.state c s → DiskAfter w c d → InLife w.limit w.start w.history w.state.flush w.disk
    → InLife w.limit w.start (recorded w.state c w.history) s.flush d
serves_keeps w (Entry.Executed session request reply) s d a e l =
    let kept = subst (λ (t : State). MayBeKept t.flush.limit t.flush.contents) a.1.is (record { sound = a.1.sound; fitting = a.1.fitting }) in
    rw (e, a.1.is) (executed_keeps w.limit w.start w.history w.state w.disk session request reply a.1.may kept l)
serves_keeps w (Entry.Settled session reply) s d a e l = rw (e, a.2) (settled_keeps w.limit w.start w.history w.state w.disk session reply a.1 l)
serves_keeps w (Entry.Took t) s d a e l = rw (e, a.1) (took t a.0) where
  took : (t : Taken) → MayTake w.state.flush t → InLife w.limit w.start w.history (after_take w.state.flush t) w.disk
  took (Taken.Job job) may = job_keeps w.limit w.start w.history w.state.flush w.disk may.0 l
  took other may = l
serves_keeps w (Entry.GaveBack finished (Some over)) s d a e l = end_keeps w.limit w.start w.history w.state.flush s.flush w.disk d finished a.expected (flush_gives w.state s finished a.gives) e l
serves_keeps w (Entry.Opened (Some session)) s d a e l = rw (e, a.1) (opened_keeps w.limit w.start w.history w.state.flush w.disk session l)
serves_keeps w (Entry.Closed session granted) s d a e l = rw (e, a.0, a.2) (dropped_keeps w.limit w.start w.history w.state.flush w.disk session l)
serves_keeps w (Entry.Cleared session) s d a e l = rw (e, a.0, a.1) (dropped_keeps w.limit w.start w.history w.state.flush w.disk session l)
serves_keeps w (Entry.Sent session sessions work) s d a e l = rw (e, a.1.2) l
serves_keeps w (Entry.Queried session byte) s d a e l = rw (e, a.2) l
serves_keeps w (Entry.Fetched session byte) s d a e l = rw (e, a.2) l
serves_keeps w (Entry.Notified sessions work) s d a e l = rw (e, a.2) l
serves_keeps w (Entry.Locked session kind now timeout result) s d a e l = rw (e, a.2) l
serves_keeps w (Entry.Released session result) s d a e l = rw (e, a.2) l
serves_keeps w other s d a e l = rw (e, a.1) l

call_keeps : (w : World) (c : Entry) (s : State) (d : DiskState) → Allows w.state c s → DiskAfter w c d → InLife w.limit w.start w.history w.state.flush w.disk
    → InLife w.limit w.start (recorded w.state c w.history) s.flush d
call_keeps w c s d (inl a) e l = serves_keeps w c s d a e l
call_keeps w c s d (inr none) e l = rw (ignored_disk w c d none.0 e, none.1, ignored_recorded w.state c w.history none.0) l

-- the invariant of a world that is running
pub while_running : (w : World) → w.mode ≡ Running → IsKept w → InLife w.limit w.start w.history w.state.flush w.disk
while_running w e h = subst (λ m. ByMode m w) e h

-- the invariant without power: of the disk, and of the one that a restart began with
while_down : (w : World) (m : Mode) → IsDown m → ByMode m w → InDark w (begun_with m w.disk) × InDark w w.disk
while_down w Running down h = absurd down
while_down w Stopped down h = (h, h)
while_down w (Restarting begun) down h = h

-- a disk that keeps the maps of one whose crash images are those of prefixes
still_dark : (w : World) (old new : DiskState) → KeepsMaps old new → InDark w old → InDark w new
still_dark w old new keeps dark image left =
    let from = keeps image left in
    let p = dark from.0 from.1 in
    record { k = p.k; prefix = p.prefix; kept = p.kept; stands = from.2 w.limit (items_of (after w p.k)) p.stands }

-- the disk call of a job
pub other_disk : (w : World) (d : DiskState) → EachIsEither d w.state.flush.limit w.state.flush.before (target w.state.flush) → InLife w.limit w.start w.history w.state.flush w.disk → InLife w.limit w.start w.history w.state.flush d
other_disk w d each l = record {
  gone = l.gone;
  rest = l.rest;
  made = l.made;
  sound = l.sound;
  count = l.count;
  limit_is = l.limit_is;
  contents = l.contents;
  first_map = l.first_map;
  aim = l.aim;
  held = l.held;
  whole = l.whole;
  disk = subst (λ (n : ℕ). EachIsEither d n w.state.flush.before (target w.state.flush)) l.limit_is each;
  answered = l.answered;
  waits = l.waits;
}

-- what a restart finds are the contents after such a prefix
pub record FoundPrefix (w : World) (limit : ℕ) (c : Contents) : Type 0 where
  pub k : ℕ
  pub prefix : IsPrefix w k
  pub limit_is : limit ≡ w.limit
  pub contents : c ≡ after w k

pub found_prefix : (w : World) (limit : ℕ) (c : Contents) → IsKept w → Finds w limit c → FoundPrefix w limit c
found_prefix w limit c kept finds =
    let p = prefix_left w kept w.disk.bytes (reads_left w.disk) in
    let same = represents_one limit w.limit (items_of c) (items_of (after w p.k)) w.disk.bytes (finds.stands w.disk.bytes (reads_left w.disk)) p.stands in
    record {
      k = p.k;
      prefix = p.prefix;
      limit_is = same.0;
      contents = same_contents c (after w p.k) finds.sound p.kept.sound same.1;
    }

pub event_keeps : (w new : World) (e : Event) → Happens w e new → IsKept w → IsKept new
event_keeps w new (Call c d) h k =
    let next : World = record w { state = h.0; history = recorded w.state c w.history; disk = d } in
    let kept : IsKept next = subst (λ m. ByMode m next) (sym h.1) (call_keeps w c h.0 d h.2 h.3 (while_running w h.1 k)) in
    subst IsKept (sym h.4) kept
event_keeps w new (DiskCall d) h k =
    elim h.1 [
      | inl j ↦ let next : World = record w { disk = d } in
          let kept : IsKept next = subst (λ m. ByMode m next) (sym j.0.running) (other_disk w d j.0.either (while_running w j.0.running k)) in
          subst IsKept (sym j.1) kept
      | inr r ↦ let begun : DiskState = begun_with w.mode w.disk in
          let dark = (while_down w w.mode r.0.down k).0 in
          let after : InDark w d = still_dark w begun d r.0.same dark in
          let next : World = record w { disk = d; mode = Restarting begun } in
          let kept : IsKept next = (λ image left. prefix_moved w d (Restarting begun) image (dark image left), λ image left. prefix_moved w d (Restarting begun) image (after image left)) in
          subst IsKept (sym r.1) kept
    ]
event_keeps w new (Loss image) h k =
    let p = prefix_left w k image h.0 in
    let next : World = record w { disk = without_power image; mode = Stopped } in
    let kept : IsKept next = λ other left. prefix_moved w (without_power image) Stopped other (rw (only_left image other left) p) in
    subst IsKept (sym h.1) kept
event_keeps w new Stop h k =
    let next : World = record w { mode = Stopped } in
    let kept : IsKept next = λ image left. prefix_moved w w.disk Stopped image (prefix_left w k image left) in
    subst IsKept (sym h) kept
event_keeps w new (Restart limit c) h k =
    let next : World = record { state = power_on limit c; history = []; disk = w.disk; mode = Running; limit = limit; start = c } in
    let kept : IsKept next = life_begins limit c w.disk (record { sound = h.0.sound; fitting = h.0.fitting }) h.0.stands in
    subst IsKept (sym h.1) kept

pub run_keeps : (w new : World) (es : List Event) → Run w es new → IsKept w → IsKept new
run_keeps w new [] h k = rw h k
run_keeps w new (e ∷ es) h k = run_keeps h.0 new es h.2 (event_keeps w h.0 e h.1 k)

-- after any events, each possible crash image is that of a prefix
pub prefix_is_left : PrefixLeft
prefix_is_left first now events image start run left =
    let p = prefix_left now (run_keeps first now events run (kept_at_start first start)) image left in (p.k, p.prefix, p.kept, p.stands)

-- so none has bad items
pub none_is_bad : NoneIsBad
none_is_bad first now events image limit items start run left stands bad =
    let p = prefix_left now (run_keeps first now events run (kept_at_start first start)) image left in
    let same = represents_one limit now.limit items (items_of (after now p.k)) image stands p.stands in
    bad (after now p.k) p.kept.sound (rw same.0 p.kept.fitting) (sym same.1)

-- a restart powers on with the contents after it
pub powers_on : PowersOnWithPrefix
powers_on first now new events limit c start run restart =
    let kept = run_keeps first now events run (kept_at_start first start) in
    let f = found_prefix now limit c kept restart.0 in
    let state : new.state ≡ power_on now.limit (after now f.k) = ap (λ (w : World). w.state) restart.1 ∙ ap₂ power_on f.limit_is f.contents in
    (f.k, f.prefix, state, rw state refl, rw state (request_at_power_on (after now f.k).enables (conditions (outputs_at_power_on (after now f.k)))))

-- what the counts mean
pub accounted : EachIsAccounted
accounted first now events start run running =
    let l = while_running now running (run_keeps first now events run (kept_at_start first start)) in
    record {
      flushed = l.gone;
      rest = l.rest;
      made = l.made;
      count = l.count;
      contents = l.contents;
      first_map = l.first_map;
      held = l.held;
      aim = l.aim;
      answered = l.answered;
    }
