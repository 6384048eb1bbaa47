-- A history happens, call by call.
use Rattle.std.proofs.Common.{◌≡◌, Option, Some, None, List, [], ◌∷◌, refl, sym, ap, subst, inl, inr}
use Rattle.psu_disk.specs.Disk.{DiskState}
use Rattle.psu_exec.specs.Device.{State}
use Rattle.psu_exec.specs.Calls.{Entry, JobEnd, Allows}
use Rattle.psu_power_loss.specs.World.{World, Running, DiskCall, DiskAfter, DiskOfEnd, Happens, recorded}
use Rattle.psu_exec.specs.AcceptedEnd.{accepted_end}
use Rattle.psu_power_loss.proofs.BrokenLife.{breaks_and_mends}
use Rattle.psu_power_loss.proofs.Events.{prefix_is_left}
use Rattle.psu_turn.specs.History.{HistoryLeads}
use Rattle.psu_turn.specs.declared.numbered.Numbered.{Numbered}
use Rattle.psu_bench.specs.Calls.{AllowsOn, EndHasDisk, HasDisk}
use Rattle.psu_bench_power_loss.specs.Lives.{Happening, Called, Moved, HistoriesHappen, LeadsOverDisks, Lives, LivesAreEvents, SeenHistoriesHappen, SomeHistoryHappens, ThreadsLeavePrefix, calls_in, events_in}

-- ---- happenings are events

-- a disk call leaves the device's state unchanged
still : (w mid : World) (disk : DiskState) → Happens w (DiskCall disk) mid → mid.state ≡ w.state
still w mid disk (moves, inl (keeps, is)) = ap (λ (z : World). z.state) is
still w mid disk (moves, inr (keeps, is)) = ap (λ (z : World). z.state) is

has_after : (w : World) (entry : Entry) (disk : DiskState) → DiskAfter w entry disk → HasDisk w.state entry
has_after w entry disk is = of (accepted_end entry) is where
  of : (end : Option JobEnd) → DiskOfEnd w end disk → EndHasDisk w.state end
  of (Some finished) is = (disk, is)
  of None is = tt

led : (happenings : List Happening) (w new : World) → Lives w happenings new → LeadsOverDisks w.state (calls_in happenings) new.state
led [] w new same = sym (ap (λ (z : World). z.state) same)
led (Called call disk ∷ more) w new (mid, happens, rest) =
    (mid.state, subst (λ (s : State). Allows w.state call.entry s) (sym (ap (λ (z : World). z.state) happens.4)) happens.2, has_after w call.entry disk happens.3, led more mid new rest)
led (Moved disk ∷ more) w new (mid, happens, rest) = subst (λ (s : State). LeadsOverDisks s (calls_in more) new.state) (still w mid disk happens) (led more mid new rest)

legal : (history : List (Numbered Entry)) (first last : State) → LeadsOverDisks first history last → HistoryLeads Allows first history last
legal [] first last leads = leads
legal (call ∷ history) first last (next, allows, has, rest) = (next, allows, legal history next last rest)

pub lives_are_events : LivesAreEvents
lives_are_events w new happenings lives = (lives, legal (calls_in happenings) w.state new.state (led happenings w new lives))

-- ---- a history happens if its ends are true of disks, and only then

-- a disk that a call may leave
disk_after : (w : World) (entry : Entry) → HasDisk w.state entry → (disk : DiskState) × DiskAfter w entry disk
disk_after w entry has = of (accepted_end entry) has where
  of : (end : Option JobEnd) → EndHasDisk w.state end → (disk : DiskState) × DiskOfEnd w end disk
  of (Some finished) has = has
  of None has = (w.disk, refl)

abbrev Happened : World → List (Numbered Entry) → State → Type 0
Happened w history last = (happenings : List Happening) × (new : World) × (calls_in happenings ≡ history) × Lives w happenings new × (new.state ≡ last)

happen : (history : List (Numbered Entry)) (w : World) (last : State) → w.mode ≡ Running → LeadsOverDisks w.state history last → Happened w history last
happen [] w last running leads = ([], w, refl, refl, leads)
happen (call ∷ history) w last running (next, allows, has, rest) =
    let after = disk_after w call.entry has in
    let mid : World = record w { state = next; history = recorded w.state call.entry w.history; disk = after.0 } in
    let r = happen history mid last running rest in (
      Called call after.0 ∷ r.0,
      r.1,
      ap (λ (l : List (Numbered Entry)). call ∷ l) r.2,
      (mid, (next, running, allows, after.1, refl), r.3),
      r.4,
    )

led_to : (w : World) (history : List (Numbered Entry)) (last : State) → Happened w history last → LeadsOverDisks w.state history last
led_to w history last (happenings, new, same, lives, is) =
    subst (λ (h : List (Numbered Entry)). LeadsOverDisks w.state h last) same (subst (λ (s : State). LeadsOverDisks w.state (calls_in happenings) s) is (led happenings w new lives))

pub histories_happen : HistoriesHappen
histories_happen w history last running = (happen history w last running, led_to w history last)

-- ---- the history that a seat has seen happens

pub over_disks : (honest : Type 0) (history : List (Numbered Entry)) (first last : State) → honest → HistoryLeads (AllowsOn honest) first history last → LeadsOverDisks first history last
over_disks honest [] first last h leads = leads
over_disks honest (call ∷ history) first last h (next, allows, rest) = (next, allows.0, allows.1 h, over_disks honest history next last h rest)

pub seen_histories_happen : (honest : Type 0) → SeenHistoriesHappen honest
seen_histories_happen honest w history last h running leads = happen history w last running (over_disks honest history w.state last h leads)

-- ---- a history that happens

pub some_history_happens : SomeHistoryHappens
some_history_happens first torn disk start moves either mends each =
    let life = breaks_and_mends first torn disk start moves either mends each in (life.0, life.2, life.3)

-- ---- possible crash images

pub threads_leave_prefix : ThreadsLeavePrefix
threads_leave_prefix first now happenings image start lives left = prefix_is_left first now (events_in happenings) image start lives left
