-- Each call preserves the invariant of parked units, and so do all events.
use Rattle.std.proofs.Common.{◌≡◌, inl, inr, ℕ, ◌-◌, ◌≤◌, Bool, true, false, cond, ◌==◌, Some, None, is_some, List, [], ◌∷◌, length, map, slice_get, option_map, refl, sym, ap, subst, ◌∙◌, arith}
use Rattle.std.proofs.lemmas.Bool.{eq-eqb}
use Rattle.psu_items.specs.declared.commit.UnstartedCause.TheVariants as unstarted
use Rattle.psu_exec.specs.Calls.{wait_less, wait_cut, Entry, Taken, JobEnd, Stored, Unstarted, Failed, Reopened, Allows, Serves, ends_wait, least_free, unparked, stored, with_locks, with_session}
use Rattle.psu_exec.specs.Device.{Reply, Done, Answer, Error, Parked, Held, Later, place_of, count_held, State, Flush, followed, is_open, wait_of, is_whole, power_on}
use Rattle.psu_instrument.specs.declared.act.Completion.{Completion}
use Rattle.psu_exec.specs.declared.waits.Wait.TheVariants.{Until}
use Rattle.psu_locks.specs.Locks.{Locks}
use Rattle.psu_exec.specs.ServiceStates.{initial_service_state, opened_service_state}
use Rattle.psu_exec.specs.LockCalls.{locks_closed}
use Rattle.psu_exec.specs.declared.service_states.ServiceState.{ServiceState}
use Rattle.psu_exec.proofs.Giving.{FlushGives, flush_gives, open_after}
use Rattle.psu_instrument.specs.Instrument.{Instrument}
use Rattle.psu_power_loss.specs.World.{World, Running, Stopped, Restarting, Event, Call, DiskCall, Loss, Stop, Restart, Happens, Run, PastUnit, Fate, Gave, Waits, Dropped, begun_with, changes, before, ended, ended_fate, recorded}
use Rattle.psu_power_loss.specs.Headline.{IsParkedFor, EachWaitIsExact}
use Rattle.psu_power_loss.proofs.Histories.{before_all, before-ended, changes-ended, place_in_map}
use Rattle.psu_power_loss.proofs.Parking.{wait_before_less, wait_before_cut}
use Rattle.psu_power_loss.proofs.Places.{other_place, length-set, length-mapped, some_in_map}
use Rattle.psu_exec.proofs.Opening.{opens_the_least, places_are_apart, first_open, at_same}
use Rattle.psu_nv.specs.Contents.{Contents}
use Rattle.psu_power_loss.proofs.Waiting.{done_lasts, parked_lasts}
use Rattle.psu_power_loss.proofs.Ignored.{ignored_recorded}
use Rattle.psu_power_loss.proofs.Invariant.{IsKept, kept_at_start}
use Rattle.psu_power_loss.proofs.Events.{while_running, event_keeps}

-- a unit that still waits once a wait of another session has ended
ended_waits : (b : Bool) (new old : Fate) → (new ≡ Waits → ⊥) → ended_fate b new old ≡ Waits → (b ≡ false) × (old ≡ Waits)
ended_waits true new Waits isnt h = absurd (isnt h)
ended_waits false new old isnt h = (refl, h)
ended_waits true new other isnt h = cc

not_same : (a b : ℕ) → (a == b) ≡ false → a ≡ b → ⊥
not_same a b isnt e = let yes : (a == b) ≡ true = eq-eqb a b e in let bad : true ≡ false = sym yes ∙ isnt in cc

-- the state after a wait has ended
record Ends (s new : State) (session : ℕ) : Type 0 where
  pub lengths : length new.flush.waits ≡ length new.volatile.open_now
  pub count : new.flush.unflushed ≡ s.flush.unflushed
  pub waits : (other : ℕ) → (place_of other ≡ place_of session → ⊥) → wait_of new.flush other ≡ wait_of s.flush other
  pub open_is : (other : ℕ) → (place_of other ≡ place_of session → ⊥) → is_open s other ≡ true → is_open new other ≡ true

drop_lasts : (us : List PastUnit) (s new : State) (session : ℕ) (fate : Fate) → (fate ≡ Waits → ⊥) → is_open s session ≡ true → Ends s new session → IsParkedFor us s → IsParkedFor (map (ended session fate) us) new
drop_lasts us s new session fate isnt here ends l =
    let vs : List PastUnit = map (ended session fate) us in
    let all : length (changes vs) ≡ length (changes us) = ap length (changes-ended session fate us) in
    let within = l.within in
    let count = ends.count in
    let apart : (i : ℕ) (u : PastUnit) → slice_get vs i ≡ Some u → u.fate ≡ Waits → (v : PastUnit) × (slice_get us i ≡ Some v) × (v.fate ≡ Waits) × (v.session ≡ u.session) × (place_of u.session ≡ place_of session → ⊥) =
    λ i u at is.
    let m = place_in_map (ended session fate) us i u at in
    let old = ended_waits (m.old.session == session) fate m.old.fate isnt (ap (λ (v : PastUnit). v.fate) (sym m.is) ∙ is) in
    let same : m.old.session ≡ u.session = ap (λ (v : PastUnit). v.session) (sym m.is) in
    (m.old, m.at, old.1, same, λ e. not_same m.old.session session old.0 (places_are_apart s m.old.session session (l.open_is i m.old m.at old.1) here (ap place_of same ∙ e))) in
    record {
      lengths = ends.lengths;
      within = omega (arith, within, count, all);
      open_is = λ i u at is. let a = apart i u at is in ends.open_is u.session a.4 (subst (λ (n : ℕ). is_open s n ≡ true) a.3 (l.open_is i a.0 a.1 a.2));
      parked = λ i u at is. let a = apart i u at is in rw (ends.waits u.session a.4) (subst (λ (n : ℕ). is_some (wait_of s.flush n) ≡ true) a.3 (l.parked i a.0 a.1 a.2));
      exact = λ i u at is q n h.
          let a = apart i u at is in
          let w : wait_of s.flush a.0.session ≡ Some (Until q n) = ap (wait_of s.flush) a.3 ∙ (sym (ends.waits u.session a.4) ∙ h) in
          let e = l.exact i a.0 a.1 a.2 q n w in
          let b : before vs i ≡ before us i = before-ended session fate us i in
          rw (b, all, count) e;
    }

-- a wait is dropped, and the open sessions are unchanged
unparked_ends : (s : State) (session : ℕ) (new : State) → length s.flush.waits ≡ length s.volatile.open_now → new.volatile.open_now ≡ s.volatile.open_now → new.flush ≡ unparked s.flush session → Ends s new session
unparked_ends s session new lengths same flush = record {
  lengths = rw (flush, same) (length-set s.flush.waits (place_of session) None ∙ lengths);
  count = ap (λ (f : Flush). f.unflushed) flush;
  waits = λ other apart. rw flush (other_place s.flush.waits (place_of session) (place_of other) None None apart);
  open_is = λ other apart h. rw same h;
}

-- a session opens or closes
session_ends : (s : State) (session : ℕ) (b : Bool) (m : ServiceState) → length s.flush.waits ≡ length s.volatile.open_now → Ends s (with_session s session b m) session
session_ends s session b m lengths = record {
  lengths = length-set s.flush.waits (place_of session) None ∙ (lengths ∙ sym (length-set s.volatile.open_now (place_of session) b));
  count = refl;
  waits = λ other apart. other_place s.flush.waits (place_of session) (place_of other) None None apart;
  open_is = λ other apart h. rw (other_place s.volatile.open_now (place_of session) (place_of other) b false apart) h;
}

ends_with_locks : (s new : State) (session : ℕ) (locks : Locks) → Ends s new session → Ends s (with_locks new locks) session
ends_with_locks s new session locks ends = record { lengths = ends.lengths; count = ends.count; waits = ends.waits; open_is = ends.open_is }

gave_waits : (reply : Reply) → Gave reply ≡ Waits → ⊥
gave_waits reply h = cc

-- unchanged units, and waits that are unchanged or changed one by one
record Keeps (us : List PastUnit) (s new : State) : Type 0 where
  pub open_now : new.volatile.open_now ≡ s.volatile.open_now
  pub lengths : length new.flush.waits ≡ length s.flush.waits
  pub fewer : new.flush.unflushed ≤ s.flush.unflushed
  pub waits : (session : ℕ) → is_some (wait_of s.flush session) ≡ true → is_some (wait_of new.flush session) ≡ true
  pub exact : (session : ℕ) (q : Completion) (n : ℕ) → wait_of new.flush session ≡ Some (Until q n) → (m : ℕ) × (wait_of s.flush session ≡ Some (Until q m)) × (n ≡ m - (s.flush.unflushed - new.flush.unflushed))

kept_lasts : (us : List PastUnit) (s new : State) → Keeps us s new → IsParkedFor us s → IsParkedFor us new
kept_lasts us s new k l =
    let within = l.within in
    let fewer = k.fewer in
    record {
      lengths = k.lengths ∙ (l.lengths ∙ ap length (sym k.open_now));
      within = omega (arith, within, fewer);
      open_is = λ i u at is. rw k.open_now (l.open_is i u at is);
      parked = λ i u at is. k.waits u.session (l.parked i u at is);
      exact = λ i u at is q n h.
          let w = k.exact u.session q n h in
          let e = l.exact i u at is q w.0 w.1 in
          let b = before_all us i in
          let p = w.2 in
          omega (arith, e, b, p, within, fewer);
    }

-- sessions, waits and the count of unflushed changes are unchanged
same_keeps : (us : List PastUnit) (s new : State) → new.volatile.open_now ≡ s.volatile.open_now → new.flush.waits ≡ s.flush.waits → new.flush.unflushed ≡ s.flush.unflushed → Keeps us s new
same_keeps us s new same waits count = record {
  open_now = same;
  lengths = ap length waits;
  fewer = omega (arith, count);
  waits = λ session h. rw waits h;
  exact = λ session q n h. (n, rw waits at h, omega (arith, count));
}

cut_keeps : (us : List PastUnit) (s new : State) → new.volatile.open_now ≡ s.volatile.open_now → new.flush.waits ≡ map (option_map wait_cut) s.flush.waits → new.flush.unflushed ≡ s.flush.unflushed → Keeps us s new
cut_keeps us s new same waits count = record {
  open_now = same;
  lengths = ap length waits ∙ length-mapped (option_map wait_cut) s.flush.waits;
  fewer = omega (arith, count);
  waits = λ session h. rw waits (some_in_map wait_cut s.flush.waits (place_of session) h);
  exact = λ session q n h. (n, wait_before_cut s.flush.waits (place_of session) q n (rw waits at h), omega (arith, count));
}

less_keeps : (us : List PastUnit) (s new : State) → new.volatile.open_now ≡ s.volatile.open_now → new.flush ≡ stored s.flush → count_held s.flush.held ≤ s.flush.unflushed → Keeps us s new
less_keeps us s new same flush held =
    let k = count_held s.flush.held in
    let waits : new.flush.waits ≡ map (option_map (wait_less k)) s.flush.waits = ap (λ (f : Flush). f.waits) flush in
    let count : new.flush.unflushed ≡ s.flush.unflushed - k = ap (λ (f : Flush). f.unflushed) flush in
    record {
      open_now = same;
      lengths = ap length waits ∙ length-mapped (option_map (wait_less k)) s.flush.waits;
      fewer = omega (arith, count);
      waits = λ session h. rw waits (some_in_map (wait_less k) s.flush.waits (place_of session) h);
      exact = λ session q n h. let w = wait_before_less s.flush.waits k (place_of session) q n (rw waits at h) in let e = w.2 in (w.0, w.1, omega (arith, e, count, held));
    }

-- the state with another flush part
with_flush : State → Flush → State
with_flush s f = record s { flush = f }

end_keeps_waits : (us : List PastUnit) (s new : State) (finished : JobEnd) → new.volatile.open_now ≡ s.volatile.open_now → FlushGives s.flush finished new.flush → count_held s.flush.held ≤ s.flush.unflushed → Keeps us s new
end_keeps_waits us s new (Stored limit map) same is held = less_keeps us s new same is held
end_keeps_waits us s new (Unstarted limit before edits unstarted.Memory) same is held = same_keeps us s new same (ap (λ (f : Flush). f.waits) is) (ap (λ (f : Flush). f.unflushed) is)
end_keeps_waits us s new (Reopened limit map) same (inl all) held = less_keeps us s new same all.1 held
end_keeps_waits us s new (Reopened limit map) same (inr none) held = same_keeps us s new same (ap (λ (f : Flush). f.waits) none.1) (ap (λ (f : Flush). f.unflushed) none.1)
end_keeps_waits us s new other same is held = cut_keeps us s new same (ap (λ (f : Flush). f.waits) is) (ap (λ (f : Flush). f.unflushed) is)

settle_lasts : (us : List PastUnit) (s : State) (session : ℕ) (reply : Reply) (i : Instrument) (b : Bool) → is_open s session ≡ true → IsParkedFor us s
    → IsParkedFor (cond b (map (ended session (Gave reply)) us) us) (followed s (record { volatile = record s.volatile { instrument = i }; flush = cond b (unparked s.flush session) s.flush }))
settle_lasts us s session reply i true here l = drop_lasts us s _ session (Gave reply) (gave_waits reply) here (unparked_ends s session _ l.lengths refl refl) l
settle_lasts us s session reply i false here l = kept_lasts us s _ (same_keeps us s _ refl refl refl) l

job_keeps_waits : (us : List PastUnit) (s : State) (b : Bool) (f g : Flush) → f.waits ≡ s.flush.waits → g.waits ≡ s.flush.waits → f.unflushed ≡ s.flush.unflushed → g.unflushed ≡ s.flush.unflushed → Keeps us s (record s { flush = cond b f g })
job_keeps_waits us s true f g a b c d = same_keeps us s _ refl a c
job_keeps_waits us s false f g a b c d = same_keeps us s _ refl b d

-- a session opens that was not open: no waiting unit belongs to it
opens : (us : List PastUnit) (s : State) (session : ℕ) → least_free s ≡ Some session → IsParkedFor us s → IsParkedFor us (with_session s session true (opened_service_state s.volatile.instrument.status))
opens us s session e l =
    let free : is_open s session ≡ false = ((opens_the_least s (with_session s session true (opened_service_state s.volatile.instrument.status))).0 session (inl (sym e, refl))).free in
    let ends = session_ends s session true (opened_service_state s.volatile.instrument.status) l.lengths in
    let apart : (i : ℕ) (u : PastUnit) → slice_get us i ≡ Some u → u.fate ≡ Waits → place_of u.session ≡ place_of session → ⊥ =
    λ i u at is same.
    let there : is_open s session ≡ true = at_same s u.session session same (first_open s session e) (l.open_is i u at is) in
    let bad : true ≡ false = sym there ∙ free in cc in
    record {
      lengths = ends.lengths;
      within = l.within;
      open_is = λ i u at is. ends.open_is u.session (apart i u at is) (l.open_is i u at is);
      parked = λ i u at is. rw (ends.waits u.session (apart i u at is)) (l.parked i u at is);
      exact = λ i u at is q n h. l.exact i u at is q n (sym (ends.waits u.session (apart i u at is)) ∙ h);
    }

serves_lasts : (us : List PastUnit) (s new : State) (c : Entry) → Serves s c new → count_held s.flush.held ≤ s.flush.unflushed → IsParkedFor us s → IsParkedFor (recorded s c us) new
serves_lasts us s new (Entry.Executed session request Held) a held l = rw a.1.is (kept_lasts us s _ (same_keeps us s _ refl refl refl) l)
serves_lasts us s new (Entry.Executed session request Later) a held l = rw a.1.is (kept_lasts us s _ (same_keeps us s _ refl refl refl) l)
serves_lasts us s new (Entry.Executed session request Done) a held l = rw a.1.is (done_lasts us s session request Done refl (λ h. cc) l)
serves_lasts us s new (Entry.Executed session request (Answer text)) a held l = rw a.1.is (done_lasts us s session request (Answer text) refl (λ h. cc) l)
serves_lasts us s new (Entry.Executed session request (Reply.Expand text)) a held l = rw a.1.is (done_lasts us s session request (Reply.Expand text) refl (λ h. cc) l)
serves_lasts us s new (Entry.Executed session request (Error e)) a held l = rw a.1.is (done_lasts us s session request (Error e) refl (λ h. cc) l)
serves_lasts us s new (Entry.Executed session request Parked) a held l = rw a.1.is (parked_lasts us s session request a.0 a.1.may l)
serves_lasts us s new (Entry.Settled session reply) a held l = rw a.2 (settle_lasts us s session reply _ (ends_wait reply) a.0 l)
serves_lasts us s new (Entry.Took (Taken.Job job)) a held l = rw a.1 (kept_lasts us s _ (job_keeps_waits us s (is_whole s.flush.store) _ _ refl refl refl refl) l)
serves_lasts us s new (Entry.GaveBack finished (Some over)) a held l = kept_lasts us s new (end_keeps_waits us s new finished (open_after s new finished a.gives) (flush_gives s new finished a.gives) held) l
serves_lasts us s new (Entry.Opened (Some session)) a held l = l2 where
  l2 : IsParkedFor us new
  l2 = rw a.1 (opens us s session (sym a.0) l)
serves_lasts us s new (Entry.Closed session granted) a held l = rw (a.0, a.2) (drop_lasts us s _ session Dropped (λ h. cc) a.0 (ends_with_locks s _ session (locks_closed s.volatile.locks session) (session_ends s session false initial_service_state l.lengths)) l)
serves_lasts us s new (Entry.Sent session sessions work) a held l = rw a.1.2 (kept_lasts us s _ (same_keeps us s _ refl refl refl) l)
serves_lasts us s new (Entry.Delivered session) a held l = rw a.1 (kept_lasts us s _ (same_keeps us s _ refl refl refl) l)
serves_lasts us s new (Entry.Queried session byte) a held l = rw a.2 (kept_lasts us s _ (same_keeps us s _ refl refl refl) l)
serves_lasts us s new (Entry.Fetched session byte) a held l = rw a.2 (kept_lasts us s _ (same_keeps us s _ refl refl refl) l)
serves_lasts us s new (Entry.Notified sessions work) a held l = rw a.2 (kept_lasts us s _ (same_keeps us s _ refl refl refl) l)
serves_lasts us s new (Entry.Locked session kind now timeout result) a held l = rw a.2 (kept_lasts us s _ (same_keeps us s _ refl refl refl) l)
serves_lasts us s new (Entry.Released session result) a held l = rw a.2 (kept_lasts us s _ (same_keeps us s _ refl refl refl) l)
serves_lasts us s new (Entry.Ticked now failed) a held l = rw a.1 (kept_lasts us s _ (same_keeps us s _ refl refl refl) l)
serves_lasts us s new (Entry.Cleared session) a held l = rw (a.0, a.1) (drop_lasts us s _ session Dropped (λ h. cc) a.0 (unparked_ends s session _ l.lengths refl refl) l)
serves_lasts us s new other a held l = rw a.1 l

call_lasts : (us : List PastUnit) (s new : State) (c : Entry) → Allows s c new → count_held s.flush.held ≤ s.flush.unflushed → IsParkedFor us s → IsParkedFor (recorded s c us) new
call_lasts us s new c (inl a) held l = serves_lasts us s new c a held l
call_lasts us s new c (inr none) held l = rw (none.1, ignored_recorded s c us none.0) l

start_parked : (limit : ℕ) (c : Contents) → IsParkedFor [] (power_on limit c)
start_parked limit c = record {
  lengths = refl;
  within = omega arith;
  open_is = λ i u at is. cc;
  parked = λ i u at is. cc;
  exact = λ i u at is q n h. cc;
}

-- the invariant of the world, and that of its parked units
record Both (w : World) : Type 0 where
  pub kept : IsKept w
  pub parked : w.mode ≡ Running → IsParkedFor w.history w.state

event_both : (w new : World) (e : Event) → Happens w e new → Both w → Both new
event_both w new (Call c d) h b =
    let l = while_running w h.1 b.kept in
    let count = l.count in
    let held = l.held in
    record { kept = event_keeps w new (Call c d) h b.kept; parked = λ running. rw h.4 (call_lasts w.history w.state h.0 c h.2 (omega (arith, count, held)) (b.parked h.1)) }
event_both w new (DiskCall d) h b =
    record {
      kept = event_keeps w new (DiskCall d) h b.kept;
      parked = λ running. elim h.1 [
        | inl j ↦ rw j.1 (b.parked j.0.running)
        | inr r ↦ let mode : Running ≡ Restarting (begun_with w.mode w.disk) = sym running ∙ ap (λ (v : World). v.mode) r.1 in cc
      ];
    }
event_both w new (Loss image) h b = record { kept = event_keeps w new (Loss image) h b.kept; parked = λ running. let mode : Running ≡ Stopped = sym running ∙ ap (λ (v : World). v.mode) h.1 in cc }
event_both w new Stop h b = record { kept = event_keeps w new Stop h b.kept; parked = λ running. let mode : Running ≡ Stopped = sym running ∙ ap (λ (v : World). v.mode) h in cc }
event_both w new (Restart limit c) h b = record { kept = event_keeps w new (Restart limit c) h b.kept; parked = λ running. rw h.1 (start_parked limit c) }

run_both : (w new : World) (es : List Event) → Run w es new → Both w → Both new
run_both w new [] h b = rw h b
run_both w new (e ∷ es) h b = run_both h.0 new es h.2 (event_both w h.0 e h.1 b)

pub each_wait_is_exact : EachWaitIsExact
each_wait_is_exact first now events start run running =
    let begins : Both first = record { kept = kept_at_start first start; parked = λ _. rw (start.history, start.state) (start_parked first.limit first.start) } in
    (run_both first now events run begins).parked running
