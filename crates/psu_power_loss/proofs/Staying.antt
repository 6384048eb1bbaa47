-- Each call on a consistent state leaves a consistent one.
use Rattle.std.proofs.Common.{◌≡◌, inl, inr, ℕ, ◌<◌, Bool, true, false, cond, ◌&&◌, nat_le, Option, Some, None, is_none, Result, Ok, Err, List, map, refl, ap, subst, arith}
use Rattle.std.proofs.lemmas.Bool.{leb-false}
use Rattle.psu_items.specs.declared.commit.UnstartedCause.TheVariants as unstarted
use Rattle.psu_lex.specs.declared.scpi_error.ScpiError.{ScpiError}
use Rattle.psu_nv.specs.Contents.{IsContents, fits}
use Rattle.psu_tree.specs.declared.command.Command.{Command}
use Rattle.psu_instrument.specs.Commands.{meaning}
use Rattle.psu_instrument.specs.Meaning.{Situation, Meaning, Refuses, Does, Keeps, Completes}
use Rattle.psu_instrument.proofs.Kept.{kept_are_nonvolatile}
use Rattle.psu_exec.specs.Device.{Reply, Done, Answer, Error, Parked, Held, Later, count_held, place_of, change_if, change_in, completion_in, counted, here, is_full, is_late, is_later, kept_unless, made, meant, reads_nonvolatile, answer_call, MayMean, RunGives, Means, Expands, State, Flush, is_whole, change_of, MayAnswer, Runs, flush_after}
use Rattle.psu_nv.specs.Commands as nv
use Rattle.psu_nv.specs.Commands.{Command as Change}
use Rattle.psu_exec.specs.declared.waits.Wait.TheVariants.{Until}
use Rattle.psu_tree.specs.declared.command.Request.{Request}
use Rattle.psu_exec.proofs.Acting.{not_full}
use Rattle.psu_exec.proofs.Within.{within_less, within_cut, within_set}
use Rattle.psu_exec.specs.Calls.{Entry, Taken, JobEnd, Stored, Unstarted, Failed, Reopened, Serves, HasWork, job_out, unparked, settled, ends_wait, stored, kept, broken}
use Rattle.psu_exec.proofs.Giving.{FlushGives, flush_gives}
use Rattle.psu_exec.specs.Consistent.{IsConsistent}
use Rattle.psu_power_loss.specs.Headline.{EachStaysConsistent}
use Rattle.psu_exec.specs.declared.idle_store.Condition.TheVariants as condition
use Rattle.psu_exec.proofs.Consistent.{consistent_more, consistent_job, consistent_reopening, consistent_stored, consistent_ended, consistent_broken, consistent_waits}

-- a whole store that is not full has room for a change
pub room_for : (f : Flush) → is_whole f.store ≡ true → is_full f ≡ false → f.unflushed < 1024
room_for f whole h = at (is_whole f.store) (nat_le 1024 f.unflushed) refl whole h where
  at : (w b : Bool) → nat_le 1024 f.unflushed ≡ b → w ≡ true → (w && b) ≡ false → f.unflushed < 1024
  at true false e whole g = let no = leb-false 1024 f.unflushed e in omega arith
  at other another e whole g = cc

none_if : (reply : Reply) → change_if reply None ≡ None
none_if Done = refl
none_if other = refl

no_change : (reply : Reply) (x : Change) → change_if reply None ≡ Some x → ⊥
no_change reply x h = let none = none_if reply in cc

whole_if : (found : Option ScpiError) (whole fitting : Bool) (x y : Change) → change_if (kept_unless found whole fitting) (Some y) ≡ Some x → whole ≡ true
whole_if None true fitting x y h = refl
whole_if other another fitting x y h = cc

-- a change is accepted only while the store is whole
made_whole : (f : Flush) (m : Meaning) (reply : Reply) (x : Change) → MayMean f m reply → change_if reply (change_in m) ≡ Some x → is_whole f.store ≡ true
made_whole f (Keeps y) reply x (inr short) h = absurd (let none = subst (λ (r : Reply). change_if r (Some y) ≡ Some x) short.0 h in cc)
made_whole f (Keeps y) reply x (inl is) h = whole_if (nv.refused f.contents y) (is_whole f.store) (fits f.limit (nv.apply f.contents y)) x y (subst (λ (r : Reply). change_if r (Some y) ≡ Some x) is h)
made_whole f other reply x may h = absurd (no_change reply x h)

whole_in : (s : State) (session : ℕ) (request : Request) (reply : Reply) → RunGives s session request reply → (x : Change) → change_if reply (change_of s session request) ≡ Some x → is_whole s.flush.store ≡ true
whole_in s session request reply (Means none may) x h = made_whole s.flush (meant (here s session) request.reading) reply x may h
whole_in s session request reply (Expands body is call) x h = at call.given call.is where
  at : (given : Result (List ℕ) ScpiError) → reply ≡ answer_call given → is_whole s.flush.store ≡ true
  at (Ok text) e = absurd (let none = subst (λ (r : Reply). change_if r (change_of s session request) ≡ Some x) e h in cc)
  at (Err error) e = absurd (let none = subst (λ (r : Reply). change_if r (change_of s session request) ≡ Some x) e h in cc)

-- a unit whose meaning is a change reads as a nonvolatile command
nonvolatile_kept : (s : Situation) (reading : Result Command ScpiError) (x : Change) → change_in (meant s reading) ≡ Some x → reads_nonvolatile reading (is_none s.contents.enables) ≡ true
nonvolatile_kept s (Err e) x h = cc
nonvolatile_kept s (Ok command) x h = kept_are_nonvolatile s command x (is_keeps (meaning s command) x h)
  where
    is_keeps : (m : Meaning) (x : Change) → change_in m ≡ Some x → m ≡ Keeps x
    is_keeps (Refuses e) x h = cc
    is_keeps other x h = cc

late_for : (s : State) (session : ℕ) (request : Request) (x : Change) → change_of s session request ≡ Some x → is_later s session request ≡ false → is_full s.flush ≡ false
late_for s session request x h now = not_full s.flush session (subst (λ (b : Bool). is_late s.flush session b ≡ false) (nonvolatile_kept (here s session) request.reading x h) now)

room_in : (s : State) (session : ℕ) (request : Request) (reply : Reply) → MayAnswer s session request reply → (x : Change) → change_if reply (change_of s session request) ≡ Some x → s.flush.unflushed < 1024
room_in s session request Done (Runs run gives) x h = room_for s.flush (whole_in s session request Done gives x h) (late_for s session request x h run.due)
room_in s session request (Answer text) (Runs run gives) x h = room_for s.flush (whole_in s session request (Answer text) gives x h) (late_for s session request x h run.due)
room_in s session request other may x h = cc

-- at most one more change
made_stays : (f : Flush) (c : Option Change) → ((x : Change) → c ≡ Some x → f.unflushed < 1024) → IsContents (made c f.contents) → fits f.limit (made c f.contents) ≡ true → IsConsistent f
    → IsConsistent (record f { contents = made c f.contents; unflushed = counted c f.unflushed })
made_stays f None room sound fit k = k
made_stays f (Some x) room sound fit k = consistent_more f x _ k (room x refl) sound fit refl

unit_stays : (f : Flush) (session : ℕ) (m : Meaning) (reply : Reply) → ((x : Change) → change_if reply (change_in m) ≡ Some x → f.unflushed < 1024) → IsContents (flush_after f session m reply).contents
    → fits f.limit (flush_after f session m reply).contents ≡ true → IsConsistent f → IsConsistent (flush_after f session m reply)
unit_stays f session m Done room sound fit k = made_stays f (change_in m) room sound fit k
unit_stays f session m (Answer text) room sound fit k = made_stays f (change_in m) room sound fit k
unit_stays f session m Parked room sound fit k = consistent_waits f _ k (within_set f.unflushed (place_of session) (Some (Until (completion_in m) f.unflushed)) f.waits (omega arith) k.waits)
unit_stays f session m other room sound fit k = k

unparked_stays : (f : Flush) (session : ℕ) → IsConsistent f → IsConsistent (unparked f session)
unparked_stays f session k = consistent_waits f _ k (within_set f.unflushed (place_of session) None f.waits tt k.waits)

settled_stays : (f : Flush) (session : ℕ) (reply : Reply) → IsConsistent f → IsConsistent (settled f session reply)
settled_stays f session reply k = at (ends_wait reply) where
  at : (b : Bool) → IsConsistent (cond b (unparked f session) f)
  at true = unparked_stays f session k
  at false = k

job_stays : (f : Flush) → HasWork f → IsConsistent f → IsConsistent (job_out f)
job_stays f (inl broken) k = rw (ap is_whole broken) (consistent_reopening f k broken)
job_stays f (inr whole) k = rw (ap is_whole whole.0) (consistent_job f _ _ k refl refl)

stored_stays : (f : Flush) → IsConsistent f → IsConsistent (stored f)
stored_stays f k = consistent_stored f _ k (within_less f.unflushed (count_held f.held) f.waits k.waits)

kept_stays : (f : Flush) → IsConsistent f → IsConsistent (kept f)
kept_stays f k = consistent_ended f condition.Whole f.waits k refl k.waits

end_stays : (f new : Flush) (finished : JobEnd) → f.out ≡ true → FlushGives f finished new → IsConsistent f → IsConsistent new
end_stays f new (Stored limit map) out is k = rw is (stored_stays f k)
end_stays f new (Unstarted limit before edits unstarted.Memory) out is k = rw is (kept_stays f k)
end_stays f new (Unstarted limit before edits unstarted.Worn) out is k = rw is (consistent_ended f condition.Worn _ k refl (within_cut f.unflushed f.waits k.waits))
end_stays f new (Failed limit before edits cause) out is k = rw is (consistent_broken f _ k out (within_cut f.unflushed f.waits k.waits))
end_stays f new (Reopened limit map) out (inl all) k = rw all.1 (stored_stays f k)
end_stays f new (Reopened limit map) out (inr none) k = rw none.1 (kept_stays f k)

serves_consistent : (s new : State) (entry : Entry) → Serves s entry new → IsConsistent s.flush → IsConsistent new.flush
serves_consistent s new (Entry.Executed session request reply) a k =
    let sound = subst (λ (t : State). IsContents t.flush.contents) a.1.is a.1.sound in
    let fit = subst (λ (t : State). fits t.flush.limit t.flush.contents ≡ true) a.1.is a.1.fitting in
    rw a.1.is (unit_stays s.flush session (meant (here s session) request.reading) reply (room_in s session request reply a.1.may) sound fit k)
serves_consistent s new (Entry.Settled session reply) a k = rw a.2 (settled_stays s.flush session reply k)
serves_consistent s new (Entry.Took (Taken.Job job)) a k = rw a.1 (job_stays s.flush a.0.1 k)
serves_consistent s new (Entry.GaveBack finished (Some over)) a k = end_stays s.flush new.flush finished a.out (flush_gives s new finished a.gives) k
serves_consistent s new (Entry.Opened (Some session)) a k = rw a.1 (unparked_stays s.flush session k)
serves_consistent s new (Entry.Closed session granted) a k = rw a.2 (unparked_stays s.flush session k)
serves_consistent s new (Entry.Cleared session) a k = rw a.1 (unparked_stays s.flush session k)
serves_consistent s new (Entry.Sent session sessions work) a k = rw a.1.2 k
serves_consistent s new (Entry.Queried session byte) a k = rw a.2 k
serves_consistent s new (Entry.Fetched session byte) a k = rw a.2 k
serves_consistent s new (Entry.Notified sessions work) a k = rw a.2 k
serves_consistent s new (Entry.Locked session kind now timeout result) a k = rw a.2 k
serves_consistent s new (Entry.Released session result) a k = rw a.2 k
serves_consistent s new other a k = rw a.1 k

pub each_stays_consistent : EachStaysConsistent
each_stays_consistent s new entry (inl a) k = serves_consistent s new entry a k
each_stays_consistent s new entry (inr none) k = rw none.1 k
