-- The invariant when waits end, and when jobs are taken and end.
use Rattle.std.proofs.Common.{◌≡◌, ◌⊎◌, inl, inr, ℕ, Bool, true, false, cond, ◌==◌, ◌&&◌, Option, Some, None, List, map, refl, sym, ap, ◌∙◌, arith}
use Rattle.std.proofs.lemmas.Bool.{eqb-true}
use Rattle.psu_disk.specs.Disk.{DiskState}
use Rattle.psu_exec.specs.Device.{Reply, Done, Answer, Error, Parked, Held, Later, place_of, answer_complete, State, Flush, wait_of}
use Rattle.psu_exec.specs.Calls.{settle_answer, unparked, ends_wait, settled}
use Rattle.psu_nv.specs.Contents.{Contents}
use Rattle.psu_exec.specs.declared.waits.Wait.{Wait}
use Rattle.psu_instrument.specs.declared.act.Completion.{Completion}
use Rattle.psu_exec.specs.declared.waits.Wait.TheVariants.{Until, CutOff}
use Rattle.psu_power_loss.specs.World.{PastUnit, Fate, Gave, Waits, Dropped, before, is_answer, ended, ended_fate, recorded_settle}
use Rattle.psu_exec.specs.Opc.{asks_opc}
use Rattle.psu_power_loss.proofs.Histories.{changes-ended, before-ended, place_in_map}
use Rattle.psu_power_loss.proofs.Invariant.{InLife}
use Rattle.psu_power_loss.proofs.Parking.{wait_in_set}

-- ---- waits

-- the fate of a unit once a wait of a session has ended
ended_waits : (b : Bool) (new old : Fate) → (new ≡ Waits → ⊥) → ended_fate b new old ≡ Waits → (b ≡ false) × (old ≡ Waits)
ended_waits true new Waits isnt h = absurd (isnt h)
ended_waits false new old isnt h = (refl, h)
ended_waits true new other isnt h = cc

ended_answer : (b : Bool) (new old : Fate) → is_answer (ended_fate b new old) ≡ true → (is_answer old ≡ true) ⊎ ((b ≡ true) × (old ≡ Waits) × (is_answer new ≡ true))
ended_answer true new Waits h = inr (refl, refl, h)
ended_answer true new Dropped h = cc
ended_answer other new another h = inl h

both_true : (a b : Bool) → a && b ≡ true → (a ≡ true) × (b ≡ true)
both_true true b h = (refl, h)
both_true false b h = cc

-- a wait of a session is over or dropped; if it is answered, no change before it is unflushed
pub wait_ends : (limit : ℕ) (start : Contents) (us : List PastUnit) (f : Flush) (d : DiskState) (session : ℕ) (fate : Fate) → (fate ≡ Waits → ⊥)
    → (is_answer fate ≡ true → (q : Completion) × (wait_of f session ≡ Some (Until q 0)))
    → InLife limit start us f d → InLife limit start (map (ended session fate) us) (unparked f session) d
wait_ends limit start us f d session fate isnt one l = record {
  gone = l.gone;
  rest = l.rest;
  made = changes-ended session fate us ∙ l.made;
  sound = l.sound;
  count = l.count;
  limit_is = l.limit_is;
  contents = l.contents;
  first_map = l.first_map;
  aim = l.aim;
  held = l.held;
  whole = l.whole;
  disk = l.disk;
  answered = λ i u at is.
      let m = place_in_map (ended session fate) us i u at in
      let b = both_true (asks_opc u.request.reading) (is_answer u.fate) is in
      let same : before (map (ended session fate) us) i ≡ before us i = before-ended session fate us i in
      let own : is_answer (ended session fate m.old).fate ≡ true = ap (λ (v : PastUnit). is_answer v.fate) (sym m.is) ∙ b.1 in
      let query : asks_opc m.old.request.reading ≡ true = ap (λ (v : PastUnit). asks_opc v.request.reading) (sym m.is) ∙ b.0 in
      rw same (elim (ended_answer (m.old.session == session) fate m.old.fate own) [
        | inl old ↦ l.answered i m.old m.at (rw (query, old) refl)
        | inr new ↦ let w = one new.2 in let e = eqb-true m.old.session session new.0 in
            let le = l.waits i m.old m.at new.1 w.0 0 (rw e w.1) in omega arith
      ]);
  waits = λ i u at is q n h.
      let m = place_in_map (ended session fate) us i u at in
      let same : before (map (ended session fate) us) i ≡ before us i = before-ended session fate us i in
      let old = ended_waits (m.old.session == session) fate m.old.fate isnt (ap (λ (v : PastUnit). v.fate) (sym m.is) ∙ is) in
      let w : wait_of (unparked f session) m.old.session ≡ Some (Until q n) = ap (λ (v : PastUnit). wait_of (unparked f session) v.session) (sym m.is) ∙ h in
      rw same (elim (wait_in_set f.waits (place_of session) None (place_of m.old.session) (Until q n) w) [
        | inl before_it ↦ l.waits i m.old m.at old.1 q n before_it
        | inr bad ↦ let e = bad.1 in cc
      ]);
}

gave_waits : (reply : Reply) → Gave reply ≡ Waits → ⊥
gave_waits reply h = cc

-- settle returns 1 only if the wait is at 0
settled_one : (w : Option Wait) (reply : Reply) → reply ≡ settle_answer w → is_answer (Gave reply) ≡ true → (q : Completion) × (w ≡ Some (Until q 0))
settled_one w Done may h = cc
settled_one (Some (Until q n)) (Answer text) e h = at n (n == 0) refl e where
  at : (k : ℕ) (b : Bool) → (k == 0) ≡ b → Answer text ≡ cond b (answer_complete q) Parked → (p : Completion) × (Some (Until q k) ≡ Some (Until p 0))
  at k true is g = (q, ap (λ (i : ℕ). Some (Until q i)) (eqb-true k 0 is))
  at k false is g = cc
settled_one other another third h = cc

pub settled_keeps : (limit : ℕ) (start : Contents) (us : List PastUnit) (s : State) (d : DiskState) (session : ℕ) (reply : Reply) → reply ≡ settle_answer (wait_of s.flush session)
    → InLife limit start us s.flush d → InLife limit start (recorded_settle us session reply) (settled s.flush session reply) d
settled_keeps limit start us s d session reply may l = at (ends_wait reply) where
  at : (b : Bool) → InLife limit start (cond b (map (ended session (Gave reply)) us) us) (cond b (unparked s.flush session) s.flush) d
  at true = wait_ends limit start us s.flush d session (Gave reply) (gave_waits reply) (settled_one (wait_of s.flush session) reply may) l
  at false = l

pub dropped_keeps : (limit : ℕ) (start : Contents) (us : List PastUnit) (f : Flush) (d : DiskState) (session : ℕ) → InLife limit start us f d → InLife limit start (map (ended session Dropped) us) (unparked f session) d
dropped_keeps limit start us f d session l = wait_ends limit start us f d session Dropped (λ h. cc) (λ h. cc) l

-- a session opens, and its wait is dropped
pub opened_keeps : (limit : ℕ) (start : Contents) (us : List PastUnit) (f : Flush) (d : DiskState) (session : ℕ) → InLife limit start us f d → InLife limit start us (unparked f session) d
opened_keeps limit start us f d session l = record {
  gone = l.gone;
  rest = l.rest;
  made = l.made;
  sound = l.sound;
  count = l.count;
  limit_is = l.limit_is;
  contents = l.contents;
  first_map = l.first_map;
  aim = l.aim;
  held = l.held;
  whole = l.whole;
  disk = l.disk;
  answered = l.answered;
  waits = λ i u at is q n h. elim (wait_in_set f.waits (place_of session) None (place_of u.session) (Until q n) h) [
    | inl old ↦ l.waits i u at is q n old
    | inr bad ↦ let e = bad.1 in cc
  ];
}
