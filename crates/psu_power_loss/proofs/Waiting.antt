-- The invariant of parked units after a unit.
use Rattle.std.proofs.Common.{◌≡◌, inl, inr, ℕ, ◌+◌, ◌<◌, Bool, true, false, ◌&&◌, ◌||◌, Option, Some, None, is_some, List, [], ◌∷◌, ◌++◌, length, get_or, refl, sym, ap, subst, ◌∙◌, arith, length-append}
use Rattle.std.proofs.Math.Seq.{take-length}
use Rattle.psu_exec.specs.Device.{Reply, Parked, Flush, place_of, change_if, is_full, is_late, State, is_open, wait_of, change_of, MayAnswer, Runs, counted, completion_in, meant, here, after_unit}
use Rattle.psu_nv.specs.Commands.{Command as Change}
use Rattle.psu_tree.specs.declared.command.Request.{Request}
use Rattle.psu_instrument.specs.declared.act.Completion.{Completion}
use Rattle.psu_exec.specs.declared.waits.Wait.TheVariants.{Until}
use Rattle.psu_power_loss.specs.World.{PastUnit, Waits, changes, with_change, before, unit_of, fate_of}
use Rattle.psu_power_loss.specs.Headline.{IsParkedFor}
use Rattle.psu_power_loss.proofs.Histories.{changes-append, before-more, place_within, place_in_more}
use Rattle.psu_power_loss.proofs.Parking.{wait_in_set, wait_in_same}
use Rattle.psu_power_loss.proofs.Places.{length-set, true_inside, some_in_set, some_set}

-- a unit of a parked session is late
late_wait : (f : Flush) (session : ℕ) (c : Bool) → is_some (wait_of f session) ≡ true → is_late f session c ≡ true
late_wait f session c h = ap (λ (b : Bool). b || (is_full f && c)) h

-- a unit is parked only if its session was not parked
parks_once : (s : State) (session : ℕ) (request : Request) → MayAnswer s session request Parked → is_some (wait_of s.flush session) ≡ true → ⊥
parks_once s session request (Runs run gives) h = let bad : true ≡ false = sym (late_wait s.flush session _ h) ∙ run.due in cc

-- unchanged waits and sessions, and one more unit that doesn't wait
record MoreOf (us : List PastUnit) (s new : State) (u : PastUnit) : Type 0 where
  pub open_now : new.volatile.open_now ≡ s.volatile.open_now
  pub waits : new.flush.waits ≡ s.flush.waits
  pub count : new.flush.unflushed ≡ s.flush.unflushed + length (changes (u ∷ []))
  pub not_waiting : u.fate ≡ Waits → ⊥

more_lasts : (us : List PastUnit) (s new : State) (u : PastUnit) → MoreOf us s new u → IsParkedFor us s → IsParkedFor (us ++ u ∷ []) new
more_lasts us s new u m l =
    let size : length (changes (us ++ u ∷ [])) ≡ length (changes us) + length (changes (u ∷ [])) = ap length (changes-append us (u ∷ [])) ∙ length-append (changes us) (changes (u ∷ [])) in
    let within = l.within in
    let count = m.count in
    record {
      lengths = rw (m.waits, m.open_now) l.lengths;
      within = omega arith;
      open_is = λ i v at is. elim (place_in_more us u i v at) [
        | inl old ↦ rw m.open_now (l.open_is i v old is)
        | inr end ↦ absurd (m.not_waiting (subst (λ (x : PastUnit). x.fate ≡ Waits) end.1 is))
      ];
      parked = λ i v at is. elim (place_in_more us u i v at) [
        | inl old ↦ rw m.waits (l.parked i v old is)
        | inr end ↦ absurd (m.not_waiting (subst (λ (x : PastUnit). x.fate ≡ Waits) end.1 is))
      ];
      exact = λ i v at is q n h. elim (place_in_more us u i v at) [
        | inl old ↦
            let lt = place_within us i v old in
            let e = l.exact i v old is q n (rw m.waits at h) in
            let b = before-more us u i (omega arith) in
            omega arith
        | inr end ↦ absurd (m.not_waiting (subst (λ (x : PastUnit). x.fate ≡ Waits) end.1 is))
      ];
    }

counted-is : (c : Option Change) (n : ℕ) → counted c n ≡ n + length (with_change c [])
counted-is None n = omega arith
counted-is (Some c) n = omega arith

pub done_lasts : (us : List PastUnit) (s : State) (session : ℕ) (request : Request) (reply : Reply) → (after_unit s session request reply).flush.waits ≡ s.flush.waits → (fate_of reply ≡ Waits → ⊥)
    → IsParkedFor us s → IsParkedFor (us ++ unit_of s session request reply ∷ []) (after_unit s session request reply)
done_lasts us s session request reply same isnt l = more_lasts us s (after_unit s session request reply) (unit_of s session request reply)
    (record { open_now = refl; waits = same; count = counted-is (change_if reply (change_of s session request)) s.flush.unflushed; not_waiting = isnt }) l

pub parked_lasts : (us : List PastUnit) (s : State) (session : ℕ) (request : Request) → is_open s session ≡ true → MayAnswer s session request Parked
    → IsParkedFor us s → IsParkedFor (us ++ unit_of s session request Parked ∷ []) (after_unit s session request Parked)
parked_lasts us s session request is_here may l =
    let u : PastUnit = unit_of s session request Parked in
    let new : State = after_unit s session request Parked in
    let size : length (changes (us ++ u ∷ [])) ≡ length (changes us) + 0 = ap length (changes-append us (u ∷ [])) ∙ length-append (changes us) (changes (u ∷ [])) in
    let within = l.within in
    let inside : place_of session < length s.flush.waits = let p = true_inside s.volatile.open_now (place_of session) (open_part _ _ is_here) in let e = l.lengths in omega arith in
    let at_end : before (us ++ u ∷ []) (length us) ≡ length (changes us) = before-more us u (length us) (omega arith) ∙ ap (λ vs. length (changes vs)) (take-length us) in
    record {
      lengths = length-set s.flush.waits (place_of session) (Some (Until (completion_in (meant (here s session) request.reading)) s.flush.unflushed)) ∙ l.lengths;
      within = omega arith;
      open_is = λ i v at is. elim (place_in_more us u i v at) [
        | inl old ↦ l.open_is i v old is
        | inr end ↦ subst (λ (x : PastUnit). is_open s x.session ≡ true) (sym end.1) is_here
      ];
      parked = λ i v at is. elim (place_in_more us u i v at) [
        | inl old ↦ some_in_set s.flush.waits (place_of session) (place_of v.session) (Until (completion_in (meant (here s session) request.reading)) s.flush.unflushed) (l.parked i v old is)
        | inr end ↦ subst (λ (x : PastUnit). is_some (wait_of new.flush x.session) ≡ true) (sym end.1) (some_set s.flush.waits (place_of session) (Until (completion_in (meant (here s session) request.reading)) s.flush.unflushed) inside)
      ];
      exact = λ i v at is q n h. elim (place_in_more us u i v at) [
        | inl old ↦
            let lt = place_within us i v old in
            let b = before-more us u i (omega arith) in
            elim (wait_in_set s.flush.waits (place_of session) (Some (Until (completion_in (meant (here s session) request.reading)) s.flush.unflushed)) (place_of v.session) (Until q n) h) [
              | inl w ↦ let e = l.exact i v old is q n w in omega arith
              | inr w ↦ absurd (parks_once s session request may (subst (λ (p : ℕ). is_some (get_or s.flush.waits p None) ≡ true) w.0 (l.parked i v old is)))
            ]
        | inr end ↦
            let e = ap (before (us ++ u ∷ [])) end.0 in
            let own : n ≡ s.flush.unflushed = until_of (completion_in (meant (here s session) request.reading)) q n s.flush.unflushed (wait_in_same s.flush.waits (place_of session) (Some (Until (completion_in (meant (here s session) request.reading)) s.flush.unflushed)) (Until q n) (subst (λ (x : PastUnit). wait_of new.flush x.session ≡ Some (Until q n)) end.1 h)) in
            omega arith
      ];
    } where
      open_part : (a b : Bool) → a && b ≡ true → b ≡ true
      open_part true b h = h
      open_part false b h = cc

      until_of : (p q : Completion) (n m : ℕ) → Some (Until p m) ≡ Some (Until q n) → n ≡ m
      until_of p q n m h = cc
