-- Sessions that open.
use Rattle.std.proofs.Common.{◌≡◌, ℕ, zero, suc, ◌+◌, ◌<◌, ◌≤◌, Bool, true, false, not, ◌==◌, ◌&&◌, Some, None, List, [], ◌∷◌, length, get_or, slice_set, refl, sym, subst, arith, cond}
use Rattle.std.proofs.Math.Dec.{eqb-suc-zero}
use Rattle.psu_exec.specs.Device.{place_of, State, is_open}
use Rattle.psu_exec.specs.Calls.{Opened, Serves, free_from, with_session, least_free}
use Rattle.psu_exec.specs.ServiceStates.{opened_service_state}
use Rattle.psu_exec.proofs.Ignored.{serves_opened}
use Rattle.psu_exec.specs.Opening.{OpensLeast, OpensTheLeast, PlacesAreApart}

-- a place that is free: its number, and what is before it
record Free (n : ℕ) (list : List Bool) (session : ℕ) : Type 0 where
  pub place : ℕ
  pub number : session ≡ n + place
  pub inside : place < length list
  pub free : get_or list place false ≡ false
  pub before : (k : ℕ) → k < place → get_or list k false ≡ true

free_one : (n : ℕ) (b : Bool) (list : List Bool) (session : ℕ) → cond b (free_from (suc n) list) (Some n) ≡ Some session → ((m : ℕ) → free_from m list ≡ Some session → Free m list session) → Free n (b ∷ list) session
free_one n false list session h rest = record { place = 0; number = let e : n ≡ session = cc in omega arith; inside = omega arith; free = refl; before = λ k lt. absurd (let bad : ⊥ = omega arith in bad) }
free_one n true list session h rest =
    let r = rest (suc n) h in
    let number = r.number in
    let inside = r.inside in
    record {
      place = suc r.place;
      number = omega arith;
      inside = omega arith;
      free = r.free;
      before = λ k. elim k as (λ j. j < suc r.place → get_or (true ∷ list) j false ≡ true) [ zero ↦ λ _. refl | suc j ↦ λ lt. r.before j (omega arith) ];
    }

free_at : (n : ℕ) (list : List Bool) (session : ℕ) → free_from n list ≡ Some session → Free n list session
free_at n [] session h = cc
free_at n (b ∷ list) session h = free_one n b list session h (λ m e. free_at m list session e)

-- no place is free
taken_one : (n : ℕ) (b : Bool) (list : List Bool) → cond b (free_from (suc n) list) (Some n) ≡ None → ((m : ℕ) → free_from m list ≡ None → (k : ℕ) → k < length list → get_or list k false ≡ true)
    → (k : ℕ) → k < length (b ∷ list) → get_or (b ∷ list) k false ≡ true
taken_one n false list h rest k lt = cc
taken_one n true list h rest zero lt = refl
taken_one n true list h rest (suc k) lt = rest (suc n) h k (omega arith)

taken : (n : ℕ) (list : List Bool) → free_from n list ≡ None → (k : ℕ) → k < length list → get_or list k false ≡ true
taken n [] h k lt = absurd (let bad : ⊥ = omega arith in bad)
taken n (b ∷ list) h k lt = taken_one n b list h (λ m e. taken m list e) k lt

set_there : (list : List Bool) (k : ℕ) (b : Bool) → k < length list → get_or (slice_set list k b) k false ≡ b
set_there [] k b lt = absurd (let bad : ⊥ = omega arith in bad)
set_there (x ∷ list) zero b lt = refl
set_there (x ∷ list) (suc k) b lt = set_there list k b (omega arith)

-- whether a session from 1 on is open
at_place : (list : List Bool) (session : ℕ) (b : Bool) → 1 ≤ session → get_or list (place_of session) false ≡ b → not (session == 0) && get_or list (place_of session) false ≡ b
at_place list zero b h e = absurd (let bad : ⊥ = omega arith in bad)
at_place list (suc n) b h e = rw (eqb-suc-zero n) e

opens_least : (s new : State) (session : ℕ) → Serves s (Opened (Some session)) new → OpensLeast s new session
opens_least s new session a =
    let r = free_at 1 s.volatile.open_now session (sym a.0) in
    let number = r.number in
    let place : place_of session ≡ r.place = omega arith in
    let still : get_or s.volatile.open_now (place_of session) false ≡ false = rw place r.free in
    let set : get_or (slice_set s.volatile.open_now (place_of session) true) (place_of session) false ≡ true = rw place (set_there s.volatile.open_now r.place true r.inside) in
    let then : is_open (with_session s session true (opened_service_state s.volatile.instrument.status)) session ≡ true = at_place (slice_set s.volatile.open_now (place_of session) true) session true (omega arith) set in
    record {
      free = at_place s.volatile.open_now session false (omega arith) still;
      now_open = subst (λ (t : State). is_open t session ≡ true) (sym a.1) then;
      least = λ other from below. at_place s.volatile.open_now other true from (r.before (place_of other) (omega arith));
    }

none_is_free : (s new : State) → Serves s (Opened None) new → (other : ℕ) → 1 ≤ other → other ≤ length s.volatile.open_now → is_open s other ≡ true
none_is_free s new a other from to = at_place s.volatile.open_now other true from (taken 1 s.volatile.open_now (sym a.0) (place_of other) (omega arith))

pub opens_the_least : OpensTheLeast
opens_the_least s new = (λ session a. opens_least s new session (serves_opened s new (Some session) a), λ a. none_is_free s new (serves_opened s new None a))

-- no two open sessions share a place
apart : (a b : ℕ) (x y : Bool) → not (a == 0) && x ≡ true → not (b == 0) && y ≡ true → place_of a ≡ place_of b → a ≡ b
apart (suc a) (suc b) x y h g e = omega (arith, e)
apart other another x y h g e = cc

pub places_are_apart : PlacesAreApart
places_are_apart s one other h g e = apart one other _ _ h g e

-- the number of the session that opens is at least 1
pub first_open : (s : State) (session : ℕ) → least_free s ≡ Some session → 1 ≤ session
first_open s session e = let r = free_at 1 s.volatile.open_now session e in let number = r.number in omega arith

-- two open sessions at one place
pub at_same : (s : State) (one other : ℕ) → place_of one ≡ place_of other → 1 ≤ other → is_open s one ≡ true → is_open s other ≡ true
at_same s one other same from h = at_place s.volatile.open_now other true from (rw (sym same) (open_part _ _ h)) where
  open_part : (a b : Bool) → a && b ≡ true → b ≡ true
  open_part true b g = g
  open_part false b g = cc
