-- Which bytes a list of spans covers.
use Rattle.std.proofs.Common.{◌≡◌, ◌⊎◌, inl, inr, ⊎_elim, ℕ, zero, suc, max, ◌-◌, ◌<◌, ◌≤◌, ◌||◌, List, [], ◌∷◌, Bool, true, false, length, get_or, set, drop, refl, sym, ◌∙◌, ap, arith}
use Rattle.std.proofs.lemmas.Bool.{cases_lt}
use Rattle.std.proofs.lemmas.Bool.Decides.{nat_tests}
use Rattle.psu_disk.specs.declared.touched.Span.{Span}
use Rattle.psu_disk.specs.Touched.{is_in, is_covered}

pub is_in_bounds : (span : Span) (k : ℕ) → is_in span k ≡ true → (span.low ≤ k) × (k < span.high)
is_in_bounds span k is = grind (arith, nat_tests)

-- the last byte of a span that is not empty
pub last_in : (span : Span) → span.low < span.high → is_in span (span.high - 1) ≡ true
last_in span lt = grind (arith, nat_tests)

-- what holds of each byte of one of two spans holds of each below the greater end
pub joined_within : (span hull : Span) (high size : ℕ) → span.low < span.high → high ≤ size → hull.high ≤ size ⊎ hull.high ≤ span.high → ((k : ℕ) → is_in span k ≡ true → k < size) → (k : ℕ) → is_in hull k ≡ true → k < size
joined_within span hull high size lt fits ends own k is =
    let bounds = is_in_bounds hull k is in
    let last : span.high - 1 < size = own (span.high - 1) (last_in span lt) in
    ⊎_elim (λ le. omega (arith, bounds.1)) (λ le. omega (arith, bounds.1, last)) ends

pub lower_end : (own high end size : ℕ) → high ≤ size → end ≡ max own high → (end ≤ size) ⊎ (end ≤ own)
lower_end own high end size fits is = elim (cases_lt own high) [
  | inl lt ↦ inl (omega arith)
  | inr ge ↦ inr (omega arith)
]

or_true : (a b : Bool) → (a || b) ≡ true → (a ≡ true) ⊎ (b ≡ true)
or_true true b is = inl refl
or_true false b is = inr is

or_right : (a b : Bool) → b ≡ true → (a || b) ≡ true
or_right true b is = refl
or_right false b is = is

or_left : (a b : Bool) → a ≡ true → (a || b) ≡ true
or_left true b is = refl
or_left false b is = absurd cc

-- the list with a span replaced by one that covers at least as much covers each byte that it covered before
pub covered_still : (spans : List Span) (i : ℕ) (d new : Span) (k : ℕ) → i < length spans → (is_in (get_or spans i d) k ≡ true → is_in new k ≡ true) → is_covered spans k ≡ true → is_covered (set spans i new) k ≡ true
covered_still [] i d new k lt wider covered = absurd (omega arith)
covered_still (s ∷ spans) zero d new k lt wider covered =
    ⊎_elim (λ here. or_left (is_in new k) (is_covered spans k) (wider here)) (or_right (is_in new k) (is_covered spans k)) (or_true (is_in s k) (is_covered spans k) covered)
covered_still (s ∷ spans) (suc i) d new k lt wider covered =
    ⊎_elim (or_left (is_in s k) (is_covered (set spans i new) k)) (λ there. or_right (is_in s k) (is_covered (set spans i new) k) (covered_still spans i d new k (omega arith) wider there)) (or_true (is_in s k) (is_covered spans k) covered)

-- it covers each byte of the new span
pub covered_new : (spans : List Span) (i : ℕ) (new : Span) (k : ℕ) → i < length spans → is_in new k ≡ true → is_covered (set spans i new) k ≡ true
covered_new [] i new k lt is = absurd (omega arith)
covered_new (s ∷ spans) zero new k lt is = or_left (is_in new k) (is_covered spans k) is
covered_new (s ∷ spans) (suc i) new k lt is = or_right (is_in s k) (is_covered (set spans i new) k) (covered_new spans i new k (omega arith) is)

-- and it covers no byte but those that it covered before and those of the new span
pub covered_only : (spans : List Span) (i : ℕ) (new : Span) (k : ℕ) → is_covered (set spans i new) k ≡ true → (is_covered spans k ≡ true) ⊎ (is_in new k ≡ true)
covered_only [] i new k covered = inl covered
covered_only (s ∷ spans) zero new k covered =
    ⊎_elim inr (λ there. inl (or_right (is_in s k) (is_covered spans k) there)) (or_true (is_in new k) (is_covered spans k) covered)
covered_only (s ∷ spans) (suc i) new k covered =
    ⊎_elim (λ here. inl (or_left (is_in s k) (is_covered spans k) here)) (λ there. ⊎_elim (λ old. inl (or_right (is_in s k) (is_covered spans k) old)) inr (covered_only spans i new k there)) (or_true (is_in s k) (is_covered (set spans i new) k) covered)

-- what a span of the list holds is covered
pub covered_at : (spans : List Span) (i : ℕ) (d : Span) (k : ℕ) → i < length spans → is_in (get_or spans i d) k ≡ true → is_covered spans k ≡ true
covered_at [] i d k lt here = absurd (omega arith)
covered_at (s ∷ spans) zero d k lt here = or_left (is_in s k) (is_covered spans k) here
covered_at (s ∷ spans) (suc i) d k lt here = or_right (is_in s k) (is_covered spans k) (covered_at spans i d k (omega arith) here)

-- the spans from one place on: the one there, and those from the next on
pub covered_next : (spans : List Span) (i next : ℕ) (d : Span) (k : ℕ) → next ≡ suc i → i < length spans → is_covered (drop i spans) k ≡ (is_in (get_or spans i d) k || is_covered (drop next spans) k)
covered_next [] i next d k is lt = absurd (omega arith)
covered_next (s ∷ spans) zero next d k is lt = ap (λ (n : ℕ). is_in s k || is_covered (drop n (s ∷ spans)) k) (sym is)
covered_next (s ∷ spans) (suc i) next d k is lt = covered_next spans i (suc i) d k refl (omega arith) ∙ ap (λ (n : ℕ). is_in (get_or spans i d) k || is_covered (drop n (s ∷ spans)) k) (sym is)
