-- Lists of executed units, and the changes that they made.
use Rattle.std.proofs.Common.{◌≡◌, ◌⊎◌, inl, inr, ℕ, zero, suc, ◌<◌, ◌≤◌, Bool, true, false, cond, Option, Some, None, List, [], ◌∷◌, ◌++◌, length, take, map, slice_get, slice_set, refl, sym, ap, subst, ◌∙◌, arith, ◌||◌}
use Rattle.std.specs.List.{list_any}
use Rattle.std.proofs.lemmas.List.{take-map, take-append-le}
use Rattle.psu_nv.specs.Commands.{Command as Change}
use Rattle.psu_power_loss.specs.World.{PastUnit, Fate, changes, with_change, before, is_answered, answered, ended}

-- the changes of two histories, one after the other
with_change-append : (c : Option Change) (xs ys : List Change) → with_change c (xs ++ ys) ≡ with_change c xs ++ ys
with_change-append None xs ys = refl
with_change-append (Some c) xs ys = refl

pub changes-append : (us vs : List PastUnit) → changes (us ++ vs) ≡ changes us ++ changes vs
changes-append [] vs = refl
changes-append (u ∷ us) vs = ap (with_change u.change) (changes-append us vs) ∙ with_change-append u.change (changes us) (changes vs)

pub record Prefix (us : List PastUnit) (n : ℕ) : Type 0 where
  pub k : ℕ
  pub to : k ≤ length us
  pub same : changes (take k us) ≡ take n (changes us)
  pub greatest : (i : ℕ) → i ≤ length us → before us i ≤ n → i ≤ k

-- the longest prefix with at most n changes has the first n changes
longest_prefix_at : (u : PastUnit) (us : List PastUnit) (c : Option Change) (n : ℕ) → u.change ≡ c → ((m : ℕ) → Prefix us m) → Prefix (u ∷ us) n
longest_prefix_at u us None n e rest =
    let f = rest n in
    record {
      k = suc (f.k);
      to = let h = f.to in omega arith;
      same = rw e (f.same);
      greatest = λ i. elim i as (λ j. j ≤ length (u ∷ us) → before (u ∷ us) j ≤ n → j ≤ suc (f.k)) [ zero ↦ λ _ _. omega arith | suc j ↦ λ h g. let m = f.greatest j (omega arith) (rw e at g) in omega arith ];
    }
longest_prefix_at u us (Some c) zero e rest =
    record {
      k = 0;
      to = omega arith;
      same = refl;
      greatest = λ i. elim i as (λ j. j ≤ length (u ∷ us) → before (u ∷ us) j ≤ 0 → j ≤ 0) [ zero ↦ λ _ _. omega arith | suc j ↦ λ h g. let m = rw e at g in omega arith ];
    }
longest_prefix_at u us (Some c) (suc n) e rest =
    let f = rest n in
    record {
      k = suc (f.k);
      to = let h = f.to in omega arith;
      same = rw e (ap (λ cs. c ∷ cs) (f.same));
      greatest = λ i. elim i as (λ j. j ≤ length (u ∷ us) → before (u ∷ us) j ≤ suc n → j ≤ suc (f.k)) [ zero ↦ λ _ _. omega arith | suc j ↦ λ h g. let m = f.greatest j (omega arith) (let q = rw e at g in omega arith) in omega arith ];
    }

pub longest_prefix : (us : List PastUnit) (n : ℕ) → Prefix us n
longest_prefix [] n = record { k = 0; to = omega arith; same = nil n; greatest = λ i h _. h } where
  nil : (m : ℕ) → [] ≡ take m (let xs : List Change = [] in xs)
  nil zero = refl
  nil (suc m) = refl
longest_prefix (u ∷ us) n = longest_prefix_at u us u.change n refl (λ m. longest_prefix us m)

-- no prefix makes more changes than all units
with_change_le : (c : Option Change) (xs ys : List Change) → length xs ≤ length ys → length (with_change c xs) ≤ length (with_change c ys)
with_change_le None xs ys h = h
with_change_le (Some c) xs ys h = omega arith

pub before_all : (us : List PastUnit) (i : ℕ) → before us i ≤ length (changes us)
before_all us zero = omega arith
before_all [] (suc i) = omega arith
before_all (u ∷ us) (suc i) = with_change_le u.change (changes (take i us)) (changes us) (before_all us i)

-- the unit at this place is an answered `*OPC?`
pub record AnsweredAt (us : List PastUnit) (i : ℕ) : Type 0 where
  pub unit : PastUnit
  pub at : slice_get us i ≡ Some unit
  pub is : is_answered unit ≡ true

answered_first : (u : PastUnit) (us : List PastUnit) (b : Bool) → list_any is_answered us ≡ b → is_answered u || b ≡ true → (b ≡ true → AnsweredAt us (answered us)) → AnsweredAt (u ∷ us) (cond b (suc (answered us)) 0)
answered_first u us true e h rest = let r = rest refl in record { unit = r.unit; at = r.at; is = r.is }
answered_first u us false e h rest = record { unit = u; at = refl; is = or_false (is_answered u) h } where
  or_false : (b : Bool) → b || false ≡ true → b ≡ true
  or_false true h = refl
  or_false false h = h

pub answered_at : (us : List PastUnit) → list_any is_answered us ≡ true → AnsweredAt us (answered us)
answered_at [] h = cc
answered_at (u ∷ us) h = answered_first u us (list_any is_answered us) refl h (answered_at us)

answered_of : (us : List PastUnit) (b : Bool) → list_any is_answered us ≡ b → (answered us ≡ 0) ⊎ AnsweredAt us (answered us)
answered_of us true e = inr (answered_at us e)
answered_of [] false e = inl refl
answered_of (u ∷ us) false e = inl (rw (or_right (is_answered u) (list_any is_answered us) e)) where
  or_right : (a b : Bool) → a || b ≡ false → b ≡ false
  or_right true b h = cc
  or_right false b h = h

pub answered_is : (us : List PastUnit) → (answered us ≡ 0) ⊎ AnsweredAt us (answered us)
answered_is us = answered_of us (list_any is_answered us) refl

-- the place of a unit is within the history
pub place_within : {X : Type 0} (xs : List X) (i : ℕ) (x : X) → slice_get xs i ≡ Some x → i < length xs
place_within [] i x h = cc
place_within (y ∷ ys) zero x h = omega arith
place_within (y ∷ ys) (suc i) x h = let r = place_within ys i x h in omega arith

-- a unit of a history with one more unit
pub place_in_more : {X : Type 0} (xs : List X) (y : X) (i : ℕ) (x : X) → slice_get (xs ++ y ∷ []) i ≡ Some x → (slice_get xs i ≡ Some x) ⊎ ((i ≡ length xs) × (x ≡ y))
place_in_more [] y zero x h = inr (refl, cc)
place_in_more [] y (suc i) x h = cc
place_in_more (z ∷ zs) y zero x h = inl h
place_in_more (z ∷ zs) y (suc i) x h = elim (place_in_more zs y i x h) [ inl l ↦ inl l | inr r ↦ inr (ap suc r.0, r.1) ]

-- a unit of a changed history
pub record MapAt {X : Type 0} (f : X → X) (xs : List X) (i : ℕ) (x : X) : Type 0 where
  pub old : X
  pub at : slice_get xs i ≡ Some old
  pub is : x ≡ f old

pub place_in_map : {X : Type 0} (f : X → X) (xs : List X) (i : ℕ) (x : X) → slice_get (map f xs) i ≡ Some x → MapAt f xs i x
place_in_map f [] i x h = cc
place_in_map f (y ∷ ys) zero x h = record { old = y; at = refl; is = cc }
place_in_map f (y ∷ ys) (suc i) x h = let r = place_in_map f ys i x h in record { old = r.old; at = r.at; is = r.is }

pub place_in_set : {X : Type 0} (xs : List X) (k : ℕ) (y : X) (i : ℕ) (x : X) → slice_get (slice_set xs k y) i ≡ Some x → (slice_get xs i ≡ Some x) ⊎ ((i ≡ k) × (x ≡ y))
place_in_set (z ∷ zs) zero y zero x h = inr (refl, cc)
place_in_set (z ∷ zs) (suc k) y (suc i) x h = elim (place_in_set zs k y i x h) [ inl l ↦ inl l | inr r ↦ inr (ap suc r.0, r.1) ]
place_in_set other another y third x h = inl h

-- the end of a wait leaves the changes as they are
pub changes-ended : (session : ℕ) (fate : Fate) (us : List PastUnit) → changes (map (ended session fate) us) ≡ changes us
changes-ended session fate [] = refl
changes-ended session fate (u ∷ us) = ap (with_change u.change) (changes-ended session fate us)

pub before-ended : (session : ℕ) (fate : Fate) (us : List PastUnit) (i : ℕ) → before (map (ended session fate) us) i ≡ before us i
before-ended session fate us i = ap (λ vs. length (changes vs)) (take-map (ended session fate) i us) ∙ ap length (changes-ended session fate (take i us))

-- one more unit leaves the counts of changes before the others
pub before-more : (us : List PastUnit) (u : PastUnit) (i : ℕ) → i ≤ length us → before (us ++ u ∷ []) i ≡ before us i
before-more us u i h = ap (λ vs. length (changes vs)) (take-append-le i us (u ∷ []) h)

-- each answered `*OPC?` is at that place or before it
answered_bound : (u : PastUnit) (us : List PastUnit) (b : Bool) → list_any is_answered us ≡ b → (i : ℕ) (v : PastUnit) → slice_get (u ∷ us) i ≡ Some v → is_answered v ≡ true
    → ((j : ℕ) (x : PastUnit) → slice_get us j ≡ Some x → is_answered x ≡ true → (list_any is_answered us ≡ true) × (j ≤ answered us)) → i ≤ cond b (suc (answered us)) 0
answered_bound u us b e zero v at is rest = omega arith
answered_bound u us true e (suc j) v at is rest = let r = (rest j v at is).1 in omega arith
answered_bound u us false e (suc j) v at is rest = let r = (rest j v at is).0 in cc

abbrev first_answered : Option PastUnit → Bool
first_answered None = false
first_answered (Some u) = is_answered u

any_at : (us : List PastUnit) (i : ℕ) (v : PastUnit) → slice_get us i ≡ Some v → is_answered v ≡ true → list_any is_answered us ≡ true
any_at [] i v at is = cc
any_at (u ∷ us) zero v at is = let e : is_answered u ≡ true = subst (λ (x : Option PastUnit). first_answered x ≡ true) (sym at) is in rw e refl
any_at (u ∷ us) (suc i) v at is = rw (any_at us i v at is) (or_true (is_answered u)) where
  or_true : (b : Bool) → b || true ≡ true
  or_true true = refl
  or_true false = refl

pub answered_greatest : (us : List PastUnit) (i : ℕ) (v : PastUnit) → slice_get us i ≡ Some v → is_answered v ≡ true → i ≤ answered us
answered_greatest [] i v at is = cc
answered_greatest (u ∷ us) i v at is = answered_bound u us (list_any is_answered us) refl i v at is (λ j x a b. (any_at us j x a b, answered_greatest us j x a b))
