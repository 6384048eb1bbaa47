-- The waiting requests: there are at most sixteen, and any that remain are still of distinct sessions.
use Rattle.std.proofs.Common.{◌≡◌, ℕ, ◌<◌, ◌≤◌, Bool, true, false, cond, eqb, List, [], ◌∷◌, ◌++◌, length, map, filter, refl, sym, ◌∙◌, ap, arith}
use Rattle.std.specs.Prelude.{◌||◌}
use Rattle.std.specs.List.{IsDistinct, AllByRecursion, list_any}
use Rattle.std.proofs.lemmas.List.{length-map}
use Rattle.std.proofs.lemmas.Map.Steps.{length-le_from_distinct_below}
use Rattle.std.proofs.lemmas.Bool.Decides.{nat_tests}
use Rattle.psu_locks.specs.declared.holders.Holders.{Holders}
use Rattle.psu_locks.specs.declared.requests.LockRequest.{LockRequest}
use Rattle.psu_locks.specs.Locks.{waits, can_grant, with_grant, kept}
use Rattle.psu_locks.specs.Table.{AreWaiting}

abbrev sessions : List LockRequest → List ℕ
sessions rs = map (λ (r : LockRequest). r.session) rs

pub or_false : (a b : Bool) → (a || b) ≡ false → (a ≡ false) × (b ≡ false)
or_false true b e = absurd cc
or_false false b e = (refl, e)

pub or_both : (a b : Bool) → a ≡ false → b ≡ false → (a || b) ≡ false
or_both a b e f = ap (λ (x : Bool). x || b) e ∙ f

turned : (m n : ℕ) → eqb m n ≡ false → eqb n m ≡ false
turned m n e = grind (arith, nat_tests)

-- no session of the list is the one that is not waiting
apart : (rs : List LockRequest) (s : ℕ) → waits rs s ≡ false → AllByRecursion (λ q. eqb s q ≡ false) (sessions rs)
apart [] s e = tt
apart (r ∷ rs) s e = let both = or_false (eqb r.session s) (waits rs s) e in (turned r.session s both.0, apart rs s both.1)

positive : (rs : List LockRequest) → AreWaiting rs → AllByRecursion (λ q. eqb 0 q ≡ false) (sessions rs)
positive [] w = tt
positive (r ∷ rs) w = (grind (arith, nat_tests, w.0), positive rs w.3)

distinct : (rs : List LockRequest) → AreWaiting rs → IsDistinct eqb (sessions rs)
unfolding IsDistinct
distinct [] w = tt
distinct (r ∷ rs) w = (apart rs r.session w.2, distinct rs w.3)

with_two : (rs : List LockRequest) (s : ℕ) → AreWaiting rs → waits rs s ≡ false → 1 ≤ s → IsDistinct eqb (0 ∷ s ∷ sessions rs)
unfolding IsDistinct
with_two rs s w e least = ((grind (arith, nat_tests), positive rs w), (apart rs s e, distinct rs w))

below : (rs : List LockRequest) (q : ℕ) → AreWaiting rs → list_any (eqb q) (sessions rs) ≡ true → q < 17
below [] q w e = absurd cc
below (r ∷ rs) q w e = by (eqb q r.session) refl (below rs q w.3)
  where
    by : (b : Bool) → eqb q r.session ≡ b → (list_any (eqb q) (sessions rs) ≡ true → q < 17) → q < 17
    by true is later = let here : q ≡ r.session = grind (arith, nat_tests) in let most = w.1 in omega arith
    by false is later = later (sym (ap (λ (x : Bool). x || list_any (eqb q) (sessions rs)) is) ∙ e)

all_below : (rs : List LockRequest) (s : ℕ) → AreWaiting rs → s ≤ 16 → (q : ℕ) → list_any (eqb q) (0 ∷ s ∷ sessions rs) ≡ true → q < 17
all_below rs s w most q e = by (eqb q 0) (eqb q s) refl refl
  where
    by : (a b : Bool) → eqb q 0 ≡ a → eqb q s ≡ b → q < 17
    by true b ea eb = let here : q ≡ 0 = grind (arith, nat_tests) in omega arith
    by false true ea eb = let here : q ≡ s = grind (arith, nat_tests) in omega arith
    by false false ea eb = below rs q w (sym (ap (λ (x : Bool). x || (eqb q s || list_any (eqb q) (sessions rs))) ea ∙ ap (λ (x : Bool). x || list_any (eqb q) (sessions rs)) eb) ∙ e)

-- a session that is not waiting finds room
pub room : (rs : List LockRequest) (s : ℕ) → AreWaiting rs → waits rs s ≡ false → 1 ≤ s → s ≤ 16 → length rs < 16
room rs s w e least most =
    let most_of : length (0 ∷ s ∷ sessions rs) ≤ 17 = length-le_from_distinct_below (0 ∷ s ∷ sessions rs) 17 (with_two rs s w e least) (all_below rs s w most) in
    omega (arith, length-map rs (λ (r : LockRequest). r.session))

waits_snoc : (rs : List LockRequest) (r : LockRequest) (s : ℕ) → waits rs s ≡ false → eqb r.session s ≡ false → waits (rs ++ r ∷ []) s ≡ false
waits_snoc [] r s e f = or_both (eqb r.session s) false f refl
waits_snoc (q ∷ rs) r s e f = let both = or_false (eqb q.session s) (waits rs s) e in or_both (eqb q.session s) (waits (rs ++ r ∷ []) s) both.0 (waits_snoc rs r s both.1 f)

-- one more request, of a session that is not waiting
pub one_more : (rs : List LockRequest) (r : LockRequest) → AreWaiting rs → waits rs r.session ≡ false → 1 ≤ r.session → r.session ≤ 16 → AreWaiting (rs ++ r ∷ [])
one_more [] r w e least most = (least, most, refl, tt)
one_more (q ∷ rs) r w e least most =
    let both = or_false (eqb q.session r.session) (waits rs r.session) e in
    (w.0, w.1, waits_snoc rs r q.session w.2 (turned q.session r.session both.0), one_more rs r w.3 both.1 least most)

waits_filter : (p : LockRequest → Bool) (rs : List LockRequest) (s : ℕ) → waits rs s ≡ false → waits (filter p rs) s ≡ false
waits_filter p [] s e = refl
waits_filter p (r ∷ rs) s e =
    let both = or_false (eqb r.session s) (waits rs s) e in
    by (p r) (waits_filter p rs s both.1) both.0
  where
    by : (b : Bool) → waits (filter p rs) s ≡ false → eqb r.session s ≡ false → waits (cond b (r ∷ filter p rs) (filter p rs)) s ≡ false
    by true later other = or_both (eqb r.session s) (waits (filter p rs) s) other later
    by false later other = later

-- some of the requests
pub filtered : (p : LockRequest → Bool) (rs : List LockRequest) → AreWaiting rs → AreWaiting (filter p rs)
filtered p [] w = tt
filtered p (r ∷ rs) w = by (p r) (filtered p rs w.3) (waits_filter p rs r.session w.2)
  where
    by : (b : Bool) → AreWaiting (filter p rs) → waits (filter p rs) r.session ≡ false → AreWaiting (cond b (r ∷ filter p rs) (filter p rs))
    by true later other = (w.0, w.1, other, later)
    by false later other = later

waits_kept : (h : Holders) (rs : List LockRequest) (s : ℕ) → waits rs s ≡ false → waits (kept h rs) s ≡ false
waits_kept h [] s e = refl
waits_kept h (r ∷ rs) s e =
    let both = or_false (eqb r.session s) (waits rs s) e in
    by (can_grant h r.session r.kind) (waits_kept h rs s both.1) (waits_kept (with_grant h r.session r.kind) rs s both.1) both.0
  where
    by : (b : Bool) → waits (kept h rs) s ≡ false → waits (kept (with_grant h r.session r.kind) rs) s ≡ false → eqb r.session s ≡ false
        → waits (cond b (kept (with_grant h r.session r.kind) rs) (r ∷ kept h rs)) s ≡ false
    by true later given other = given
    by false later given other = or_both (eqb r.session s) (waits (kept h rs) s) other later

-- the requests that could not be granted
pub still : (h : Holders) (rs : List LockRequest) → AreWaiting rs → AreWaiting (kept h rs)
still h [] w = tt
still h (r ∷ rs) w = by (can_grant h r.session r.kind) (still h rs w.3) (still (with_grant h r.session r.kind) rs w.3) (waits_kept h rs r.session w.2)
  where
    by : (b : Bool) → AreWaiting (kept h rs) → AreWaiting (kept (with_grant h r.session r.kind) rs) → waits (kept h rs) r.session ≡ false
        → AreWaiting (cond b (kept (with_grant h r.session r.kind) rs) (r ∷ kept h rs))
    by true later given other = given
    by false later given other = (w.0, w.1, other, later)
