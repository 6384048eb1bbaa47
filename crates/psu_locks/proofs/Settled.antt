-- A grant to one session makes no other request grantable, so those that remain after going through the requests still
-- can't be granted.
use Rattle.std.proofs.Common.{◌≡◌, ◌≢◌, ℕ, ◌-◌, ◌≤◌, Bool, true, false, not, cond, eqb, List, [], ◌∷◌, ◌++◌, filter, zero, suc, refl, sym, ◌∙◌, ap, arith}
use Rattle.std.specs.Prelude.{◌||◌, ◌&&◌, is_none, slice_set}
use Rattle.std.specs.List.{list_any}
use Rattle.std.specs.Str.{bytes_eq}
use Rattle.std.proofs.lemmas.List.{get_or-set_other}
use Rattle.std.proofs.lemmas.Bool.Decides.{nat_tests}
use Rattle.std.proofs.lemmas.Slice.Eq.{bytes_eq-Decides}
use Rattle.psu_locks.specs.declared.requests.Kind.{Kind}
use Rattle.psu_locks.specs.declared.requests.Kind.TheVariants.{Exclusive, Shared}
use Rattle.psu_locks.specs.declared.holders.Holders.{Holders}
use Rattle.psu_locks.specs.declared.requests.LockRequest.{LockRequest}
use Rattle.psu_locks.specs.Locks.{waits, can_grant, with_grant, holders_after, holds_exclusive, kept, is_shared, shares, looked_through, Locks}
use Rattle.psu_locks.specs.Table.{AreWaiting, IsSettled, NoneCanBeGranted}
use Rattle.psu_locks.proofs.WaitingRequests.{filtered, one_more, or_false, or_both, still}

any_set : (flags : List Bool) (i : ℕ) → list_any (λ flag. flag) flags ≡ true → list_any (λ flag. flag) (slice_set flags i true) ≡ true
any_set [] i e = absurd cc
any_set (b ∷ bs) zero e = refl
any_set (true ∷ bs) (suc i) e = refl
any_set (false ∷ bs) (suc i) e = any_set bs i e

-- a test of this form still fails when its parts do
still_fails : (a b c x y : Bool) → (a && (not b || c)) ≡ false → (b ≡ true → x ≡ true) → (b ≡ true → c ≡ false → y ≡ false) → (a && (not x || y)) ≡ false
still_fails false b c x y e f g = refl
still_fails true false c x y e f g = absurd cc
still_fails true true c x y e f g = or_both (not x) y (ap not (f refl)) (g refl e)

passes : (a b c : Bool) → (a && (not b || c)) ≡ true → b ≡ true → c ≡ true
passes false b c e f = absurd cc
passes true false c e f = absurd cc
passes true true c e f = e

-- two equal strings, and a third that differs from them
another : (x y z : List ℕ) → bytes_eq x y ≡ true → bytes_eq x z ≡ false → bytes_eq y z ≡ false
another x y z same apart = let is : x ≡ y = (bytes_eq-Decides x y).0 same in ap (λ (w : List ℕ). bytes_eq w z) (sym is) ∙ apart

still_none : (h : Holders) (s t : ℕ) (k l : Kind) → eqb t s ≡ false → 1 ≤ s → 1 ≤ t → can_grant h t l ≡ true → can_grant h s k ≡ false → can_grant (with_grant h t l) s k ≡ false
still_none h s t Exclusive Exclusive apart first second grant none = refl
still_none h s t (Shared a) Exclusive apart first second grant none = ap (λ (b : Bool). b && (not (is_shared h) || bytes_eq h.string a)) apart
still_none h s t Exclusive (Shared b) apart first second grant none =
    still_fails (is_none h.exclusive) (is_shared h) (shares h s) _ _ none (any_set h.sharers (t - 1))
    (λ is c. let elsewhere : s - 1 ≢ t - 1 = grind (arith, nat_tests) in get_or-set_other h.sharers (t - 1) (s - 1) true false elsewhere ∙ c)
still_none h s t (Shared a) (Shared b) apart first second grant none =
    still_fails (is_none h.exclusive || holds_exclusive h s) (is_shared h) (bytes_eq h.string a) _ _ none (any_set h.sharers (t - 1))
    (λ is c. another h.string b a (passes (is_none h.exclusive || holds_exclusive h t) (is_shared h) (bytes_eq h.string b) grant is) c)

-- the requests of other sessions
pub none_after : (h : Holders) (rs : List LockRequest) (s : ℕ) (l : Kind) → waits rs s ≡ false → AreWaiting rs → 1 ≤ s → can_grant h s l ≡ true → NoneCanBeGranted h rs → NoneCanBeGranted (with_grant h s l) rs
none_after h [] s l e w least grant none = tt
none_after h (r ∷ rs) s l e w least grant none =
    let both = or_false (eqb r.session s) (waits rs s) e in
    let apart : eqb s r.session ≡ false = grind (arith, nat_tests, both.0) in
    (still_none h r.session s r.kind l apart w.0 least grant none.0, none_after h rs s l both.1 w.3 least grant none.1)

still_after : (h : Holders) (rs : List LockRequest) (s : ℕ) (k : Kind) → AreWaiting rs → waits rs s ≡ false → 1 ≤ s → can_grant h s k ≡ false → can_grant (holders_after h rs) s k ≡ false
still_after h [] s k w e least none = none
still_after h (r ∷ rs) s k w e least none =
    let both = or_false (eqb r.session s) (waits rs s) e in
    by (can_grant h r.session r.kind) refl (still_after h rs s k w.3 both.1 least none)
    (λ grant. still_after (with_grant h r.session r.kind) rs s k w.3 both.1 least (still_none h s r.session k r.kind both.0 least w.0 grant none))
  where
    by : (b : Bool) → can_grant h r.session r.kind ≡ b → can_grant (holders_after h rs) s k ≡ false → (can_grant h r.session r.kind ≡ true → can_grant (holders_after (with_grant h r.session r.kind) rs) s k ≡ false)
        → can_grant (cond b (holders_after (with_grant h r.session r.kind) rs) (holders_after h rs)) s k ≡ false
    by true is passed given = given is
    by false is passed given = passed

-- the requests that remain after going through all of them
pub none_left : (h : Holders) (rs : List LockRequest) → AreWaiting rs → NoneCanBeGranted (holders_after h rs) (kept h rs)
none_left h [] w = tt
none_left h (r ∷ rs) w =
    by (can_grant h r.session r.kind) refl (none_left h rs w.3) (none_left (with_grant h r.session r.kind) rs w.3)
  where
    by : (b : Bool) → can_grant h r.session r.kind ≡ b → NoneCanBeGranted (holders_after h rs) (kept h rs) → NoneCanBeGranted (holders_after (with_grant h r.session r.kind) rs) (kept (with_grant h r.session r.kind) rs)
        → NoneCanBeGranted (cond b (holders_after (with_grant h r.session r.kind) rs) (holders_after h rs)) (cond b (kept (with_grant h r.session r.kind) rs) (r ∷ kept h rs))
    by true is passed given = given
    by false is passed given = (still_after h rs r.session r.kind w.3 w.2 w.0 is, passed)

-- one more request that can't be granted
pub none_and : (h : Holders) (rs : List LockRequest) (r : LockRequest) → NoneCanBeGranted h rs → can_grant h r.session r.kind ≡ false → NoneCanBeGranted h (rs ++ r ∷ [])
none_and h [] r none last = (last, tt)
none_and h (q ∷ rs) r none last = (none.0, none_and h rs r none.1 last)

-- some of the requests
pub none_of : (h : Holders) (p : LockRequest → Bool) (rs : List LockRequest) → NoneCanBeGranted h rs → NoneCanBeGranted h (filter p rs)
none_of h p [] none = tt
none_of h p (r ∷ rs) none = by (p r) (none_of h p rs none.1)
  where
    by : (b : Bool) → NoneCanBeGranted h (filter p rs) → NoneCanBeGranted h (cond b (r ∷ filter p rs) (filter p rs))
    by true later = (none.0, later)
    by false later = later

-- ---- the calls

pub looked : (l : Locks) (h : Holders) (rs : List LockRequest) → AreWaiting rs → IsSettled (looked_through l h rs)
looked l h rs w = record { one_each = still h rs w; none_left = none_left h rs w }

pub granted_one : (h : Holders) (rs : List LockRequest) (then now s : ℕ) (k : Kind) → IsSettled (record { holders = h; waiting = rs; latest = then }) → waits rs s ≡ false → 1 ≤ s → can_grant h s k ≡ true
    → IsSettled (record { holders = with_grant h s k; waiting = rs; latest = now })
granted_one h rs then now s k was alone least grant = record { one_each = was.one_each; none_left = none_after h rs s k alone was.one_each least grant was.none_left }

pub queued_one : (h : Holders) (rs : List LockRequest) (then now : ℕ) (r : LockRequest) → IsSettled (record { holders = h; waiting = rs; latest = then }) → waits rs r.session ≡ false → 1 ≤ r.session → r.session ≤ 16 → can_grant h r.session r.kind ≡ false
    → IsSettled (record { holders = h; waiting = rs ++ r ∷ []; latest = now })
queued_one h rs then now r was alone least most none = record { one_each = one_more rs r was.one_each alone least most; none_left = none_and h rs r was.none_left none }

pub ticked : (h : Holders) (rs : List LockRequest) (then now : ℕ) (p : LockRequest → Bool) → IsSettled (record { holders = h; waiting = rs; latest = then }) → IsSettled (record { holders = h; waiting = filter p rs; latest = now })
ticked h rs then now p was = record { one_each = filtered p rs was.one_each; none_left = none_of h p rs was.none_left }
