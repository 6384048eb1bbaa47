-- Before the least deadline no request fails, and at it at least one does.
use Rattle.std.proofs.Common.{◌≡◌, ℕ, ◌<◌, ◌≤◌, Bool, true, false, cond, List, [], ◌∷◌, Option, IfSome, filter, map, min, refl, ◌∙◌, ap, arith}
use Rattle.std.specs.Prelude.{nat_le}
use Rattle.std.specs.List.{fold}
use Rattle.std.proofs.Math.Nat.{min-le_left, min-le_right}
use Rattle.std.proofs.lemmas.Bool.Decides.{nat_tests}
use Rattle.psu_locks.specs.declared.requests.LockRequest.{LockRequest}
use Rattle.psu_locks.specs.Locks.{failed_at, is_expired}
use Rattle.psu_locks.specs.Table.{FailsFirst, next_deadline}

abbrev deadlines : List LockRequest → List ℕ
deadlines rs = map (λ (r : LockRequest). r.deadline) rs

-- the sessions whose requests fail, where the first one does or doesn't
abbrev failed_with : Bool → ℕ → LockRequest → List LockRequest → List ℕ
failed_with b now r rs = map (λ (q : LockRequest). q.session) (cond b (r ∷ filter (is_expired now) rs) (filter (is_expired now) rs))

under : (a : ℕ) (rs : List LockRequest) → fold min a (deadlines rs) ≤ a
under a [] = omega arith
under a (r ∷ rs) = omega (arith, under (min a r.deadline) rs, min-le_left a r.deadline)

none_over : (a : ℕ) (rs : List LockRequest) (now : ℕ) → now < fold min a (deadlines rs) → failed_at now rs ≡ []
none_over a [] now lt = refl
none_over a (r ∷ rs) now lt =
    let later : now < r.deadline = omega (arith, under (min a r.deadline) rs, min-le_right a r.deadline) in
    let test : nat_le r.deadline now ≡ false = grind (arith, nat_tests) in
    ap (λ (b : Bool). failed_with b now r rs) test ∙ none_over (min a r.deadline) rs now lt

one_over : (a : ℕ) (rs : List LockRequest) (now : ℕ) → fold min a (deadlines rs) ≤ now → failed_at now rs ≡ [] → a ≤ now
one_over a [] now le none = le
one_over a (r ∷ rs) now le none = by (nat_le r.deadline now) refl none (one_over (min a r.deadline) rs now le)
  where
    by : (b : Bool) → nat_le r.deadline now ≡ b → failed_with b now r rs ≡ [] → (failed_at now rs ≡ [] → min a r.deadline ≤ now) → a ≤ now
    by true is some behind = absurd cc
    by false is rest behind =
        let least : min a r.deadline ≤ now = behind rest in
        let later : now < r.deadline = grind (arith, nat_tests) in
        omega arith

first_fails : (r : LockRequest) (rs : List LockRequest) → FailsFirst (r ∷ rs) (fold min r.deadline (deadlines rs))
first_fails r rs = record {
  before = λ now lt.
      let later : now < r.deadline = omega (arith, under r.deadline rs) in
      let test : nat_le r.deadline now ≡ false = grind (arith, nat_tests) in
      ap (λ (b : Bool). failed_with b now r rs) test ∙ none_over r.deadline rs now lt;
  then = λ none. by (nat_le r.deadline (fold min r.deadline (deadlines rs))) refl none;
}
  where
    by : (b : Bool) → nat_le r.deadline (fold min r.deadline (deadlines rs)) ≡ b → failed_with b (fold min r.deadline (deadlines rs)) r rs ≡ [] → ⊥
    by true is some = absurd cc
    by false is rest =
        let least : r.deadline ≤ fold min r.deadline (deadlines rs) = one_over r.deadline rs (fold min r.deadline (deadlines rs)) (omega arith) rest in
        let later : fold min r.deadline (deadlines rs) < r.deadline = grind (arith, nat_tests) in
        omega arith

pub next_fails : (rs : List LockRequest) (o : Option ℕ) → o ≡ next_deadline rs → IfSome o (λ deadline. FailsFirst rs deadline)
next_fails rs o is = rw is (at rs)
  where
    at : (qs : List LockRequest) → IfSome (next_deadline qs) (λ deadline. FailsFirst qs deadline)
    at [] = tt
    at (q ∷ qs) = first_fails q qs
