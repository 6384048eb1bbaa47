-- One request examined, of those that remain.
use Rattle.std.proofs.Common.{◌≡◌, ℕ, suc, ◌+◌, ◌<◌, ◌≤◌, Bool, true, false, cond, List, [], ◌∷◌, ◌++◌, length, get_or, take, drop, sym, ◌∙◌, ap, arith, append_assoc, drop-cons, length-append, length-drop}
use Rattle.std.specs.Prelude.{remove}
use Rattle.std.proofs.Math.Seq.{take-suc}
use Rattle.std.proofs.lemmas.List.{take_at, drop_at, length-take-le}
use Rattle.psu_locks.specs.declared.holders.Holders.{Holders}
use Rattle.psu_locks.specs.declared.requests.LockRequest.{LockRequest}
use Rattle.psu_locks.specs.Locks.{can_grant, with_grant, holders_after, kept, granted}

-- the requests still to be examined, and the outcome of those before
pub record Looked (first now : Holders) (all waiting : List LockRequest) (sessions : List ℕ) (at : ℕ) : Type 0 where
  pub holders : holders_after first all ≡ holders_after now (drop at waiting)
  pub kept_are : kept first all ≡ take at waiting ++ kept now (drop at waiting)
  pub granted_are : granted first all ≡ sessions ++ granted now (drop at waiting)
  pub within : at ≤ length waiting
  pub room : length sessions + length waiting ≤ 16

module _ (first now : Holders) (all waiting : List LockRequest) (sessions : List ℕ) (at : ℕ) (so_far : Looked first now all waiting sessions at) (lt : at < length waiting) (r : LockRequest) (is : (d : LockRequest) → r ≡ get_or waiting at d) where
  here : drop at waiting ≡ r ∷ drop (suc at) waiting
  here = drop-cons waiting at r lt ∙ ap (λ (q : LockRequest). q ∷ drop (suc at) waiting) (sym (is r))

  after : {X : Type 0} (f : Holders → List LockRequest → X) → f now (drop at waiting) ≡ f now (r ∷ drop (suc at) waiting)
  after f = ap (f now) here

  split : (rest : List LockRequest) → take at waiting ++ (r ∷ rest) ≡ (take at waiting ++ r ∷ []) ++ rest
  split rest = sym (append_assoc (take at waiting) (r ∷ []) rest)

  more : take (suc at) waiting ≡ take at waiting ++ r ∷ []
  more = take-suc waiting at r lt ∙ ap (λ (q : LockRequest). take at waiting ++ q ∷ []) (sym (is r))

  -- it can't be granted
  pub passed : can_grant now r.session r.kind ≡ false → Looked first now all waiting sessions (suc at)
  passed no_grant =
      let choose : (X : Type 0) (x y : X) → cond (can_grant now r.session r.kind) x y ≡ y = λ X x y. ap (λ (b : Bool). cond b x y) no_grant in
      record {
        holders = so_far.holders ∙ after holders_after ∙ choose Holders _ _;
        kept_are = so_far.kept_are ∙ ap (λ (l : List LockRequest). take at waiting ++ l) (after kept ∙ choose (List LockRequest) _ _) ∙ split _ ∙ ap (λ (l : List LockRequest). l ++ kept now (drop (suc at) waiting)) (sym more);
        granted_are = so_far.granted_are ∙ ap (λ (l : List ℕ). sessions ++ l) (after granted ∙ choose (List ℕ) _ _);
        within = omega arith;
        room = so_far.room;
      }

  rest_of : drop at (remove waiting at) ≡ drop (suc at) waiting
  rest_of = drop_at (take at waiting) (drop (suc at) waiting) at (length-take-le at waiting (omega arith))

  front_of : take at (remove waiting at) ≡ take at waiting
  front_of = take_at (take at waiting) (drop (suc at) waiting) at (length-take-le at waiting (omega arith))

  shorter : length (remove waiting at) + 1 ≡ length waiting
  shorter = omega (arith, length-append (take at waiting) (drop (suc at) waiting), length-take-le at waiting (omega arith), length-drop (suc at) waiting)

  -- it is granted, and leaves the list
  pub left : can_grant now r.session r.kind ≡ true → Looked first (with_grant now r.session r.kind) all (remove waiting at) (sessions ++ r.session ∷ []) at
  left grant =
      let choose : (X : Type 0) (x y : X) → cond (can_grant now r.session r.kind) x y ≡ x = λ X x y. ap (λ (b : Bool). cond b x y) grant in
      record {
        holders = so_far.holders ∙ after holders_after ∙ choose Holders _ _ ∙ ap (holders_after (with_grant now r.session r.kind)) (sym rest_of);
        kept_are = so_far.kept_are ∙ ap (λ (l : List LockRequest). take at waiting ++ l) (after kept ∙ choose (List LockRequest) _ _ ∙ ap (kept (with_grant now r.session r.kind)) (sym rest_of))
            ∙ ap (λ (l : List LockRequest). l ++ kept (with_grant now r.session r.kind) (drop at (remove waiting at))) (sym front_of);
        granted_are = so_far.granted_are ∙ ap (λ (l : List ℕ). sessions ++ l) (after granted ∙ choose (List ℕ) _ _ ∙ ap (λ (l : List LockRequest). r.session ∷ granted (with_grant now r.session r.kind) l) (sym rest_of)) ∙ sym (append_assoc sessions (r.session ∷ []) _);
        within = omega (arith, shorter);
        room = let first_bound = so_far.room in omega (arith, shorter, length-append sessions (r.session ∷ []));
      }
