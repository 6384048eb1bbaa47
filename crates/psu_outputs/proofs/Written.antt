-- A list that a loop writes one element after another: those written so far, and then those of before.
use Rattle.std.proofs.Common.{◌≡◌, ℕ, zero, suc, ◌+◌, ◌<◌, List, [], ◌∷◌, ◌++◌, length, get_or, take, drop, set, refl, sym, ◌∙◌, ap, arith}
use Rattle.std.proofs.Math.Seq.{drop-length, take-length}
use Rattle.std.proofs.lemmas.List.{append-nil}

abbrev pub written : {X : Type 0} → ℕ → List X → List X → List X
written k new old = take k new ++ drop k old

pub one_more : {X : Type 0} (k : ℕ) (new old : List X) (d : X) → k < length new → k < length old → set (written k new old) k (get_or new k d) ≡ written (k + 1) new old
one_more k [] old d lt inside = absurd (omega (arith, lt))
one_more k (n ∷ new) [] d lt inside = absurd (omega (arith, inside))
one_more zero (n ∷ new) (o ∷ old) d lt inside = refl
one_more {X} (suc k) (n ∷ new) (o ∷ old) d lt inside =
    let next : suc k + 1 ≡ suc (k + 1) = omega arith in
    ap (λ (l : List X). n ∷ l) (one_more k new old d (omega (arith, lt)) (omega (arith, inside))) ∙ ap (λ (i : ℕ). written i (n ∷ new) (o ∷ old)) (sym next)

-- the next one is still that of before
pub next_is : {X : Type 0} (k : ℕ) (new old : List X) (d : X) → k < length new → k < length old → get_or (written k new old) k d ≡ get_or old k d
next_is k [] old d lt inside = absurd (omega (arith, lt))
next_is k (n ∷ new) [] d lt inside = absurd (omega (arith, inside))
next_is zero (n ∷ new) (o ∷ old) d lt inside = refl
next_is (suc k) (n ∷ new) (o ∷ old) d lt inside = next_is k new old d (omega (arith, lt)) (omega (arith, inside))

pub all_written : {X : Type 0} (k : ℕ) (new old : List X) → k ≡ length new → length new ≡ length old → written k new old ≡ new
all_written {X} k new old end long =
    ap (λ (i : ℕ). take i new ++ drop i old) end
    ∙ ap (λ (l : List X). l ++ drop (length new) old) (take-length new)
    ∙ ap (λ (i : ℕ). new ++ drop i old) long
    ∙ ap (λ (l : List X). new ++ l) (drop-length old)
    ∙ append-nil new
