-- Bytes that were read before.
use Rattle.std.proofs.Common.{◌≡◌, ℕ, ◌+◌, ◌≤◌, List, ◌++◌, length, take, drop, sym, ap, ◌∙◌, subst}
use Rattle.std.proofs.lemmas.List.{drop-drop, take-append-drop, length-take-le}
use Rattle.std.proofs.Math.Seq.{take-append_seam}

-- The first of what is left was copied to the beginning of a space; it and what is then left are what was left.
pub first_read : (n k : ℕ) (all space copied : List ℕ) → copied ≡ take n (drop k all) → n ≤ length (drop k all) → take n (copied ++ drop n space) ++ drop (k + n) all ≡ drop k all
first_read n k all space copied is within =
    ap (λ (z : List ℕ). take n (z ++ drop n space) ++ drop (k + n) all) is
    ∙ ap (λ (z : List ℕ). z ++ drop (k + n) all)
    (subst (λ (m : ℕ). take m (take n (drop k all) ++ drop n space) ≡ take n (drop k all)) (length-take-le n (drop k all) within) (take-append_seam (take n (drop k all)) (drop n space)))
    ∙ ap (λ (z : List ℕ). take n (drop k all) ++ z) (sym (drop-drop n k all))
    ∙ take-append-drop n (drop k all)
