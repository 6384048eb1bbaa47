-- The examples of a guide, one after another.
use Rattle.std.proofs.Common.{◌≡◌, ℕ, ◌<◌, ◌≤◌, ◌+◌, List, [], ◌∷◌, ◌++◌, Result, Ok, Err, IfErr, IsErrAnd, length, take, drop, get_or, map, All, zero, suc, sym, ap, subst, ◌∙◌, drop-cons, arith}
use Rattle.std.proofs.lemmas.List.{map-append, take-append-drop, take_all}
use Rattle.std.proofs.lemmas.List.Elements.{All-append}
use Rattle.std.proofs.lemmas.Grind.{take_at_read}
use Rattle.psu_examples.specs.Examples.{Shown}
use Rattle.psu_examples.specs.Held.{Agrees, Answering, IsFaultOf, IsFirstFault, Stopping}
use Rattle.psu_examples.specs.Shown.{shown}
use Rattle.psu_examples.specs.declared.example.Example.{Example}
use Rattle.psu_examples.specs.declared.guide_fault.GuideFault.{GuideFault}

-- a fault that is propagated
pub passed : {A E : Type 0} (r : Result A E) (e : E) (P : E → Type 0) → IsErrAnd r (λ returned. returned ≡ e) → P e → IfErr r P
passed (Ok x) e P is p = tt
passed (Err returned) e P is p = subst P (sym is) p

-- the examples before one, it, and those after it
around : {A : Type 0} (xs : List (Example A)) (i : ℕ) (x : Example A) → i < length xs → x ≡ get_or xs i x
    → map shown xs ≡ map shown (take i xs) ++ shown x ∷ map shown (drop (suc i) xs)
around xs i x within is =
    ap (map shown) (sym (take-append-drop i xs))
    ∙ map-append shown (take i xs) (drop i xs)
    ∙ ap (λ (z : List (Example _)). map shown (take i xs) ++ map shown z) (drop-cons xs i x within)
    ∙ ap (λ (y : Example _). map shown (take i xs) ++ shown y ∷ map shown (drop (suc i) xs)) (sym is)

-- an example that has a fault
pub first_fault : {A F : Type 0} (plays : Answering) (stops : Stopping F) (xs : List (Example A)) (i : ℕ) (x : Example A) (fault : GuideFault A F)
    → i < length xs → x ≡ get_or xs i x → All (Agrees plays) (map shown (take i xs)) → IsFaultOf plays stops (shown x) fault
    → IsFirstFault plays stops (map shown xs) fault
first_fault plays stops xs i x fault within is held has = record {
  before = map shown (take i xs);
  example = shown x;
  after = map shown (drop (suc i) xs);
  is = around xs i x within is;
  held = held;
  has = has;
}

one : (plays : Answering) (x : Shown) → Agrees plays x → All (Agrees plays) (x ∷ [])
one plays x here zero d within = here
one plays x here (suc k) d within = absurd (omega (arith, within))

-- an example that holds
pub one_more : {A : Type 0} (plays : Answering) (xs : List (Example A)) (i : ℕ) (x : Example A) → i < length xs → x ≡ get_or xs i x
    → All (Agrees plays) (map shown (take i xs)) → Agrees plays (shown x) → All (Agrees plays) (map shown (take (i + 1) xs))
one_more plays xs i x within is held here =
    subst (All (Agrees plays)) (sym (ap (map shown) ((take_at_read xs i x within).1 ∙ ap (λ (y : Example _). take i xs ++ y ∷ []) (sym is))
    ∙ map-append shown (take i xs) (x ∷ [])))
    (All-append (Agrees plays) (map shown (take i xs)) (shown x ∷ []) held (one plays (shown x) here))

-- all examples that were checked, where these are all
pub each_one : {A : Type 0} (plays : Answering) (xs : List (Example A)) (i : ℕ) → length xs ≤ i → All (Agrees plays) (map shown (take i xs))
    → All (Agrees plays) (map shown xs)
each_one plays xs i most held = subst (λ (ys : List (Example _)). All (Agrees plays) (map shown ys)) (take_all i xs most) held
