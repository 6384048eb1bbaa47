-- Two lists joined, and split elsewhere.
use Rattle.std.proofs.Common.{◌≡◌, List, [], ◌∷◌, ◌++◌, refl, sym, ap, ◌∙◌}

-- an element of two joined lists is in one of them
pub data Within {X : Type 0} (xs ys before after : List X) (x : X) : Type 0 where
  Left : (more : List X) → xs ≡ before ++ x ∷ more → Within xs ys before after x
  Right : (more : List X) → before ≡ xs ++ more → ys ≡ more ++ x ∷ after → Within xs ys before after x

pub within : {X : Type 0} (xs ys before after : List X) (x : X) → xs ++ ys ≡ before ++ x ∷ after → Within xs ys before after x
within [] ys before after x e = Right before refl e
within (z ∷ xs) ys [] after x e = let same : z ≡ x = cc (e) in Left xs (ap (λ w. w ∷ xs) same)
within {X} (z ∷ xs) ys (w ∷ before) after x e =
    let same : z ≡ w = cc (e) in
    let rest : xs ++ ys ≡ before ++ x ∷ after = cc (e) in
    elim (within xs ys before after x rest) [
      | Left more is ↦ Left more (ap (λ (v : X). v ∷ xs) same ∙ ap (λ (v : List X). w ∷ v) is)
      | Right more is then ↦ Right more (ap (λ (v : List X). w ∷ v) is ∙ ap (λ (v : X). v ∷ (xs ++ more)) (sym same)) then
    ]

-- a prefix of two joined lists is a prefix of the first, or the first and a prefix of the second
pub data PrefixSplit {X : Type 0} (xs ys before after : List X) : Type 0 where
  Short : (more : List X) → xs ≡ before ++ more → PrefixSplit xs ys before after
  Long : (more : List X) → before ≡ xs ++ more → ys ≡ more ++ after → PrefixSplit xs ys before after

pub prefix_split : {X : Type 0} (xs ys before after : List X) → xs ++ ys ≡ before ++ after → PrefixSplit xs ys before after
prefix_split [] ys before after e = Long before refl e
prefix_split (z ∷ xs) ys [] after e = Short (z ∷ xs) refl
prefix_split {X} (z ∷ xs) ys (w ∷ before) after e =
    let same : z ≡ w = cc (e) in
    let rest : xs ++ ys ≡ before ++ after = cc (e) in
    elim (prefix_split xs ys before after rest) [
      | Short more is ↦ Short more (ap (λ (v : X). v ∷ xs) same ∙ ap (λ (v : List X). w ∷ v) is)
      | Long more is then ↦ Long more (ap (λ (v : List X). w ∷ v) is ∙ ap (λ (v : X). v ∷ (xs ++ more)) (sym same)) then
    ]
