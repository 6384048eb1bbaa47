-- Lists that were made of others.
use Rattle.std.proofs.Common.{◌≡◌, List, [], ◌∷◌, ◌++◌, refl, ap}
use Rattle.std.specs.Prelude.{map}

-- a mapped list that is two lists comes of two lists
pub record Split {X Y : Type 0} (f : X → Y) (all : List X) (left right : List Y) : Type 0 where
  pub front : List X
  pub back : List X
  pub is : all ≡ front ++ back
  pub of_left : map f front ≡ left
  pub of_right : map f back ≡ right

split_more : {X Y : Type 0} (f : X → Y) (x : X) (all : List X) (y : Y) (left right : List Y) → f x ≡ y → Split f all left right → Split f (x ∷ all) (y ∷ left) right
split_more f x all y left right same s = record { front = x ∷ s.front; back = s.back; is = ap (λ z. x ∷ z) s.is; of_left = cc (same, s.of_left); of_right = s.of_right }

pub split : {X Y : Type 0} (f : X → Y) (all : List X) (left right : List Y) → map f all ≡ left ++ right → Split f all left right
split f all [] right e = record { front = []; back = all; is = refl; of_left = refl; of_right = e }
split f [] (y ∷ left) right e = absurd (cc (e))
split f (x ∷ all) (y ∷ left) right e =
    let same : f x ≡ y = cc (e) in
    let rest : map f all ≡ left ++ right = cc (e) in
    split_more f x all y left right same (split f all left right rest)

-- a mapped list of one element
pub record Single {X Y : Type 0} (f : X → Y) (all : List X) (y : Y) : Type 0 where
  pub one : X
  pub is : all ≡ one ∷ []
  pub same : f one ≡ y

pub single : {X Y : Type 0} (f : X → Y) (all : List X) (y : Y) → map f all ≡ y ∷ [] → Single f all y
single f [] y e = absurd (cc (e))
single f (x ∷ []) y e = record { one = x; is = refl; same = cc (e) }
single f (x ∷ z ∷ all) y e = absurd (cc (e))

pub none_mapped : {X Y : Type 0} (f : X → Y) (all : List X) → map f all ≡ [] → all ≡ []
none_mapped f [] e = refl
none_mapped f (x ∷ all) e = absurd (cc (e))
