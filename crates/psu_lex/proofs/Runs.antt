-- The longest prefix of bytes that pass a test, and equal lists.
use Rattle.std.proofs.Common.{◌≡◌, ℕ, ◌&&◌, Bool, true, false, List, [], ◌∷◌, ◌++◌, refl, sym, ap, ◌∙◌, arith, inl, inr}
use Rattle.std.proofs.lemmas.Bool.{cases_Bool}
use Rattle.std.proofs.lemmas.List.{append-nil}
use Rattle.std.proofs.lemmas.Grind.{common_steps}
use Rattle.psu_lex.specs.Bytes.{is_digit, is_letter, is_white, all_digits, all_letters, all_white}
use Rattle.psu_lex.specs.NumberScan.{run, left}

-- each byte passes the test
abbrev pub every : (ℕ → Bool) → List ℕ → Bool
every test [] = true
every test (x ∷ xs) = test x && every test xs

-- the first byte passes the test
abbrev pub leads : (ℕ → Bool) → List ℕ → Bool
leads test [] = false
leads test (x ∷ xs) = test x

pub digits_every : (xs : List ℕ) → all_digits xs ≡ every is_digit xs
digits_every [] = refl
digits_every (x ∷ xs) = ap (λ (z : Bool). is_digit x && z) (digits_every xs)

pub white_every : (xs : List ℕ) → all_white xs ≡ every is_white xs
white_every [] = refl
white_every (x ∷ xs) = ap (λ (z : Bool). is_white x && z) (white_every xs)

pub letters_every : (xs : List ℕ) → all_letters xs ≡ every is_letter xs
letters_every [] = refl
letters_every (x ∷ xs) = ap (λ (z : Bool). is_letter x && z) (letters_every xs)

pub every_head : (test : ℕ → Bool) (x : ℕ) (xs : List ℕ) → every test (x ∷ xs) ≡ true → test x ≡ true
every_head test x xs h = grind (arith, common_steps, h)

pub every_tail : (test : ℕ → Bool) (x : ℕ) (xs : List ℕ) → every test (x ∷ xs) ≡ true → every test xs ≡ true
every_tail test x xs h = grind (arith, common_steps, h)

-- ---- a run and the rest are the text

pub run_left : (test : ℕ → Bool) (xs : List ℕ) → run test xs ++ left test xs ≡ xs
run_left test [] = refl
run_left test (x ∷ xs) = elim (cases_Bool (test x)) [
  | inl t ↦ rw t (ap (λ (z : List ℕ). x ∷ z) (run_left test xs))
  | inr f ↦ rw f refl
]

pub run_every : (test : ℕ → Bool) (xs : List ℕ) → every test (run test xs) ≡ true
run_every test [] = refl
run_every test (x ∷ xs) = elim (cases_Bool (test x)) [
  | inl t ↦ rw t (rw t (run_every test xs))
  | inr f ↦ rw f refl
]

pub run_white : (xs : List ℕ) → all_white (run is_white xs) ≡ true
run_white xs = white_every (run is_white xs) ∙ run_every is_white xs

-- ---- the run of a text that is made of one

pub run_at : (test : ℕ → Bool) (a b : List ℕ) → every test a ≡ true → leads test b ≡ false → run test (a ++ b) ≡ a
run_at test [] [] h f = refl
run_at test [] (x ∷ b) h f = rw f refl
run_at test (x ∷ a) b h f = rw (every_head test x a h) (ap (λ (z : List ℕ). x ∷ z) (run_at test a b (every_tail test x a h) f))

pub left_at : (test : ℕ → Bool) (a b : List ℕ) → every test a ≡ true → leads test b ≡ false → left test (a ++ b) ≡ b
left_at test [] [] h f = refl
left_at test [] (x ∷ b) h f = rw f refl
left_at test (x ∷ a) b h f = rw (every_head test x a h) (left_at test a b (every_tail test x a h) f)

-- ---- more of runs

pub every_append : (test : ℕ → Bool) (a b : List ℕ) → every test a ≡ true → every test b ≡ true → every test (a ++ b) ≡ true
every_append test [] b h k = k
every_append test (x ∷ a) b h k = rw (every_head test x a h) (every_append test a b (every_tail test x a h) k)

pub every_left : (test skip : ℕ → Bool) (xs : List ℕ) → every test xs ≡ true → every test (left skip xs) ≡ true
every_left test skip [] h = refl
every_left test skip (x ∷ xs) h = elim (cases_Bool (skip x)) [
  | inl t ↦ rw t (every_left test skip xs (every_tail test x xs h))
  | inr f ↦ rw f h
]

pub left_none : (test : ℕ → Bool) (xs : List ℕ) → every test xs ≡ true → left test xs ≡ []
left_none test xs h = ap (left test) (sym (append-nil xs)) ∙ left_at test xs [] h refl

pub run_all : (test : ℕ → Bool) (xs : List ℕ) → every test xs ≡ true → run test xs ≡ xs
run_all test xs h = ap (run test) (sym (append-nil xs)) ∙ run_at test xs [] h refl

-- each byte passes a weaker test
pub every_more : (a b : ℕ → Bool) (xs : List ℕ) → ((x : ℕ) → a x ≡ true → b x ≡ true) → every a xs ≡ true → every b xs ≡ true
every_more a b [] f h = refl
every_more a b (x ∷ xs) f h = rw (f x (every_head a x xs h)) (every_more a b xs f (every_tail a x xs h))

pub same_head : (x y : ℕ) (xs ys : List ℕ) → x ∷ xs ≡ y ∷ ys → x ≡ y
same_head x y xs ys e = cc

pub same_tail : (x y : ℕ) (xs ys : List ℕ) → x ∷ xs ≡ y ∷ ys → xs ≡ ys
same_tail x y xs ys e = cc

pub both : (b : Bool) → b ≡ true → b ≡ false → ⊥
both b t f = absurd (cc (t, f))
