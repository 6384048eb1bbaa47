-- The value of a number: rounding, clamping, digits by their position, and digits that the standard library formats.
use Rattle.std.proofs.Common.{◌/◌, length-drop, ◌≡◌, ℕ, zero, suc, ◌+◌, ◌-◌, ◌*◌, ◌^◌, ◌<◌, ◌≤◌, min, true, List, [], ◌∷◌, ◌++◌, length, take, drop, refl, sym, ap, ◌∙◌, arith, inl, inr, add-one, slice_index, ◌==◌, false, length-append, drop-cons, decimal, rules}
use Rattle.std.proofs.lemmas.Bool.{cases_lt, cases_Bool}
use Rattle.std.proofs.lemmas.Nat.{pow-add}
use Rattle.std.proofs.lemmas.List.{take-append-drop}
use Rattle.std.proofs.lemmas.Grind.{common_steps}
use Rattle.std.proofs.lemmas.Bool.Decides.{nat_tests}
use Rattle.std.proofs.Math.Nat.{mul-div-mul_right, one-le-pow, pow-succ', mul_comm, mul_assoc, suc-mul, mul-suc, add-mul, mul-le-mul_right, div-eq_of_lt-le}
use Rattle.psu_lex.specs.Bytes.{is_digit, value_after, all_digits}
use Rattle.psu_lex.specs.Number.{magnitude, rounded, without_zeros}
use Rattle.std.specs.Prelude.{nat_lt}
use Rattle.std.proofs.lemmas.Str.Parse.{IsNumeralModel, numerals_by_fold}
use Rattle.std.proofs.lemmas.Fmt.{digits_decimal, digits_value-decimal, length-decimal-le, decimal_nonempty}
use Rattle.psu_lex.specs.Data.{IsBlockOf, definite_text}

pub shift_step : (top w : ℕ) → min (10 * min top w) top ≡ min top (10 * w)
shift_step top w = omega arith

pub power_step : (v i : ℕ) → v * 10 ^ (i + 1) ≡ 10 * (v * 10 ^ i)
power_step v i = rw (pow-add 10 i 1) (omega (arith, mul_comm (v * 10 ^ i) 10, mul_assoc v (10 ^ i) 10))

pub digits_tail : (x : ℕ) (xs : List ℕ) → all_digits (x ∷ xs) ≡ true → all_digits xs ≡ true
digits_tail x xs h = grind (arith, common_steps, h)

over : (v k : ℕ) → k ≤ suc v * k
over v k = omega (arith, suc-mul v k)

-- a value above 0 exceeds the maximum after 16 places
pub shift_end : (v p : ℕ) → 16 ≤ p → min (10 ^ 15) (v * 10 ^ 16) ≡ min (10 ^ 15) (v * 10 ^ p)
shift_end zero p le = grind arith
shift_end (suc v) p le =
    let a : 10 ^ (16 + (p - 16)) ≡ 10 ^ 16 * 10 ^ (p - 16) = pow-add 10 16 (p - 16) in
    let b : 16 + (p - 16) ≡ p = omega (arith, le) in
    let k : 10 ^ p ≡ 10 ^ 16 * 10 ^ (p - 16) = ap (λ (z : ℕ). 10 ^ z) (sym b) ∙ a in
    omega (arith, k, one-le-pow (p - 16) 10 (omega arith), over v (10 ^ 16), over v (10 ^ p))

-- ---- rounding

pub shift_all : (v p i x : ℕ) → i ≡ min p 16 → x ≡ min (10 ^ 15) (v * 10 ^ i) → x ≡ min (10 ^ 15) (v * 10 ^ p)
shift_all v p i x e h = elim (cases_lt p 16) [
  | inl lt ↦
      let f : i ≡ p = omega (arith, e, lt) in
      h ∙ ap (λ (z : ℕ). min (10 ^ 15) (v * 10 ^ z)) f
  | inr le ↦
      let f : i ≡ 16 = omega (arith, e, le) in
      h ∙ ap (λ (z : ℕ). min (10 ^ 15) (v * 10 ^ z)) f ∙ shift_end v p le
]

-- the number of halves
twice_out : (q d : ℕ) → q * (2 * d) ≡ 2 * (q * d)
twice_out q d = sym (mul_assoc q 2 d) ∙ ap (λ (z : ℕ). z * d) (mul_comm q 2) ∙ mul_assoc 2 q d

one_more : (q m : ℕ) → (q + 1) * m ≡ q * m + m
one_more q m = ap (λ (z : ℕ). z * m) (add-one q) ∙ suc-mul q m

-- a whole part and a remainder
pub rounded_down : (q r d : ℕ) → 2 * r < d → rounded (q * d + r) d ≡ q
rounded_down q r d h = div-eq_of_lt-le {k = q} (2 * d) (omega (arith, twice_out q d)) (omega (arith, twice_out q d, one_more q (2 * d), h))

pub rounded_up : (q r d : ℕ) → r < d → d ≤ 2 * r → rounded (q * d + r) d ≡ q + 1
rounded_up q r d h g = div-eq_of_lt-le {k = q + 1} (2 * d) (omega (arith, twice_out q d, one_more q (2 * d), g)) (omega (arith, twice_out q d, one_more q (2 * d), one_more (q + 1) (2 * d), h))

pub rounded_whole : (q d : ℕ) → 0 < d → rounded (q * d) d ≡ q
rounded_whole q d h = ap (λ (z : ℕ). rounded z d) (omega arith) ∙ rounded_down q 0 d (omega (arith, h))

-- powers that multiply and divide
pub rounded_shift : (v up down : ℕ) → down ≤ up → rounded (v * 10 ^ up) (10 ^ down) ≡ v * 10 ^ (up - down)
rounded_shift v up down le =
    let a : 10 ^ up ≡ 10 ^ (up - down) * 10 ^ down = ap (λ (z : ℕ). 10 ^ z) (omega (arith, le)) ∙ pow-add 10 (up - down) down in
    let b : v * 10 ^ up ≡ v * 10 ^ (up - down) * 10 ^ down = ap (λ (z : ℕ). v * z) a ∙ sym (mul_assoc v (10 ^ (up - down)) (10 ^ down)) in
    ap (λ (z : ℕ). rounded z (10 ^ down)) b ∙ rounded_whole (v * 10 ^ (up - down)) (10 ^ down) (one-le-pow down 10 (omega arith))

over_mul : (top v k : ℕ) → 0 < k → min top (min top v * k) ≡ min top (v * k)
over_mul top v zero h = absurd (omega (arith, h))
over_mul top v (suc k) h = elim (cases_lt v top) [
  | inl lt ↦ ap (λ (z : ℕ). min top (z * suc k)) (omega (arith, lt))
  | inr le ↦
      let e : min top v ≡ top = omega (arith, le) in
      let a : min top v * suc k ≡ top * suc k = ap (λ (z : ℕ). z * suc k) e in
      omega (arith, a, mul-suc top k, mul-suc v k, le)
]

pub scaled_up : (digits : List ℕ) (up down h x : ℕ) → down ≤ up → h ≡ min (10 ^ 15) (value_after 0 digits) → x ≡ min (10 ^ 15) (h * 10 ^ (up - down)) → x ≡ magnitude digits up down
scaled_up digits up down h x le e f =
    f ∙ ap (λ (z : ℕ). min (10 ^ 15) (z * 10 ^ (up - down))) e ∙ over_mul (10 ^ 15) (value_after 0 digits) (10 ^ (up - down)) (one-le-pow (up - down) 10 (omega arith))
    ∙ ap (λ (z : ℕ). min (10 ^ 15) z) (sym (rounded_shift (value_after 0 digits) up down le))

-- ---- digits before and after a position

spread : (n d p : ℕ) → (10 * n + d) * p ≡ 10 * (n * p) + d * p
spread n d p = add-mul (10 * n) d p ∙ ap (λ (z : ℕ). z + d * p) (mul_assoc 10 n p)

after_split : (n : ℕ) (ds : List ℕ) → value_after n ds ≡ n * 10 ^ length ds + value_after 0 ds
after_split n [] = omega arith
after_split n (x ∷ ds) =
    let d = x - 48 in
    let p = 10 ^ length ds in
    let a : value_after (10 * n + d) ds ≡ (10 * n + d) * p + value_after 0 ds = after_split (10 * n + d) ds in
    let b : value_after (10 * 0 + d) ds ≡ (10 * 0 + d) * p + value_after 0 ds = after_split (10 * 0 + d) ds in
    let t : n * 10 ^ suc (length ds) ≡ 10 * (n * p) = ap (λ (z : ℕ). n * z) (pow-succ' 10 (length ds)) ∙ sym (mul_assoc n 10 p) ∙ ap (λ (z : ℕ). z * p) (mul_comm n 10) ∙ mul_assoc 10 n p in
    omega (arith, a, b, t, spread n d p, spread 0 d p)

pub after_append : (n : ℕ) (a b : List ℕ) → value_after n (a ++ b) ≡ value_after (value_after n a) b
after_append n [] b = refl
after_append n (x ∷ a) b = after_append (10 * n + (x - 48)) a b

digit_small : (x : ℕ) (xs : List ℕ) → all_digits (x ∷ xs) ≡ true → (48 ≤ x) × (x < 58)
digit_small x xs h = grind (arith, nat_tests, h)

pub below_power : (ds : List ℕ) → all_digits ds ≡ true → value_after 0 ds < 10 ^ length ds
below_power [] h = omega arith
below_power (x ∷ ds) h =
    let d = x - 48 in
    let small = digit_small x ds h in
    let r = below_power ds (digits_tail x ds h) in
    let a : value_after (10 * 0 + d) ds ≡ (10 * 0 + d) * 10 ^ length ds + value_after 0 ds = after_split (10 * 0 + d) ds in
    let m : d * 10 ^ length ds ≤ 9 * 10 ^ length ds = mul-le-mul_right (10 ^ length ds) (omega (arith, small.0, small.1)) in
    omega (arith, a, r, m, pow-succ' 10 (length ds), spread 0 d (10 ^ length ds))

pub digits_split : (n : ℕ) (ds : List ℕ) → all_digits ds ≡ true → (all_digits (take n ds) ≡ true) × (all_digits (drop n ds) ≡ true)
digits_split zero ds h = (refl, h)
digits_split (suc n) [] h = (refl, refl)
digits_split (suc n) (x ∷ ds) h =
    let r = digits_split n ds (digits_tail x ds h) in
    (grind (arith, common_steps, h, r.0), r.1)

-- the first digit after the position decides whether what is dropped is a half or more
half : (x : ℕ) (xs : List ℕ) → all_digits (x ∷ xs) ≡ true → (53 ≤ x → 10 ^ suc (length xs) ≤ 2 * value_after 0 (x ∷ xs)) × (x < 53 → 2 * value_after 0 (x ∷ xs) < 10 ^ suc (length xs))
half x xs h =
    let d = x - 48 in
    let p = 10 ^ length xs in
    let r = below_power xs (digits_tail x xs h) in
    let a : value_after (10 * 0 + d) xs ≡ (10 * 0 + d) * p + value_after 0 xs = after_split (10 * 0 + d) xs in
    let s = spread 0 d p in
    let t = pow-succ' 10 (length xs) in (
      λ up. (let m : 5 * p ≤ d * p = mul-le-mul_right p (omega (arith, up)) in omega (arith, a, s, t, m)),
      λ low. (let m : d * p ≤ 4 * p = mul-le-mul_right p (omega (arith, low)) in omega (arith, a, s, t, m, r)),
    )

-- ---- digits that are cut off

-- tens that multiply and divide
rounded_tens : (v up down : ℕ) → up ≤ down → rounded (v * 10 ^ up) (10 ^ down) ≡ rounded v (10 ^ (down - up))
rounded_tens v up down le =
    let u = 10 ^ up in
    let k = 10 ^ (down - up) in
    let e : 10 ^ down ≡ k * u = ap (λ (z : ℕ). 10 ^ z) (omega (arith, le)) ∙ pow-add 10 (down - up) up in
    let n : 2 * (v * u) + k * u ≡ (2 * v + k) * u = omega (arith, add-mul (2 * v) k u, mul_assoc 2 v u) in
    ap (rounded (v * u)) e ∙ ap (λ (z : ℕ). z / (2 * (k * u))) n ∙ ap (λ (z : ℕ). (2 * v + k) * u / z) (sym (mul_assoc 2 k u))
    ∙ mul-div-mul_right (2 * v + k) (2 * k) (one-le-pow up 10 (omega arith))

ten_le : (m n : ℕ) → m ≤ n → 10 ^ m ≤ 10 ^ n
ten_le m n le =
    let e : 10 ^ n ≡ 10 ^ (n - m) * 10 ^ m = ap (λ (z : ℕ). 10 ^ z) (omega (arith, le)) ∙ pow-add 10 (n - m) m in
    let f : 1 * 10 ^ m ≤ 10 ^ (n - m) * 10 ^ m = mul-le-mul_right (10 ^ m) (omega (arith, one-le-pow (n - m) 10 (omega arith))) in
    omega (arith, e, f)

pub cut_away : (digits : List ℕ) (up down : ℕ) → all_digits digits ≡ true → up < down → length digits < down - up → 0 ≡ magnitude digits up down
cut_away digits up down h lt short =
    let v = value_after 0 digits in
    let k = 10 ^ (down - up) in
    let b : 10 ^ suc (length digits) ≤ k = ten_le (suc (length digits)) (down - up) (omega (arith, short)) in
    let none : rounded v k ≡ 0 = ap (λ (n : ℕ). rounded n k) (omega arith) ∙ rounded_down 0 v k (omega (arith, b, pow-succ' 10 (length digits), below_power digits h)) in
    omega (arith, rounded_tens v up down (omega (arith, lt)) ∙ none)

-- the digits before the position, rounded by the digit at it
pub cut : (digits : List ℕ) (up down kept : ℕ) → all_digits digits ≡ true → up < down → kept + (down - up) ≡ length digits
    → (53 ≤ slice_index digits kept → rounded (value_after 0 digits * 10 ^ up) (10 ^ down) ≡ value_after 0 (take kept digits) + 1)
    × (slice_index digits kept < 53 → rounded (value_after 0 digits * 10 ^ up) (10 ^ down) ≡ value_after 0 (take kept digits))
cut digits up down kept h lt n =
    let f = value_after 0 (take kept digits) in
    let y = slice_index digits kept in
    let back = drop (suc kept) digits in
    let b = value_after 0 (y ∷ back) in
    let k = 10 ^ (down - up) in
    let rest : drop kept digits ≡ y ∷ back = drop-cons digits kept 0 (omega (arith, n, lt)) in
    let each : all_digits (y ∷ back) ≡ true = ap all_digits (sym rest) ∙ (digits_split kept digits h).1 in
    let long : suc (length back) ≡ down - up = omega (arith, ap length rest, length-drop kept digits, n) in
    let tens : 10 ^ suc (length back) ≡ k = ap (λ (z : ℕ). 10 ^ z) long in
    let value : value_after 0 digits ≡ f * k + b
    = ap (value_after 0) (sym (take-append-drop kept digits) ∙ ap (λ (z : List ℕ). take kept digits ++ z) rest)
    ∙ after_append 0 (take kept digits) (y ∷ back) ∙ after_split f (y ∷ back) ∙ ap (λ (z : ℕ). f * z + b) tens in
    let all : rounded (value_after 0 digits * 10 ^ up) (10 ^ down) ≡ rounded (f * k + b) k = rounded_tens (value_after 0 digits) up down (omega (arith, lt)) ∙ ap (λ (z : ℕ). rounded z k) value in
    let halves = half y back each in (
      λ big. all ∙ rounded_up f b k (omega (arith, tens, below_power (y ∷ back) each)) (omega (arith, tens, halves.0 big)),
      λ small. all ∙ rounded_down f b k (omega (arith, tens, halves.1 small)),
    )

-- ---- digits by their position

pub digit_in : (ds : List ℕ) (i : ℕ) → all_digits ds ≡ true → i < length ds → (48 ≤ slice_index ds i) × (slice_index ds i < 58)
digit_in [] i h lt = absurd (omega (arith, lt))
digit_in (x ∷ ds) zero h lt = grind (arith, nat_tests, h)
digit_in (x ∷ ds) (suc i) h lt = digit_in ds i (grind (arith, common_steps, h)) (omega (arith, lt))

same_held : (top a b : ℕ) (ds : List ℕ) → min top a ≡ min top b → min top (value_after a ds) ≡ min top (value_after b ds)
same_held top a b [] h = h
same_held top a b (d ∷ ds) h = same_held top (10 * a + (d - 48)) (10 * b + (d - 48)) ds (omega (arith, h))

-- digits appended to a capped value give the same capped result as digits appended to the value itself
pub held_append : (top n x y : ℕ) (a b : List ℕ) → x ≡ min top (value_after n a) → y ≡ min top (value_after x b) → y ≡ min top (value_after n (a ++ b))
held_append top n x y a b e f =
    let v = value_after n a in
    let same : min top x ≡ min top v = omega (arith, e) in
    f ∙ same_held top x v b same ∙ ap (min top) (sym (after_append n a b))

-- one more digit
pub held_digit : (n : ℕ) (ds : List ℕ) (i : ℕ) → i < length ds → value_after n (take (i + 1) ds) ≡ 10 * value_after n (take i ds) + (slice_index ds i - 48)
held_digit n ds i lt =
    let longer : take (i + 1) ds ≡ take i ds ++ slice_index ds i ∷ [] = grind (arith, common_steps, lt) in
    ap (value_after n) longer ∙ after_append n (take i ds) (slice_index ds i ∷ [])

pub digits_apart : (a b : List ℕ) → all_digits (a ++ b) ≡ true → (all_digits a ≡ true) × (all_digits b ≡ true)
digits_apart [] b h = (refl, h)
digits_apart (x ∷ a) b h =
    let first : is_digit x ≡ true = grind (arith, common_steps, h) in
    let later = digits_apart a b (digits_tail x (a ++ b) h) in
    (rw first later.0, later.1)

pub value_more : (ds : List ℕ) (i : ℕ) → i < length ds → value_after 0 (take (i + 1) ds) ≡ 10 * value_after 0 (take i ds) + (slice_index ds i - 48)
value_more ds i lt =
    let e : take (i + 1) ds ≡ take i ds ++ slice_index ds i ∷ [] = grind (arith, common_steps, lt) in
    ap (value_after 0) e ∙ after_append 0 (take i ds) (slice_index ds i ∷ [])

without_zeros_shorter : (ds : List ℕ) → length (without_zeros ds) ≤ length ds
without_zeros_shorter [] = omega arith
without_zeros_shorter (d ∷ ds) = elim (cases_Bool (d == 48)) [
  | inl t ↦ let h = without_zeros_shorter ds in rw t (omega (arith, h))
  | inr f ↦ rw f (omega arith)
]

pub few_digits : (whole fraction : List ℕ) → length whole + length fraction ≤ 255 → nat_lt 255 (length (without_zeros (whole ++ fraction))) ≡ false
few_digits whole fraction h =
    let k = without_zeros_shorter (whole ++ fraction) in
    let l : length (whole ++ fraction) ≡ length whole + length fraction = length-append whole fraction in
    grind (arith, nat_tests, h, k, l)

own : IsNumeralModel (λ ds. all_digits ds ≡ true) (value_after 0)
own = numerals_by_fold _ (search rules) value_after (search rules)

-- a block as response data is a block of its bytes
pub definite_is_block : (bytes : List ℕ) → length bytes < 10 ^ 9 → IsBlockOf (definite_text bytes) bytes
definite_is_block bytes small =
    let n = length bytes in
    let fits : n < 2 ^ 64 = omega (arith, small) in
    let short : length (decimal n) ≤ 9 = length-decimal-le 9 n (omega arith) small fits in
    inl (decimal n, refl, (decimal_nonempty n fits, omega (arith, short), digits_decimal own n fits, sym (digits_value-decimal own n fits)))
