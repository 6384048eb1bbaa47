-- Numbers as response data, with three decimals. Source: IEEE 488.2, 8.7.3 (NR2).
use Rattle.std.specs.Prelude.{ℕ, ◌+◌, ◌/◌, ◌%◌, List, [], ◌∷◌, ◌++◌, decimal, ℤ, nat_abs, int_lt, pos, if◌then◌else◌}

-- three digits, with leading zeros
abbrev pub three_digits : ℕ → List ℕ
three_digits n = (48 + n / 100) ∷ (48 + n / 10 % 10) ∷ (48 + n % 10) ∷ []

-- thousandths: a minus below 0, the whole part, a point and three digits
abbrev pub fixed3_text : ℤ → List ℕ
fixed3_text value =
    (if int_lt value (pos 0) then 45 ∷ [] else []) ++ (decimal (nat_abs value / 1000) ++ 46 ∷ three_digits (nat_abs value % 1000))
