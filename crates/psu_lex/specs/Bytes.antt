-- Classes of the bytes of a message. Source: IEEE 488.2, 7.4 (white space, separators) and 7.7 (program data).
use Rattle.std.specs.Prelude.{ℕ, ◌+◌, ◌*◌, ◌-◌, ◌==◌, ◌||◌, ◌&&◌, nat_lt, Bool, true, false, not, List, [], ◌∷◌, if◌then◌else◌}

-- white space: 0 to 32, except NL
abbrev pub is_white : ℕ → Bool
is_white b = nat_lt b 33 && not (b == 10)

-- any byte that is not white space
abbrev pub is_dark : ℕ → Bool
is_dark b = not (is_white b)

-- `;` or NL
abbrev pub separates : ℕ → Bool
separates b = b == 59 || b == 10

-- `"` or `'`
abbrev pub is_quote : ℕ → Bool
is_quote b = b == 34 || b == 39

-- `"`, `'` or `#`: the byte begins a string or a block
abbrev pub opens : ℕ → Bool
opens b = b == 34 || b == 39 || b == 35

abbrev pub is_digit : ℕ → Bool
is_digit b = nat_lt 47 b && nat_lt b 58

abbrev pub is_letter : ℕ → Bool
is_letter b = (nat_lt 64 b && nat_lt b 91) || (nat_lt 96 b && nat_lt b 123)

abbrev pub all_white : List ℕ → Bool
all_white [] = true
all_white (x ∷ xs) = is_white x && all_white xs

abbrev pub all_digits : List ℕ → Bool
all_digits [] = true
all_digits (x ∷ xs) = is_digit x && all_digits xs

abbrev pub all_letters : List ℕ → Bool
all_letters [] = true
all_letters (x ∷ xs) = is_letter x && all_letters xs

abbrev pub has_newline : List ℕ → Bool
has_newline [] = false
has_newline (x ∷ xs) = x == 10 || has_newline xs

-- the first byte is b
abbrev pub starts : ℕ → List ℕ → Bool
starts b [] = false
starts b (x ∷ xs) = x == b

-- the first byte is a quote
abbrev pub starts_quoted : List ℕ → Bool
starts_quoted bytes = starts 34 bytes || starts 39 bytes

abbrev pub ends_in_newline : List ℕ → Bool
ends_in_newline [] = false
ends_in_newline (x ∷ []) = x == 10
ends_in_newline (x ∷ y ∷ more) = ends_in_newline (y ∷ more)

-- the number that the digits of n followed by more digits denote
abbrev pub value_after : ℕ → List ℕ → ℕ
value_after n [] = n
value_after n (d ∷ ds) = value_after (10 * n + (d - 48)) ds

-- what may follow a string or a block in a message: white space, followed by `,`, `;`, NL or END
abbrev pub is_closed : List ℕ → Bool
is_closed [] = true
is_closed (x ∷ xs) = if is_white x then is_closed xs else x == 44 || x == 59 || x == 10
