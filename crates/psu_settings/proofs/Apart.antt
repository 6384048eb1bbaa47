-- Different settings have different bytes.
use Rattle.std.proofs.Common.{◌≡◌, ℕ, ◌+◌, ◌/◌, ◌%◌, ◌≤◌, Bool, true, false, List, [], ◌∷◌, ◌++◌, length, get_or, drop, refl, sym, ◌∙◌, ap, arith}
use Rattle.std.specs.Prelude.{◌&&◌, nat_le}
use Rattle.std.specs.List.{list_all}
use Rattle.std.proofs.lemmas.Bool.Decides.{nat_tests}
use Rattle.psu_settings.specs.declared.output_settings.OutputSettings.{OutputSettings}
use Rattle.psu_settings.specs.Settings.{AreSettings, is_allowed, flag, output_bytes, bytes_of}
use Rattle.psu_settings.proofs.Ranges.{both}

low_enough : (n most : ℕ) → nat_le n most ≡ true → n ≤ most
low_enough n most is = grind (arith, nat_tests)

same_number : (m n : ℕ) → m ≤ 60000 → n ≤ 60000 → m / 256 % 256 ≡ n / 256 % 256 → m % 256 ≡ n % 256 → m ≡ n
same_number m n lm ln high low = omega arith

same_flags : (a b c d : Bool) → flag a 1 + flag b 2 ≡ flag c 1 + flag d 2 → (a ≡ c) × (b ≡ d)
same_flags true true true true e = (refl, refl)
same_flags true true true false e = absurd (omega (arith, e))
same_flags true true false true e = absurd (omega (arith, e))
same_flags true true false false e = absurd (omega (arith, e))
same_flags true false true true e = absurd (omega (arith, e))
same_flags true false true false e = (refl, refl)
same_flags true false false true e = absurd (omega (arith, e))
same_flags true false false false e = absurd (omega (arith, e))
same_flags false true true true e = absurd (omega (arith, e))
same_flags false true true false e = absurd (omega (arith, e))
same_flags false true false true e = (refl, refl)
same_flags false true false false e = absurd (omega (arith, e))
same_flags false false true true e = absurd (omega (arith, e))
same_flags false false true false e = absurd (omega (arith, e))
same_flags false false false true e = absurd (omega (arith, e))
same_flags false false false false e = (refl, refl)

-- settings are equal if each of the five is
pub same_output : (o p : OutputSettings) → o.voltage.0 ≡ p.voltage.0 → o.current.0 ≡ p.current.0 → o.level.0 ≡ p.level.0 → o.protection ≡ p.protection → o.on ≡ p.on → o ≡ p
same_output o p voltage current level protection on =
    ap (λ (n : ℕ). record o { voltage = record { 0 = n } }) voltage
    ∙ ap (λ (n : ℕ). record o { voltage = p.voltage; current = record { 0 = n } }) current
    ∙ ap (λ (n : ℕ). record p { level = record { 0 = n }; protection = o.protection; on = o.on }) level
    ∙ ap (λ (b : Bool). record p { protection = b; on = o.on }) protection
    ∙ ap (λ (b : Bool). record p { on = b }) on

module _ (o p : OutputSettings) (x y : List ℕ) (allowed_o : is_allowed o ≡ true) (allowed_p : is_allowed p ≡ true) (same : output_bytes o ++ x ≡ output_bytes p ++ y) where
  byte : (k : ℕ) → get_or (output_bytes o ++ x) k 0 ≡ get_or (output_bytes p ++ y) k 0
  byte k = ap (λ (l : List ℕ). get_or l k 0) same

  volts_o : nat_le o.voltage.0 60000 ≡ true
  volts_o = (both (nat_le o.voltage.0 60000) (nat_le o.current.0 5000 && nat_le o.level.0 60000) allowed_o).0

  volts_p : nat_le p.voltage.0 60000 ≡ true
  volts_p = (both (nat_le p.voltage.0 60000) (nat_le p.current.0 5000 && nat_le p.level.0 60000) allowed_p).0

  rest_o : (nat_le o.current.0 5000 ≡ true) × (nat_le o.level.0 60000 ≡ true)
  rest_o = both (nat_le o.current.0 5000) (nat_le o.level.0 60000) (both (nat_le o.voltage.0 60000) (nat_le o.current.0 5000 && nat_le o.level.0 60000) allowed_o).1

  rest_p : (nat_le p.current.0 5000 ≡ true) × (nat_le p.level.0 60000 ≡ true)
  rest_p = both (nat_le p.current.0 5000) (nat_le p.level.0 60000) (both (nat_le p.voltage.0 60000) (nat_le p.current.0 5000 && nat_le p.level.0 60000) allowed_p).1

  volts : o.voltage.0 ≡ p.voltage.0
  volts = same_number o.voltage.0 p.voltage.0 (low_enough o.voltage.0 60000 volts_o) (low_enough p.voltage.0 60000 volts_p) (byte 0) (byte 1)

  amperes : o.current.0 ≡ p.current.0
  amperes = same_number o.current.0 p.current.0 (let lo = low_enough o.current.0 5000 rest_o.0 in omega arith) (let lp = low_enough p.current.0 5000 rest_p.0 in omega arith) (byte 2) (byte 3)

  level : o.level.0 ≡ p.level.0
  level = same_number o.level.0 p.level.0 (low_enough o.level.0 60000 rest_o.1) (low_enough p.level.0 60000 rest_p.1) (byte 4) (byte 5)

  flags : (o.protection ≡ p.protection) × (o.on ≡ p.on)
  flags = same_flags o.protection o.on p.protection p.on (byte 6)

  by_bytes : o ≡ p
  by_bytes = same_output o p volts amperes level flags.0 flags.1

same_outputs : (a b : List OutputSettings) → length a ≡ length b → list_all is_allowed a ≡ true → list_all is_allowed b ≡ true → bytes_of a ≡ bytes_of b → a ≡ b
same_outputs [] [] long allowed_a allowed_b same = refl
same_outputs [] (p ∷ b) long allowed_a allowed_b same = absurd (omega (arith, long))
same_outputs (o ∷ a) [] long allowed_a allowed_b same = absurd (omega (arith, long))
same_outputs (o ∷ a) (p ∷ b) long allowed_a allowed_b same =
    let this_a = both (is_allowed o) (list_all is_allowed a) allowed_a in
    let this_b = both (is_allowed p) (list_all is_allowed b) allowed_b in
    ap (λ (q : OutputSettings). q ∷ a) (by_bytes o p (bytes_of a) (bytes_of b) this_a.0 this_b.0 same)
    ∙ ap (λ (l : List OutputSettings). p ∷ l) (same_outputs a b (omega (arith, long)) this_a.1 this_b.1 (ap (drop 7) same))

pub same_settings : (a b : List OutputSettings) → AreSettings a → AreSettings b → bytes_of a ≡ bytes_of b → a ≡ b
same_settings a b are_a are_b same = same_outputs a b (are_a.0 ∙ sym are_b.0) are_a.1 are_b.1 same
