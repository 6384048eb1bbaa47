-- The settings that bytes encode.
use Rattle.std.proofs.Common.{◌≡◌, ℕ, ◌+◌, ◌*◌, ◌/◌, ◌%◌, ◌≤◌, Bool, true, false, cond, List, [], ◌∷◌, ◌++◌, length, refl, sym, ◌∙◌, ap, bytes_eq, arith}
use Rattle.std.specs.Prelude.{◌&&◌, ◌==◌, nat_le}
use Rattle.std.specs.List.{list_all}
use Rattle.std.proofs.lemmas.Bool.Decides.{nat_tests}
use Rattle.std.proofs.lemmas.Slice.Eq.{bytes_eq-Decides}
use Rattle.psu_settings.specs.declared.output_settings.OutputSettings.{OutputSettings}
use Rattle.psu_settings.specs.Settings.{AreSettings, is_allowed, output_bytes, bytes_of}
use Rattle.psu_settings.proofs.Apart.{same_output}
use Rattle.psu_settings.proofs.Ranges.{both, join}
use Rattle.psu_nv.specs.Commands.{output_in, outputs_in, settings_in, is_state}

low_enough : (n most : ℕ) → nat_le n most ≡ true → n ≤ most
low_enough n most is = grind (arith, nat_tests)

word : (n : ℕ) → n ≤ 60000 → n / 256 % 256 * 256 + n % 256 ≡ n
word n le = omega arith

module _ (o : OutputSettings) (rest : List ℕ) (allowed : is_allowed o ≡ true) where
  parts : (nat_le o.voltage.0 60000 ≡ true) × ((nat_le o.current.0 5000 && nat_le o.level.0 60000) ≡ true)
  parts = both (nat_le o.voltage.0 60000) (nat_le o.current.0 5000 && nat_le o.level.0 60000) allowed

  more : (nat_le o.current.0 5000 ≡ true) × (nat_le o.level.0 60000 ≡ true)
  more = both (nat_le o.current.0 5000) (nat_le o.level.0 60000) parts.1

  flags : (p q : Bool) → (((cond p 1 0 + cond q 2 0) % 2 == 1) ≡ p) × (nat_le 2 (cond p 1 0 + cond q 2 0) ≡ q)
  flags true true = (refl, refl)
  flags true false = (refl, refl)
  flags false true = (refl, refl)
  flags false false = (refl, refl)

  pub output_again : output_in (output_bytes o ++ rest) ≡ o
  output_again =
      same_output (output_in (output_bytes o ++ rest)) o (word o.voltage.0 (low_enough o.voltage.0 60000 parts.0)) (word o.current.0 (let le = low_enough o.current.0 5000 more.0 in omega arith)) (word o.level.0 (low_enough o.level.0 60000 more.1))
      (flags o.protection o.on).0 (flags o.protection o.on).1

outputs_again : (s : List OutputSettings) → list_all is_allowed s ≡ true → outputs_in (length s) (bytes_of s) ≡ s
outputs_again [] allowed = refl
outputs_again (o ∷ s) allowed =
    let p = both (is_allowed o) (list_all is_allowed s) allowed in
    ap (λ (x : OutputSettings). x ∷ outputs_in (length s) (bytes_of s)) (output_again o (bytes_of s) p.0) ∙ ap (λ (l : List OutputSettings). o ∷ l) (outputs_again s p.1)

-- settings are decoded from their own bytes
pub settings_again : (s : List OutputSettings) → AreSettings s → settings_in (bytes_of s) ≡ s
unfolding settings_in
settings_again s are = ap (λ (n : ℕ). outputs_in n (bytes_of s)) (sym are.0) ∙ outputs_again s are.1

-- bytes that encode settings are a state
pub state_true : (s : List OutputSettings) (bytes : List ℕ) → AreSettings s → bytes_of s ≡ bytes → (settings_in bytes ≡ s) × (is_state bytes ≡ true)
unfolding is_state
state_true s bytes are is =
    let again : settings_in bytes ≡ s = ap settings_in (sym is) ∙ settings_again s are in (
      again,
      join (list_all is_allowed (settings_in bytes)) (bytes_eq (bytes_of (settings_in bytes)) bytes) (ap (list_all is_allowed) again ∙ are.1) ((bytes_eq-Decides (bytes_of (settings_in bytes)) bytes).1 (ap bytes_of again ∙ is)),
    )

-- a state encodes its settings
pub state_bytes : (bytes : List ℕ) → is_state bytes ≡ true → AreSettings (settings_in bytes) × (bytes_of (settings_in bytes) ≡ bytes)
unfolding is_state settings_in
state_bytes bytes is =
    let p = both (list_all is_allowed (settings_in bytes)) (bytes_eq (bytes_of (settings_in bytes)) bytes) is in
    ((refl, p.0), (bytes_eq-Decides (bytes_of (settings_in bytes)) bytes).0 p.1)
