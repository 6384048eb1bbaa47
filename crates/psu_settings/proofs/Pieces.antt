-- The bytes of the outputs one after another, seven for each.
use Rattle.std.proofs.Common.{◌≡◌, ℕ, zero, suc, ◌+◌, ◌*◌, ◌<◌, true, List, [], ◌∷◌, ◌++◌, length, get_or, take, drop, set, refl, sym, ◌∙◌, ap, arith, length-set}
use Rattle.std.specs.List.{list_all}
use Rattle.std.proofs.Math.Seq.{take-add, take-length}
use Rattle.std.proofs.lemmas.Grind.{flat_map-append}
use Rattle.std.proofs.lemmas.List.{append-nil, take_more_set}
use Rattle.psu_lex.proofs.Searches.{drop-add}
use Rattle.psu_settings.specs.declared.output_settings.OutputSettings.{OutputSettings}
use Rattle.psu_settings.specs.Settings.{is_allowed, output_bytes, bytes_of}
use Rattle.psu_settings.proofs.Ranges.{all_pass}

pub piece : (outputs : List OutputSettings) (k : ℕ) (d : OutputSettings) → k < length outputs → take 7 (drop (7 * k) (bytes_of outputs)) ≡ output_bytes (get_or outputs k d)
piece [] k d lt = absurd (omega (arith, lt))
piece (o ∷ outputs) zero d lt = refl
piece (o ∷ outputs) (suc k) d lt =
    let next : 7 * suc k ≡ 7 + 7 * k = omega arith in
    ap (λ (n : ℕ). take 7 (drop n (bytes_of (o ∷ outputs)))) next
    ∙ ap (take 7) (drop-add 7 (7 * k) (bytes_of (o ∷ outputs)))
    ∙ piece outputs k d (omega (arith, lt))

pub size : (outputs : List OutputSettings) → length (bytes_of outputs) ≡ 7 * length outputs
size [] = refl
size (o ∷ outputs) = let rest = size outputs in omega (arith, rest)

pub one_more : (outputs : List OutputSettings) (k : ℕ) (d : OutputSettings) → k < length outputs → bytes_of (take (k + 1) outputs) ≡ bytes_of (take k outputs) ++ output_bytes (get_or outputs k d)
one_more [] k d lt = absurd (omega (arith, lt))
one_more (o ∷ outputs) zero d lt = refl
one_more (o ∷ outputs) (suc k) d lt =
    let next : suc k + 1 ≡ suc (k + 1) = omega arith in
    ap (λ (n : ℕ). bytes_of (take n (o ∷ outputs))) next ∙ ap (λ (l : List ℕ). output_bytes o ++ l) (one_more outputs k d (omega (arith, lt)))

-- the settings that were read from the first bytes, with those of outputs that are not read yet
abbrev pub AreRead : List ℕ → ℕ → List OutputSettings → Type 0
AreRead bytes k outputs = (length outputs ≡ 4) × (list_all is_allowed outputs ≡ true) × (bytes_of (take k outputs) ≡ take (7 * k) bytes)

pub read_more : (bytes : List ℕ) (k : ℕ) (outputs : List OutputSettings) (o : OutputSettings) → AreRead bytes k outputs → k < 4 → is_allowed o ≡ true → output_bytes o ≡ take 7 (drop (7 * k) bytes) → AreRead bytes (k + 1) (set outputs k o)
read_more bytes k outputs o are lt allowed found =
    let inside : k < length outputs = omega (arith, lt, are.0) in
    let next : 7 * (k + 1) ≡ 7 * k + 7 = omega arith in (
      length-set outputs k o ∙ are.0,
      all_pass is_allowed outputs k o are.1 allowed,
      ap bytes_of (take_more_set outputs k o inside) ∙ flat_map-append output_bytes (take k outputs) (o ∷ []) ∙ joined (bytes_of (take k outputs)) (take (7 * k) bytes) (output_bytes o) (take 7 (drop (7 * k) bytes)) are.2 found
          ∙ sym (take-add (7 * k) 7 bytes) ∙ ap (λ (n : ℕ). take n bytes) (sym next),
    )
  where
    joined : (a b c d : List ℕ) → a ≡ b → c ≡ d → a ++ (c ++ []) ≡ b ++ d
    joined a b c d e f = ap (λ (l : List ℕ). l ++ (c ++ [])) e ∙ ap (λ (l : List ℕ). b ++ l) (append-nil c ∙ f)

pub all_read : (bytes : List ℕ) (outputs : List OutputSettings) → AreRead bytes 4 outputs → length bytes ≡ 28 → bytes_of outputs ≡ bytes
all_read bytes outputs are long =
    ap bytes_of (sym (ap (λ (n : ℕ). take n outputs) (sym are.0) ∙ take-length outputs)) ∙ are.2 ∙ ap (λ (n : ℕ). take n bytes) (sym long) ∙ take-length bytes
