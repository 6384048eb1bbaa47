-- Steps over a macro's body.
use Rattle.std.proofs.Common.{◌≡◌, ℕ, ◌-◌, ◌==◌, ◌<◌, ◌≤◌, nat_lt, max, Bool, true, false, cond, if◌then◌else◌, List, [], ◌∷◌, ◌++◌, length, take, drop, take_all, refl, sym, ap, ◌∙◌, subst, arith, append_assoc, inl, inr, slice_index, Result, Ok, Err, Some, None}
use Rattle.std.proofs.lemmas.Bool.{eqb-true, cases_Bool}
use Rattle.std.proofs.lemmas.Bool.Decides.{nat_tests}
use Rattle.std.proofs.lemmas.List.{append-nil, take-append-drop, drop_all, append_cancel_right}
use Rattle.std.proofs.lemmas.Grind.{common_steps}
use Rattle.psu_lex.specs.Bytes.{opens, separates}
use Rattle.psu_lex.specs.Message.{Token, spelling, opens_first, Reads}
use Rattle.psu_lex.specs.Message.Token.{Byte, Separator, Whole, Faulty}
use Rattle.psu_lex.specs.Macros.{is_placeholder, parameter, expansion, greatest, anything, outcome, ExpandsTo}
use Rattle.psu_lex.specs.MacroScan.{begins_placeholder, Spells, Keeps, Puts}
use Rattle.psu_lex.specs.declared.scpi_error.ScpiError.{ScpiError}
use Rattle.psu_lex.specs.declared.scpi_error.ScpiError.TheVariants.{MacroParameterError, TooMuchData}
use Rattle.psu_lex.proofs.Runs.{same_head}
use Rattle.psu_lex.specs.Scan.{after_piece}
use Rattle.psu_lex.proofs.PieceScans.{none, whole}
use Rattle.psu_lex.proofs.Tokens.{same_tokens, some_tokens}

-- ---- a byte that is copied

spells_byte : (args : List (List ℕ)) (x : ℕ) (rest : List ℕ) (most : ℕ) (text : List ℕ) → opens x ≡ false → (x == 36) ≡ false
    → Spells args rest most text → Spells args (x ∷ rest) most (x ∷ text)
spells_byte args x rest most text o d (tokens, reads, m, t) = elim (cases_Bool (separates x)) [
  | inl s ↦ (Separator x ∷ tokens, (rest, refl, s, reads), m, ap (λ (z : List ℕ). x ∷ z) t)
  | inr f ↦ (Byte x ∷ tokens, (rest, refl, (f, o), reads), rw d m, rw d (ap (λ (z : List ℕ). x ∷ z) t))
]

-- ---- a `$`

no_number : (b : ℕ) (rest more : List ℕ) → begins_placeholder (36 ∷ rest) ≡ false → rest ≡ b ∷ more → is_placeholder b ≡ false
no_number b [] more f e = absurd (cc (e))
no_number b (x ∷ rest) more f e = rw (sym (same_head x b rest more e)) f

dollar_text : (args : List (List ℕ)) (rest : List ℕ) (tokens : List Token) → begins_placeholder (36 ∷ rest) ≡ false → Reads anything rest tokens
    → (greatest false tokens ≡ greatest true tokens) × (36 ∷ expansion args false tokens ≡ expansion args true tokens)
dollar_text args rest [] f r = (refl, refl)
dollar_text args rest (Byte b ∷ tokens) f r =
    let n : is_placeholder b ≡ false = no_number b rest r.0 f r.1 in
    (rw n refl, rw n refl)
dollar_text args rest (Separator b ∷ tokens) f r = (refl, refl)
dollar_text args rest (Whole p ∷ tokens) f r = (refl, refl)
dollar_text args rest (Faulty t ∷ tokens) f r = (refl, refl)

spells_dollar : (args : List (List ℕ)) (rest : List ℕ) (most : ℕ) (text : List ℕ) → begins_placeholder (36 ∷ rest) ≡ false
    → Spells args rest most text → Spells args (36 ∷ rest) most (36 ∷ text)
spells_dollar args rest most text f (tokens, reads, m, t) =
    let later = dollar_text args rest tokens f reads in
    (Byte 36 ∷ tokens, (rest, refl, (refl, refl), reads), m ∙ later.0, ap (λ (z : List ℕ). 36 ∷ z) t ∙ later.1)

pub keeps_byte : (bytes : List ℕ) → 0 < length bytes → opens_first bytes ≡ false → begins_placeholder bytes ≡ false → Keeps bytes 1
keeps_byte [] some o f args most text s = absurd (omega (arith, some))
keeps_byte (x ∷ rest) some o f args most text s = elim (cases_Bool (x == 36)) [
  | inr d ↦ spells_byte args x rest most text o d s
  | inl t ↦
      let e : x ≡ 36 = eqb-true x 36 t in
      subst (λ (z : ℕ). Spells args (z ∷ rest) most (z ∷ text)) (sym e) (spells_dollar args rest most text (subst (λ (z : ℕ). begins_placeholder (z ∷ rest) ≡ false) e f) s)
]

-- ---- a string or block

pub keeps_piece : (bytes : List ℕ) (n : ℕ) → after_piece bytes ≡ Some (drop n bytes) → Keeps bytes n
keeps_piece bytes n e args most text (tokens, reads, m, t) =
    let begun = whole bytes (drop n bytes) e in
    let front : take n bytes ≡ spelling begun.0 = append_cancel_right (take n bytes) (spelling begun.0) (drop n bytes) (take-append-drop n bytes ∙ begun.1) in
    (Whole begun.0 ∷ tokens, (drop n bytes, begun.1, (begun.2, refl), reads), m, ap (λ (z : List ℕ). z ++ text) front ∙ ap (λ (z : List ℕ). spelling begun.0 ++ z) t)

pub keeps_fault : (bytes : List ℕ) (n : ℕ) → n ≡ length bytes → opens_first bytes ≡ true → after_piece bytes ≡ None → Keeps bytes n
keeps_fault bytes n e o f args most text (tokens, reads, m, t) =
    let end : drop n bytes ≡ [] = drop_all n bytes (omega (arith, e)) in
    let empty : tokens ≡ [] = same_tokens anything (drop n bytes) tokens [] reads end in
    let nothing : text ≡ [] = t ∙ ap (expansion args false) empty in (
      Faulty bytes ∷ [],
      ([], sym (append-nil bytes), (refl, o, λ more b _. none bytes more f b), refl),
      m ∙ ap (greatest false) empty,
      ap (λ (z : List ℕ). z ++ text) (take_all n bytes (omega (arith, e))) ∙ ap (λ (z : List ℕ). bytes ++ z) nothing,
    )

-- ---- a placeholder

pub spells_placeholder : (args : List (List ℕ)) (bytes : List ℕ) (most : ℕ) (text : List ℕ) → begins_placeholder bytes ≡ true → Spells args (drop 2 bytes) most text
    → Spells args bytes (max (slice_index bytes 1 - 48) most) (parameter args (slice_index bytes 1 - 49) ++ text)
spells_placeholder args [] most text h s = absurd (cc (h))
spells_placeholder args (x ∷ []) most text h s = absurd (cc (h))
spells_placeholder args (x ∷ y ∷ rest) most text h (tokens, reads, m, t) =
    let d : (x == 36) ≡ true = grind (arith, common_steps, h) in
    let p : is_placeholder y ≡ true = grind (arith, common_steps, h) in
    let e : x ≡ 36 = eqb-true x 36 d in
    subst (λ (z : ℕ). Spells args (z ∷ y ∷ rest) (max (y - 48) most) (parameter args (y - 49) ++ text)) (sym e) (
      Byte 36 ∷ Byte y ∷ tokens,
      (y ∷ rest, refl, (refl, refl), (rest, refl, (grind (arith, nat_tests, p), grind (arith, nat_tests, p)), reads)),
      rw p (ap (max (y - 48)) m),
      rw p (ap (λ (z : List ℕ). parameter args (y - 49) ++ z) t),
    )

-- ---- the whole body

pub same_text : (args : List (List ℕ)) (bytes : List ℕ) (most more : ℕ) (text other : List ℕ) → Spells args bytes most text → Spells args bytes more other → text ≡ other
same_text args bytes most more text other s u = s.3 ∙ ap (expansion args false) (same_tokens anything bytes s.0 u.0 s.1 u.1) ∙ sym u.3

-- the result of a body, by its greatest placeholder and its expansion
pub gives : (args : List (List ℕ)) (body text other : List ℕ) (most more : ℕ) → Spells [] body most other → Spells args body more text
    → ExpandsTo body args (if most == length args then (if nat_lt 65536 (length text) then Err TooMuchData else Ok text) else Err MacroParameterError)
gives args body text other most more s (tokens, reads, m, t) =
    let same : most ≡ greatest false tokens = s.2 ∙ ap (greatest false) (same_tokens anything body s.0 tokens s.1 reads) in
    (tokens, reads, rw (same, t) refl)

-- ---- in the form of the loops

pub respelled : (args : List (List ℕ)) (bytes : List ℕ) (most more : ℕ) (text other : List ℕ) → more ≡ most → other ≡ text → Spells args bytes most text → Spells args bytes more other
respelled args bytes most more text other e f s = (s.0, s.1, e ∙ s.2, f ∙ s.3)

pub no_bytes : (bytes : List ℕ) (empty : Bool) → empty ≡ (length bytes == 0) → empty ≡ true → bytes ≡ []
no_bytes [] empty e t = refl
no_bytes (x ∷ bytes) empty e t = absurd (omega (arith, eqb-true (length (x ∷ bytes)) 0 (sym e ∙ t)))

pub spells_end : (args : List (List ℕ)) (bytes : List ℕ) (empty : Bool) → empty ≡ (length bytes == 0) → empty ≡ true → Spells args bytes 0 []
spells_end args bytes empty e t = subst (λ (z : List ℕ). Spells args z 0 []) (sym (no_bytes bytes empty e t)) ([], refl, refl, refl)

pub puts_placeholder : (args : List (List ℕ)) (bytes piece : List ℕ) → begins_placeholder bytes ≡ true → piece ≡ parameter args (slice_index bytes 1 - 49) → Puts args bytes 2 piece
puts_placeholder args bytes piece h e most text s =
    let found = spells_placeholder args bytes most text h s in
    (max (slice_index bytes 1 - 48) most, subst (λ (z : List ℕ). Spells args bytes (max (slice_index bytes 1 - 48) most) (z ++ text)) (sym e) found)

pub puts_kept : (args : List (List ℕ)) (bytes piece : List ℕ) (n : ℕ) → Keeps bytes n → piece ≡ take n bytes → Puts args bytes n piece
puts_kept args bytes piece n k e most text s = (most, subst (λ (z : List ℕ). Spells args bytes most (z ++ text)) (sym e) (k args most text s))

-- the text so far and the expansion of the rest make the expansion of all
pub put_on : (args : List (List ℕ)) (body bytes later old new piece : List ℕ) (n : ℕ)
    → ((most : ℕ) (text : List ℕ) → Spells args bytes most text → (all : ℕ) × Spells args body all (old ++ text))
    → new ≡ old ++ piece → Puts args bytes n piece → later ≡ drop n bytes
    → (most : ℕ) (text : List ℕ) → Spells args later most text → (all : ℕ) × Spells args body all (new ++ text)
put_on args body bytes later old new piece n so_far e p d most text s =
    let put = p most text (subst (λ (z : List ℕ). Spells args z most text) d s) in
    let all = so_far put.0 (piece ++ text) put.1 in
    let same : old ++ (piece ++ text) ≡ new ++ text = sym (append_assoc old piece text) ∙ ap (λ (z : List ℕ). z ++ text) (sym e) in
    (all.0, subst (Spells args body all.0) same all.1)

-- ---- too many parameters

within_nine : (b : ℕ) (most : ℕ) → is_placeholder b ≡ true → most ≤ 9 → max (b - 48) most ≤ 9
within_nine b most is le = let low : b < 58 = grind (arith, nat_tests) in omega arith

behind_dollar : (b : ℕ) (t : Bool) (later other : ℕ) → is_placeholder b ≡ t → later ≤ 9 → other ≤ 9 → cond t (max (b - 48) later) other ≤ 9
behind_dollar b true later other e le others = within_nine b later e le
behind_dollar b false later other e le others = others

-- no placeholder is greater than 9
greatest_most : (dollar : Bool) (tokens : List Token) → greatest dollar tokens ≤ 9
greatest_most true [] = omega arith
greatest_most false [] = omega arith
greatest_most true (Byte b ∷ tokens) = behind_dollar b (is_placeholder b) (greatest false tokens) (greatest (b == 36) tokens) refl (greatest_most false tokens) (greatest_most (b == 36) tokens)
greatest_most false (Byte b ∷ tokens) = greatest_most (b == 36) tokens
greatest_most true (Separator b ∷ tokens) = greatest_most false tokens
greatest_most false (Separator b ∷ tokens) = greatest_most false tokens
greatest_most true (Whole piece ∷ tokens) = greatest_most false tokens
greatest_most false (Whole piece ∷ tokens) = greatest_most false tokens
greatest_most true (Faulty text ∷ tokens) = greatest_most false tokens
greatest_most false (Faulty text ∷ tokens) = greatest_most false tokens

-- more than nine parameters are too many for every body
pub expands_many : (args : List (List ℕ)) (bytes : List ℕ) → 9 < length args → ExpandsTo bytes args (Err MacroParameterError)
expands_many args bytes lt =
    let r = some_tokens anything bytes in
    let most = greatest_most false r.0 in
    let other : (greatest false r.0 == length args) ≡ false = grind (arith, nat_tests, lt, most) in
    (r.0, r.1, rw other refl)

pub some_expansion : (body : List ℕ) (args : List (List ℕ)) → (result : Result (List ℕ) ScpiError) × ExpandsTo body args result
some_expansion body args = let r = some_tokens anything body in (outcome args r.0, (r.0, r.1, refl))
