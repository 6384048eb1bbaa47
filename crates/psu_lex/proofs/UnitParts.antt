-- A unit: its header, the text after it, and whether a text is a unit.
use Rattle.std.proofs.Common.{◌≡◌, ℕ, Bool, true, false, List, [], ◌∷◌, ◌++◌, refl, sym, ap, ◌∙◌, subst, arith, inl, inr, Option, Some, None, Result, Ok, Err, ◌⊎◌, zero, suc, ◌==◌, ◌≤◌, length, ℤ}
use Rattle.std.proofs.lemmas.Bool.Decides.{nat_tests}
use Rattle.psu_lex.specs.Bytes.{is_white, is_dark, is_closed, all_white}
use Rattle.psu_lex.specs.NumberScan.{run, left, is_number, scanned}
use Rattle.psu_lex.specs.Message.{Part, Token, Reads}
use Rattle.psu_lex.specs.Syntax.{error_of, is_name_byte, SpellsHeader, Lists, Syntax, is_apart, UnitReads, has_high, TextGives, FaultGives, SyntaxGives, Datum}
use Rattle.psu_lex.specs.Shown.{Shows, ShowsSyntax, TailLists}
use Rattle.psu_lex.specs.declared.unit.Syntax as rust
use Rattle.psu_lex.specs.declared.unit.UnitFault.{UnitFault}
use Rattle.psu_lex.specs.declared.scpi_error.ScpiError.{ScpiError}
use Rattle.psu_lex.specs.declared.scpi_error.ScpiError.TheVariants.{InvalidCharacter, SyntaxError}
use Rattle.psu_lex.proofs.Runs.{run_white, every, leads, every_head, run_at, left_at, run_left, same_head}
use Rattle.psu_lex.proofs.Tokens.{same_tokens, some_tokens}
use Rattle.psu_lex.proofs.NumberSound.{left_stops, number_in}
use Rattle.psu_lex.proofs.DataLists.{left_over, one_list, lists_in, no_list, no_tail, rest_of, tail_rest, tail_shorter}
use Rattle.std.proofs.lemmas.Bool.{not-false, cases_Bool, eqb-false, eqb-true}
use Rattle.psu_lex.specs.Number.{NumberGives, reading_of}
use Rattle.psu_lex.specs.SyntaxScan.{datum_at, is_header}
use Rattle.psu_lex.proofs.NumberFound.{no_number}
use Rattle.psu_lex.proofs.HeaderScans.{header_out, no_header, spelled_every}
use Rattle.psu_lex.proofs.PlainUnits.{unit_tells}

-- ---- a header has no white space

name_dark : (x : ℕ) → is_name_byte x ≡ true → is_dark x ≡ true
name_dark x h = grind (arith, nat_tests, h)

spelled_dark : (text : List ℕ) → SpellsHeader text → every is_dark text ≡ true
spelled_dark text spelled = spelled_every is_dark refl refl refl name_dark text spelled

spelled_first : (text rest : List ℕ) → SpellsHeader text → leads is_white (text ++ rest) ≡ false
spelled_first [] rest s = absurd (no_header [] refl s)
spelled_first (x ∷ text) rest s = grind (arith, nat_tests, every_head is_dark x text (spelled_dark (x ∷ text) s))

apart_leads : (rest : List ℕ) → is_apart rest ≡ true → leads is_dark rest ≡ false
apart_leads [] h = refl
apart_leads (x ∷ rest) h = rw h refl

-- ---- the parts of a unit are found

-- the header that is found, and the text after it
pub record Parts (text header rest : List ℕ) : Type 0 where
  pub header_is : run is_dark (left is_white text) ≡ header
  pub rest_is : left is_dark (left is_white text) ≡ rest

pub parts_of : (text : List ℕ) (s : Syntax) → (u : UnitReads text s) → Parts text s.header u.1
parts_of text s (space, rest, w, e, h, a, l) =
    let body : left is_white text ≡ s.header ++ rest = ap (left is_white) e ∙ left_over space (s.header ++ rest) w (spelled_first s.header rest h) in
    let dark = spelled_dark s.header h in
    record {
      header_is = ap (run is_dark) body ∙ run_at is_dark s.header rest dark (apart_leads rest a);
      rest_is = ap (left is_dark) body ∙ left_at is_dark s.header rest dark (apart_leads rest a);
    }

apart_at : (rest : List ℕ) → leads is_dark rest ≡ false → is_apart rest ≡ true
apart_at [] f = refl
apart_at (x ∷ rest) f = not-false (is_white x) f

pub unit_reads : (text header rest : List ℕ) (s : Syntax) → header ≡ run is_dark (left is_white text) → rest ≡ left is_dark (left is_white text) → SpellsHeader header → s.header ≡ header → Lists rest s.parameters
    → UnitReads text s
unit_reads text header rest s h r spelled e l =
    let whole : text ≡ run is_white text ++ (s.header ++ rest)
    = sym (run_left is_white text)
    ∙ ap (λ (z : List ℕ). run is_white text ++ z) (sym (run_left is_dark (left is_white text)) ∙ ap (λ (z : List ℕ). z ++ left is_dark (left is_white text)) (sym (e ∙ h)) ∙ ap (λ (z : List ℕ). s.header ++ z) (sym r)) in
    let apart = apart_at rest (subst (λ (z : List ℕ). leads is_dark z ≡ false) (sym r) (left_stops is_dark (left is_white text))) in
    (run is_white text, rest, run_white text, whole, subst SpellsHeader (sym e) spelled, apart, l)

-- ---- one syntax

same_made : (s t : Syntax) → s.header ≡ t.header → s.parameters ≡ t.parameters → s ≡ t
same_made s t h p = ap (λ (z : List ℕ). record { header = z; parameters = s.parameters }) h ∙ ap (λ z. record { header = t.header; parameters = z }) p

pub one_syntax : (text : List ℕ) (s t : Syntax) → UnitReads text s → UnitReads text t → s ≡ t
one_syntax text s t u v =
    let p = parts_of text s u in
    let q = parts_of text t v in
    same_made s t (sym p.header_is ∙ q.header_is)
    (one_list s.parameters t.parameters u.1 u.6 (subst (λ (z : List ℕ). Lists z t.parameters) (sym q.rest_is ∙ p.rest_is) v.6))

one_gives : (high : Bool) (text : List ℕ) (r q : Result Syntax ScpiError) → TextGives high text r → TextGives high text q → r ≡ q
one_gives true text r q g h = g ∙ sym h
one_gives false text r q (inl g) (inl h) = g.2 ∙ ap (λ (z : Syntax). Ok z) (one_syntax text g.0 h.0 g.1 h.1) ∙ sym h.2
one_gives false text r q (inl g) (inr h) = absurd (h.0 g.0 g.1)
one_gives false text r q (inr g) (inl h) = absurd (g.0 h.0 h.1)
one_gives false text r q (inr g) (inr h) = g.1 ∙ sym h.1

result_at : (fault : Option UnitFault) (text : List ℕ) (r q : Result Syntax ScpiError) → FaultGives fault text r → FaultGives fault text q → r ≡ q
result_at (Some e) text r q g h = g ∙ sym h
result_at None text r q (tokens, reads, g) (others, more, h) =
    let same : others ≡ tokens = same_tokens is_closed text others tokens more reads in
    one_gives (has_high tokens) text r q g (subst (λ (z : List Token). TextGives (has_high z) text q) same h)

pub one_result : (unit : Part) (r q : Result Syntax ScpiError) → SyntaxGives unit r → SyntaxGives unit q → r ≡ q
one_result unit = result_at unit.fault unit.text

-- ---- in the form of the code

-- the model of the code's result
abbrev Given : Option UnitFault → List ℕ → Result rust.Syntax ScpiError → Type 0
Given fault text shown = (given : Result Syntax ScpiError) × FaultGives fault text given × Shows shown given

pub given_fault : (fault : Option UnitFault) (text : List ℕ) (e : UnitFault) (error : ScpiError) → fault ≡ Some e → error ≡ error_of e → Given fault text (Err error)
given_fault fault text e error is same =
    subst (λ (z : Option UnitFault). Given z text (Err error)) (sym is) (Err (error_of e), refl, same)

pub given_read : (fault : Option UnitFault) (text : List ℕ) (shown : rust.Syntax) (s : Syntax) → fault ≡ None → UnitReads text s → ShowsSyntax shown s → Given fault text (Ok shown)
given_read fault text shown s is u w =
    let (tokens, reads, low) = unit_tells text s u in
    subst (λ (z : Option UnitFault). Given z text (Ok shown)) (sym is)
    (Ok s, (tokens, reads, subst (λ (z : Bool). TextGives z text (Ok s)) low (inl (s, u, refl))), w)

pub given_unread : (fault : Option UnitFault) (text : List ℕ) (tokens : List Token) → fault ≡ None → Reads is_closed text tokens → has_high tokens ≡ false → ((s : Syntax) → UnitReads text s → ⊥)
    → Given fault text (Err SyntaxError)
given_unread fault text tokens is reads f none =
    subst (λ (z : Option UnitFault). Given z text (Err SyntaxError)) (sym is)
    (Err SyntaxError, (tokens, reads, subst (λ (z : Bool). TextGives z text (Err SyntaxError)) (sym f) (inr (none, refl))), refl)

pub given_high : (fault : Option UnitFault) (text : List ℕ) (tokens : List Token) → fault ≡ None → Reads is_closed text tokens → has_high tokens ≡ true → Given fault text (Err InvalidCharacter)
given_high fault text tokens is reads h =
    subst (λ (z : Option UnitFault). Given z text (Err InvalidCharacter)) (sym is)
    (Err InvalidCharacter, (tokens, reads, subst (λ (z : Bool). TextGives z text (Err InvalidCharacter)) (sym h) refl), refl)

pub some_value : (text : List ℕ) (places : ℕ) → (value : Result ℤ ScpiError) × NumberGives text places value
some_value text places = elim (cases_Bool (is_number text)) [
  | inl t ↦ let n = number_in text t in (reading_of (scanned text) places, inl (scanned text, n.0, n.1, refl))
  | inr f ↦ (Err SyntaxError, inr (no_number text f, refl))
]

-- ---- a list

-- whether a list may continue with this text
abbrev TailDecided : List ℕ → Type 0
TailDecided tail = ((more : List Datum) × TailLists tail more) ⊎ ((more : List Datum) → TailLists tail more → ⊥)

no_comma : (x : ℕ) (text : List ℕ) (more : List Datum) → (x == 44) ≡ false → TailLists (x ∷ text) more → ⊥
no_comma x text [] f l = absurd (cc (l))
no_comma x text (d ∷ more) f (rest, e, l) = eqb-false x 44 f (same_head x 44 _ _ e)

next_decided : (x : ℕ) (text : List ℕ) (r : Option (Datum × List ℕ)) → x ≡ 44 → datum_at text ≡ r → ((tail : List ℕ) → length tail ≤ length text → TailDecided tail) → TailDecided (x ∷ text)
next_decided x text None c e again = inr (λ more l. no_tail (x ∷ text) text more (ap (λ (z : ℕ). z ∷ text) c) e l)
next_decided x text (Some (d, tail)) c e again =
    let comma = ap (λ (z : ℕ). z ∷ text) c in
    elim (again tail (tail_shorter text tail d e)) [
      | inl m ↦ inl (d ∷ m.0, (text, comma, lists_in text tail d m.0 e m.1))
      | inr none ↦ inr (λ more l. let r = tail_rest (x ∷ text) text tail d more comma e l in none r.others r.listed)
    ]

tail_decided : (n : ℕ) (tail : List ℕ) → length tail ≤ n → TailDecided tail
tail_decided n [] le = inl ([], refl)
tail_decided zero (x ∷ text) le = absurd (omega (arith, le))
tail_decided (suc n) (x ∷ text) le = elim (cases_Bool (x == 44)) [
  | inl t ↦ next_decided x text (datum_at text) (eqb-true x 44 t) refl (λ tail shorter. tail_decided n tail (omega (arith, le, shorter)))
  | inr f ↦ inr (λ more l. no_comma x text more f l)
]

list_from : (text : List ℕ) (r : Option (Datum × List ℕ)) → all_white text ≡ false → datum_at text ≡ r → ((list : List Datum) × Lists text list) ⊎ ((list : List Datum) → Lists text list → ⊥)
list_from text None f e = inr (λ list l. no_list text list f e l)
list_from text (Some (d, tail)) f e = elim (tail_decided (length tail) tail (omega arith)) [
  | inl m ↦ inl (d ∷ m.0, lists_in text tail d m.0 e m.1)
  | inr none ↦ inr (λ list l. let r = rest_of text tail d list e l in none r.others r.listed)
]

decide_list : (text : List ℕ) → ((list : List Datum) × Lists text list) ⊎ ((list : List Datum) → Lists text list → ⊥)
decide_list text = elim (cases_Bool (all_white text)) [
  | inl t ↦ inl ([], t)
  | inr f ↦ list_from text (datum_at text) f refl
]

-- ---- a unit

decide_unit : (text : List ℕ) → ((s : Syntax) × UnitReads text s) ⊎ ((s : Syntax) → UnitReads text s → ⊥)
decide_unit text =
    let header = run is_dark (left is_white text) in
    let rest = left is_dark (left is_white text) in
    elim (cases_Bool (is_header header)) [
      | inr f ↦ inr (λ s u. no_header header f (subst SpellsHeader (sym (parts_of text s u).header_is) u.4))
      | inl h ↦ elim (decide_list rest) [
        | inl l ↦ inl (record { header = header; parameters = l.0 }, unit_reads text header rest (record { header = header; parameters = l.0 }) refl refl (header_out header h) refl l.1)
        | inr none ↦ inr (λ s u. none s.parameters (subst (λ (z : List ℕ). Lists z s.parameters) (sym (parts_of text s u).rest_is) u.6))
      ]
    ]

some_gives : (high : Bool) (text : List ℕ) → (r : Result Syntax ScpiError) × TextGives high text r
some_gives true text = (Err InvalidCharacter, refl)
some_gives false text = elim (decide_unit text) [
  | inl s ↦ (Ok s.0, inl (s.0, s.1, refl))
  | inr none ↦ (Err SyntaxError, inr (none, refl))
]

result_of : (fault : Option UnitFault) (text : List ℕ) → (r : Result Syntax ScpiError) × FaultGives fault text r
result_of (Some e) text = (Err (error_of e), refl)
result_of None text =
    let tokens = some_tokens is_closed text in
    let r = some_gives (has_high tokens.0) text in
    (r.0, (tokens.0, tokens.1, r.1))

pub some_result : (unit : Part) → (r : Result Syntax ScpiError) × SyntaxGives unit r
some_result unit = result_of unit.fault unit.text
