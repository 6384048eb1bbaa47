-- Every list of bytes has exactly one list of tokens.
use Rattle.std.proofs.Common.{◌≡◌, ℕ, zero, suc, ◌+◌, ◌-◌, ◌≤◌, Bool, true, false, List, [], ◌∷◌, ◌++◌, length, take, refl, sym, ap, ◌∙◌, subst, arith, inl, inr, length-append, Option, Some, None, if◌then◌else◌}
use Rattle.std.proofs.lemmas.Bool.{cases_Bool}
use Rattle.std.proofs.lemmas.Bool.Decides.{nat_tests}
use Rattle.std.proofs.lemmas.List.{append-nil}
use Rattle.std.proofs.Math.Seq.{take-append_seam}
use Rattle.std.proofs.lemmas.Option.{some_pair_parts}
use Rattle.psu_lex.specs.Bytes.{is_closed, opens, separates}
use Rattle.psu_lex.specs.Message.{Piece, spelling, opens_first, IsWhole, Token, text_of, IsValidBefore, Reads, HasNoPiece, IsMessage, Part, units_of}
use Rattle.psu_lex.specs.Message.Piece.{Quoted, Counted, Open}
use Rattle.psu_lex.specs.Message.Token.{Byte, Separator, Whole, Faulty}
use Rattle.psu_lex.specs.Scan.{after_piece}
use Rattle.psu_lex.proofs.PieceScans.{found, none, piece_is, piece_of, shorter, unclosed, whole}

-- ---- the first token is found

abbrev piece_token : (List ℕ → Bool) → List ℕ → Option (List ℕ) → Token × List ℕ
piece_token f text None = (Faulty text, [])
piece_token f text (Some more) = if f more then (Whole (piece_of (take (length text - length more) text)), more) else (Faulty text, [])

abbrev next_token : (List ℕ → Bool) → List ℕ → Option (Token × List ℕ)
next_token f [] = None
next_token f (x ∷ xs) = Some (if opens x then piece_token f (x ∷ xs) (after_piece (x ∷ xs)) else (if separates x then Separator x else Byte x, xs))

piece_opens : (p : Piece) (more : List ℕ) → IsWhole p more → opens_first (spelling p ++ more) ≡ true
piece_opens (Quoted q content) more w = grind (arith, nat_tests, w.0)
piece_opens (Counted d content) more w = refl
piece_opens (Open content) more w = refl

opened : (f : List ℕ → Bool) (text : List ℕ) → opens_first text ≡ true → next_token f text ≡ Some (piece_token f text (after_piece text))
opened f [] o = absurd (cc (o))
opened f (x ∷ text) o = rw o refl

faulty : (f : List ℕ → Bool) (text : List ℕ) (r : Option (List ℕ)) → after_piece text ≡ r → HasNoPiece f text → piece_token f text r ≡ (Faulty text, [])
faulty f text None e n = refl
faulty f text (Some more) e n = elim (cases_Bool (f more)) [
  | inl t ↦ absurd (n more (whole text more e) t)
  | inr g ↦ rw g refl
]

next_is : (f : List ℕ → Bool) (token : Token) (more : List ℕ) → IsValidBefore f token more → next_token f (text_of token ++ more) ≡ Some (token, more)
next_is f (Byte b) more (s, o) = rw (o, s) refl
next_is f (Separator b) more s =
    let plain : opens b ≡ false = grind (arith, nat_tests, s) in
    rw (plain, s) refl
next_is f (Whole p) more (w, h) =
    let n : length (spelling p ++ more) - length more ≡ length (spelling p) = omega (arith, length-append (spelling p) more) in
    opened f (spelling p ++ more) (piece_opens p more w) ∙ rw (found p more w, h, n, take-append_seam (spelling p) more, piece_is p more w) refl
next_is f (Faulty text) more (e, o, n) = rw (e, append-nil text) (opened f text o ∙ ap (λ (z : Token × List ℕ). Some z) (faulty f text (after_piece text) refl n))

pub same_tokens : (f : List ℕ → Bool) (bytes : List ℕ) (ts us : List Token) → Reads f bytes ts → Reads f bytes us → ts ≡ us
same_tokens f bytes [] [] r s = refl
same_tokens f bytes [] (u ∷ us) r (y, e, k, s) = absurd (cc (ap (next_token f) (sym r ∙ e) ∙ next_is f u y k))
same_tokens f bytes (t ∷ ts) [] (x, e, h, r) s = absurd (cc (ap (next_token f) (sym s ∙ e) ∙ next_is f t x h))
same_tokens f bytes (t ∷ ts) (u ∷ us) (x, e, h, r) (y, d, k, s) =
    let same = some_pair_parts t u x y (sym (next_is f t x h) ∙ ap (next_token f) (sym e ∙ d) ∙ next_is f u y k) in
    let later = same_tokens f x ts us r (subst (λ (z : List ℕ). Reads f z us) (sym same.1) s) in
    cc (same.0, later)

-- ---- every list of bytes has tokens

tokens_of : (f : List ℕ → Bool) (text : List ℕ) (r : Option (List ℕ)) → ((more : List ℕ) → 2 + length more ≤ length text → (ts : List Token) × Reads f more ts) → opens_first text ≡ true
    → after_piece text ≡ r → (ts : List Token) × Reads f text ts
tokens_of f text None again o e = (Faulty text ∷ [], ([], sym (append-nil text), (refl, o, λ more b _. none text more e b), refl))
tokens_of f text (Some more) again o e = elim (cases_Bool (f more)) [
  | inr g ↦ (Faulty text ∷ [], ([], sym (append-nil text), (refl, o, unclosed f text more e g), refl))
  | inl h ↦
      let b = whole text more e in
      let later = again more (shorter text more b) in
      (Whole b.0 ∷ later.0, (more, b.1, (b.2, h), later.1))
]

tokens_within : (f : List ℕ → Bool) (n : ℕ) (bytes : List ℕ) → length bytes ≤ n → (ts : List Token) × Reads f bytes ts
tokens_within f n [] le = ([], refl)
tokens_within f zero (x ∷ bytes) le = absurd (omega (arith, le))
tokens_within f (suc n) (x ∷ bytes) le = elim (cases_Bool (opens x)) [
  | inl t ↦ tokens_of f (x ∷ bytes) (after_piece (x ∷ bytes)) (λ more lt. tokens_within f n more (omega (arith, le, lt))) t refl
  | inr plain ↦
      let later = tokens_within f n bytes (omega (arith, le)) in
      elim (cases_Bool (separates x)) [
        | inl t ↦ (Separator x ∷ later.0, (bytes, refl, t, later.1))
        | inr g ↦ (Byte x ∷ later.0, (bytes, refl, (g, plain), later.1))
      ]
]

pub some_tokens : (f : List ℕ → Bool) (bytes : List ℕ) → (ts : List Token) × Reads f bytes ts
some_tokens f bytes = tokens_within f (length bytes) bytes (omega arith)

pub some_units : (bytes : List ℕ) → (units : List Part) × IsMessage bytes units
some_units bytes = let r = some_tokens is_closed bytes in (units_of true [] r.0, (r.0, r.1, refl))
