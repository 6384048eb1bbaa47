-- A label or a name has no quote: the text between the quotes of its string is the label or name itself.
use Rattle.std.proofs.Common.{◌≡◌, ℕ, ◌==◌, ◌&&◌, Bool, true, false, List, [], ◌∷◌, length, refl, sym, ap, ◌∙◌, arith, inl, inr}
use Rattle.std.specs.Prelude.{Some, None, nat_le, if◌then◌else◌}
use Rattle.std.specs.List.{list_all}
use Rattle.std.proofs.lemmas.Bool.{cases_Bool}
use Rattle.std.proofs.lemmas.Bool.Decides.{nat_tests}
use Rattle.psu_lex.specs.Bytes.{is_quote}
use Rattle.psu_lex.specs.Message.{doubled}
use Rattle.psu_lex.specs.Names.{begins_with_letter, is_file_byte, is_label}
use Rattle.psu_lex.specs.Syntax.{is_name_byte}
use Rattle.psu_tree.specs.Parameters.{label_of, name_of}

-- ---- doubled quotes, for a test of bytes that no quote passes

same_byte : (x q : ℕ) → (x == q) ≡ true → x ≡ q
same_byte x q t = grind (arith, nat_tests, t)

and_right : (a b : Bool) → (a && b) ≡ true → b ≡ true
and_right true b h = h
and_right false b h = absurd (cc (h))

and_left : (a b : Bool) → (a && b) ≡ true → a ≡ true
and_left true b h = refl
and_left false b h = h

doubled_same : (test : ℕ → Bool) (q : ℕ) (xs : List ℕ) → test q ≡ false → list_all test xs ≡ true → doubled q xs ≡ xs
doubled_same test q [] f h = refl
doubled_same test q (x ∷ xs) f h = elim (cases_Bool (x == q)) [
  | inl t ↦ absurd (cc (sym (and_left (test x) (list_all test xs) h) ∙ ap test (same_byte x q t) ∙ f))
  | inr n ↦ rw n (ap (λ (z : List ℕ). x ∷ z) (doubled_same test q xs f (and_right (test x) (list_all test xs) h)))
]

doubled_none : (test : ℕ → Bool) (q : ℕ) (xs : List ℕ) → test q ≡ false → list_all test xs ≡ false → list_all test (doubled q xs) ≡ false
doubled_none test q [] f h = h
doubled_none test q (x ∷ xs) f h = elim (cases_Bool (x == q)) [
  | inl t ↦ let e : test x ≡ false = ap test (same_byte x q t) ∙ f in rw (t, e) refl
  | inr n ↦ elim (cases_Bool (test x)) [
    | inl t ↦ rw (n, t) (doubled_none test q xs f (rw t at h))
    | inr e ↦ rw (n, e) refl
  ]
]

-- ---- labels

quote_name : (q : ℕ) → is_quote q ≡ true → is_name_byte q ≡ false
quote_name q h = grind (arith, nat_tests, h)

quote_file : (q : ℕ) → is_quote q ≡ true → is_file_byte q ≡ false
quote_file q h = grind (arith, nat_tests, h)

and_false : (a b : Bool) → b ≡ false → (a && b) ≡ false
and_false true b f = f
and_false false b f = refl

no_label : (text : List ℕ) → list_all is_name_byte text ≡ false → label_of text ≡ None
no_label text f =
    let e : is_label text ≡ false = and_false (begins_with_letter text) (list_all is_name_byte text && nat_le (length text) 12) (rw f refl) in
    ap (λ (b : Bool). if b then Some text else None) e

pub label_doubled : (q : ℕ) (text : List ℕ) → is_quote q ≡ true → label_of (doubled q text) ≡ label_of text
label_doubled q text h = elim (cases_Bool (list_all is_name_byte text)) [
  | inl t ↦ ap label_of (doubled_same is_name_byte q text (quote_name q h) t)
  | inr f ↦ no_label (doubled q text) (doubled_none is_name_byte q text (quote_name q h) f) ∙ sym (no_label text f)
]

-- ---- file names

no_name : (text : List ℕ) → list_all is_file_byte text ≡ false → name_of text ≡ None
no_name text f = rw f refl

pub name_doubled : (q : ℕ) (text : List ℕ) → is_quote q ≡ true → name_of (doubled q text) ≡ name_of text
name_doubled q text h = elim (cases_Bool (list_all is_file_byte text)) [
  | inl t ↦ ap name_of (doubled_same is_file_byte q text (quote_file q h) t)
  | inr f ↦ no_name (doubled q text) (doubled_none is_file_byte q text (quote_file q h) f) ∙ sym (no_name text f)
]
