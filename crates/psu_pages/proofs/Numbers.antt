-- Numbers of two bytes, read one by one.
use Rattle.std.proofs.Common.{◌≡◌, ℕ, zero, suc, ◌+◌, ◌*◌, ◌<◌, ◌≤◌, List, [], ◌∷◌, ◌++◌, length, get_or, take, drop, refl, sym, ◌∙◌, ap, append_assoc, arith}
use Rattle.std.proofs.lemmas.List.{append-nil, take_more}
use Rattle.std.specs.Int.{w16, to_be_bytes, from_be_bytes}
use Rattle.psu_pages.specs.Image.{words}
use Rattle.psu_pages.specs.Spelling.{spelled_words}

pub words_more : (i p : ℕ) (bytes : List ℕ) → p ≡ 2 * i → p + 2 ≤ length bytes → words (suc i) bytes ≡ words i bytes ++ from_be_bytes w16 (get_or bytes p 0 ∷ get_or bytes (suc p) 0 ∷ []) ∷ []
words_more i p [] is le = absurd (omega (arith, le))
words_more i p (a ∷ []) is le = absurd (omega (arith, le))
words_more zero zero (a ∷ b ∷ rest) is le = refl
words_more zero (suc p) (a ∷ b ∷ rest) is le = absurd (omega (arith, is))
words_more (suc i) zero (a ∷ b ∷ rest) is le = absurd (omega (arith, is))
words_more (suc i) (suc zero) (a ∷ b ∷ rest) is le = absurd (omega (arith, is))
words_more (suc i) (suc (suc p)) (a ∷ b ∷ rest) is le = ap (λ (l : List ℕ). from_be_bytes w16 (a ∷ b ∷ []) ∷ l) (words_more i p rest (omega (arith, is)) (omega (arith, le)))

-- `words_more` with its numbers given by equations
pub words_at : (i p q n : ℕ) (bytes : List ℕ) → p ≡ 2 * i → q ≡ suc p → n ≡ suc i → p + 2 ≤ length bytes → words n bytes ≡ words i bytes ++ from_be_bytes w16 (get_or bytes p 0 ∷ get_or bytes q 0 ∷ []) ∷ []
words_at i p q n bytes is next more le =
    ap (λ (m : ℕ). words m bytes) more
    ∙ words_more i p bytes is le
    ∙ ap (λ (r : ℕ). words i bytes ++ from_be_bytes w16 (get_or bytes p 0 ∷ get_or bytes r 0 ∷ []) ∷ []) (sym next)

pub length_words : (n : ℕ) (bytes : List ℕ) → length (words n bytes) ≡ n
length_words zero bytes = refl
length_words (suc n) bytes = ap suc (length_words n (drop 2 bytes))

-- one more number is encoded
spelled-append : (ns : List ℕ) (n : ℕ) → spelled_words (ns ++ n ∷ []) ≡ spelled_words ns ++ to_be_bytes w16 n
spelled-append [] n = append-nil (to_be_bytes w16 n)
spelled-append (m ∷ ns) n = ap (λ (l : List ℕ). to_be_bytes w16 m ++ l) (spelled-append ns n) ∙ sym (append_assoc (to_be_bytes w16 m) (spelled_words ns) (to_be_bytes w16 n))

pub spelled_more : (i d : ℕ) (ns : List ℕ) → i < length ns → spelled_words (take (i + 1) ns) ≡ spelled_words (take i ns) ++ to_be_bytes w16 (get_or ns i d)
spelled_more i d ns lt = ap spelled_words (take_more ns i d lt) ∙ spelled-append (take i ns) (get_or ns i d)
