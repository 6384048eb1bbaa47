-- Headers and their bytes.
use Rattle.std.proofs.Common.{◌≡◌, ℕ, zero, suc, ◌<◌, List, [], ◌∷◌, ◌++◌, length, get_or, take, drop, refl, sym, ap, ◌∙◌, arith}
use Rattle.std.specs.Int.{w32, w64, to_be_bytes, from_be_bytes}
use Rattle.std.proofs.lemmas.Nat.{from_be_bytes-to_be_bytes_4, from_be_bytes-to_be_bytes_8, be_bytes_4, be_bytes_8}
use Rattle.psu_hislip.specs.declared.header.Header.{Header}
use Rattle.psu_hislip.specs.Header.{header_bytes, Fits}

pub length-header_bytes : (h : Header) → length (header_bytes h) ≡ 16
unfolding header_bytes
length-header_bytes h = refl

abbrev header : ℕ → ℕ → ℕ → ℕ → Header
header kind control parameter n = record { kind = kind; control = control; parameter = parameter; length = n }

same_fields : (h k : Header) → h.kind ≡ k.kind → h.control ≡ k.control → h.parameter ≡ k.parameter → h.length ≡ k.length → h ≡ k
same_fields h k a b c d =
    ap (λ z. header z h.control h.parameter h.length) a ∙ ap (λ z. header k.kind z h.parameter h.length) b
    ∙ ap (λ z. header k.kind k.control z h.length) c ∙ ap (λ z. header k.kind k.control k.parameter z) d

-- a list begins with at most one header
pub same_header : (h k : Header) (x y : List ℕ) → Fits h → Fits k → header_bytes h ++ x ≡ header_bytes k ++ y → (h ≡ k) × (x ≡ y)
unfolding header_bytes
same_header h k x y f g e =
    let p : to_be_bytes w32 h.parameter ≡ to_be_bytes w32 k.parameter = ap (λ (z : List ℕ). take 4 (drop 4 z)) e in
    let n : to_be_bytes w64 h.length ≡ to_be_bytes w64 k.length = ap (λ (z : List ℕ). take 8 (drop 8 z)) e in (
      same_fields h k (ap (λ (z : List ℕ). get_or z 2 0) e) (ap (λ (z : List ℕ). get_or z 3 0) e)
          (sym (from_be_bytes-to_be_bytes_4 h.parameter f.2) ∙ ap (from_be_bytes w32) p ∙ from_be_bytes-to_be_bytes_4 k.parameter g.2)
          (sym (from_be_bytes-to_be_bytes_8 h.length f.3) ∙ ap (from_be_bytes w64) n ∙ from_be_bytes-to_be_bytes_8 k.length g.3),
      ap (drop 16) e,
    )

pub first_of_header : (h : Header) (bs : List ℕ) → bs ≡ header_bytes h → (get_or bs 0 0 ≡ 72) × (get_or bs 1 0 ≡ 83)
unfolding header_bytes
first_of_header h bs e = (ap (λ (z : List ℕ). get_or z 0 0) e, ap (λ (z : List ℕ). get_or z 1 0) e)

pub none_fits : (i : ℕ) → get_or [] i 0 < 256
none_fits zero = omega arith
none_fits (suc i) = omega arith

one_fits : (x : ℕ) (xs : List ℕ) → x < 256 → ((i : ℕ) → get_or xs i 0 < 256) → (i : ℕ) → get_or (x ∷ xs) i 0 < 256
one_fits x xs a b zero = a
one_fits x xs a b (suc i) = b i

four_fit : (a b c d : ℕ) → a < 256 → b < 256 → c < 256 → d < 256 → (i : ℕ) → get_or (a ∷ b ∷ c ∷ d ∷ []) i 0 < 256
four_fit a b c d p q r s = one_fits a (b ∷ c ∷ d ∷ []) p (one_fits b (c ∷ d ∷ []) q (one_fits c (d ∷ []) r (one_fits d [] s none_fits)))

-- sixteen bytes that begin with `HS` encode a header
pub read_bytes : (bs : List ℕ) (p n : ℕ) → length bs ≡ 16 → ((i : ℕ) → get_or bs i 0 < 256) → get_or bs 0 0 ≡ 72 → get_or bs 1 0 ≡ 83
    → p ≡ from_be_bytes w32 (get_or bs 4 0 ∷ get_or bs 5 0 ∷ get_or bs 6 0 ∷ get_or bs 7 0 ∷ [])
    → n ≡ from_be_bytes w64 (get_or bs 8 0 ∷ get_or bs 9 0 ∷ get_or bs 10 0 ∷ get_or bs 11 0 ∷ get_or bs 12 0 ∷ get_or bs 13 0 ∷ get_or bs 14 0 ∷ get_or bs 15 0 ∷ [])
    → header_bytes (record { kind = get_or bs 2 0; control = get_or bs 3 0; parameter = p; length = n }) ≡ bs
unfolding header_bytes
read_bytes (x0 ∷ x1 ∷ x2 ∷ x3 ∷ x4 ∷ x5 ∷ x6 ∷ x7 ∷ x8 ∷ x9 ∷ x10 ∷ x11 ∷ x12 ∷ x13 ∷ x14 ∷ x15 ∷ []) p n l fits h s e f =
    let parameter = be_bytes_4 (x4 ∷ x5 ∷ x6 ∷ x7 ∷ []) p refl (four_fit x4 x5 x6 x7 (fits 4) (fits 5) (fits 6) (fits 7)) e in
    let count = be_bytes_8 (x8 ∷ x9 ∷ x10 ∷ x11 ∷ x12 ∷ x13 ∷ x14 ∷ x15 ∷ []) n refl
    (one_fits x8 (x9 ∷ x10 ∷ x11 ∷ x12 ∷ x13 ∷ x14 ∷ x15 ∷ []) (fits 8) (one_fits x9 (x10 ∷ x11 ∷ x12 ∷ x13 ∷ x14 ∷ x15 ∷ []) (fits 9)
    (one_fits x10 (x11 ∷ x12 ∷ x13 ∷ x14 ∷ x15 ∷ []) (fits 10) (one_fits x11 (x12 ∷ x13 ∷ x14 ∷ x15 ∷ []) (fits 11)
    (four_fit x12 x13 x14 x15 (fits 12) (fits 13) (fits 14) (fits 15)))))) f in
    ap (λ (z : ℕ). z ∷ 83 ∷ x2 ∷ x3 ∷ (to_be_bytes w32 p ++ to_be_bytes w64 n)) (sym h)
    ∙ ap (λ (z : ℕ). x0 ∷ z ∷ x2 ∷ x3 ∷ (to_be_bytes w32 p ++ to_be_bytes w64 n)) (sym s)
    ∙ ap (λ (z : List ℕ). x0 ∷ x1 ∷ x2 ∷ x3 ∷ (z ++ to_be_bytes w64 n)) parameter
    ∙ ap (λ (z : List ℕ). x0 ∷ x1 ∷ x2 ∷ x3 ∷ x4 ∷ x5 ∷ x6 ∷ x7 ∷ z) count
read_bytes bs p n l fits h s e f = absurd (omega (arith, l))

-- they encode no other header
pub read_one : (h k : Header) (bs : List ℕ) → Fits h → Fits k → header_bytes h ≡ bs → bs ≡ header_bytes k → h ≡ k
read_one h k bs f g d e =
    let both : header_bytes h ++ [] ≡ header_bytes k ++ [] = ap (λ (z : List ℕ). z ++ []) (d ∙ e) in
    (same_header h k [] [] f g both).0

pub header_begins : (h : Header) (x : List ℕ) → take 2 (header_bytes h ++ x) ≡ 72 ∷ 83 ∷ []
unfolding header_bytes
header_begins h x = refl
