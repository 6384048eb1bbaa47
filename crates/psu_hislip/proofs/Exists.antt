-- Every stream of bytes can be cut into messages.
use Rattle.std.proofs.Common.{◌≡◌, ◌≢◌, ◌⊎◌, ℕ, zero, suc, ◌+◌, ◌<◌, ◌≤◌, ◌^◌, List, [], ◌∷◌, ◌++◌, length, take, drop, get_or, refl, sym, ap, ◌∙◌, subst, arith, inl, inr, length-drop, All}
use Rattle.std.proofs.lemmas.Bool.{cases_lt, cases_eq}
use Rattle.std.proofs.lemmas.List.{append-nil, take-append-drop, length-take-le, get_or-drop, get_or-take}
use Rattle.std.specs.Int.{w32, w64, from_be_bytes}
use Rattle.psu_hislip.specs.declared.header.Header.{Header}
use Rattle.psu_hislip.specs.Header.{header_bytes, Fits}
use Rattle.psu_hislip.specs.Stream.{Received, IsStream}
use Rattle.psu_hislip.specs.Stream.Received.{Frame, Oversize, BadHeader}
use Rattle.psu_hislip.proofs.Headers.{none_fits, read_bytes}
use Rattle.psu_hislip.proofs.Channels.{none_short, none_begun}

abbrev AreBytes : List ℕ → Type 0
AreBytes xs = (i : ℕ) → get_or xs i 0 < 256

bytes_front : (n : ℕ) (xs : List ℕ) → AreBytes xs → AreBytes (take n xs)
bytes_front zero xs f i = none_fits i
bytes_front (suc n) [] f i = none_fits i
bytes_front (suc n) (x ∷ xs) f zero = f 0
bytes_front (suc n) (x ∷ xs) f (suc i) = bytes_front n xs (λ k. f (suc k)) i

bytes_back : (n : ℕ) (xs : List ℕ) → AreBytes xs → AreBytes (drop n xs)
bytes_back n xs f i = subst (λ (z : ℕ). z < 256) (sym (get_or-drop n xs i 0)) (f (n + i))

bytes_all : (xs : List ℕ) → All (λ byte. byte < 256) xs → AreBytes xs
bytes_all [] a i = none_fits i
bytes_all (x ∷ xs) a zero = a 0 0 (omega arith)
bytes_all (x ∷ xs) a (suc i) = bytes_all xs (λ k d h. a (suc k) d (omega (arith, h))) i

four_bytes : (a b c d : ℕ) → a < 256 → b < 256 → c < 256 → d < 256 → from_be_bytes w32 (a ∷ b ∷ c ∷ d ∷ []) < 2 ^ 32
four_bytes a b c d p q r s = omega arith

eight_bytes : (a b c d e f g h : ℕ) → a < 256 → b < 256 → c < 256 → d < 256 → e < 256 → f < 256 → g < 256 → h < 256
    → from_be_bytes w64 (a ∷ b ∷ c ∷ d ∷ e ∷ f ∷ g ∷ h ∷ []) < 2 ^ 64
eight_bytes a b c d e f g h p q r s t u v w = omega arith

header_at : (bytes : List ℕ) → 16 ≤ length bytes → AreBytes bytes → get_or bytes 0 0 ≡ 72 → get_or bytes 1 0 ≡ 83
    → (h : Header) × Fits h × (bytes ≡ header_bytes h ++ drop 16 bytes)
header_at bytes many f x y =
    let t = take 16 bytes in
    let g : AreBytes t = bytes_front 16 bytes f in
    let p = from_be_bytes w32 (get_or t 4 0 ∷ get_or t 5 0 ∷ get_or t 6 0 ∷ get_or t 7 0 ∷ []) in
    let n = from_be_bytes w64 (get_or t 8 0 ∷ get_or t 9 0 ∷ get_or t 10 0 ∷ get_or t 11 0 ∷ get_or t 12 0 ∷ get_or t 13 0 ∷ get_or t 14 0 ∷ get_or t 15 0 ∷ []) in
    let e = read_bytes t p n (length-take-le 16 bytes many) g (get_or-take 16 bytes 0 0 (omega arith) ∙ x) (get_or-take 16 bytes 1 0 (omega arith) ∙ y) refl refl in (
      record { kind = get_or t 2 0; control = get_or t 3 0; parameter = p; length = n },
      (g 2, g 3, four_bytes _ _ _ _ (g 4) (g 5) (g 6) (g 7), eight_bytes _ _ _ _ _ _ _ _ (g 8) (g 9) (g 10) (g 11) (g 12) (g 13) (g 14) (g 15)),
      sym (take-append-drop 16 bytes) ∙ ap (λ (z : List ℕ). z ++ drop 16 bytes) (sym e),
    )

has_header : (bytes : List ℕ) → 16 ≤ length bytes → AreBytes bytes
    → (take 2 bytes ≢ 72 ∷ 83 ∷ []) ⊎ ((h : Header) × Fits h × (bytes ≡ header_bytes h ++ drop 16 bytes))
has_header [] many f = absurd (omega (arith, many))
has_header (a ∷ []) many f = absurd (omega (arith, many))
has_header (a ∷ b ∷ more) many f =
    elim (cases_eq a 72) [
      | inl x ↦ elim (cases_eq b 83) [
        | inl y ↦ inr (header_at (a ∷ b ∷ more) many f x y)
        | inr other ↦ inl (λ e. other (ap (λ (z : List ℕ). get_or z 1 0) e))
      ]
      | inr other ↦ inl (λ e. other (ap (λ (z : List ℕ). get_or z 0 0) e))
    ]

abbrev Some_messages : List ℕ → Type 0
Some_messages bytes = (ms : List Received) × IsStream bytes ms

none_left : IsStream [] []
none_left = none_short [] (omega arith)

parts : (h : Header) (bytes rest : List ℕ) → bytes ≡ header_bytes h ++ rest → bytes ≡ header_bytes h ++ (take h.length rest ++ drop h.length rest)
parts h bytes rest e = e ∙ ap (λ (z : List ℕ). header_bytes h ++ z) (sym (take-append-drop h.length rest))

small_frame : (h : Header) (bytes rest : List ℕ) → Fits h → bytes ≡ header_bytes h ++ rest → h.length ≤ 65536 → ((xs : List ℕ) → length xs ≤ length rest → AreBytes xs → Some_messages xs)
    → AreBytes rest → Some_messages bytes
small_frame h bytes rest fits e small again f =
    elim (cases_lt (length rest) h.length) [
      | inl part ↦ ([], subst (λ (z : List ℕ). IsStream z []) (sym e) (none_begun h rest fits part small))
      | inr whole ↦
          let later = again (drop h.length rest) (omega (arith, length-drop h.length rest)) (bytes_back h.length rest f) in
          (Frame h (take h.length rest) ∷ later.0, (drop h.length rest, (fits, parts h bytes rest e, length-take-le h.length rest whole, small), later.1))
    ]

big_frame : (h : Header) (bytes rest : List ℕ) → Fits h → bytes ≡ header_bytes h ++ rest → 65536 < h.length → ((xs : List ℕ) → length xs ≤ length rest → AreBytes xs → Some_messages xs)
    → AreBytes rest → Some_messages bytes
big_frame h bytes rest fits e big again f =
    elim (cases_lt (length rest) h.length) [
      | inl part ↦ (Oversize h ∷ [], ([], (fits, big, (rest, e ∙ ap (λ (z : List ℕ). header_bytes h ++ z) (sym (append-nil rest)), inr (part, refl))), none_left))
      | inr whole ↦
          let later = again (drop h.length rest) (omega (arith, length-drop h.length rest)) (bytes_back h.length rest f) in
          (Oversize h ∷ later.0, (drop h.length rest, (fits, big, (take h.length rest, parts h bytes rest e, inl (length-take-le h.length rest whole))), later.1))
    ]

step : (n : ℕ) (bytes : List ℕ) → length bytes ≤ suc n → 16 ≤ length bytes → AreBytes bytes → ((xs : List ℕ) → length xs ≤ n → AreBytes xs → Some_messages xs) → Some_messages bytes
step n bytes short many f again =
    elim (has_header bytes many f) [
      | inl bad ↦ (BadHeader ∷ [], ([], (many, bad, refl), none_left))
      | inr h ↦
          let rest = drop 16 bytes in
          let later : (xs : List ℕ) → length xs ≤ length rest → AreBytes xs → Some_messages xs =
          λ xs fewer g. again xs (omega (arith, fewer, short, many, length-drop 16 bytes)) g in
          elim (cases_lt 65536 h.0.length) [
            | inl big ↦ big_frame h.0 bytes rest h.1 h.2 big later (bytes_back 16 bytes f)
            | inr small ↦ small_frame h.0 bytes rest h.1 h.2 small later (bytes_back 16 bytes f)
          ]
    ]

bounded : (n : ℕ) (bytes : List ℕ) → length bytes ≤ n → AreBytes bytes → Some_messages bytes
bounded zero bytes short f = ([], none_short bytes (omega (arith, short)))
bounded (suc n) bytes short f =
    elim (cases_lt (length bytes) 16) [
      | inl few ↦ ([], none_short bytes few)
      | inr many ↦ step n bytes short many f (λ xs fewer g. bounded n xs fewer g)
    ]

pub some_messages : (bytes : List ℕ) → All (λ byte. byte < 256) bytes → (ms : List Received) × IsStream bytes ms
some_messages bytes a = bounded (length bytes) bytes (omega arith) (bytes_all bytes a)
