-- Strings and blocks: what their scan leaves is what follows a whole one, and a text has one content.
use Rattle.std.proofs.Common.{◌≡◌, ℕ, zero, suc, ◌+◌, ◌-◌, ◌==◌, ◌<◌, ◌≤◌, Bool, true, false, List, [], ◌∷◌, ◌++◌, length, take, drop, refl, sym, ap, ◌∙◌, subst, arith, append_assoc, inl, inr, length-append, slice_index, Option, Some, None, if◌then◌else◌, nat_lt, nat_le, ◌||◌, ◌&&◌, length-drop}
use Rattle.std.proofs.lemmas.Bool.{and_parts, cases_Bool, eq-eqb, eqb-true, or_parts, or_from, eqb-false}
use Rattle.std.proofs.lemmas.Bool.Decides.{nat_tests}
use Rattle.std.proofs.lemmas.List.{append-nil, append_cancel_right, take-append-drop, drop_all}
use Rattle.std.proofs.lemmas.Option.{cond_some, same_Some}
use Rattle.std.proofs.lemmas.Grind.{common_steps}
use Rattle.std.proofs.Math.Seq.{take-append_seam, drop-append_seam}
use Rattle.psu_lex.specs.Bytes.{all_digits, ends_in_newline, has_newline, is_quote, starts, starts_quoted, value_after}
use Rattle.psu_lex.specs.Data.{IsStringOf, IsBlockOf, IsDatumOf}
use Rattle.psu_lex.specs.Message.{Piece, doubled, spelling, IsWhole, BeginsPiece, EndsString, HasNoPiece}
use Rattle.psu_lex.specs.Message.Piece.{Quoted, Counted, Open}
use Rattle.psu_lex.specs.Scan.{after_string, after_counted, after_block, after_piece, is_spent, is_string, single, quoted}
use Rattle.psu_lex.proofs.Runs.{both, same_head, same_tail}
use Rattle.psu_lex.proofs.Searches.{drop-add}

-- ---- what follows a whole one is the rest

pub no_hash : (q : ℕ) → is_quote q ≡ true → (q == 35) ≡ false
no_hash q h = grind (arith, nat_tests, h)

string_found : (q : ℕ) (content more : List ℕ) → has_newline content ≡ false → starts q more ≡ false → after_string false q (doubled q content ++ q ∷ more) ≡ Some more
string_found q [] [] n s = rw (eq-eqb q q refl) refl
string_found q [] (x ∷ more) n s = rw (eq-eqb q q refl, s) refl
string_found q (x ∷ content) more n s =
    let clean = or_parts (x == 10) (has_newline content) n in
    elim (cases_Bool (x == q)) [
      | inl t ↦ rw (t, eq-eqb q q refl) (string_found q content more clean.1 s)
      | inr f ↦ rw (f, clean.0) (string_found q content more clean.1 s)
    ]

counted_found : (n : ℕ) (d c more : List ℕ) → n ≡ length d → all_digits d ≡ true → length c ≡ value_after 0 d → after_counted n (d ++ (c ++ more)) ≡ Some more
counted_found n d c more e h v =
    let front : take n (d ++ (c ++ more)) ≡ d = rw e (take-append_seam d (c ++ more)) in
    let back : drop n (d ++ (c ++ more)) ≡ c ++ more = rw e (drop-append_seam d (c ++ more)) in
    let long : nat_le n (length (d ++ (c ++ more))) ≡ true = grind (arith, nat_tests, common_steps, e) in
    let fits : nat_le (value_after 0 d) (length (c ++ more)) ≡ true = grind (arith, nat_tests, common_steps, v) in
    let left : drop (n + value_after 0 d) (d ++ (c ++ more)) ≡ more = drop-add n (value_after 0 d) (d ++ (c ++ more)) ∙ rw (back, ← v) (drop-append_seam c more) in
    rw (long, front, h, back, fits, left) refl

line_left : (x : ℕ) (xs : List ℕ) → drop (length (xs ++ 10 ∷ [])) (x ∷ (xs ++ 10 ∷ [])) ≡ 10 ∷ []
line_left x [] = refl
line_left x (y ∷ xs) = line_left y xs

ends_line : (xs : List ℕ) → ends_in_newline (xs ++ 10 ∷ []) ≡ true
ends_line [] = refl
ends_line (x ∷ []) = refl
ends_line (x ∷ y ∷ xs) = ends_line (y ∷ xs)

pub found : (p : Piece) (more : List ℕ) → IsWhole p more → after_piece (spelling p ++ more) ≡ Some more
found (Quoted q content) more w = rw (no_hash q w.0, w.0, append_assoc (doubled q content) (q ∷ []) more) (string_found q content more w.1 w.2)
found (Counted d content) more w =
    let other : (48 + length d == 48) ≡ false = grind (arith, nat_tests, w.0) in
    let low : nat_lt (48 + length d) 49 ≡ false = grind (arith, nat_tests, w.0) in
    let high : nat_lt 57 (48 + length d) ≡ false = grind (arith, nat_tests, w.1) in
    rw (other, low, high, append_assoc d content more) (counted_found (48 + length d - 48) d content more (omega arith) w.2 w.3)
found (Open content) more (inl (e, f)) = rw (e, append-nil content, f) (ap (λ (z : List ℕ). Some z) (drop_all (length (48 ∷ content)) (48 ∷ content) (omega arith)))
found (Open content) more (inr e) = rw (e, ends_line content, line_left 48 content) refl

-- ---- the rest follows a whole one

-- the string that begins after a quote, where that quote, or a quote that may end the string, precedes the text
abbrev Closes : Bool → ℕ → List ℕ → List ℕ → Type 0
Closes true q text more = EndsString q (q ∷ text) more
Closes false q text more = EndsString q text more

string_whole : (seen : Bool) (q : ℕ) (text more : List ℕ) → (q == 10) ≡ false → after_string seen q text ≡ Some more → Closes seen q text more
string_whole false q [] more g e = absurd (cc (e))
string_whole true q [] more g e = subst (EndsString q (q ∷ [])) (same_Some [] more e) ([], refl, refl, refl)
string_whole true q (x ∷ text) more g e = elim (cases_Bool (x == q)) [
  | inl t ↦
      let s = string_whole false q text more g (rw t at e) in
      subst (λ (z : ℕ). EndsString q (q ∷ z ∷ text) more) (sym (eqb-true x q t)) (q ∷ s.0, rw (eq-eqb q q refl) (ap (λ (z : List ℕ). q ∷ q ∷ z) s.1), or_from (q == 10) (has_newline s.0) g s.2, s.3)
  | inr f ↦ subst (EndsString q (q ∷ x ∷ text)) (same_Some (x ∷ text) more (rw f at e)) ([], refl, refl, f)
]
string_whole false q (x ∷ text) more g e = elim (cases_Bool (x == q)) [
  | inl t ↦ subst (λ (z : ℕ). EndsString q (z ∷ text) more) (sym (eqb-true x q t)) (string_whole true q text more g (rw t at e))
  | inr f ↦ elim (cases_Bool (x == 10)) [
    | inl t ↦ absurd (cc (rw (f, t) at e))
    | inr n ↦
        let s = string_whole false q text more g (rw (f, n) at e) in
        (x ∷ s.0, rw f (ap (λ (z : List ℕ). x ∷ z) s.1), or_from (x == 10) (has_newline s.0) n s.2, s.3)
  ]
]

counted_whole : (n : ℕ) (text more : List ℕ) → 0 < n → n < 10 → after_counted n text ≡ Some more → BeginsPiece (35 ∷ (48 + n) ∷ text) more
counted_whole n text more some few s =
    let d = take n text in
    let v = value_after 0 d in
    let a = take v (drop n text) in
    let (is, e) = cond_some (nat_le n (length text) && (all_digits d && nat_le v (length (drop n text)))) _ more s in
    let (long, rest) = and_parts (nat_le n (length text)) (all_digits d && nat_le v (length (drop n text))) is in
    let (h, fits) = and_parts (all_digits d) (nat_le v (length (drop n text))) rest in
    let digits : length d ≡ n = grind (arith, common_steps, nat_tests, long) in
    let bytes : length a ≡ v = grind (arith, common_steps, nat_tests, fits) in
    let back : drop v (drop n text) ≡ more = sym (drop-add n v text) ∙ e in
    let all : text ≡ (d ++ a) ++ more
    = sym (take-append-drop n text) ∙ ap (λ (z : List ℕ). d ++ z) (sym (take-append-drop v (drop n text)) ∙ ap (λ (z : List ℕ). a ++ z) back) ∙ sym (append_assoc d a more) in
    (Counted d a, rw digits (ap (λ (z : List ℕ). 35 ∷ (48 + n) ∷ z) all), (omega (arith, digits), omega (arith, digits), h, bytes))

pub last_line : (x : ℕ) (xs : List ℕ) → ends_in_newline (x ∷ xs) ≡ true → (front : List ℕ) × (x ∷ xs ≡ front ++ 10 ∷ [])
last_line x [] h = ([], ap (λ (z : ℕ). z ∷ []) (eqb-true x 10 h))
last_line x (y ∷ xs) h = let later = last_line y xs h in (x ∷ later.0, ap (λ (z : List ℕ). x ∷ z) later.1)

open_whole : (text more : List ℕ) → Some (drop (if ends_in_newline text then length text else length (48 ∷ text)) (48 ∷ text)) ≡ Some more → BeginsPiece (35 ∷ 48 ∷ text) more
open_whole [] more e = (Open [], ap (λ (z : List ℕ). 35 ∷ 48 ∷ z) (same_Some _ more e), inl (sym (same_Some _ more e), refl))
open_whole (x ∷ text) more e = elim (cases_Bool (ends_in_newline (x ∷ text))) [
  | inl t ↦
      let l = last_line x text t in
      let left : more ≡ 10 ∷ [] = sym (same_Some _ more (rw t at e)) ∙ ap (λ (z : List ℕ). drop (length z) (48 ∷ z)) l.1 ∙ line_left 48 l.0 in
      (Open l.0, ap (λ (z : List ℕ). 35 ∷ 48 ∷ z) (l.1 ∙ ap (λ (z : List ℕ). l.0 ++ z) (sym left)), inr left)
  | inr f ↦
      let left : more ≡ [] = sym (same_Some _ more (rw f at e)) ∙ drop_all (length (48 ∷ x ∷ text)) (48 ∷ x ∷ text) (omega arith) in
      (Open (x ∷ text), ap (λ (z : List ℕ). 35 ∷ 48 ∷ z) (sym (append-nil (x ∷ text)) ∙ ap (λ (z : List ℕ). (x ∷ text) ++ z) (sym left)), inl (left, f))
]

pub block_whole : (text more : List ℕ) → after_block text ≡ Some more → BeginsPiece (35 ∷ text) more
block_whole [] more e = absurd (cc (e))
block_whole (x ∷ text) more e = elim (cases_Bool (x == 48)) [
  | inl t ↦ subst (λ (z : ℕ). BeginsPiece (35 ∷ z ∷ text) more) (sym (eqb-true x 48 t)) (open_whole text more (subst (λ (z : ℕ). after_block (z ∷ text) ≡ Some more) (eqb-true x 48 t) e))
  | inr f ↦ elim (cases_Bool (nat_lt x 49 || nat_lt 57 x)) [
    | inl t ↦ absurd (cc (rw (f, t) at e))
    | inr g ↦
        let digit : 48 + (x - 48) ≡ x = grind (arith, nat_tests, g) in
        subst (λ (z : ℕ). BeginsPiece (35 ∷ z ∷ text) more) digit (counted_whole (x - 48) text more (grind (arith, nat_tests, g)) (grind (arith, nat_tests, g)) (rw (f, g) at e))
  ]
]

pub whole : (text more : List ℕ) → after_piece text ≡ Some more → BeginsPiece text more
whole [] more e = absurd (cc (e))
whole (x ∷ text) more e = elim (cases_Bool (x == 35)) [
  | inl t ↦ subst (λ (z : ℕ). BeginsPiece (z ∷ text) more) (sym (eqb-true x 35 t)) (block_whole text more (rw t at e))
  | inr f ↦ elim (cases_Bool (is_quote x)) [
    | inr g ↦ absurd (cc (rw (f, g) at e))
    | inl h ↦
        let s = string_whole false x text more (grind (arith, nat_tests, h)) (rw (f, h) at e) in
        (Quoted x s.0, ap (λ (z : List ℕ). x ∷ z) (s.1 ∙ sym (append_assoc (doubled x s.0) (x ∷ []) more)), (h, s.2, s.3))
  ]
]

pub none : (text more : List ℕ) → after_piece text ≡ None → BeginsPiece text more → ⊥
none text more e (p, is, w) = absurd (cc (e, is, found p more w))

pub unclosed : (f : List ℕ → Bool) (text more : List ℕ) → after_piece text ≡ Some more → f more ≡ false → HasNoPiece f text
unclosed f text more e h other (p, is, w) t =
    let same : more ≡ other = same_Some more other (sym e ∙ ap after_piece is ∙ found p other w) in
    both (f other) t (ap f (sym same) ∙ h)

pub shorter : (text more : List ℕ) → BeginsPiece text more → 2 + length more ≤ length text
shorter text more (Quoted q c, e, w) = omega (arith, ap length e, length-append (doubled q c ++ q ∷ []) more, length-append (doubled q c) (q ∷ []))
shorter text more (Counted d c, e, w) = omega (arith, ap length e, length-append (d ++ c) more)
shorter text more (Open c, e, w) = omega (arith, ap length e, length-append c more)

-- ---- one content

single_doubled : (q : ℕ) (content : List ℕ) → single false q (doubled q content) ≡ content
single_doubled q [] = refl
single_doubled q (x ∷ content) = elim (cases_Bool (x == q)) [
  | inl t ↦ rw t (ap (λ (z : List ℕ). x ∷ z) (single_doubled q content))
  | inr f ↦ rw f (ap (λ (z : List ℕ). x ∷ z) (single_doubled q content))
]

-- the piece that a text is
abbrev pub counted_of : ℕ → List ℕ → Piece
counted_of zero text = Open text
counted_of (suc n) text = Counted (take (suc n) text) (drop (suc n) text)

abbrev pub piece_of : List ℕ → Piece
piece_of text = if slice_index text 0 == 35 then counted_of (slice_index text 1 - 48) (drop 2 text) else Quoted (slice_index text 0) (quoted text)

counted_is : (n : ℕ) (d content : List ℕ) → n ≡ length d → 0 < n → counted_of n (d ++ content) ≡ Counted d content
counted_is zero d content e some = absurd (omega (arith, some))
counted_is (suc n) d content e some = rw (e, take-append_seam d content, drop-append_seam d content) refl

quoted_is : (q : ℕ) (content : List ℕ) → quoted (spelling (Quoted q content)) ≡ content
quoted_is q content =
    let n : length (spelling (Quoted q content)) - 1 - 1 ≡ length (doubled q content) = omega (arith, length-append (doubled q content) (q ∷ [])) in
    rw (n, take-append_seam (doubled q content) (q ∷ [])) (single_doubled q content)

pub piece_is : (p : Piece) (more : List ℕ) → IsWhole p more → piece_of (spelling p) ≡ p
piece_is (Quoted q content) more w = rw (no_hash q w.0, quoted_is q content) refl
piece_is (Counted d content) more w = counted_is (48 + length d - 48) d content (omega arith) (omega (arith, w.0))
piece_is (Open content) more w = refl

pub same_piece : (p r : Piece) (x y : List ℕ) → spelling p ++ x ≡ spelling r ++ y → IsWhole p x → IsWhole r y → (p ≡ r) × (x ≡ y)
same_piece p r x y e u v =
    let rest : x ≡ y = same_Some x y (sym (found p x u) ∙ ap after_piece e ∙ found r y v) in
    let text : spelling p ≡ spelling r = append_cancel_right (spelling p) (spelling r) x (e ∙ ap (λ (z : List ℕ). spelling r ++ z) (sym rest)) in
    (sym (piece_is p x u) ∙ ap piece_of text ∙ piece_is r y v, rest)

-- the content of a string or a block
abbrev content_of : Piece → List ℕ
content_of (Quoted q bytes) = bytes
content_of (Counted digits bytes) = bytes
content_of (Open bytes) = bytes

pub one_string : (text bytes others : List ℕ) → IsStringOf text bytes → IsStringOf text others → bytes ≡ others
one_string text bytes others (q, e, w) (r, k, v) = sym (quoted_is q bytes) ∙ ap quoted (sym e ∙ k) ∙ quoted_is r others

-- the text begins with a block
pub block_begins : (text bytes : List ℕ) → IsBlockOf text bytes → (more : List ℕ) × (p : Piece) × (text ≡ spelling p ++ more) × IsWhole p more × (content_of p ≡ bytes)
block_begins text bytes (inl (digits, e, w)) = ([], Counted digits bytes, e ∙ sym (append-nil (spelling (Counted digits bytes))), w, refl)
block_begins text bytes (inr (more, e, w)) = (more, Open bytes, e, w, refl)

pub one_block : (text bytes others : List ℕ) → IsBlockOf text bytes → IsBlockOf text others → bytes ≡ others
one_block text bytes others b o =
    let (x, p, e, w, h) = block_begins text bytes b in
    let (y, r, f, v, k) = block_begins text others o in
    sym h ∙ ap content_of (same_piece p r x y (sym e ∙ f) w v).0 ∙ k

datum_is : (text bytes : List ℕ) → IsDatumOf text bytes → content_of (piece_of text) ≡ bytes
datum_is text bytes (inl (d, e, w)) = ap (λ (z : List ℕ). content_of (piece_of z)) e ∙ ap content_of (piece_is (Counted d bytes) [] w)
datum_is text bytes (inr e) = ap (λ (z : List ℕ). content_of (piece_of z)) e

pub one_datum : (text bytes others : List ℕ) → IsDatumOf text bytes → IsDatumOf text others → bytes ≡ others
one_datum text bytes others b o = sym (datum_is text bytes b) ∙ datum_is text others o

-- ---- the last byte

pub last_byte : (text : List ℕ) → (slice_index text (length text - 1) == 10) ≡ ends_in_newline text
last_byte [] = refl
last_byte (x ∷ []) = refl
last_byte (x ∷ y ∷ xs) =
    let later : length (x ∷ y ∷ xs) - 1 ≡ suc (length (y ∷ xs) - 1) = omega arith in
    rw later (last_byte (y ∷ xs))

-- ---- a string that is all of a text

spent : (r : Option (List ℕ)) → is_spent r ≡ true → r ≡ Some []
spent None h = absurd (cc (h))
spent (Some []) h = refl
spent (Some (x ∷ more)) h = absurd (omega (arith, eqb-true (length (x ∷ more)) 0 h))

string_by : (text : List ℕ) → starts_quoted text ≡ true → BeginsPiece text [] → IsStringOf text (quoted text)
string_by text t (Quoted q content, e, w) =
    let is : text ≡ spelling (Quoted q content) = e ∙ append-nil (spelling (Quoted q content)) in
    subst (IsStringOf text) (sym (ap quoted is ∙ quoted_is q content)) (q, is, w)
string_by text t (Counted d content, e, w) = absurd (both (starts_quoted text) t (ap starts_quoted e))
string_by text t (Open content, e, w) = absurd (both (starts_quoted text) t (ap starts_quoted e))

pub string_of : (text : List ℕ) → is_string text ≡ true → IsStringOf text (quoted text)
string_of text h =
    let parts = and_parts (starts_quoted text) (is_spent (after_piece text)) h in
    string_by text parts.0 (whole text [] (spent (after_piece text) parts.1))

pub no_string : (text bytes : List ℕ) → is_string text ≡ false → IsStringOf text bytes → ⊥
no_string text bytes f (q, e, w) =
    let left : after_piece text ≡ Some [] = ap after_piece (e ∙ sym (append-nil (spelling (Quoted q bytes)))) ∙ found (Quoted q bytes) [] w in
    let first : starts_quoted text ≡ true = ap starts_quoted e ∙ w.0 in
    both (is_string text) (rw (first, left) refl) f

pub no_block : (text rest bytes : List ℕ) → text ≡ 35 ∷ rest → after_block rest ≡ None → IsBlockOf text bytes → ⊥
no_block text rest bytes e f b =
    let (more, p, is, w, k) = block_begins text bytes b in
    none (35 ∷ rest) more f (p, sym e ∙ is, w)

not_all_at : (rest bytes : List ℕ) (end : ℕ) → end ≤ length rest → after_block rest ≡ Some (drop end rest) → (end == length rest) ≡ false → starts 48 rest ≡ false → IsBlockOf (35 ∷ rest) bytes → ⊥
not_all_at rest bytes end le s other f (inl (digits, e, w)) =
    let left : drop end rest ≡ [] = same_Some _ [] (sym s ∙ ap after_piece (e ∙ sym (append-nil (spelling (Counted digits bytes)))) ∙ found (Counted digits bytes) [] w) in
    eqb-false end (length rest) other (omega (arith, le, ap length left, length-drop end rest))
not_all_at rest bytes end le s other f (inr (more, e, w)) = both (starts 48 rest) (ap (λ (z : List ℕ). starts 48 (drop 1 z)) e) f

pub not_all : (text rest bytes : List ℕ) (end : ℕ) → text ≡ 35 ∷ rest → end ≤ length rest → after_block rest ≡ Some (drop end rest)
    → (end == length rest || starts 48 rest) ≡ false → IsBlockOf text bytes → ⊥
not_all text rest bytes end e le s f b =
    let parts = or_parts (end == length rest) (starts 48 rest) f in
    not_all_at rest bytes end le s parts.0 parts.1 (subst (λ (z : List ℕ). IsBlockOf z bytes) e b)

-- ---- the content

-- the content of the block that ends at `end`, from after its `#`
abbrev pub content_at : List ℕ → ℕ → List ℕ
content_at rest end = drop (1 + (slice_index rest 0 - 48)) (take end rest)

content_is : (rest digits content : List ℕ) (end : ℕ) → rest ≡ ((48 + length digits) ∷ (digits ++ content)) ++ drop end rest → content_at rest end ≡ content
content_is rest digits content end e =
    let front = (48 + length digits) ∷ (digits ++ content) in
    let count : 1 + (slice_index rest 0 - 48) ≡ suc (length digits) = omega (arith, ap (λ (z : List ℕ). slice_index z 0) e) in
    let taken : take end rest ≡ front = append_cancel_right (take end rest) front (drop end rest) (take-append-drop end rest ∙ e) in
    rw (taken, count) (drop-append_seam digits content)

nothing_more : (rest : List ℕ) (end x : ℕ) (xs : List ℕ) → 48 < x → rest ≡ x ∷ xs → (end == length rest || starts 48 rest) ≡ true → drop end rest ≡ []
nothing_more rest end x xs big e t = elim (cases_Bool (end == length rest)) [
  | inl same ↦ drop_all end rest (omega (arith, eqb-true end (length rest) same))
  | inr other ↦
      let s : starts 48 rest ≡ true = rw other at t in
      absurd (omega (arith, big, eqb-true x 48 (ap (starts 48) (sym e) ∙ s)))
]

content_by : (rest : List ℕ) (end : ℕ) → BeginsPiece (35 ∷ rest) (drop end rest) → (end == length rest || starts 48 rest) ≡ true → IsBlockOf (35 ∷ rest) (content_at rest end)
content_by rest end (Quoted q a, e, w) t = absurd (both (q == 35) (rw (sym (same_head 35 q _ _ e)) refl) (no_hash q w.0))
content_by rest end (Counted d a, e, w) t =
    let tail = same_tail 35 35 _ _ e in
    let left = nothing_more rest end (48 + length d) _ (omega (arith, w.0)) tail t in
    subst (IsBlockOf (35 ∷ rest)) (sym (content_is rest d a end tail)) (inl (d, e ∙ ap (λ (z : List ℕ). spelling (Counted d a) ++ z) left ∙ append-nil (spelling (Counted d a)), w))
content_by rest end (Open a, e, w) t = subst (IsBlockOf (35 ∷ rest)) (sym (content_is rest [] a end (same_tail 35 35 _ _ e))) (inr (drop end rest, e, w))

pub block_of : (text rest : List ℕ) (end : ℕ) → text ≡ 35 ∷ rest → after_block rest ≡ Some (drop end rest) → (end == length rest || starts 48 rest) ≡ true → IsBlockOf text (content_at rest end)
block_of text rest end e s t = subst (λ (z : List ℕ). IsBlockOf z (content_at rest end)) (sym e) (content_by rest end (block_whole rest (drop end rest) s) t)

pub hash_first : (text rest : List ℕ) → starts 35 text ≡ true → rest ≡ drop 1 text → text ≡ 35 ∷ rest
hash_first [] rest h e = absurd (cc (h))
hash_first (x ∷ text) rest h e = cc (eqb-true x 35 h, e)
