-- Data: a datum at the beginning of a text, and lists of data.
use Rattle.std.proofs.Common.{◌≡◌, ℕ, ◌≤◌, ◌==◌, Bool, true, false, List, [], ◌∷◌, ◌++◌, length, drop, refl, sym, ap, ◌∙◌, subst, arith, Option, Some, None, IfSome, IfNone, length-append, ◌+◌, ◌-◌, ◌||◌, ◌<◌, take, inl, inr}
use Rattle.std.proofs.lemmas.List.{append-nil}
use Rattle.std.proofs.lemmas.Option.{cond_some, some_pair_parts, same_Some}
use Rattle.psu_lex.specs.Bytes.{is_white, all_white, starts, starts_quoted, is_digit, is_letter, is_quote}
use Rattle.psu_lex.specs.NumberScan.{run, left, is_number, scanned}
use Rattle.psu_lex.specs.Syntax.{Datum, IsBefore, Lists, datum_of, IsDatum, IsWholeIn, is_node, class_of}
use Rattle.psu_lex.specs.Shown.{TailLists, HoldsFound, IsSomeDatum}
use Rattle.psu_lex.specs.SyntaxScan.{is_parted, datum_at, datum_in, after_datum, class_at, parted, written}
use Rattle.psu_lex.specs.declared.data.Found.{Found}
use Rattle.psu_lex.specs.declared.data.DatumClass.{DatumClass}
use Rattle.psu_lex.proofs.Runs.{same_tail, both, run_white, leads, white_every, run_left, run_every, left_at, left_none, every, digits_every, every_head}
use Rattle.std.proofs.lemmas.Bool.{eqb-true, cases_Bool}
use Rattle.std.proofs.lemmas.Bool.Decides.{nat_tests}
use Rattle.std.proofs.Math.Seq.{take-append_seam}
use Rattle.psu_lex.specs.Message.{Piece, spelling, BeginsPiece}
use Rattle.psu_lex.specs.Message.Piece.{Quoted, Counted, Open}
use Rattle.psu_lex.specs.Scan.{after_piece}
use Rattle.psu_lex.specs.declared.data.DatumClass.TheVariants.{Numeric, Character, String, Block}
use Rattle.psu_lex.proofs.PieceScans.{found, whole}
use Rattle.psu_lex.proofs.NumberSound.{number_in}
use Rattle.psu_lex.proofs.WrittenData.{number_found, word_found, written_whole}
use Rattle.std.proofs.lemmas.Grind.{common_steps}
use Rattle.psu_lex.specs.Number.{Number, IsNumber, Sign, number_text, sign_text, fraction_text, fraction_digits, exponent_text, mantissa}
use Rattle.psu_lex.specs.Number.Sign.{Plus, Minus, Unsigned}

-- ---- the first byte

-- the text begins with a byte that is not white space and determines the class
abbrev pub IsFirst : DatumClass → List ℕ → Type 0
IsFirst class text = (x : ℕ) × (xs : List ℕ) × (text ≡ x ∷ xs) × (class ≡ class_at x) × (is_white x ≡ false)

-- what a number may begin with
abbrev begins_number : ℕ → Bool
begins_number b = is_digit b || b == 46 || b == 43 || b == 45

number_byte : (x : ℕ) → begins_number x ≡ true → (is_quote x ≡ false) × ((x == 35) ≡ false) × (is_letter x ≡ false) × (is_white x ≡ false)
number_byte x h = (grind (arith, nat_tests, h), grind (arith, nat_tests, h), grind (arith, nat_tests, h), grind (arith, nat_tests, h))

letter_byte : (x : ℕ) → is_letter x ≡ true → (is_quote x ≡ false) × ((x == 35) ≡ false) × (is_white x ≡ false)
letter_byte x h = (grind (arith, nat_tests, h), grind (arith, nat_tests, h), grind (arith, nat_tests, h))

is_first_number : (x : ℕ) (xs : List ℕ) → begins_number x ≡ true → IsFirst Numeric (x ∷ xs)
is_first_number x xs h = let plain = number_byte x h in (x, xs, refl, rw (plain.0, plain.1, plain.2) refl, plain.3)

first_mantissa : (whole : List ℕ) (fraction : Option (List ℕ)) (later : List ℕ) → 0 < length (whole ++ fraction_digits fraction) → every is_digit (whole ++ fraction_digits fraction) ≡ true
    → IsFirst Numeric (whole ++ (fraction_text fraction ++ later))
first_mantissa [] None later some h = absurd (omega (arith, some))
first_mantissa [] (Some ds) later some h = is_first_number 46 (ds ++ later) refl
first_mantissa (d ∷ whole) fraction later some h = is_first_number d (whole ++ (fraction_text fraction ++ later)) (rw (every_head is_digit d (whole ++ fraction_digits fraction) h) refl)

first_signed : (s : Sign) (text : List ℕ) → IsFirst Numeric text → IsFirst Numeric (sign_text s ++ text)
first_signed Plus text h = is_first_number 43 text refl
first_signed Minus text h = is_first_number 45 text refl
first_signed Unsigned text h = h

first_number : (n : Number) → IsNumber n → IsFirst Numeric (number_text n)
first_number n h =
    first_signed n.sign (n.whole ++ (fraction_text n.fraction ++ (exponent_text n.exponent ++ (n.gap ++ (n.suffix ++ n.rest)))))
    (first_mantissa n.whole n.fraction (exponent_text n.exponent ++ (n.gap ++ (n.suffix ++ n.rest))) h.some (sym (digits_every (mantissa n)) ∙ h.digits))

first_node : (text : List ℕ) → is_node text ≡ true → IsFirst Character text
first_node [] h = absurd (cc (h))
first_node (x ∷ text) h =
    let l : is_letter x ≡ true = grind (arith, common_steps, h) in
    let plain = letter_byte x l in
    (x, text, refl, rw (plain.0, plain.1, l) refl, plain.2)

first_piece : (p : Piece) (more : List ℕ) → IsWholeIn p more → IsFirst (class_of p) (spelling p)
first_piece (Quoted q content) more w = (q, _, refl, rw w.0 refl, grind (arith, nat_tests, w.0))
first_piece (Counted digits content) more w = (35, _, refl, refl, refl)
first_piece (Open content) more w = (35, _, refl, refl, refl)

first_of_piece : (class : DatumClass) (text more : List ℕ) → (p : Piece) × (class_of p ≡ class) × (text ≡ spelling p) × IsWholeIn p more → IsFirst class text
first_of_piece class text more (p, c, e, w) = subst (λ (z : DatumClass). IsFirst z text) c (subst (IsFirst (class_of p)) (sym e) (first_piece p more w))

pub first_of : (class : DatumClass) (text more : List ℕ) → IsDatum class text more → IsFirst class text
first_of Numeric text more (n, h, e, w) = subst (IsFirst Numeric) (sym e) (first_number n h)
first_of Character text more h = first_node text h
first_of String text more h = first_of_piece String text more h
first_of Block text more h = first_of_piece Block text more h

-- ---- what follows a datum is the rest

as_string : (body : List ℕ) → starts_quoted body ≡ true → after_datum String body ≡ after_piece body
as_string body t = rw t refl

as_block : (body : List ℕ) → starts 35 body ≡ true → starts 48 (drop 1 body) ≡ false → after_datum Block body ≡ after_piece body
as_block body t f = rw (t, f) refl

quoted_found : (body next : List ℕ) (p : Piece) → class_of p ≡ String → body ≡ spelling p ++ next → IsWholeIn p next → after_datum String body ≡ Some next
quoted_found body next (Quoted q content) c e w = as_string body (ap starts_quoted e ∙ w.0) ∙ ap after_piece e ∙ found (Quoted q content) next w
quoted_found body next (Counted d content) c e w = absurd (cc (c))
quoted_found body next (Open content) c e w = absurd (cc (c))

block_found : (body next : List ℕ) (p : Piece) → class_of p ≡ Block → body ≡ spelling p ++ next → IsWholeIn p next → after_datum Block body ≡ Some next
block_found body next (Quoted q content) c e w = absurd (cc (c))
block_found body next (Counted d content) c e w =
    let other : (48 + length d == 48) ≡ false = grind (arith, nat_tests, w.0) in
    as_block body (ap (starts 35) e) (ap (λ (z : List ℕ). starts 48 (drop 1 z)) e ∙ other) ∙ ap after_piece e ∙ found (Counted d content) next w
block_found body next (Open content) c e w = rw e (ap (λ (z : List ℕ). Some z) (sym w))

datum_found : (class : DatumClass) (body text next : List ℕ) → body ≡ text ++ next → IsDatum class text next → is_parted (left is_white next) ≡ true → after_datum class body ≡ Some next
datum_found Numeric body text next e (n, h, k, d) p = number_found body text next n e h k d p
datum_found Character body text next e h p = word_found body text next e h p
datum_found String body text next e (r, c, s, w) p = quoted_found body next r c (e ∙ ap (λ (z : List ℕ). z ++ next) s) w
datum_found Block body text next e (r, c, s, w) p = block_found body next r c (e ∙ ap (λ (z : List ℕ). z ++ next) s) w

-- ---- the rest follows a datum

-- a datum of the class is all of the body except what follows it
abbrev Splits : DatumClass → List ℕ → List ℕ → Type 0
Splits class body next = (text : List ℕ) × (body ≡ text ++ next) × IsDatum class text next

quoted_whole : (body next : List ℕ) → starts_quoted body ≡ true → BeginsPiece body next → Splits String body next
quoted_whole body next t (Quoted q content, e, w) = (spelling (Quoted q content), e, (Quoted q content, refl, refl, w))
quoted_whole body next t (Counted d content, e, w) = absurd (both (starts_quoted body) t (ap starts_quoted e))
quoted_whole body next t (Open content, e, w) = absurd (both (starts_quoted body) t (ap starts_quoted e))

open_text : (body : List ℕ) → starts 35 body ≡ true → starts 48 (drop 1 body) ≡ true → body ≡ 35 ∷ 48 ∷ drop 2 body
open_text [] h z = absurd (cc (h))
open_text (x ∷ []) h z = absurd (cc (z))
open_text (x ∷ y ∷ body) h z = cc (eqb-true x 35 h, eqb-true y 48 z)

counted_whole : (body next : List ℕ) → starts 35 body ≡ true → starts 48 (drop 1 body) ≡ false → BeginsPiece body next → Splits Block body next
counted_whole body next t f (Quoted q content, e, w) =
    let hash : q ≡ 35 = eqb-true q 35 (sym (ap (starts 35) e) ∙ t) in
    absurd (cc (subst (λ (z : ℕ). (z == 34 || z == 39) ≡ true) hash w.0))
counted_whole body next t f (Counted d content, e, w) = (spelling (Counted d content), e, (Counted d content, refl, refl, w))
counted_whole body next t f (Open content, e, w) = absurd (both (starts 48 (drop 1 body)) (ap (λ (z : List ℕ). starts 48 (drop 1 z)) e) f)

datum_whole : (class : DatumClass) (body next : List ℕ) → after_datum class body ≡ Some next → Splits class body next
datum_whole Numeric body next e =
    let (t, left) = cond_some (is_number (written body)) _ next e in
    let (front, dark) = written_whole body in
    let n = number_in (written body) t in
    (written body, front ∙ ap (λ (z : List ℕ). written body ++ z) left, (scanned (written body), n.0, n.1, dark))
datum_whole Character body next e =
    let (t, left) = cond_some (is_node (written body)) _ next e in
    (written body, (written_whole body).0 ∙ ap (λ (z : List ℕ). written body ++ z) left, t)
datum_whole String body next e = elim (cases_Bool (starts_quoted body)) [
  | inr f ↦ absurd (cc (rw f at e))
  | inl t ↦ quoted_whole body next t (whole body next (rw t at e))
]
datum_whole Block body next e = elim (cases_Bool (starts 35 body)) [
  | inr f ↦ absurd (cc (rw f at e))
  | inl t ↦ elim (cases_Bool (starts 48 (drop 1 body))) [
    | inl z ↦
        let none : next ≡ [] = sym (same_Some [] next (rw (t, z) at e)) in
        (body, sym (append-nil body) ∙ ap (λ (k : List ℕ). body ++ k) (sym none), (Open (drop 2 body), refl, open_text body t z, none))
    | inr z ↦ counted_whole body next t z (whole body next (rw (t, z) at e))
  ]
]

-- ---- the datum after white space

-- the text begins with a datum after white space, followed by this text
abbrev pub Begins : List ℕ → Datum → List ℕ → Type 0
Begins text d next = (left is_white text ≡ d.text ++ next) × IsDatum d.class d.text next × (is_parted (left is_white next) ≡ true)

pub begun_found : (text : List ℕ) (d : Datum) (next : List ℕ) → Begins text d next → datum_at text ≡ Some (d, left is_white next)
begun_found text d next (e, h, p) =
    let (x, xs, is, class, dark) = first_of d.class d.text next h in
    let body : d.text ++ next ≡ x ∷ (xs ++ next) = ap (λ (z : List ℕ). z ++ next) is in
    let after : after_datum d.class (d.text ++ next) ≡ Some next = datum_found d.class (d.text ++ next) d.text next refl h p in
    let n : length (d.text ++ next) - length next ≡ length d.text = omega (arith, length-append d.text next) in
    let cut : parted d.class (d.text ++ next) (after_datum d.class (d.text ++ next)) ≡ Some (d, left is_white next) = rw (after, p, n, take-append_seam d.text next) refl in
    ap datum_in (e ∙ body) ∙ ap (λ (c : DatumClass). parted c (x ∷ (xs ++ next)) (after_datum c (x ∷ (xs ++ next)))) (sym class)
    ∙ ap (λ (z : List ℕ). parted d.class z (after_datum d.class z)) (sym body) ∙ cut

front_is : (body text next : List ℕ) → body ≡ text ++ next → take (length body - length next) body ≡ text
front_is body text next e =
    let n : length body - length next ≡ length text = omega (arith, ap length e, length-append text next) in
    rw (n, e) (take-append_seam text next)

parted_whole : (class : DatumClass) (body : List ℕ) (r : Option (List ℕ)) (d : Datum) (tail : List ℕ) → after_datum class body ≡ r → parted class body r ≡ Some (d, tail)
    → (next : List ℕ) × (body ≡ d.text ++ next) × IsDatum d.class d.text next × (is_parted (left is_white next) ≡ true) × (tail ≡ left is_white next)
parted_whole class body None d tail e f = absurd (cc (f))
parted_whole class body (Some next) d tail e f = elim (cases_Bool (is_parted (left is_white next))) [
  | inr g ↦ absurd (cc (rw g at f))
  | inl p ↦
      let (text, s, h) = datum_whole class body next e in
      let front = front_is body text next s in
      let given : Some (record { class = class; text = take (length body - length next) body }, left is_white next) ≡ Some (d, tail) = rw p at f in
      let is = some_pair_parts (record { class = class; text = take (length body - length next) body }) d (left is_white next) tail given in
      subst (λ (z : Datum). (next : List ℕ) × (body ≡ z.text ++ next) × IsDatum z.class z.text next × (is_parted (left is_white next) ≡ true) × (tail ≡ left is_white next)) is.0
      (next, s ∙ ap (λ (z : List ℕ). z ++ next) (sym front), subst (λ (z : List ℕ). IsDatum class z next) (sym front) h, p, sym is.1)
]

in_whole : (body : List ℕ) (d : Datum) (tail : List ℕ) → datum_in body ≡ Some (d, tail)
    → (next : List ℕ) × (body ≡ d.text ++ next) × IsDatum d.class d.text next × (is_parted (left is_white next) ≡ true) × (tail ≡ left is_white next)
in_whole [] d tail e = absurd (cc (e))
in_whole (x ∷ xs) d tail e = parted_whole (class_at x) (x ∷ xs) (after_datum (class_at x) (x ∷ xs)) d tail refl e

pub begun_whole : (text : List ℕ) (d : Datum) (tail : List ℕ) → datum_at text ≡ Some (d, tail) → (next : List ℕ) × Begins text d next × (tail ≡ left is_white next)
begun_whole text d tail e = let (next, s, h, p, t) = in_whole (left is_white text) d tail e in (next, (s, h, p), t)

pub tail_parted : (text tail : List ℕ) (d : Datum) → datum_at text ≡ Some (d, tail) → is_parted tail ≡ true
tail_parted text tail d e = let (next, s, t) = begun_whole text d tail e in ap is_parted t ∙ s.2

-- ---- white space

white_left : (xs : List ℕ) → left is_white xs ≡ [] → all_white xs ≡ true
white_left xs e =
    let same : run is_white xs ≡ xs = sym (append-nil (run is_white xs)) ∙ ap (λ (z : List ℕ). run is_white xs ++ z) (sym e) ∙ run_left is_white xs in
    subst (λ (z : List ℕ). all_white z ≡ true) same (white_every (run is_white xs) ∙ run_every is_white xs)

left_white : (xs : List ℕ) → all_white xs ≡ true → left is_white xs ≡ []
left_white xs h = left_none is_white xs (sym (white_every xs) ∙ h)

pub left_shorter : (xs : List ℕ) → length (left is_white xs) ≤ length xs
left_shorter xs = omega (arith, ap length (run_left is_white xs), length-append (run is_white xs) (left is_white xs))

-- white space before a text that begins with another byte
pub left_over : (space text : List ℕ) → all_white space ≡ true → leads is_white text ≡ false → left is_white (space ++ text) ≡ text
left_over space text h f = left_at is_white space text (sym (white_every space) ∙ h) f

-- ---- from a list to its first datum, and back

first_dark : (class : DatumClass) (text next : List ℕ) → IsFirst class text → leads is_white (text ++ next) ≡ false
first_dark class text next (x, xs, e, c, f) = subst (λ (z : List ℕ). leads is_white (z ++ next) ≡ false) (sym e) f

tail_is : (next rest : List ℕ) (more : List Datum) → IsBefore next rest more → Lists rest more → TailLists (left is_white next) more × (is_parted (left is_white next) ≡ true)
tail_is next rest [] b l = let t = ap (left is_white) b ∙ left_white rest l in (t, ap is_parted t)
tail_is next rest (d ∷ more) (space, w, e) l = let t = ap (left is_white) e ∙ left_over space (44 ∷ rest) w refl in ((rest, t, l), ap is_parted t)

lists_first : (text : List ℕ) (d : Datum) (more : List Datum) → Lists text (d ∷ more) → (tail : List ℕ) × (datum_at text ≡ Some (d, tail)) × TailLists tail more
lists_first text d more (space, next, rest, w, e, is, b, l) =
    let t = tail_is next rest more b l in
    let begins : Begins text d next = (ap (left is_white) e ∙ left_over space (d.text ++ next) w (first_dark d.class d.text next (first_of d.class d.text next is)), is, t.1) in
    (left is_white next, begun_found text d next begins, t.0)

begun_text : (text : List ℕ) (d : Datum) (next : List ℕ) → Begins text d next → text ≡ run is_white text ++ (d.text ++ next)
begun_text text d next s = sym (run_left is_white text) ∙ ap (λ (z : List ℕ). run is_white text ++ z) s.0

pub lists_in : (text tail : List ℕ) (d : Datum) (more : List Datum) → datum_at text ≡ Some (d, tail) → TailLists tail more → Lists text (d ∷ more)
lists_in text tail d [] e l =
    let (next, s, t) = begun_whole text d tail e in
    (run is_white text, next, next, run_white text, begun_text text d next s, s.1, refl, white_left next (sym t ∙ l))
lists_in text tail d (f ∷ more) e (rest, c, l) =
    let (next, s, t) = begun_whole text d tail e in
    let before : next ≡ run is_white next ++ 44 ∷ rest = sym (run_left is_white next) ∙ ap (λ (z : List ℕ). run is_white next ++ z) (sym t ∙ c) in
    (run is_white text, next, rest, run_white text, begun_text text d next s, s.1, (run is_white next, run_white next, before), l)

pub some_datum : (text tail : List ℕ) (d : Datum) → datum_at text ≡ Some (d, tail) → IsSomeDatum d
some_datum text tail d e = let b = begun_whole text d tail e in (b.0, b.1.1)

pub tail_shorter : (text tail : List ℕ) (d : Datum) → datum_at text ≡ Some (d, tail) → length tail ≤ length text
tail_shorter text tail d e =
    let (next, s, t) = begun_whole text d tail e in
    omega (arith, left_shorter text, ap length s.0, length-append d.text next, left_shorter next, ap length t)

-- ---- what follows a first datum is the rest

no_datum : (text : List ℕ) → all_white text ≡ true → datum_at text ≡ None
no_datum text h = ap datum_in (left_white text h)

-- what follows the first datum of a list that begins so
pub record Rest (d : Datum) (tail : List ℕ) (list : List Datum) : Type 0 where
  pub others : List Datum
  pub is : list ≡ d ∷ others
  pub listed : TailLists tail others

pub rest_of : (text tail : List ℕ) (d : Datum) (list : List Datum) → datum_at text ≡ Some (d, tail) → Lists text list → Rest d tail list
rest_of text tail d [] e l = absurd (cc (e, no_datum text l))
rest_of text tail d (f ∷ more) e l =
    let (later, k, m) = lists_first text f more l in
    let same = some_pair_parts d f tail later (sym e ∙ k) in
    record { others = more; is = cc (same.0); listed = subst (λ (z : List ℕ). TailLists z more) (sym same.1) m }

pub none_begins : (text : List ℕ) (list : List Datum) → datum_at text ≡ None → Lists text list → list ≡ []
none_begins text [] e l = refl
none_begins text (d ∷ more) e l = let (tail, k, m) = lists_first text d more l in absurd (cc (e, k))

-- no list begins where no datum begins
pub no_list : (text : List ℕ) (list : List Datum) → all_white text ≡ false → datum_at text ≡ None → Lists text list → ⊥
no_list text list f e l = both (all_white text) (subst (Lists text) (none_begins text list e l) l) f

-- ---- a tail that begins with a `,`

pub comma : (tail text : List ℕ) (empty : Bool) → is_parted tail ≡ true → empty ≡ (length tail == 0) → empty ≡ false → text ≡ drop 1 tail → tail ≡ 44 ∷ text
comma [] text empty p e f is = absurd (cc (e, f))
comma (x ∷ tail) text empty p e f is = cc (eqb-true x 44 p, is)

tail_lists : (tail text : List ℕ) (others : List Datum) → tail ≡ 44 ∷ text → TailLists tail others → Lists text others × (others ≡ [] → ⊥)
tail_lists tail text [] e l = absurd (cc (e, l))
tail_lists tail text (d ∷ more) e (rest, is, l) = (subst (λ (z : List ℕ). Lists z (d ∷ more)) (same_tail 44 44 _ _ (sym is ∙ e)) l, λ none. cc (none))

pub no_tail : (tail text : List ℕ) (others : List Datum) → tail ≡ 44 ∷ text → datum_at text ≡ None → TailLists tail others → ⊥
no_tail tail text others e none l = let k = tail_lists tail text others e l in k.1 (none_begins text others none k.0)

pub tail_rest : (tail text later : List ℕ) (d : Datum) (others : List Datum) → tail ≡ 44 ∷ text → datum_at text ≡ Some (d, later) → TailLists tail others → Rest d later others
tail_rest tail text later d others e some l = rest_of text later d others some (tail_lists tail text others e l).0

-- ---- one list

tails_same : (list others : List Datum) (tail : List ℕ) → ((text : List ℕ) → Lists text list → Lists text others → list ≡ others) → TailLists tail list → TailLists tail others → list ≡ others
tails_same [] [] tail again l k = refl
tails_same [] (e ∷ more) tail again l (rest, is, k) = absurd (cc (l, is))
tails_same (d ∷ list) others tail again (rest, is, l) k = again rest l (tail_lists tail rest others is k).0

pub one_list : (list others : List Datum) (text : List ℕ) → Lists text list → Lists text others → list ≡ others
one_list [] others text l k = sym (none_begins text others (no_datum text l) k)
one_list (d ∷ list) others text l k =
    let (tail, e, m) = lists_first text d list l in
    let r = rest_of text tail d others e k in
    ap (λ (z : List Datum). d ∷ z) (tails_same list r.others tail (λ (z : List ℕ). one_list list r.others z) m r.listed) ∙ sym r.is

-- ---- the next datum after a tail

pub next_holds : (tail text : List ℕ) (r : Option Found) (empty : Bool) (others : List Datum) → empty ≡ (length tail == 0) → empty ≡ false → text ≡ drop 1 tail
    → IfSome r (λ found. datum_at text ≡ Some (datum_of found.datum, found.tail.now)) → IfNone r (datum_at text ≡ None) → TailLists tail others → HoldsFound r others
next_holds tail text r empty [] e f is some none l = absurd (cc (e, f))
next_holds tail text None empty (d ∷ more) e f is some none (rest, c, l) = none_begins text (d ∷ more) none (subst (λ (z : List ℕ). Lists z (d ∷ more)) (sym (is ∙ ap (drop 1) c)) l)
next_holds tail text (Some found) empty (d ∷ more) e f is some none (rest, c, l) =
    let k = rest_of text found.tail.now (datum_of found.datum) (d ∷ more) some (subst (λ (z : List ℕ). Lists z (d ∷ more)) (sym (is ∙ ap (drop 1) c)) l) in
    (k.others, k.is, some_datum text found.tail.now (datum_of found.datum) some, k.listed)

pub nothing_next : (tail : List ℕ) (others : List Datum) → tail ≡ [] → TailLists tail others → others ≡ []
nothing_next tail [] e l = refl
nothing_next tail (d ∷ more) e (rest, is, l) = absurd (cc (e, is))
