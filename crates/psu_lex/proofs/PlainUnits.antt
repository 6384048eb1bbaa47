-- A unit without syntax error has no byte of 127 or more outside its strings and blocks.
use Rattle.std.proofs.Common.{◌≡◌, ℕ, true, false, List, [], ◌∷◌, ◌++◌, refl, sym, ap, ◌∙◌, subst, arith, inl, inr}
use Rattle.std.proofs.lemmas.Bool.{and_parts, cases_Bool}
use Rattle.std.proofs.lemmas.Bool.Decides.{nat_tests}
use Rattle.std.proofs.lemmas.List.{append-nil}
use Rattle.psu_lex.specs.Bytes.{all_white, ends_in_newline, is_closed, is_white, opens}
use Rattle.psu_lex.specs.Message.{Piece, spelling}
use Rattle.psu_lex.specs.Message.Piece.{Quoted, Counted, Open}
use Rattle.psu_lex.specs.Message.Token.{Separator, Whole}
use Rattle.psu_lex.specs.Scan.{has}
use Rattle.psu_lex.specs.Syntax.{Datum, IsBefore, IsDatum, IsWholeIn, Lists, Syntax, UnitReads}
use Rattle.psu_lex.specs.SyntaxScan.{is_high}
use Rattle.psu_lex.specs.declared.data.DatumClass.{DatumClass}
use Rattle.psu_lex.specs.declared.data.DatumClass.TheVariants.{Numeric, Character, String, Block}
use Rattle.psu_lex.proofs.HeaderScans.{spelled_every}
use Rattle.psu_lex.proofs.PieceScans.{last_line}
use Rattle.psu_lex.proofs.Runs.{every, every_head, every_tail}
use Rattle.psu_lex.proofs.UnitScans.{Tells, tells_byte, tells_run}
use Rattle.psu_lex.proofs.WrittenData.{is_inner, name_inner, node_inner, number_inner, whites}

inner_free : (xs : List ℕ) → every is_inner xs ≡ true → (has opens xs ≡ false) × (has is_high xs ≡ false)
inner_free [] h = (refl, refl)
inner_free (x ∷ xs) h =
    let first = every_head is_inner x xs h in
    let o : opens x ≡ false = grind (arith, nat_tests, first) in
    let low : is_high x ≡ false = grind (arith, nat_tests, first) in
    let later = inner_free xs (every_tail is_inner x xs h) in
    (rw o later.0, rw low later.1)

tells_inner : (run rest : List ℕ) → every is_inner run ≡ true → Tells rest false → Tells (run ++ rest) false
tells_inner run rest h t =
    let free = inner_free run h in
    subst (Tells (run ++ rest)) (rw free.1 refl) (tells_run run rest false free.0 t)

tells_white : (space rest : List ℕ) → all_white space ≡ true → Tells rest false → Tells (space ++ rest) false
tells_white space rest w t = tells_inner space rest (whites space w) t

white_closed : (space rest : List ℕ) → all_white space ≡ true → is_closed (space ++ rest) ≡ is_closed rest
white_closed [] rest w = refl
white_closed (x ∷ space) rest w = let parts = and_parts (is_white x) (all_white space) w in rw parts.0 (white_closed space rest parts.1)

-- ---- data

open_tells : (content : List ℕ) → Tells (spelling (Open content)) false
open_tells [] = (Whole (Open []) ∷ [], ([], refl, (inl (refl, refl), refl), refl), refl)
open_tells (x ∷ content) = elim (cases_Bool (ends_in_newline (x ∷ content))) [
  | inr f ↦ (Whole (Open (x ∷ content)) ∷ [], ([], sym (append-nil (spelling (Open (x ∷ content)))), (inl (refl, f), refl), refl), refl)
  | inl t ↦
      let line = last_line x content t in
      (Whole (Open line.0) ∷ Separator 10 ∷ [], (10 ∷ [], ap (λ (z : List ℕ). 35 ∷ 48 ∷ z) line.1, (inr refl, refl), ([], refl, refl, refl)), refl)
]

piece_tells : (p : Piece) (next : List ℕ) → IsWholeIn p next → is_closed next ≡ true → Tells next false → Tells (spelling p ++ next) false
piece_tells (Quoted q content) next w c t = (Whole (Quoted q content) ∷ t.0, (next, refl, (w, c), t.1), t.2)
piece_tells (Counted digits content) next w c t = (Whole (Counted digits content) ∷ t.0, (next, refl, (w, c), t.1), t.2)
piece_tells (Open content) next w c t =
    subst (λ (z : List ℕ). Tells z false) (sym (append-nil (spelling (Open content))) ∙ ap (λ (z : List ℕ). spelling (Open content) ++ z) (sym w)) (open_tells content)

datum_tells : (class : DatumClass) (text next : List ℕ) → IsDatum class text next → is_closed next ≡ true → Tells next false → Tells (text ++ next) false
datum_tells Numeric text next (n, h, k, d) c t = tells_inner text next (subst (λ (z : List ℕ). every is_inner z ≡ true) (sym k) (number_inner n h)) t
datum_tells Character text next h c t = tells_inner text next (node_inner text h) t
datum_tells String text next (p, k, e, w) c t = subst (λ (z : List ℕ). Tells (z ++ next) false) (sym e) (piece_tells p next w c t)
datum_tells Block text next (p, k, e, w) c t = subst (λ (z : List ℕ). Tells (z ++ next) false) (sym e) (piece_tells p next w c t)

before_tells : (next rest : List ℕ) (list : List Datum) → IsBefore next rest list → Lists rest list → Tells rest false → (is_closed next ≡ true) × Tells next false
before_tells next rest [] b l t =
    (ap is_closed (b ∙ sym (append-nil rest)) ∙ white_closed rest [] l, subst (λ (z : List ℕ). Tells z false) (sym b) t)
before_tells next rest (d ∷ list) (space, w, e) l t =
    (ap is_closed e ∙ white_closed space (44 ∷ rest) w, subst (λ (z : List ℕ). Tells z false) (sym e) (tells_white space (44 ∷ rest) w (tells_byte 44 rest false refl t)))

lists_tell : (list : List Datum) (text : List ℕ) → Lists text list → Tells text false
lists_tell [] text w = subst (λ (z : List ℕ). Tells z false) (append-nil text) (tells_white text [] w ([], refl, refl))
lists_tell (d ∷ list) text (space, next, rest, w, e, is, b, l) =
    let behind = before_tells next rest list b l (lists_tell list rest l) in
    subst (λ (z : List ℕ). Tells z false) (sym e) (tells_white space (d.text ++ next) w (datum_tells d.class d.text next is behind.0 behind.1))

-- ---- units

pub unit_tells : (text : List ℕ) (s : Syntax) → UnitReads text s → Tells text false
unit_tells text s (space, rest, w, e, h, a, l) =
    subst (λ (z : List ℕ). Tells z false) (sym e)
    (tells_white space (s.header ++ rest) w (tells_inner s.header rest (spelled_every is_inner refl refl refl name_inner s.header h) (lists_tell s.parameters rest l)))
