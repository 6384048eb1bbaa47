-- What each token adds to the units, and what the scans of a unit and of a transmission add.
use Rattle.std.proofs.Common.{◌≡◌, ℕ, ◌+◌, ◌<◌, Bool, true, false, List, [], ◌∷◌, ◌++◌, ◌-◌, length, take, drop, length-append, refl, sym, ap, ◌∙◌, subst, arith, append_assoc, Option, Some, None, slice_index, drop-cons, ◌==◌, ◌||◌, ◌&&◌, inl, inr}
use Rattle.std.proofs.lemmas.List.{append-nil, take-append-drop, append_cancel_right}
use Rattle.std.proofs.Math.Seq.{take-add, drop-append_seam}
use Rattle.std.proofs.lemmas.Grind.{common_steps}
use Rattle.memchr.specs.Find.{IsFirstByte, is_byte3}
use Rattle.psu_lex.specs.Bytes.{opens, separates, is_closed, all_white}
use Rattle.psu_lex.specs.Message.{opens_first, ends_unit, BeginsPiece, EndsIn, HasNoPiece, MakesUnits, Part, ended, next_first, fault_of, spelling, part, units_of, Token, Reads}
use Rattle.psu_lex.specs.declared.unit.UnitFault.{UnitFault}
use Rattle.psu_lex.specs.Message.Token.{Byte, Separator, Whole, Faulty}
use Rattle.psu_lex.specs.Scan.{has, after_piece, stops}
use Rattle.psu_lex.proofs.PieceScans.{whole}
use Rattle.psu_lex.proofs.Searches.{has_head, has_tail, free_before, free_all, drop-add}
use Rattle.std.proofs.lemmas.Bool.{cases_Bool}
use Rattle.std.proofs.Math.Bool.{or_assoc, or-false}
use Rattle.std.proofs.lemmas.Bool.Decides.{nat_tests}
use Rattle.psu_lex.specs.Syntax.{has_high}
use Rattle.psu_lex.specs.SyntaxScan.{is_high}
use Rattle.psu_lex.proofs.Tokens.{same_tokens, some_tokens}

pub makes_run : (first : Bool) (run text rest : List ℕ) (units : List Part) → has separates run ≡ false → has opens run ≡ false
    → MakesUnits first (text ++ run) rest units → MakesUnits first text (run ++ rest) units
makes_run first [] text rest units f g m = subst (λ (z : List ℕ). MakesUnits first z rest units) (append-nil text) m
makes_run first (x ∷ run) text rest units f g m =
    let later = makes_run first run (text ++ x ∷ []) rest units (has_tail separates x run f) (has_tail opens x run g)
    (subst (λ (z : List ℕ). MakesUnits first z rest units) (sym (append_assoc text (x ∷ []) run)) m) in
    (Byte x ∷ later.0, (run ++ rest, refl, (has_head separates x run f, has_head opens x run g), later.1), later.2)

pub makes_separator : (first : Bool) (x : ℕ) (text rest : List ℕ) (units : List Part) → separates x ≡ true
    → MakesUnits (next_first first text x) [] rest units → MakesUnits first text (x ∷ rest) (ended first text ++ units)
makes_separator first x text rest units h m = (Separator x ∷ m.0, (rest, refl, h, m.1), ap (λ (z : List Part). ended first text ++ z) m.2)

pub opens_at : (s : List ℕ) (n : ℕ) → n < length s → opens (slice_index s n) ≡ true → opens_first (drop n s) ≡ true
opens_at s n within h = rw (drop-cons s n 0 within) h

free_snoc : (xs : List ℕ) (x : ℕ) → has stops xs ≡ false → stops x ≡ false → has stops (xs ++ x ∷ []) ≡ false
free_snoc [] x f h = rw h refl
free_snoc (y ∷ xs) x f h = rw (has_head stops y xs f) (free_snoc xs x (has_tail stops y xs f) h)

plain_byte : (x : ℕ) → stops x ≡ false → (separates x ≡ false) × (opens x ≡ false)
plain_byte x h = (grind (arith, nat_tests, h), grind (arith, nat_tests, h))

free_parts : (xs : List ℕ) → has stops xs ≡ false → (has separates xs ≡ false) × (has opens xs ≡ false)
free_parts [] h = (refl, refl)
free_parts (x ∷ xs) h =
    let b = plain_byte x (has_head stops x xs h) in
    let later = free_parts xs (has_tail stops x xs h) in
    (rw b.0 later.0, rw b.1 later.1)

-- ---- steps over a transmission

pub step_run : (first : Bool) (bytes : List ℕ) (at run : ℕ) (units : List Part) → has separates (take run (drop at bytes)) ≡ false → has opens (take run (drop at bytes)) ≡ false
    → MakesUnits first (take (at + run) bytes) (drop (at + run) bytes) units → MakesUnits first (take at bytes) (drop at bytes) units
step_run first bytes at run units f g m =
    subst (λ (z : List ℕ). MakesUnits first (take at bytes) z units) (take-append-drop run (drop at bytes))
    (makes_run first (take run (drop at bytes)) (take at bytes) (drop run (drop at bytes)) units f g
    (subst (λ (z : List ℕ). MakesUnits first z (drop run (drop at bytes)) units) (take-add at run bytes)
    (subst (λ (z : List ℕ). MakesUnits first (take (at + run) bytes) z units) (drop-add at run bytes) m)))

pub step_piece : (first : Bool) (bytes : List ℕ) (at n : ℕ) (units : List Part) → BeginsPiece (drop at bytes) (drop n (drop at bytes)) → is_closed (drop n (drop at bytes)) ≡ true
    → MakesUnits first (take (at + n) bytes) (drop (at + n) bytes) units → MakesUnits first (take at bytes) (drop at bytes) units
step_piece first bytes at n units b h m =
    let text : take n (drop at bytes) ≡ spelling b.0 = append_cancel_right (take n (drop at bytes)) (spelling b.0) (drop n (drop at bytes)) (take-append-drop n (drop at bytes) ∙ b.1) in
    let later = subst (λ (z : List ℕ). MakesUnits first (take at bytes ++ z) (drop n (drop at bytes)) units) text
    (subst (λ (z : List ℕ). MakesUnits first z (drop n (drop at bytes)) units) (take-add at n bytes)
    (subst (λ (z : List ℕ). MakesUnits first (take (at + n) bytes) z units) (drop-add at n bytes) m)) in
    (Whole b.0 ∷ later.0, (drop n (drop at bytes), b.1, (b.2, h), later.1), later.2)

pub step_fault : (first : Bool) (bytes : List ℕ) (at : ℕ) → opens_first (drop at bytes) ≡ true → HasNoPiece is_closed (drop at bytes)
    → MakesUnits first (take at bytes) (drop at bytes) (record { text = bytes; first = first; fault = Some (fault_of (drop at bytes)) } ∷ [])
step_fault first bytes at o n =
    subst (λ (z : List ℕ). MakesUnits first (take at bytes) (drop at bytes) (record { text = z; first = first; fault = Some (fault_of (drop at bytes)) } ∷ []))
    (take-append-drop at bytes) (Faulty (drop at bytes) ∷ [], ([], sym (append-nil (drop at bytes)), (refl, o, n), refl), refl)

-- ---- in the form of a unit's scan

pub unit_step : (first : Bool) (bytes piece : List ℕ) (at found n : ℕ) (units : List Part) → piece ≡ drop (at + found) bytes
    → has separates (take found (drop at bytes)) ≡ false → has opens (take found (drop at bytes)) ≡ false → after_piece piece ≡ Some (drop n piece) → is_closed (drop n piece) ≡ true
    → MakesUnits first (take (at + (found + n)) bytes) (drop (at + (found + n)) bytes) units → MakesUnits first (take at bytes) (drop at bytes) units
unit_step first bytes piece at found n units e a b p h m =
    let same : at + (found + n) ≡ at + found + n = omega arith in
    step_run first bytes at found units a b
    (step_piece first bytes (at + found) n units (whole _ _ (subst (λ (z : List ℕ). after_piece z ≡ Some (drop n z)) e p)) (subst (λ (z : List ℕ). is_closed (drop n z) ≡ true) e h)
    (subst (λ (z : ℕ). MakesUnits first (take z bytes) (drop z bytes) units) same m))

pub unit_fault : (first : Bool) (bytes piece : List ℕ) (at found : ℕ) (fault : UnitFault) → piece ≡ drop (at + found) bytes
    → has separates (take found (drop at bytes)) ≡ false → has opens (take found (drop at bytes)) ≡ false → opens_first piece ≡ true → HasNoPiece is_closed piece → fault ≡ fault_of piece
    → MakesUnits first (take at bytes) (drop at bytes) (record { text = bytes; first = first; fault = Some fault } ∷ [])
unit_fault first bytes piece at found fault e a b o n is =
    let whole : Part = record { text = bytes; first = first; fault = Some fault } in
    step_run first bytes at found (whole ∷ []) a b
    (subst (λ (z : UnitFault). MakesUnits first (take (at + found) bytes) (drop (at + found) bytes) (record { text = bytes; first = first; fault = Some z } ∷ []))
    (ap fault_of (sym e) ∙ sym is)
    (step_fault first bytes (at + found) (subst (λ (z : List ℕ). opens_first z ≡ true) e o) (subst (HasNoPiece is_closed) e n)))

-- one more byte that does not stop the scan
pub free_on : (text : List ℕ) (at : ℕ) → at < length text → has stops (take at text) ≡ false → stops (slice_index text at) ≡ false → has stops (take (at + 1) text) ≡ false
free_on text at within f h =
    let longer : take (at + 1) text ≡ take at text ++ slice_index text at ∷ [] = grind (arith, common_steps, within) in
    ap (has stops) longer ∙ free_snoc (take at text) (slice_index text at) f h

-- the text after plain bytes, which neither end a unit nor begin a string or a block
pub plain_at : (bytes rest piece : List ℕ) (at plain : ℕ) → rest ≡ drop at bytes → piece ≡ drop plain rest → has stops (take plain rest) ≡ false
    → (piece ≡ drop (at + plain) bytes) × (has separates (take plain (drop at bytes)) ≡ false) × (has opens (take plain (drop at bytes)) ≡ false)
plain_at bytes rest piece at plain e p f =
    let free : has stops (take plain (drop at bytes)) ≡ false = subst (λ (z : List ℕ). has stops (take plain z) ≡ false) e f in (
      p ∙ ap (drop plain) e ∙ sym (drop-add at plain bytes),
      (free_parts (take plain (drop at bytes)) free).0,
      (free_parts (take plain (drop at bytes)) free).1,
    )

-- no unit is left where no byte is left
pub makes_none : (first : Bool) (units : List Part) → MakesUnits first [] [] units → units ≡ []
makes_none first units m = m.2 ∙ ap (units_of first []) (same_tokens is_closed [] m.0 [] m.1 refl)

-- the units from a unit's separator on, and from its end where no byte is left
pub pass_none : (first : Bool) (rest text : List ℕ) (units : List Part) → length rest ≡ 0 → MakesUnits first [] rest units → MakesUnits first text rest (ended first text ++ units)
pass_none first [] text units n m =
    subst (λ (z : List Part). MakesUnits first text [] (ended first text ++ z)) (sym (makes_none first units m)) ([], refl, append-nil (ended first text))
pass_none first (x ∷ rest) text units n m = absurd (omega (arith, n))

pub pass_some : (first next blank : Bool) (rest later text : List ℕ) (units : List Part) → (length rest ≡ 0 → ⊥) → ends_unit rest ≡ true → later ≡ drop 1 rest → next ≡ (slice_index rest 0 == 10 || (first && blank)) → blank ≡ all_white text
    → MakesUnits next [] later units → MakesUnits first text rest (ended first text ++ units)
pass_some first next blank [] later text units n u l f b m = absurd (n refl)
pass_some first next blank (x ∷ rest) later text units n u l f b m =
    let is : next ≡ next_first first text x = f ∙ ap (λ (z : Bool). x == 10 || (first && z)) b in
    makes_separator first x text rest units u (subst (λ (z : Bool). MakesUnits z [] rest units) is (subst (λ (z : List ℕ). MakesUnits next [] z units) l m))

-- the units from the beginning of a unit on
pub read_on : (first : Bool) (bytes unit more : List ℕ) (end : ℕ) (units : List Part) → unit ≡ take end bytes → more ≡ drop end bytes
    → ((first : Bool) (units : List Part) → MakesUnits first (take end bytes) (drop end bytes) units → MakesUnits first [] bytes units)
    → MakesUnits first unit more (ended first unit ++ units) → MakesUnits first [] bytes (ended first unit ++ units)
read_on first bytes unit more end units u m ok made =
    ok first (ended first unit ++ units) (subst (λ (z : List ℕ). MakesUnits first (take end bytes) z (ended first unit ++ units)) m
    (subst (λ (z : List ℕ). MakesUnits first z more (ended first unit ++ units)) u made))

pub ended_none : (first : Bool) (text : List ℕ) → all_white text ≡ true → ended first text ≡ []
ended_none first text h = rw h refl

-- the bytes behind some that were read
pub ends_after : (n : ℕ) (bytes rest : List ℕ) → rest ≡ drop n bytes → EndsIn bytes rest
ends_after n bytes rest e = (take n bytes, sym (take-append-drop n bytes) ∙ ap (λ (z : List ℕ). take n bytes ++ z) (sym e))

pub ends_through : (bytes mid rest : List ℕ) → EndsIn bytes mid → EndsIn mid rest → EndsIn bytes rest
ends_through bytes mid rest (xs, e) (ys, d) = (xs ++ ys, e ∙ ap (λ (z : List ℕ). xs ++ z) d ∙ sym (append_assoc xs ys rest))

-- the last bytes are found by their number
pub last_are : (bytes last rest : List ℕ) (left at : ℕ) → last ≡ drop at bytes → at ≡ length bytes - left → EndsIn bytes rest → length rest ≡ left → last ≡ rest
last_are bytes last rest left at e is (xs, whole) n =
    let there : at ≡ length xs = omega (arith, is, n, ap length whole ∙ length-append xs rest) in
    e ∙ ap (λ (k : ℕ). drop k bytes) there ∙ ap (drop (length xs)) whole ∙ drop-append_seam xs rest

pub ended_some : (first : Bool) (text : List ℕ) → all_white text ≡ false → ended first text ≡ record { text = text; first = first; fault = None } ∷ []
ended_some first text h = rw h refl

-- the bytes have tokens, and the flag is whether one of them is such a byte
abbrev pub Tells : List ℕ → Bool → Type 0
Tells bytes high = (tokens : List Token) × Reads is_closed bytes tokens × (high ≡ has_high tokens)

pub tells_byte : (x : ℕ) (rest : List ℕ) (high : Bool) → opens x ≡ false → Tells rest high → Tells (x ∷ rest) (is_high x || high)
tells_byte x rest high o (tokens, r, e) = elim (cases_Bool (separates x)) [
  | inl s ↦ (Separator x ∷ tokens, (rest, refl, s, r), let low : is_high x ≡ false = grind (arith, nat_tests, s) in rw low e)
  | inr f ↦ (Byte x ∷ tokens, (rest, refl, (f, o), r), ap (λ (z : Bool). is_high x || z) e)
]

pub tells_run : (run rest : List ℕ) (high : Bool) → has opens run ≡ false → Tells rest high → Tells (run ++ rest) (has is_high run || high)
tells_run [] rest high o t = t
tells_run (x ∷ run) rest high o t =
    subst (Tells (x ∷ (run ++ rest))) (sym (or_assoc (is_high x) (has is_high run) high))
    (tells_byte x (run ++ rest) (has is_high run || high) (has_head opens x run o) (tells_run run rest high (has_tail opens x run o) t))

pub tells_piece : (bytes more : List ℕ) (high : Bool) → after_piece bytes ≡ Some more → is_closed more ≡ true → Tells more high → Tells bytes high
tells_piece bytes more high s h (tokens, r, e) = let b = whole bytes more s in (Whole b.0 ∷ tokens, (more, b.1, (b.2, h), r), e)

pub tells_fault : (bytes : List ℕ) → opens_first bytes ≡ true → HasNoPiece is_closed bytes → Tells bytes false
tells_fault bytes o n = (Faulty bytes ∷ [], ([], sym (append-nil bytes), (refl, o, n), refl), refl)

pub tells_some : (bytes : List ℕ) → (high : Bool) × Tells bytes high
tells_some bytes = let r = some_tokens is_closed bytes in (has_high r.0, (r.0, r.1, refl))

-- ---- in the form of the scan

pub before_opening : (bytes : List ℕ) (n : ℕ) → IsFirstByte (is_byte3 34 39 35) bytes (Some n) → (has opens (take n bytes) ≡ false) × (opens_first (drop n bytes) ≡ true)
before_opening bytes n h = (free_before opens bytes n h, opens_at bytes n h.0.high h.1)

pub tells_all : (bytes : List ℕ) → IsFirstByte (is_byte3 34 39 35) bytes None → Tells bytes (has is_high bytes)
tells_all bytes h =
    subst (λ (z : List ℕ). Tells z (has is_high bytes)) (append-nil bytes)
    (subst (Tells (bytes ++ [])) (or-false (has is_high bytes)) (tells_run bytes [] false (free_all opens bytes h) ([], refl, refl)))

pub tells_from : (bytes : List ℕ) (n : ℕ) (high : Bool) → IsFirstByte (is_byte3 34 39 35) bytes (Some n) → Tells (drop n bytes) high → Tells bytes (has is_high (take n bytes) || high)
tells_from bytes n high h t =
    subst (λ (z : List ℕ). Tells z (has is_high (take n bytes) || high)) (take-append-drop n bytes)
    (tells_run (take n bytes) (drop n bytes) high (before_opening bytes n h).0 t)
