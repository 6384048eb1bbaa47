use Rattle.std.proofs.Common.{◌≡◌, ◌||◌, ℕ, List, Bool, true, false, take, sym, subst, ◌∙◌, ap}
use Rattle.psu_lex.specs.Message.{HasNoPiece}
use Rattle.psu_lex.specs.Bytes.{is_closed}
use Rattle.psu_lex.specs.Scan.{has}
use Rattle.psu_lex.specs.SyntaxScan.{is_high}
use Rattle.psu_lex.proofs.UnitScans.{Tells, tells_all, tells_from, tells_some, tells_fault, tells_piece, before_opening}
use Rattle.psu_lex.proofs.high_bytes.has_high.Goals as goal

pub returns-in_default : goal.returns-in_default
returns-in_default c = subst (Tells c.args.text.now) (sym c.is_high.ensures) (c.pieces.invariant _ (tells_all c.pieces.rest.now c.in_default.ensures))

pub returns-then-is_high : goal.returns-then-is_high
returns-then-is_high c =
    let rest = c.pieces.rest.now in
    let run : has is_high (take c.in-Some.found rest) ≡ true = ap (has is_high) (sym c.front.ensures) ∙ sym c.is_high-in-pieces.ensures ∙ c.if-is_high.true in
    let later = tells_some _ in
    c.pieces.invariant true (subst (λ (z : Bool). Tells rest (z || later.0)) run (tells_from rest c.in-Some.found later.0 c.in-Some.ensures later.1))

pub returns-in_default-piece_end : goal.returns-in_default-piece_end
returns-in_default-piece_end c =
    let rest = c.pieces.rest.now in
    let run : has is_high (take c.in-Some.found rest) ≡ false = ap (has is_high) (sym c.front.ensures) ∙ sym c.is_high-in-pieces.ensures ∙ c.if-is_high.false in
    let opened = (before_opening rest c.in-Some.found c.in-Some.ensures).1 in
    let fault = tells_fault _ opened (subst (HasNoPiece is_closed) c.after-piece.ensures c.in_default-piece_end.ensures.none) in
    c.pieces.invariant false (subst (λ (z : Bool). Tells rest (z || false)) run (tells_from rest c.in-Some.found false c.in-Some.ensures fault))

pub pieces-preserved : goal.pieces-preserved
pieces-preserved c = λ high t.
    let rest = c.pieces.rest.now in
    let run : has is_high (take c.in-Some.found rest) ≡ false = ap (has is_high) (sym c.front.ensures) ∙ sym c.is_high-in-pieces.ensures ∙ c.if-is_high.false in
    let piece = tells_piece c.after-piece.result.now _ high c.in-Some-piece_end.ensures.some.0 c.in-Some-piece_end.ensures.some.1 (subst (λ (z : List ℕ). Tells z high) c.after-rest.ensures t) in
    c.pieces.invariant high (subst (λ (z : Bool). Tells rest (z || high)) run
    (tells_from rest c.in-Some.found high c.in-Some.ensures (subst (λ (z : List ℕ). Tells z high) c.after-piece.ensures piece)))
