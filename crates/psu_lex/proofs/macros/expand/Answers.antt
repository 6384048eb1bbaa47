use Rattle.std.proofs.Common.{◌≡◌, ℕ, List, ◌==◌, true, false, nat_lt, inl, inr, length, map, refl, sym, ap, ◌∙◌, arith, Bor}
use Rattle.std.proofs.lemmas.List.{length-map}
use Rattle.std.proofs.lemmas.Bool.{eq-eqb, le-ltb, lt-ltb}
use Rattle.psu_lex.proofs.Expansions.{gives, same_text}
use Rattle.psu_lex.proofs.macros.expand.Goals as goal

-- as many parameters as the greatest placeholder
enough : (xs : List (Bor (List ℕ))) (most : ℕ) → most ≡ length xs → (most == length (map (λ arg. arg.now) xs)) ≡ true
enough xs most e = eq-eqb most (length (map (λ arg. arg.now) xs)) (e ∙ sym (length-map xs (λ arg. arg.now)))

pub returns-then-length-gt-TEXT_MOST-clause-err : goal.returns-then-length-gt-TEXT_MOST-clause-err
returns-then-length-gt-TEXT_MOST-clause-err g c =
    let whole = c.length_of-length.ensures in
    let far : nat_lt 65536 (length whole.1) ≡ true = lt-ltb 65536 (length whole.1) (omega (arith, whole.3, c.if-length-gt-TEXT_MOST.true)) in
    inr (rw (enough c.args.args.now c.greatest_of.result c.if-greatest_of-args.false, far)
    at (gives (map (λ arg. arg.now) c.args.args.now) c.args.body.now whole.1 c.greatest_of.ensures.0 c.greatest_of.result whole.0 c.greatest_of.ensures.1 whole.2))

pub returns-in-Err-clause-err : goal.returns-in-Err-clause-err
returns-in-Err-clause-err g c =
    let whole = c.length_of-length.ensures in
    let near : nat_lt 65536 (length whole.1) ≡ false = le-ltb 65536 (length whole.1) (omega (arith, whole.3, c.if-length-gt-TEXT_MOST.false)) in
    inl (
      refl,
      whole.1,
      rw (enough c.args.args.now c.greatest_of.result c.if-greatest_of-args.false, near)
          at (gives (map (λ arg. arg.now) c.args.args.now) c.args.body.now whole.1 c.greatest_of.ensures.0 c.greatest_of.result whole.0 c.greatest_of.ensures.1 whole.2),
    )

pub returns-in-Ok-clause-ok : goal.returns-in-Ok-clause-ok
returns-in-Ok-clause-ok g c =
    let args = map (λ arg. arg.now) c.args.args.now in
    let whole = c.length_of-length.ensures in
    let text = c.in-Ok.ensures in
    let same = same_text args c.args.body.now text.0 whole.0 c.in-Ok.text whole.1 text.1 whole.2 in
    let near : nat_lt 65536 (length c.in-Ok.text) ≡ false = le-ltb 65536 (length c.in-Ok.text) (omega (arith, whole.3, ap length same, c.if-length-gt-TEXT_MOST.false)) in
    rw (enough c.args.args.now c.greatest_of.result c.if-greatest_of-args.false, near)
    at (gives args c.args.body.now c.in-Ok.text c.greatest_of.ensures.0 c.greatest_of.result text.0 c.greatest_of.ensures.1 text.1)
