use Rattle.std.proofs.Common.{false, refl, sym, ap, ◌∙◌, subst, inl, inr}
use Rattle.psu_lex.specs.Data.{IsStringOf}
use Rattle.psu_lex.specs.Scan.{quoted, single}
use Rattle.psu_lex.proofs.PieceScans.{string_of, no_string}
use Rattle.psu_lex.proofs.strings.string.Goals as goal

pub returns-then-not-is_string-clause-err : goal.returns-then-not-is_string-clause-err
returns-then-not-is_string-clause-err g c = inr (refl, λ bytes. no_string c.args.text.now bytes (sym c.is_string.ensures.is ∙ c.if-not-is_string.true))

pub returns-in-Ok-clause-ok : goal.returns-in-Ok-clause-ok
returns-in-Ok-clause-ok g c =
    subst (IsStringOf c.args.text.now) (sym (c.in-Ok.ensures ∙ ap (single false _) c.between.ensures)) (string_of c.args.text.now (sym c.is_string.ensures.is ∙ c.if-not-is_string.false))

pub returns-in-Err-clause-err : goal.returns-in-Err-clause-err
returns-in-Err-clause-err g c = inl (refl, quoted c.args.text.now, string_of c.args.text.now (sym c.is_string.ensures.is ∙ c.if-not-is_string.false))
