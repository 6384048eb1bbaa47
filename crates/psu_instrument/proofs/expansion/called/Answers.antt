use Rattle.std.proofs.Common.{inr, arith}
use Rattle.std.proofs.lemmas.List.{length-map}
use Rattle.psu_lex.proofs.Expansions.{expands_many}
use Rattle.psu_lex.specs.Syntax.{Datum}
use Rattle.psu_instrument.specs.Macros.{written}
use Rattle.psu_instrument.proofs.expansion.called.Goals as goal

pub returns-in-None : goal.returns-in-None
returns-in-None g c = λ list holds.
    inr (rw c.if-inside.false (expands_many (written list) c.args.body.now (omega (arith, c.in-None.ensures.many list holds, length-map list (λ (d : Datum). d.text)))))
