use Rattle.std.proofs.Common.{◌≡◌, ℕ, List, Option, Some, None, IfNone, false}
use Rattle.std.proofs.lemmas.Option.{IfSome_then}
use Rattle.psu_lex.specs.Number.{Number, IsNumber, number_text}
use Rattle.psu_lex.specs.NumberScan.{is_number, scanned}
use Rattle.psu_lex.specs.declared.written.Written.{Written}
use Rattle.psu_lex.proofs.NumberSound.{number_in}
use Rattle.psu_lex.proofs.NumberFound.{no_number}
use Rattle.psu_lex.proofs.written.Written.of.Goals as goal

none_found : (r : Option Written) (text : List ℕ) → IfNone r (is_number text ≡ false) → IfNone r ((n : Number) → IsNumber n → text ≡ number_text n → ⊥)
none_found None text f = no_number text f
none_found (Some shown) text f = tt

pub returns-clause-some : goal.returns-clause-some
returns-clause-some c =
    let text = c.args.text.now in
    IfSome_then c.scan.result c.scan.ensures.some (λ shown k. let n = number_in text k.1 in (scanned text, n.0, n.1, k.0))

pub returns-clause-none : goal.returns-clause-none
returns-clause-none c = none_found c.scan.result c.args.text.now c.scan.ensures.none
