use Rattle.std.proofs.Common.{◌≡◌, List, ℕ, refl, sym, ap, ◌∙◌, subst}
use Rattle.psu_lex.specs.Bytes.{is_dark}
use Rattle.psu_lex.specs.NumberScan.{run, left}
use Rattle.psu_lex.specs.Syntax.{Syntax, SpellsHeader, Lists}
use Rattle.psu_lex.proofs.HeaderScans.{no_header}
use Rattle.psu_lex.proofs.UnitParts.{parts_of, unit_reads}
use Rattle.psu_lex.proofs.syntaxes.cut.Goals as goal

pub returns-in_default-clause-none : goal.returns-in_default-clause-none
returns-in_default-clause-none c = λ s u.
    let p = parts_of c.args.text.now s u in
    let same : s.header ≡ run is_dark c.run_of.result.1.now = sym p.header_is ∙ sym (ap (run is_dark) c.run_of.ensures.left) in
    no_header (run is_dark c.run_of.result.1.now) c.in_default.ensures.none (subst SpellsHeader same u.4)

pub returns-in_default-list_at-clause-none : goal.returns-in_default-list_at-clause-none
returns-in_default-list_at-clause-none c = λ s u.
    let p = parts_of c.args.text.now s u in
    let same : u.1 ≡ c.split_at.result.1.now = sym p.rest_is ∙ sym (c.split_at.ensures.back ∙ c.in-Some.ensures.some.back ∙ ap (left is_dark) c.run_of.ensures.left) in
    c.in_default-list_at.ensures.none s.parameters (subst (λ (z : List ℕ). Lists z s.parameters) same u.6)

pub returns-clause-some : goal.returns-clause-some
returns-clause-some c =
    let listed = c.in-Some-list_at.ensures.some in
    let found = c.header_of.ensures in
    let s : Syntax = record { header = c.split_at.result.0.now; parameters = listed.0 } in
    let header = c.split_at.ensures.front ∙ c.in-Some.ensures.some.front ∙ ap (run is_dark) c.run_of.ensures.left in
    let rest = c.split_at.ensures.back ∙ c.in-Some.ensures.some.back ∙ ap (left is_dark) c.run_of.ensures.left in
    (s, unit_reads c.args.text.now c.split_at.result.0.now c.split_at.result.1.now s header rest (found.0, found.1, found.2) refl listed.1, (found.0, found.1, found.2, found.3, listed.2))
