use Rattle.std.proofs.Common.{sym, subst, ◌∙◌, ◌∷◌, ◌++◌, List, ℕ, [], Some}
use Rattle.std.proofs.Math.Seq.{drop-length}
use Rattle.psu_lex.specs.Message.{MakesUnits, Part}
use Rattle.psu_lex.proofs.UnitScans.{ended_none, ended_some, ends_after, ends_through, makes_none, read_on}
use Rattle.psu_lex.proofs.units.Units.read.Goals as goal

pub returns-in-Err-clause-some : goal.returns-in-Err-clause-some
returns-in-Err-clause-some c = λ units m.
    let none = makes_none c.args.self.now.first units (subst (λ (z : List ℕ). MakesUnits c.args.self.now.first [] z units) (c.after-self.ensures ∙ drop-length c.args.self.now.text.now) m) in
    subst (λ (z : List Part). MakesUnits c.args.self.now.first [] c.args.self.now.text.now (record { text = c.args.self.now.text.now; first = c.args.self.now.first; fault = Some c.in-Err.fault } ∷ z)) (sym none) (c.in-Err.ensures.err c.args.self.now.first)

pub returns-in-Err-clause-rest : goal.returns-in-Err-clause-rest
returns-in-Err-clause-rest c = ends_after _ c.args.self.now.text.now c.after-self.result.now c.after-self.ensures

pub returns-then-blank-clause-none : goal.returns-then-blank-clause-none
returns-then-blank-clause-none c = λ units m.
    subst (λ (z : List Part). MakesUnits c.args.self.now.first [] c.args.self.now.text.now (z ++ units))
    (ended_none c.args.self.now.first c.split_at.result.0.now (sym c.is_blank-blank.ensures ∙ c.if-blank.true))
    (read_on c.args.self.now.first c.args.self.now.text.now c.split_at.result.0.now c.split_at.result.1.now c.in-Ok.end units c.split_at.ensures.front c.split_at.ensures.back c.in-Ok.ensures.ok
    (c.pass_separator.ensures.makes c.split_at.result.0.now units c.is_blank-blank.ensures m))

pub returns-then-blank-clause-rest : goal.returns-then-blank-clause-rest
returns-then-blank-clause-rest c =
    ends_through c.args.self.now.text.now c.split_at.result.1.now c.pass_separator.new.self.text.now
    (ends_after c.in-Ok.end c.args.self.now.text.now c.split_at.result.1.now c.split_at.ensures.back) c.pass_separator.ensures.rest

pub returns-clause-some : goal.returns-clause-some
returns-clause-some c = λ units m.
    subst (λ (z : List Part). MakesUnits c.args.self.now.first [] c.args.self.now.text.now (z ++ units))
    (ended_some c.args.self.now.first c.split_at.result.0.now (sym c.is_blank-blank.ensures ∙ c.if-blank.false))
    (read_on c.args.self.now.first c.args.self.now.text.now c.split_at.result.0.now c.split_at.result.1.now c.in-Ok.end units c.split_at.ensures.front c.split_at.ensures.back c.in-Ok.ensures.ok
    (c.pass_separator.ensures.makes c.split_at.result.0.now units c.is_blank-blank.ensures m))

pub returns-clause-rest : goal.returns-clause-rest
returns-clause-rest c =
    ends_through c.args.self.now.text.now c.split_at.result.1.now c.pass_separator.new.self.text.now
    (ends_after c.in-Ok.end c.args.self.now.text.now c.split_at.result.1.now c.split_at.ensures.back) c.pass_separator.ensures.rest
