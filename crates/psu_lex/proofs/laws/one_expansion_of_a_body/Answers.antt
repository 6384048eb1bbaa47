use Rattle.std.proofs.Common.{sym, ap, ◌∙◌}
use Rattle.psu_lex.specs.Macros.{anything, outcome}
use Rattle.psu_lex.proofs.Tokens.{same_tokens}
use Rattle.psu_lex.proofs.laws.one_expansion_of_a_body.Goals as goal

pub returns : goal.returns
returns c = λ body args result other u v. u.2 ∙ ap (outcome args) (same_tokens anything body u.0 v.0 u.1 v.1) ∙ sym v.2
