use Rattle.std.proofs.Common.{sym, ap, ◌∙◌, [], true}
use Rattle.psu_lex.specs.Bytes.{is_closed}
use Rattle.psu_lex.specs.Message.{units_of}
use Rattle.psu_lex.proofs.Tokens.{same_tokens}
use Rattle.psu_lex.proofs.laws.one_list_of_units.Goals as goal

pub returns : goal.returns
returns c = λ bytes units others u v. u.2 ∙ ap (units_of true []) (same_tokens is_closed bytes u.0 v.0 u.1 v.1) ∙ sym v.2
