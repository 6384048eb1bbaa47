use Rattle.std.proofs.Common.{ℕ, ◌+◌, ◌*◌, ◌-◌, List, ap, sym, ◌∙◌}
use Rattle.std.specs.Prelude.{min}
use Rattle.psu_lex.specs.Bytes.{value_after}
use Rattle.psu_tree.proofs.SuffixNumbers.{held_to_5}
use Rattle.psu_tree.proofs.suffixes.«+suffix_value».Goals as goal

pub returns-in-Some : goal.returns-in-Some
returns-in-Some t c =
    let d : ℕ = c.in-Some.digit.now in
    c.suffix_value.ensures
    ∙ ap (λ (n : ℕ). min 5 (value_after n c.in-Some.others.now)) c.min.ensures
    ∙ held_to_5 c.in-Some.others.now (10 * c.args.before + (d - 48))
    ∙ ap (λ (ds : List ℕ). min 5 (value_after c.args.before ds)) (sym c.in-Some.ensures.cases.0)
