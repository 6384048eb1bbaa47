use Rattle.std.proofs.Common.{ℕ, List, Bor, sym, ◌∙◌}
use Rattle.std.specs.Prelude.{map}
use Rattle.psu_tree.proofs.Sections.{none_named}
use Rattle.psu_tree.proofs.lookups.row_in.Goals as goal

pub returns-else-missing : goal.returns-else-missing
returns-else-missing c =
    none_named c.args.section.now.root c.args.section.now.rows.now (map (λ (word : Bor (List ℕ)). word.now) c.args.words.now) (sym c.is_named_first.ensures ∙ c.if-not-is_named_first.true)
    (sym c.may_miss-missing.ensures ∙ c.if-missing.false)
