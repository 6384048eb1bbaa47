use Rattle.std.proofs.Common.{ℕ, List, Bor, ap, ◌∙◌}
use Rattle.std.specs.Prelude.{map}
use Rattle.psu_tree.specs.Headers.{Entry, form_for}
use Rattle.psu_tree.proofs.lookups.form_of.Goals as goal

pub returns : goal.returns
returns c =
    c.form_in.ensures
    ∙ ap (λ (t : List Entry). form_for t (map (λ (word : Bor (List ℕ)). word.now) c.args.words.now) c.args.asks) c.patterns.ensures.rows
