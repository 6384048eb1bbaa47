use Rattle.std.proofs.Common.{◌≡◌, ◌∙◌, sym, ap, subst}
use Rattle.psu_map.specs.Map.{cost, get, IsSorted}
use Rattle.psu_nv.specs.Contents.{Contents}
use Rattle.psu_lex.specs.Names.{is_name}
use Rattle.psu_nv.specs.Commands.{has_file}
use Rattle.psu_nv.proofs.Finding.{copy_found, found_value, free_value}
use Rattle.psu_nv.proofs.Totals.{cost-of-move}
use Rattle.psu_nv.proofs.contents.Contents.files_moved.Goals as goal

pub returns-clause-value : goal.returns-clause-value
returns-clause-value g c =
    let files = c.args.self.now.files in
    let same : c.self.inside.files ≡ files = ap (λ (k : Contents). k.files) c.self.view_is in
    let found = copy_found (is_name c.args.from.now) (is_name c.args.to.now) (has_file files c.args.from.now) (has_file files c.args.to.now) _ _ _ _ c.requires in
    c.cost.ensures.value ∙ ap cost same
    ∙ sym (cost-of-move files c.args.from.now c.args.to.now _ (subst IsSorted same c.self.invariant.sorted) (found_value (get files c.args.from.now) found.2) (free_value (get files c.args.to.now) found.3))
