use Rattle.std.proofs.Common.{◌∙◌, ap}
use Rattle.psu_lex.specs.Names.{is_name}
use Rattle.psu_nv.specs.Contents.{begins_with_kind}
use Rattle.psu_nv.specs.Commands.{has_file}
use Rattle.psu_nv.proofs.Finding.{copy_found}
use Rattle.psu_nv.proofs.contents.Contents.move_file.Goals as goal

pub put_file-requires-clause-kind : goal.put_file-requires-clause-kind
put_file-requires-clause-kind g c =
    let files = c.args.self.now.files in
    let found = copy_found (is_name c.args.from.now) (is_name c.args.to.now) (has_file files c.args.from.now) (has_file files c.args.to.now) _ _ _ _ c.requires in
    ap begins_with_kind (c.in_ok-value.ensures.items_if_clones_equal (λ x y e. e)) ∙ c.value_of.ensures.kind found.2
