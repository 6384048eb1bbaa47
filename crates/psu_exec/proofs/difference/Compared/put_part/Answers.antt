use Rattle.std.proofs.Common.{◌≡◌, ◌∙◌, ap, false, sym, append-nil, ◌++◌, List}
use Rattle.psu_map.specs.Batch.{Edit}
use Rattle.psu_nv.specs.Views.{part_of}
use Rattle.psu_exec.specs.Changed.{is_changed}
use Rattle.psu_exec.proofs.Touching.{unchanged_part}
use Rattle.psu_exec.proofs.difference.Compared.put_part.Goals as goal

pub returns-then-not-has : goal.returns-then-not-has
returns-then-not-has g c =
    let same : is_changed c.args.self.now.touched.now (part_of c.args.part) ≡ false = let e = c.has.ensures in let t = c.if-not-has.true in cc in
    sym (append-nil c.args.batch.now) ∙ ap (λ (edits : List Edit). c.args.batch.now ++ edits) (sym (unchanged_part c.args.self.now.touched.now c.args.self.now.before.now.map c.args.self.now.contents.now (part_of c.args.part) c.requires same))
