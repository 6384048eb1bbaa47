use Rattle.std.proofs.Common.{◌≡◌, ◌++◌, ◌∙◌, List, ap, append-nil, arith, false, sym}
use Rattle.psu_map.specs.Batch.{Edit}
use Rattle.psu_exec.specs.Batch.{assignment}
use Rattle.psu_exec.proofs.Differing.{all_files, next_file_edits}
use Rattle.psu_exec.proofs.Touching.{unchanged_files}
use Rattle.psu_exec.proofs.difference.Compared.put_files.Goals as goal

pub returns-then-not-has_files : goal.returns-then-not-has_files
returns-then-not-has_files g c =
    let none : c.args.self.now.touched.now.files ≡ false = let e = c.has_files.ensures in let t = c.if-not-has_files.true in cc in
    sym (append-nil c.args.batch.now) ∙ ap (λ (edits : List Edit). c.args.batch.now ++ edits) (sym (unchanged_files c.args.self.now.touched.now c.args.self.now.before.now.map c.args.self.now.contents.now c.requires.others none c.requires.contents.sorted))

pub loop-file-preserved : goal.loop-file-preserved
loop-file-preserved g c =
    next_file_edits (assignment c.args.self.now.before.now.map) c.args.self.now.contents.now.files c.args.batch.now c.loop-file.batch c.put_file.new.batch c.loop-file.file-index _ c.file-item.result c.names-file-items.result.now c.names-file-items.ensures
    (omega (arith, c.loop-file-test.true)) c.file-item.is c.loop-file.invariant c.in_ok-put_file.ensures

pub returns : goal.returns
returns g c =
    all_files (assignment c.args.self.now.before.now.map) c.args.self.now.contents.now.files c.args.batch.now c.loop-file.batch c.loop-file.file-index c.names-file-items.result.now c.names-file-items.ensures (omega (arith, c.loop-file-test.false)) c.loop-file.invariant
