use Rattle.std.proofs.Common.{◌≡◌, ◌++◌, map, take}
use Rattle.std.specs.List.{flat_map}
use Rattle.psu_nv.specs.Contents.{file_item}
use Rattle.psu_exec.specs.Batch.{assignment}
use Rattle.psu_exec.proofs.difference.Compared.put_files.Given as goal

abbrev pub invariant-loop-file : goal.invariant-loop-file
invariant-loop-file g l = l.batch ≡ l.initial.batch ++ flat_map (assignment l.self.before.now.map) (map file_item (take l.file-index l.self.contents.now.files))
