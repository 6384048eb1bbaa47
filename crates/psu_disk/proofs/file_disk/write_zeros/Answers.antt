use Rattle.std.proofs.Common.{ℕ, List, true, subst}
use Rattle.std.proofs.lemmas.List.{take-replicate}
use Rattle.psu_disk.specs.FileCalls.{FileCall}
use Rattle.psu_disk.proofs.file_disk.write_zeros.Goals as goal

pub returns-clause-made : goal.returns-clause-made
returns-clause-made g c = subst (λ (bytes : List ℕ). g.F.FileCalls.made c.args.file.now (FileCall.WriteAt c.args.at bytes true) c.write_at.new.self) (take-replicate c.args.n 4096 0 c.requires.piece) c.in_ok-write_at.ensures.made
