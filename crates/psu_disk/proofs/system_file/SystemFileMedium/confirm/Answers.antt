use Rattle.std.proofs.Common.{ℕ, sym, subst}
use Rattle.psu_disk.specs.FileCalls.{IsWhole}
use Rattle.psu_disk.proofs.system_file.SystemFileMedium.confirm.Goals as goal

pub returns-then-is_whole-clause-confirmed : goal.returns-then-is_whole-clause-confirmed
returns-then-is_whole-clause-confirmed g c =
    let looked = c.is_whole.ensures.looked in
    let whole = looked.2.0 c.if-is_whole.true in
    (c.args.self.now.file, looked.0, looked.1, subst (λ (size : ℕ). IsWhole size looked.0) (sym c.is_whole.ensures.extent) whole)
