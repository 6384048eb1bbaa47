use Rattle.std.proofs.Common.{refl, replicate, true}
use Rattle.psu_exec.proofs.Touching.{all_are, all_set}
use Rattle.psu_exec.proofs.changed_parts.ChangedParts.all.Goals as goal

pub returns : goal.returns
returns c = all_are (record { enables = true; registers = replicate 100 true; some_register = true; user = true; macros = true; files = true; recall = true }) refl (all_set 100) refl refl refl refl refl
