use Rattle.psu_settings.proofs.Pieces.{AreRead}
use Rattle.psu_settings.proofs.settings.Settings.of_bytes.Given as goal

abbrev pub invariant-loop-place : goal.invariant-loop-place
invariant-loop-place l = AreRead l.bytes l.place l.outputs
