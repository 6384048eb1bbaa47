use Rattle.std.proofs.Common.{◌≡◌, ◌*◌, take, length}
use Rattle.psu_settings.specs.Settings.{bytes_of}
use Rattle.psu_settings.proofs.settings.Settings.to_bytes.Given as goal

abbrev pub invariant-loop-place : goal.invariant-loop-place
invariant-loop-place l = (length l.bytes ≡ 28) × (take (7 * l.place) l.bytes ≡ bytes_of (take l.place l.self-inside.outputs))
