use Rattle.std.proofs.Common.{◌≡◌, ◌<◌, ◌≤◌, ◌-◌, ℕ, true, false}
use Rattle.psu_settings.specs.Settings.{is_reset}
use Rattle.psu_nv.specs.Commands.{settings_at}
use Rattle.psu_nv.specs.Parts.{Register}
use Rattle.psu_exec.specs.Changed.{is_changed}
use Rattle.psu_exec.proofs.difference.Compared.has_each_register.Given as goal

abbrev pub decreases-loop-number : goal.decreases-loop-number
decreases-loop-number g l = 100 - l.number

abbrev pub invariant-loop-number : goal.invariant-loop-number
invariant-loop-number g l =
    (l.number ≤ 100) × ((k : ℕ) → k < l.number → is_changed l.self.touched.now (Register k) ≡ true → is_reset (settings_at l.self.contents.now.registers k) ≡ false)
