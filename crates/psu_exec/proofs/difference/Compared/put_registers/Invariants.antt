use Rattle.std.proofs.Common.{◌≡◌, ◌≤◌, ◌-◌, ◌++◌, take}
use Rattle.std.specs.List.{flat_map}
use Rattle.psu_nv.specs.Contents.{registers_items}
use Rattle.psu_exec.specs.Batch.{assignment}
use Rattle.psu_exec.proofs.difference.Compared.put_registers.Given as goal

abbrev pub decreases-loop-number : goal.decreases-loop-number
decreases-loop-number g l = 100 - l.number

abbrev pub invariant-loop-number : goal.invariant-loop-number
invariant-loop-number g l =
    (l.number ≤ 100) × (l.batch ≡ l.initial.batch ++ flat_map (assignment l.self.before.now.map) (registers_items 0 (take l.number l.self.contents.now.registers)))
