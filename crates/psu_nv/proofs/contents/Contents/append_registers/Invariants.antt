use Rattle.std.proofs.Common.{◌≡◌, ◌++◌, take}
use Rattle.psu_nv.specs.Contents.{enables_items, registers_items}
use Rattle.psu_nv.proofs.contents.Contents.append_registers.Given as goal

abbrev pub invariant-loop-number : goal.invariant-loop-number
invariant-loop-number g l = l.items ≡ enables_items l.self.enables ++ registers_items 0 (take l.number l.self.registers)
