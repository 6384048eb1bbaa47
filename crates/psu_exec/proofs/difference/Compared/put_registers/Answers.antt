use Rattle.std.proofs.Common.{◌+◌, append-nil, arith, sym}
use Rattle.psu_exec.specs.Batch.{assignment}
use Rattle.psu_exec.proofs.Differing.{next_number, passed_to}
use Rattle.psu_exec.proofs.Touching.{unchanged_register}
use Rattle.psu_exec.proofs.difference.Compared.put_registers.Goals as goal

pub loop-number-init : goal.loop-number-init
loop-number-init g c =
    let self = c.args.self.now in
    let next = c.next_register-number.ensures in (
      next.most,
      passed_to (assignment self.before.now.map) self.contents.now.registers c.args.batch.now c.args.batch.now 0 c.next_register-number.result (omega arith) (omega (arith, next.most, c.requires.contents.count)) (sym (append-nil c.args.batch.now))
          (λ k low high. unchanged_register self.touched.now self.before.now.map self.contents.now k c.requires.others (next.none k low high)),
    )

pub loop-number-preserved : goal.loop-number-preserved
loop-number-preserved g c =
    let self = c.args.self.now in
    let f = assignment self.before.now.map in
    let registers = self.contents.now.registers in
    let next = c.next_register-number-in-loop-number.ensures in
    let one = next_number f registers c.args.batch.now c.loop-number.batch c.put_register.new.batch c.loop-number.number (omega (arith, c.loop-number-test.true, c.requires.contents.count)) c.loop-number.invariant.1 c.in_ok-put_register.ensures in (
      next.most,
      passed_to f registers c.args.batch.now c.put_register.new.batch (c.loop-number.number + 1) c.next_register-number-in-loop-number.result (next.first (omega (arith, c.loop-number-test.true))) (omega (arith, next.most, c.requires.contents.count)) one
          (λ k low high. unchanged_register self.touched.now self.before.now.map self.contents.now k c.requires.others (next.none k low high)),
    )
