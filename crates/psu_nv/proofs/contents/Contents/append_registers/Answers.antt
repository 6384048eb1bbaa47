use Rattle.std.proofs.Common.{◌<◌, ◌∙◌, ◌++◌, List, sym, ap, length, arith}
use Rattle.std.proofs.lemmas.List.{append-nil, take_all}
use Rattle.psu_settings.specs.declared.output_settings.OutputSettings.{OutputSettings}
use Rattle.psu_nv.specs.Contents.{Contents, enables_items, registers_items}
use Rattle.psu_nv.proofs.Encoding.{before_register, next_register}
use Rattle.psu_nv.proofs.contents.Contents.append_registers.Goals as goal
use Rattle.psu_nv.proofs.contents.Contents.append_registers.Goals.{in-Some+in_ok-append, in_default}

pub loop-number-init : goal.loop-number-init
loop-number-init g c = let kept = c.args.self.now in c.requires ∙ sym (append-nil (enables_items kept.enables))

pub append-requires : goal.append-requires
append-requires g c =
    let kept = c.args.self.now in
    let there : c.loop-number.number < length kept.registers = omega (arith, c.self.invariant.count, ap (λ (k : Contents). length k.registers) c.self.view_is, c.loop-number-test.true) in
    before_register kept c.loop-number.number c.in-Some.register.number c.loop-number.items c.loop-number.invariant c.in-Some.ensures.found there

pub loop-number-preserved : goal.loop-number-preserved
loop-number-preserved g c =
    let kept = c.args.self.now in
    let there : c.loop-number.number < length kept.registers = omega (arith, c.self.invariant.count, ap (λ (k : Contents). length k.registers) c.self.view_is, c.loop-number-test.true) in
    elim c.match-of.branch [
      | in-Some+in_ok-append w ↦ w.items-is ∙ next_register kept c.loop-number.number w.in-Some.register.number _ c.loop-number.items _ c.loop-number.invariant w.in-Some.ensures.found (omega arith) there w.in_ok-append.ensures
      | in_default w ↦ absurd (omega (arith, w.in_default.ensures.none, c.loop-number-test.true))
    ]

pub returns : goal.returns
returns g c =
    let kept = c.args.self.now in
    let all = take_all c.loop-number.number kept.registers (omega (arith, c.self.invariant.count, ap (λ (k : Contents). length k.registers) c.self.view_is, c.loop-number-test.false)) in
    c.loop-number.invariant ∙ ap (λ (registers : List (List OutputSettings)). enables_items kept.enables ++ registers_items 0 registers) all
