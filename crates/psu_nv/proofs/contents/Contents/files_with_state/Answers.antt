use Rattle.std.proofs.Common.{◌≡◌, ◌<◌, ap, subst, ◌∷◌, length, get_or, arith}
use Rattle.std.specs.List.{AllByRecursion}
use Rattle.psu_settings.specs.Settings.{AreSettings, reset, bytes_of}
use Rattle.psu_nv.specs.Contents.{Contents}
use Rattle.psu_nv.proofs.Finding.{all_at}
use Rattle.psu_nv.proofs.Totals.{twenty_eight}
use Rattle.psu_nv.proofs.contents.Contents.files_with_state.Goals as goal

pub returns-clause-value : goal.returns-clause-value
returns-clause-value g c =
    let registers = c.args.self.now.registers in
    let same : c.self.inside.registers ≡ registers = ap (λ (k : Contents). k.registers) c.self.view_is in
    let low : c.args.register.number < length registers = omega (arith, c.args.register.low, c.self.invariant.count, ap length same) in
    let are = all_at AreSettings registers c.args.register.number reset (subst (AllByRecursion AreSettings) same c.self.invariant.settings) low in
    let long : length (1 ∷ bytes_of (get_or registers c.args.register.number reset)) ≡ 29 = omega (arith, twenty_eight (get_or registers c.args.register.number reset) are.0) in
    c.files_with.ensures.value (1 ∷ bytes_of (get_or registers c.args.register.number reset)) long
