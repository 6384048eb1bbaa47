use Rattle.std.proofs.Common.{arith, sym, ◌∙◌, ap, length, List, subst}
use Rattle.std.specs.List.{AllByRecursion}
use Rattle.psu_settings.specs.Settings.{AreSettings}
use Rattle.psu_settings.specs.declared.output_settings.OutputSettings.{OutputSettings}
use Rattle.psu_nv.proofs.Kept.{each_reset, kept_part, kept_register, at_error}
use Rattle.psu_nv.specs.Parts.{Register}
use Rattle.psu_nv.specs.Decoding.{RepresentsContents}
use Rattle.psu_nv.specs.Commands.{settings_at}
use Rattle.psu_nv.proofs.decode.registers_in.Goals as goal

pub loop-number-init : goal.loop-number-init
loop-number-init g c = record {
  count = ap (λ (l : List (List OutputSettings)). length l) c.reset-registers.ensures;
  are = subst (AllByRecursion AreSettings) (sym c.reset-registers.ensures) (each_reset 100);
  found = λ r less. absurd (omega (arith, less));
}

pub returns-in_err-register_in-clause-none : goal.returns-in_err-register_in-clause-none
returns-in_err-register_in-clause-none g c = at_error c.from_residual.result (λ (kept : RepresentsContents c.args.items.now).
    c.in_err-register_in.ensures.none (settings_at kept.contents.registers c.loop-number.number) c.loop-number.number (kept_register c.args.items.now kept c.loop-number.number c.loop-number-test.true)
    (kept_part c.args.items.now kept (Register c.loop-number.number) ∙ sym c.get.ensures))
