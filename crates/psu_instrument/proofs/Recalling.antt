-- Power-on with register 0, compared with `*RCL 0`.
use Rattle.std.proofs.Common.{◌≡◌, ◌∙◌, ap, refl, Bool, List}
use Rattle.psu_outputs.specs.Outputs.{conditions, reset_supplies}
use Rattle.psu_outputs.specs.declared.supply.Supply.{Supply}
use Rattle.psu_status.specs.Registers.{fifteen_bits}
use Rattle.std.specs.Prelude.{if◌then◌else◌}
use Rattle.psu_instrument.specs.Instrument.{Instrument, outputs_at_power_on, power_on, with_register, with_supplies}
use Rattle.psu_instrument.specs.Meaning.{leaves}
use Rattle.psu_instrument.specs.PowerOn.{PowersOnAsRecalled, without_recall}

same_left : (i j : Instrument) → leaves i ≡ leaves j → i ≡ j
same_left i j e = cc

pub powers_on_as_recalled : PowersOnAsRecalled
powers_on_as_recalled c is limit available left e =
    let put = with_register reset_supplies c 0 in
    let after : with_supplies (power_on (without_recall c)) put ≡ left = same_left (with_supplies (power_on (without_recall c)) put) left e in
    let outputs : outputs_at_power_on c ≡ put = ap (λ (b : Bool). if b then put else reset_supplies) is in
    record {
      outputs = outputs ∙ ap (λ (i : Instrument). i.supplies) after;
      condition = ap (λ (l : List Supply). fifteen_bits (conditions l)) outputs ∙ ap (λ (i : Instrument). i.status.questionable.condition) after;
      quiet = refl;
    }
