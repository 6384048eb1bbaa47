-- An output that stands for one where no place of a list is meant, as the prover's goals name it.
use Rattle.std.specs.Prelude.{false}
use Rattle.psu_settings.specs.declared.output_settings.OutputSettings.{OutputSettings}
use Rattle.psu_outputs.specs.declared.supply.Supply.{Supply}

abbrev pub blank_settings : OutputSettings
blank_settings = record { voltage = record { 0 = 0 }; current = record { 0 = 0 }; level = record { 0 = 0 }; protection = false; on = false }

abbrev pub blank : Supply
blank = record { settings = blank_settings; load = record { 0 = 0 }; tripped = false }
