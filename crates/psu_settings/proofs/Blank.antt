-- The settings that the prover's goals name where a place of a list is read, which no output has.
use Rattle.std.specs.Prelude.{false}
use Rattle.psu_settings.specs.declared.output_settings.OutputSettings.{OutputSettings}

abbrev pub blank_settings : OutputSettings
blank_settings = record { voltage = record { 0 = 0 }; current = record { 0 = 0 }; level = record { 0 = 0 }; protection = false; on = false }
