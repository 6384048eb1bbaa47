-- What is measured at an output with a resistor as its load, and when its overvoltage protection trips.
-- Sources: SCPI-1999 volume 2 (MEASure, PROTection); the formulas are this project's profile.
use Rattle.std.specs.Prelude.{ℕ, ◌+◌, ◌*◌, ◌/◌, ◌&&◌, nat_lt, Bool, true, false, if◌then◌else◌}
use Rattle.psu_settings.specs.declared.output_settings.OutputSettings.{OutputSettings}
use Rattle.psu_outputs.specs.declared.quantities.Measured.{Measured}

-- the quotient, with half a unit rounded up
abbrev pub rounded : ℕ → ℕ → ℕ
rounded a b = (2 * a + b) / (2 * b)

-- the voltage drives more than the limit through the load
abbrev pub is_limited : OutputSettings → ℕ → Bool
is_limited o load = nat_lt (o.current.0 * load) (o.voltage.0 * 1000)

abbrev pub measured_on : OutputSettings → ℕ → Bool → Measured
measured_on o load true = record { voltage = record { 0 = rounded (o.current.0 * load) 1000 }; current = o.current; limited = true }
measured_on o load false = record { voltage = o.voltage; current = record { 0 = rounded (o.voltage.0 * 1000) load }; limited = false }

-- an output that is off measures nothing
abbrev pub measured : OutputSettings → ℕ → Measured
measured o load =
    if o.on then measured_on o load (is_limited o load)
    else record { voltage = record { 0 = 0 }; current = record { 0 = 0 }; limited = false }

-- protection is on, and the voltage is above its level
abbrev pub trips : OutputSettings → ℕ → Bool
trips o load = o.protection && (let m = measured o load in nat_lt o.level.0 m.voltage.0)
