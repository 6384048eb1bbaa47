-- The settings and measurements of the outputs. Source: SCPI-1999 volume 2 (SOURce, OUTPut, MEASure); SIMulation is
-- this project's own.
use Rattle.std.specs.Prelude.{ℕ, not, Bool, if◌then◌else◌, Option, Some, None}
use Rattle.psu_lex.specs.declared.scpi_error.ScpiError.TheVariants.{DataOutOfRange, SettingsConflict}
use Rattle.psu_outputs.specs.Outputs.{supply_of, with_supply, with_load, without_trip, is_load, any_conflicts, with_all, all_settings}
use Rattle.psu_outputs.specs.Measuring.{measured}
use Rattle.psu_settings.specs.Settings.{is_in_range, after_set}
use Rattle.psu_outputs.specs.declared.quantities.Measured.{Measured}
use Rattle.psu_settings.specs.declared.output.Output.{Output}
use Rattle.psu_settings.specs.declared.setting.Setting.{Setting}
use Rattle.psu_settings.specs.declared.setting.Setting.TheVariants as setting
use Rattle.psu_outputs.specs.declared.supply.Supply.{Supply}
use Rattle.psu_tree.specs.Commands.{greatest_of}
use Rattle.psu_tree.specs.declared.values.Extreme.{Extreme}
use Rattle.psu_tree.specs.declared.values.Extreme.TheVariants as extreme
use Rattle.psu_tree.specs.declared.values.Level.{Level}
use Rattle.psu_tree.specs.declared.values.Level.TheVariants as level
use Rattle.psu_tree.specs.declared.queries.OutputQuery.{OutputQuery}
use Rattle.psu_tree.specs.declared.queries.OutputQuery.TheVariants as query
use Rattle.psu_tree.specs.declared.values.Switch.{Switch}
use Rattle.psu_tree.specs.declared.values.Switch.TheVariants as switch
use Rattle.psu_instrument.specs.Common.{digit}
use Rattle.psu_instrument.specs.Instrument.{with_supplies}
use Rattle.psu_instrument.specs.Meaning.{Situation, Meaning, Refuses, says, says_fixed, leaves}

-- the settings of an output, with its load and its trip
abbrev pub supply : Situation → Output → Supply
supply s o = supply_of s.instrument.supplies o

-- ---- settings

-- One setting of an output is changed, and the output may then trip. A tripped output can't be switched on.
abbrev pub set : Situation → Output → Setting → Meaning
set s o thing =
    if not (is_in_range thing) then Refuses DataOutOfRange
    else (if any_conflicts s.instrument.supplies (after_set (all_settings s.instrument.supplies) o thing) then Refuses SettingsConflict
    else leaves (with_supplies s.instrument (with_all s.instrument.supplies (after_set (all_settings s.instrument.supplies) o thing))))

-- `VOLTage`, `CURRent`, `VOLTage:PROTection`: in millivolts and milliamperes
abbrev pub level_of : Level → ℕ → Setting
level_of level.Voltage n = setting.Voltage (record { 0 = n })
level_of level.Current n = setting.Current (record { 0 = n })
level_of level.Protection n = setting.ProtectionLevel (record { 0 = n })

-- the setting of a level
abbrev pub level_set : Supply → Level → ℕ
level_set supply level.Voltage = supply.settings.voltage.0
level_set supply level.Current = supply.settings.current.0
level_set supply level.Protection = supply.settings.level.0

-- `VOLTage?` and the other level queries: the setting, or an end of its range
abbrev pub level_queried : Situation → Level → Output → Option Extreme → Meaning
level_queried s which o None = says_fixed s (level_set (supply s o) which)
level_queried s which o (Some extreme.Least) = says_fixed s 0
level_queried s which o (Some extreme.Greatest) = says_fixed s (greatest_of which)

-- `OUTPut`, `VOLTage:PROTection:STATe`
abbrev pub switch_of : Switch → Bool → Setting
switch_of switch.Output on = setting.State on
switch_of switch.Protection on = setting.Protection on

-- `VOLTage:PROTection:CLEar`: the trip is cleared, and the output stays off
abbrev pub clear_trip : Situation → Output → Meaning
clear_trip s o = leaves (with_supplies s.instrument (with_supply s.instrument.supplies o (without_trip (supply s o))))

-- `SIMulation:LOAD`, in milliohms; the output may then trip
abbrev pub load : Situation → Output → ℕ → Meaning
load s o milliohms =
    if is_load milliohms then leaves (with_supplies s.instrument (with_supply s.instrument.supplies o (with_load (supply s o) milliohms)))
    else Refuses DataOutOfRange

-- ---- queries

abbrev pub measured_of : Supply → Measured
measured_of supply = measured supply.settings supply.load.0

-- `OUTPut?`, `VOLTage:PROTection:STATe?` and `:TRIPped?`, `MEASure:VOLTage?` and `:CURRent?`, `SIMulation:LOAD?`
abbrev pub queried : Situation → OutputQuery → Output → Meaning
queried s query.State o = let supply = supply s o in says s (digit supply.settings.on)
queried s query.Protection o = let supply = supply s o in says s (digit supply.settings.protection)
queried s query.Tripped o = let supply = supply s o in says s (digit supply.tripped)
queried s query.Voltage o = let measured = measured_of (supply s o) in says_fixed s measured.voltage.0
queried s query.Current o = let measured = measured_of (supply s o) in says_fixed s measured.current.0
queried s query.Load o = let supply = supply s o in says s supply.load.0
