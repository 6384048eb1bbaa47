-- The settings of the outputs, and their bytes.
-- Sources: SCPI-1999 volume 2 (SOURce, OUTPut); ranges and bytes are this project's profile.
use Rattle.std.specs.Prelude.{◌≡◌, ℕ, ◌+◌, ◌&&◌, nat_le, Bool, true, false, if◌then◌else◌, List, [], ◌∷◌, ◌++◌, length, replicate, slice_index_or, slice_set}
use Rattle.std.specs.List.{list_all, flat_map}
use Rattle.std.specs.Str.{bytes_eq}
use Rattle.std.specs.Int.{w16, to_be_bytes}
use Rattle.psu_settings.specs.declared.output.Output.{Output}
use Rattle.psu_settings.specs.declared.output.Output.TheVariants.{First, Second, Third, Fourth}
use Rattle.psu_settings.specs.declared.setting.Setting.{Setting}
use Rattle.psu_settings.specs.declared.setting.Setting.TheVariants.{Voltage, Current, ProtectionLevel, Protection, State}
use Rattle.psu_settings.specs.declared.output_settings.OutputSettings.{OutputSettings}

abbrev pub place_of : Output → ℕ
place_of First = 0
place_of Second = 1
place_of Third = 2
place_of Fourth = 3

-- # Settings

abbrev pub reset_output : OutputSettings
reset_output = record { voltage = record { 0 = 0 }; current = record { 0 = 0 }; level = record { 0 = 60000 }; protection = false; on = false }

-- the settings of `*RST`: 0 V, 0 A, protection level 60 V, protection off, output off
abbrev pub reset : List OutputSettings
reset = replicate 4 reset_output

abbrev pub settings_of : List OutputSettings → Output → OutputSettings
settings_of outputs output = slice_index_or outputs (place_of output) reset_output

-- voltages up to 60 V, currents up to 5 A
abbrev pub is_in_range : Setting → Bool
is_in_range (Voltage v) = nat_le v.0 60000
is_in_range (Current i) = nat_le i.0 5000
is_in_range (ProtectionLevel v) = nat_le v.0 60000
is_in_range (Protection on) = true
is_in_range (State on) = true

abbrev pub with_setting : OutputSettings → Setting → OutputSettings
with_setting o (Voltage v) = record o { voltage = v }
with_setting o (Current i) = record o { current = i }
with_setting o (ProtectionLevel v) = record o { level = v }
with_setting o (Protection on) = record o { protection = on }
with_setting o (State on) = record o { on = on }

abbrev pub after_set : List OutputSettings → Output → Setting → List OutputSettings
after_set outputs output setting = slice_set outputs (place_of output) (with_setting (settings_of outputs output) setting)

abbrev pub is_allowed : OutputSettings → Bool
is_allowed o = nat_le o.voltage.0 60000 && (nat_le o.current.0 5000 && nat_le o.level.0 60000)

-- settings of four outputs, each within its ranges
abbrev pub AreSettings : List OutputSettings → Type 0
AreSettings outputs = (length outputs ≡ 4) × (list_all is_allowed outputs ≡ true)

-- # Bytes

abbrev pub flag : Bool → ℕ → ℕ
flag on value = if on then value else 0

-- voltage, current and protection level in two bytes each, then bit 0 for protection on and bit 1 for output on
abbrev pub output_bytes : OutputSettings → List ℕ
output_bytes o = to_be_bytes w16 o.voltage.0 ++ (to_be_bytes w16 o.current.0 ++ (to_be_bytes w16 o.level.0 ++ (flag o.protection 1 + flag o.on 2) ∷ []))

abbrev pub bytes_of : List OutputSettings → List ℕ
bytes_of outputs = flat_map output_bytes outputs

-- the bytes are those of `*RST`
abbrev pub is_reset : List OutputSettings → Bool
is_reset outputs = bytes_eq (bytes_of outputs) (bytes_of reset)
