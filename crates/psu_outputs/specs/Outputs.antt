-- The outputs with their loads and trips. Sources: SCPI-1999 volume 2 (OUTPut, PROTection); the rules of trips are this
-- project's profile.
use Rattle.std.specs.Prelude.{◌≡◌, ℕ, ◌+◌, ◌&&◌, ◌||◌, nat_le, not, Bool, true, false, if◌then◌else◌, List, [], ◌∷◌, length, map, replicate, slice_index_or, slice_set}
use Rattle.std.specs.List.{list_any, list_all}
use Rattle.psu_settings.specs.declared.output.Output.{Output}
use Rattle.psu_settings.specs.declared.setting.Setting.TheVariants.{State}
use Rattle.psu_settings.specs.declared.output_settings.OutputSettings.{OutputSettings}
use Rattle.psu_outputs.specs.declared.supply.Supply.{Supply}
use Rattle.psu_settings.specs.Settings.{place_of, reset_output, is_allowed, with_setting}
use Rattle.psu_outputs.specs.Measuring.{measured, trips}

-- as at power-on: the settings of `*RST`, a load of 10 ohms, not tripped
abbrev pub reset_supply : Supply
reset_supply = record { settings = reset_output; load = record { 0 = 10000 }; tripped = false }

-- all outputs at power-on
abbrev pub reset_supplies : List Supply
reset_supplies = replicate 4 reset_supply

-- one output
abbrev pub supply_of : List Supply → Output → Supply
supply_of supplies output = slice_index_or supplies (place_of output) reset_supply

-- the outputs with one of them changed
abbrev pub with_supply : List Supply → Output → Supply → List Supply
with_supply supplies output s = slice_set supplies (place_of output) s

-- a load of 1 milliohm to 10 kilohms
abbrev pub is_load : ℕ → Bool
is_load load = nat_le 1 load && nat_le load 10000000

-- the settings and the load are within their ranges
abbrev pub is_sound : Supply → Bool
is_sound s = is_allowed s.settings && is_load s.load.0

-- four outputs, each within its ranges
abbrev pub AreSupplies : List Supply → Type 0
AreSupplies supplies = (length supplies ≡ 4) × (list_all is_sound supplies ≡ true)

-- the output would not trip now, and it is off while it is tripped
abbrev pub is_settled : Supply → Bool
is_settled s = not (trips s.settings s.load.0) && not (s.tripped && s.settings.on)

abbrev pub AreSettled : List Supply → Type 0
AreSettled supplies = list_all is_settled supplies ≡ true

-- # Changes

-- After a change: an output whose protection is on and whose measured voltage is above its level becomes off, and is
-- tripped.
abbrev pub checked : Supply → Supply
checked s =
    if trips s.settings s.load.0 then record s { settings = with_setting s.settings (State false); tripped = true }
    else s

-- a tripped output can't be switched on
abbrev pub conflicts : Supply → OutputSettings → Bool
conflicts s settings = s.tripped && settings.on

-- some tripped output would be switched on
abbrev pub any_conflicts : List Supply → List OutputSettings → Bool
any_conflicts [] outputs = false
any_conflicts (s ∷ supplies) [] = false
any_conflicts (s ∷ supplies) (o ∷ outputs) = conflicts s o || any_conflicts supplies outputs

-- an output with other settings, which may trip it
abbrev pub with_settings : Supply → OutputSettings → Supply
with_settings s settings = checked (record s { settings = settings })

-- each output with its settings
abbrev pub with_all : List Supply → List OutputSettings → List Supply
with_all [] outputs = []
with_all (s ∷ supplies) [] = []
with_all (s ∷ supplies) (o ∷ outputs) = with_settings s o ∷ with_all supplies outputs

-- an output with another load, which may trip it
abbrev pub with_load : Supply → ℕ → Supply
with_load s load = checked (record s { load = record { 0 = load } })

-- a trip is cleared, and the output stays off
abbrev pub without_trip : Supply → Supply
without_trip s = record s { tripped = false }

-- each output with its settings, after all trips are cleared
abbrev pub restored : List Supply → List OutputSettings → List Supply
restored supplies outputs = with_all (map without_trip supplies) outputs

-- the settings of each output
abbrev pub all_settings : List Supply → List OutputSettings
all_settings supplies = map (λ (s : Supply). s.settings) supplies

-- # Conditions

abbrev pub is_in_limit : Supply → Bool
is_in_limit s = let m = measured s.settings s.load.0 in m.limited

-- QUEStionable: bit 0 where an output is tripped, bit 1 where one is in current limit
abbrev pub conditions : List Supply → ℕ
conditions supplies = (if list_any (λ (s : Supply). s.tripped) supplies then 1 else 0) + (if list_any is_in_limit supplies then 2 else 0)
