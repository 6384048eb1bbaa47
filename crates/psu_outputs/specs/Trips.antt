-- When an output trips, as a law in the words of SCPI-1999 volume 2 (SOURce:VOLTage:PROTection with STATe, TRIPped and
-- CLEar), over the changes that the calls of `Outputs` make.
use Rattle.std.specs.Prelude.{◌≡◌, ℕ, ◌+◌, ◌<◌, ◌&&◌, ◌==◌, not, Bool, true, false, if◌then◌else◌, List, [], ◌∷◌, length, ◌↔◌, ⊤}
use Rattle.std.specs.List.{list_any}
use Rattle.psu_settings.specs.declared.output.Output.{Output}
use Rattle.psu_settings.specs.declared.output_settings.OutputSettings.{OutputSettings}
use Rattle.psu_settings.specs.declared.setting.Setting.TheVariants.{State}
use Rattle.psu_settings.specs.Settings.{place_of, settings_of, with_setting}
use Rattle.psu_outputs.specs.declared.supply.Supply.{Supply}
use Rattle.psu_outputs.specs.Measuring.{measured}
use Rattle.psu_outputs.specs.Outputs.{AreSettled, AreSupplies, any_conflicts, is_load, restored, supply_of, with_all, with_load, with_supply, without_trip}

-- A change of the outputs that a call makes, where it is not refused: `set` and `set_one` (settings), `set_load` (the
-- load of an output), `clear` (the trip of an output, `VOLTage:PROTection:CLEar`), `restore` (settings, after all trips
-- are cleared; `*RST`, `*RCL`).
pub data Change : Type 0 where
  Sets : List OutputSettings → Change
  Loads : Output → ℕ → Change
  Clears : Output → Change
  Restores : List OutputSettings → Change

-- the outputs after a change, as the clauses of the call have it
abbrev pub after : List Supply → Change → List Supply
after supplies (Sets outputs) = with_all supplies outputs
after supplies (Loads output load) = with_supply supplies output (with_load (supply_of supplies output) load)
after supplies (Clears output) = with_supply supplies output (without_trip (supply_of supplies output))
after supplies (Restores outputs) = restored supplies outputs

-- the call isn't refused
abbrev pub IsAccepted : List Supply → Change → Type 0
IsAccepted supplies (Sets outputs) = (length outputs ≡ 4) × (any_conflicts supplies outputs ≡ false)
IsAccepted supplies (Loads output load) = is_load load ≡ true
IsAccepted supplies (Clears output) = ⊤
IsAccepted supplies (Restores outputs) = length outputs ≡ 4

-- two names are of one output
abbrev pub is_same : Output → Output → Bool
is_same a b = place_of a == place_of b

-- the change clears the trip of an output, if it is tripped
abbrev pub clears : Change → Output → Bool
clears (Sets outputs) output = false
clears (Loads other load) output = false
clears (Clears other) output = is_same other output
clears (Restores outputs) output = true

-- An output as a change asks for it, before its protection acts: with its settings, its load, and its trip unless the
-- change clears it.
abbrev pub asked : List Supply → Change → Output → Supply
asked supplies (Sets outputs) output = record (supply_of supplies output) { settings = settings_of outputs output }
asked supplies (Loads other load) output =
    if is_same other output then record (supply_of supplies output) { load = record { 0 = load } } else supply_of supplies output
asked supplies (Clears other) output = if is_same other output then without_trip (supply_of supplies output) else supply_of supplies output
asked supplies (Restores outputs) output = record (without_trip (supply_of supplies output)) { settings = settings_of outputs output }

-- the output is on, its protection is on, and the measured voltage is above the protection's level
abbrev pub IsOver : Supply → Type 0
IsOver s = (s.settings.on ≡ true) × (s.settings.protection ≡ true) × (let m = measured s.settings s.load.0 in s.settings.level.0 < m.voltage.0)

-- an output trips at a change: it is tripped after it, and was not before, or that trip was cleared by the change
abbrev pub trips_at : List Supply → Change → Output → Bool
trips_at supplies change output =
    let now = supply_of (after supplies change) output in
    let s = asked supplies change output in
    now.tripped && not s.tripped

-- # One change

-- an output trips at a change exactly if it is over its level, as the change asks for it
abbrev pub EachTripHasItsCause : Type 0
EachTripHasItsCause =
    (supplies : List Supply) (change : Change) (output : Output) → AreSupplies supplies → AreSettled supplies → IsAccepted supplies change
    → (trips_at supplies change output ≡ true) ↔ IsOver (asked supplies change output)

-- an output that trips is off and tripped, and all else of it is as the change asks; one that does not is wholly as asked
abbrev pub ATripSwitchesOff : Type 0
ATripSwitchesOff =
    (supplies : List Supply) (change : Change) (output : Output) → AreSupplies supplies → AreSettled supplies → IsAccepted supplies change
    → let s = asked supplies change output in
    supply_of (after supplies change) output ≡ (if trips_at supplies change output then record s { settings = with_setting s.settings (State false); tripped = true } else s)

-- a tripped output is off, and it stays tripped and off until its trip is cleared
abbrev pub TripsStay : Type 0
TripsStay =
    (supplies : List Supply) (change : Change) (output : Output) → AreSupplies supplies → AreSettled supplies → IsAccepted supplies change
    → let was = supply_of supplies output in
    let now = supply_of (after supplies change) output in
    was.tripped ≡ true → clears change output ≡ false → (was.settings.on ≡ false) × (now.tripped ≡ true) × (now.settings.on ≡ false)

-- # Changes one after another

-- the outputs after all changes, in their order
abbrev pub after_all : List Supply → List Change → List Supply
after_all supplies [] = supplies
after_all supplies (change ∷ changes) = after_all (after supplies change) changes

-- no change is refused
abbrev pub AreAccepted : List Supply → List Change → Type 0
AreAccepted supplies [] = ⊤
AreAccepted supplies (change ∷ changes) = IsAccepted supplies change × AreAccepted (after supplies change) changes

-- no change clears the trip of an output
abbrev pub clear_none : List Change → Output → Bool
clear_none changes output = not (list_any (λ (change : Change). clears change output) changes)

-- one if it is so, else none
abbrev pub count : Bool → ℕ
count b = if b then 1 else 0

-- how often an output trips
abbrev pub trip_count : List Supply → List Change → Output → ℕ
trip_count supplies [] output = 0
trip_count supplies (change ∷ changes) output = count (trips_at supplies change output) + trip_count (after supplies change) changes output

-- how often a trip of an output is cleared
abbrev pub clear_count : List Supply → List Change → Output → ℕ
clear_count supplies [] output = 0
clear_count supplies (change ∷ changes) output =
    let was = supply_of supplies output in
    count (was.tripped && clears change output) + clear_count (after supplies change) changes output

-- each trip is cleared before the next: those at first and those since are the cleared ones and the one that stands
abbrev pub EachTripIsCleared : Type 0
EachTripIsCleared =
    (supplies : List Supply) (changes : List Change) (output : Output) → AreSupplies supplies → AreSettled supplies → AreAccepted supplies changes
    → let was = supply_of supplies output in
    let now = supply_of (after_all supplies changes) output in
    count was.tripped + trip_count supplies changes output ≡ clear_count supplies changes output + count now.tripped

-- an output that was on, and that no change clears, has tripped once if it is tripped now, and else not at all
abbrev pub TripsOnce : Type 0
TripsOnce =
    (supplies : List Supply) (changes : List Change) (output : Output) → AreSupplies supplies → AreSettled supplies → AreAccepted supplies changes
    → let was = supply_of supplies output in
    let now = supply_of (after_all supplies changes) output in
    was.settings.on ≡ true → clear_none changes output ≡ true → trip_count supplies changes output ≡ count now.tripped
