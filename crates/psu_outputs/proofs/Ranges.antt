-- A change of an output keeps it within its ranges.
use Rattle.std.proofs.Common.{◌≡◌, ◌≤◌, ℕ, Bool, true, false, cond}
use Rattle.std.specs.Prelude.{nat_le}
use Rattle.std.proofs.lemmas.Bool.{leb-true}
use Rattle.psu_settings.specs.declared.output_settings.OutputSettings.{OutputSettings}
use Rattle.psu_settings.specs.declared.setting.Setting.{Setting}
use Rattle.psu_settings.specs.declared.setting.Setting.TheVariants.{State}
use Rattle.psu_settings.specs.Settings.{is_allowed, is_in_range, with_setting}
use Rattle.psu_settings.proofs.Ranges.{both, join, set_allowed}
use Rattle.psu_outputs.specs.declared.supply.Supply.{Supply}
use Rattle.psu_outputs.specs.Measuring.{trips}
use Rattle.psu_outputs.specs.Outputs.{is_sound, is_load, checked, with_load, with_settings}

checked_sound : (s : Supply) → is_sound s ≡ true → is_sound (checked s) ≡ true
checked_sound s e = by (trips s.settings s.load.0)
  where
    by : (b : Bool) → is_sound (cond b (record s { settings = with_setting s.settings (State false); tripped = true }) s) ≡ true
    by true = e
    by false = e

pub settings_sound : (s : Supply) (settings : OutputSettings) → is_sound s ≡ true → is_allowed settings ≡ true → is_sound (with_settings s settings) ≡ true
settings_sound s settings e f =
    let parts = both (is_allowed s.settings) (is_load s.load.0) e in
    checked_sound (record s { settings = settings }) (join (is_allowed settings) (is_load s.load.0) f parts.1)

-- one setting is changed within its range
pub thing_sound : (s : Supply) (thing : Setting) → is_sound s ≡ true → is_in_range thing ≡ true → is_sound (with_settings s (with_setting s.settings thing)) ≡ true
thing_sound s thing e f = settings_sound s (with_setting s.settings thing) e (set_allowed s.settings thing (both (is_allowed s.settings) (is_load s.load.0) e).0 f)

pub load_sound : (s : Supply) (load : ℕ) → is_sound s ≡ true → is_load load ≡ true → is_sound (with_load s load) ≡ true
load_sound s load e f =
    let parts = both (is_allowed s.settings) (is_load s.load.0) e in
    checked_sound (record s { load = record { 0 = load } }) (join (is_allowed s.settings) (is_load load) parts.0 f)

pub some_load : (s : Supply) → is_sound s ≡ true → 1 ≤ s.load.0
some_load s e = leb-true 1 s.load.0 (both (nat_le 1 s.load.0) (nat_le s.load.0 10000000) (both (is_allowed s.settings) (is_load s.load.0) e).1).0
