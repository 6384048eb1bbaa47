-- Settled outputs: one stays unchanged under its own settings, and a change of one changes no other.
use Rattle.std.proofs.Common.{rules, ◌≡◌, ℕ, zero, suc, ◌<◌, Bool, true, false, cond, not, List, [], ◌∷◌, length, get_or, refl, sym, ◌∙◌, ap, arith}
use Rattle.std.specs.Prelude.{◌&&◌, ◌||◌, nat_lt, slice_set}
use Rattle.std.specs.List.{list_all}
use Rattle.psu_settings.specs.declared.output_settings.OutputSettings.{OutputSettings}
use Rattle.psu_settings.specs.declared.output.Output.{Output}
use Rattle.psu_settings.specs.declared.setting.Setting.{Setting}
use Rattle.psu_settings.specs.declared.setting.Setting.TheVariants.{State}
use Rattle.psu_settings.specs.Settings.{after_set, place_of, reset_output, with_setting}
use Rattle.psu_settings.proofs.Ranges.{both, join}
use Rattle.psu_outputs.specs.declared.supply.Supply.{Supply}
use Rattle.psu_outputs.specs.Measuring.{trips}
use Rattle.psu_outputs.specs.Outputs.{all_settings, any_conflicts, checked, conflicts, is_settled, with_all, with_load, with_settings, without_trip}

not_so : (a : Bool) → not a ≡ true → a ≡ false
not_so true e = absurd cc
not_so false e = refl

never_trips : (protection : Bool) (level : ℕ) → (protection && nat_lt level 0) ≡ false
never_trips true level = search rules
never_trips false level = refl

-- an output that was checked for a trip is settled, unless it was tripped and switched on
pub settled_checked : (s : Supply) → (s.tripped && s.settings.on) ≡ false → is_settled (checked s) ≡ true
settled_checked s e = by (trips s.settings s.load.0) refl
  where
    by : (b : Bool) → trips s.settings s.load.0 ≡ b → is_settled (cond b (record s { settings = with_setting s.settings (State false); tripped = true }) s) ≡ true
    by true t = ap (λ (x : Bool). not x && true) (never_trips s.settings.protection s.settings.level.0)
    by false t = ap (λ (x : Bool). not x && not (s.tripped && s.settings.on)) t ∙ ap not e

pub settled_set : (s : Supply) (o : OutputSettings) → conflicts s o ≡ false → is_settled (with_settings s o) ≡ true
settled_set s o e = settled_checked (record s { settings = o }) e

-- a tripped output that is settled is off
pub off_while_tripped : (s : Supply) → is_settled s ≡ true → (s.tripped && s.settings.on) ≡ false
off_while_tripped s e = not_so (s.tripped && s.settings.on) (both (not (trips s.settings s.load.0)) (not (s.tripped && s.settings.on)) e).1

pub settled_load : (s : Supply) (load : ℕ) → is_settled s ≡ true → is_settled (with_load s load) ≡ true
settled_load s load e = settled_checked (record s { load = record { 0 = load } }) (off_while_tripped s e)

pub settled_cleared : (s : Supply) → is_settled s ≡ true → is_settled (without_trip s) ≡ true
settled_cleared s e = join (not (trips s.settings s.load.0)) true (both (not (trips s.settings s.load.0)) (not (s.tripped && s.settings.on)) e).0 refl

-- an output that is settled stays unchanged under its own settings
pub own_settings : (s : Supply) → is_settled s ≡ true → with_settings s s.settings ≡ s
own_settings s e =
    let quiet = not_so (trips s.settings s.load.0) (both (not (trips s.settings s.load.0)) (not (s.tripped && s.settings.on)) e).0 in
    ap (λ (b : Bool). cond b (record s { settings = with_setting s.settings (State false); tripped = true }) s) quiet

all_as_they_are : (supplies : List Supply) → list_all is_settled supplies ≡ true → with_all supplies (all_settings supplies) ≡ supplies
all_as_they_are [] e = refl
all_as_they_are (s ∷ supplies) e =
    let parts = both (is_settled s) (list_all is_settled supplies) e in
    ap (λ (x : Supply). x ∷ with_all supplies (all_settings supplies)) (own_settings s parts.0) ∙ ap (λ (l : List Supply). s ∷ l) (all_as_they_are supplies parts.1)

-- a change of one output changes no other
pub one_set : (supplies : List Supply) (n : ℕ) (d : Supply) (o : OutputSettings) → list_all is_settled supplies ≡ true → n < length supplies
    → slice_set supplies n (with_settings (get_or supplies n d) o) ≡ with_all supplies (slice_set (all_settings supplies) n o)
one_set [] n d o e lt = absurd (omega (arith, lt))
one_set (s ∷ supplies) zero d o e lt =
    let parts = both (is_settled s) (list_all is_settled supplies) e in
    ap (λ (l : List Supply). with_settings s o ∷ l) (sym (all_as_they_are supplies parts.1))
one_set (s ∷ supplies) (suc n) d o e lt =
    let parts = both (is_settled s) (list_all is_settled supplies) e in
    ap (λ (x : Supply). x ∷ slice_set supplies n (with_settings (get_or supplies n d) o)) (sym (own_settings s parts.0)) ∙ ap (λ (l : List Supply). with_settings s s.settings ∷ l) (one_set supplies n d o parts.1 (omega (arith, lt)))

none_conflict : (supplies : List Supply) → list_all is_settled supplies ≡ true → any_conflicts supplies (all_settings supplies) ≡ false
none_conflict [] e = refl
none_conflict (s ∷ supplies) e =
    let parts = both (is_settled s) (list_all is_settled supplies) e in
    ap (λ (x : Bool). x || any_conflicts supplies (all_settings supplies)) (off_while_tripped s parts.0) ∙ none_conflict supplies parts.1

with_none : (a b : Bool) → b ≡ false → (a || b) ≡ a
with_none true b e = refl
with_none false b e = e

pub one_conflicts : (supplies : List Supply) (n : ℕ) (d : Supply) (o : OutputSettings) → list_all is_settled supplies ≡ true → n < length supplies
    → any_conflicts supplies (slice_set (all_settings supplies) n o) ≡ conflicts (get_or supplies n d) o
one_conflicts [] n d o e lt = absurd (omega (arith, lt))
one_conflicts (s ∷ supplies) zero d o e lt =
    let parts = both (is_settled s) (list_all is_settled supplies) e in
    with_none (conflicts s o) (any_conflicts supplies (all_settings supplies)) (none_conflict supplies parts.1)
one_conflicts (s ∷ supplies) (suc n) d o e lt =
    let parts = both (is_settled s) (list_all is_settled supplies) e in
    ap (λ (x : Bool). x || any_conflicts supplies (slice_set (all_settings supplies) n o)) (off_while_tripped s parts.0) ∙ one_conflicts supplies n d o parts.1 (omega (arith, lt))

settings_at : (supplies : List Supply) (n : ℕ) (d : Supply) (o : OutputSettings) → n < length supplies → get_or (all_settings supplies) n o ≡ (let s = get_or supplies n d in s.settings)
settings_at [] n d o lt = absurd (omega (arith, lt))
settings_at (s ∷ supplies) zero d o lt = refl
settings_at (s ∷ supplies) (suc n) d o lt = settings_at supplies n d o (omega (arith, lt))

-- one setting of an output is changed
module _ (supplies now : List Supply) (was : supplies ≡ now) (settled : list_all is_settled supplies ≡ true) (output : Output) (n : ℕ) (place : n ≡ place_of output) (lt : n < length supplies) (d : Supply) (thing : Setting) where
  abbrev after : Supply → List OutputSettings
  after s = slice_set (all_settings supplies) n (with_setting s.settings thing)

  set_so : after (get_or supplies n d) ≡ after_set (all_settings now) output thing
  set_so =
      ap (λ (o : OutputSettings). slice_set (all_settings supplies) n (with_setting o thing)) (sym (settings_at supplies n d reset_output lt))
      ∙ ap (λ (m : ℕ). slice_set (all_settings supplies) m (with_setting (get_or (all_settings supplies) m reset_output) thing)) place
      ∙ ap (λ (l : List Supply). after_set (all_settings l) output thing) was

  pub thing_conflicts : any_conflicts now (after_set (all_settings now) output thing) ≡ (let s = get_or supplies n d in conflicts s (with_setting s.settings thing))
  thing_conflicts =
      let s = get_or supplies n d in
      ap (λ (l : List Supply). any_conflicts l (after_set (all_settings now) output thing)) (sym was) ∙ ap (any_conflicts supplies) (sym set_so) ∙ one_conflicts supplies n d (with_setting s.settings thing) settled lt

  pub thing_set : (let s = get_or supplies n d in slice_set supplies n (with_settings s (with_setting s.settings thing))) ≡ with_all now (after_set (all_settings now) output thing)
  thing_set =
      let s = get_or supplies n d in
      one_set supplies n d (with_setting s.settings thing) settled lt ∙ ap (with_all supplies) set_so ∙ ap (λ (l : List Supply). with_all l (after_set (all_settings now) output thing)) was
