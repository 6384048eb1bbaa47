-- All outputs with their settings, as a list: its length, the output at a place, and what holds of each.
use Rattle.std.proofs.Common.{◌≡◌, ℕ, zero, suc, ◌+◌, ◌<◌, Bool, true, false, List, [], ◌∷◌, length, map, get_or, take, refl, ◌∙◌, ap, arith}
use Rattle.std.specs.Prelude.{◌||◌}
use Rattle.std.specs.List.{list_all}
use Rattle.psu_settings.specs.declared.output_settings.OutputSettings.{OutputSettings}
use Rattle.psu_settings.specs.Settings.{is_allowed}
use Rattle.psu_settings.proofs.Ranges.{both, join}
use Rattle.psu_outputs.specs.declared.supply.Supply.{Supply}
use Rattle.psu_outputs.specs.Outputs.{all_settings, any_conflicts, conflicts, is_load, is_settled, is_sound, with_all, with_settings, without_trip}
use Rattle.psu_outputs.proofs.Ranges.{settings_sound}
use Rattle.psu_outputs.proofs.Settled.{settled_set}

pub neither : (a b : Bool) → (a || b) ≡ false → (a ≡ false) × (b ≡ false)
neither true b e = absurd cc
neither false b e = (refl, e)

pub length_set : (supplies : List Supply) (outputs : List OutputSettings) → length supplies ≡ length outputs → length (with_all supplies outputs) ≡ length supplies
length_set [] outputs long = refl
length_set (s ∷ supplies) [] long = absurd (omega (arith, long))
length_set (s ∷ supplies) (o ∷ outputs) long = ap suc (length_set supplies outputs (omega (arith, long)))

pub set_at : (supplies : List Supply) (outputs : List OutputSettings) (n : ℕ) (d : Supply) (e : OutputSettings) → n < length supplies → n < length outputs
    → get_or (with_all supplies outputs) n d ≡ with_settings (get_or supplies n d) (get_or outputs n e)
set_at [] outputs n d e lt inside = absurd (omega (arith, lt))
set_at (s ∷ supplies) [] n d e lt inside = absurd (omega (arith, inside))
set_at (s ∷ supplies) (o ∷ outputs) zero d e lt inside = refl
set_at (s ∷ supplies) (o ∷ outputs) (suc n) d e lt inside = set_at supplies outputs n d e (omega (arith, lt)) (omega (arith, inside))

pub free_at : (supplies : List Supply) (outputs : List OutputSettings) (n : ℕ) (d : Supply) (e : OutputSettings) → any_conflicts supplies outputs ≡ false → n < length supplies → n < length outputs
    → conflicts (get_or supplies n d) (get_or outputs n e) ≡ false
free_at [] outputs n d e free lt inside = absurd (omega (arith, lt))
free_at (s ∷ supplies) [] n d e free lt inside = absurd (omega (arith, inside))
free_at (s ∷ supplies) (o ∷ outputs) zero d e free lt inside = (neither (conflicts s o) (any_conflicts supplies outputs) free).0
free_at (s ∷ supplies) (o ∷ outputs) (suc n) d e free lt inside =
    free_at supplies outputs n d e (neither (conflicts s o) (any_conflicts supplies outputs) free).1 (omega (arith, lt)) (omega (arith, inside))

pub all_settled : (supplies : List Supply) (outputs : List OutputSettings) → any_conflicts supplies outputs ≡ false → list_all is_settled (with_all supplies outputs) ≡ true
all_settled [] outputs free = refl
all_settled (s ∷ supplies) [] free = refl
all_settled (s ∷ supplies) (o ∷ outputs) free =
    let parts = neither (conflicts s o) (any_conflicts supplies outputs) free in
    join (is_settled (with_settings s o)) (list_all is_settled (with_all supplies outputs)) (settled_set s o parts.0) (all_settled supplies outputs parts.1)

pub all_sound : (supplies : List Supply) (outputs : List OutputSettings) → list_all is_sound supplies ≡ true → list_all is_allowed outputs ≡ true → list_all is_sound (with_all supplies outputs) ≡ true
all_sound [] outputs sound allowed = refl
all_sound (s ∷ supplies) [] sound allowed = refl
all_sound (s ∷ supplies) (o ∷ outputs) sound allowed =
    let these = both (is_sound s) (list_all is_sound supplies) sound in
    let those = both (is_allowed o) (list_all is_allowed outputs) allowed in
    join (is_sound (with_settings s o)) (list_all is_sound (with_all supplies outputs)) (settings_sound s o these.0 those.0) (all_sound supplies outputs these.1 those.1)

-- outputs whose trips are cleared can be set to anything
pub free_once_cleared : (supplies : List Supply) (outputs : List OutputSettings) → any_conflicts (map without_trip supplies) outputs ≡ false
free_once_cleared [] outputs = refl
free_once_cleared (s ∷ supplies) [] = refl
free_once_cleared (s ∷ supplies) (o ∷ outputs) = free_once_cleared supplies outputs

pub sound_once_cleared : (supplies : List Supply) → list_all is_sound supplies ≡ true → list_all is_sound (map without_trip supplies) ≡ true
sound_once_cleared [] sound = refl
sound_once_cleared (s ∷ supplies) sound =
    let parts = both (is_sound s) (list_all is_sound supplies) sound in
    join (is_sound (without_trip s)) (list_all is_sound (map without_trip supplies)) parts.0 (sound_once_cleared supplies parts.1)

pub settings_allowed : (supplies : List Supply) → list_all is_sound supplies ≡ true → list_all is_allowed (all_settings supplies) ≡ true
settings_allowed [] sound = refl
settings_allowed (s ∷ supplies) sound =
    let parts = both (is_sound s) (list_all is_sound supplies) sound in
    join (is_allowed s.settings) (list_all is_allowed (all_settings supplies)) (both (is_allowed s.settings) (is_load s.load.0) parts.0).0 (settings_allowed supplies parts.1)

-- # Conflicts, one output after another

pub conflict_at : (supplies : List Supply) (outputs : List OutputSettings) (k : ℕ) (d : Supply) (e : OutputSettings) → k < length supplies → k < length outputs
    → conflicts (get_or supplies k d) (get_or outputs k e) ≡ true → any_conflicts supplies outputs ≡ true
conflict_at [] outputs k d e lt inside is = absurd (omega (arith, lt))
conflict_at (s ∷ supplies) [] k d e lt inside is = absurd (omega (arith, inside))
conflict_at (s ∷ supplies) (o ∷ outputs) zero d e lt inside is = ap (λ (b : Bool). b || any_conflicts supplies outputs) is
conflict_at (s ∷ supplies) (o ∷ outputs) (suc k) d e lt inside is =
    either (conflicts s o) (any_conflicts supplies outputs) (conflict_at supplies outputs k d e (omega (arith, lt)) (omega (arith, inside)) is)
  where
    either : (a b : Bool) → b ≡ true → (a || b) ≡ true
    either true b e = refl
    either false b e = e

pub free_more : (supplies : List Supply) (outputs : List OutputSettings) (k : ℕ) (d : Supply) (e : OutputSettings) → k < length supplies → k < length outputs
    → any_conflicts (take k supplies) (take k outputs) ≡ false → conflicts (get_or supplies k d) (get_or outputs k e) ≡ false → any_conflicts (take (k + 1) supplies) (take (k + 1) outputs) ≡ false
free_more [] outputs k d e lt inside free is = absurd (omega (arith, lt))
free_more (s ∷ supplies) [] k d e lt inside free is = absurd (omega (arith, inside))
free_more (s ∷ supplies) (o ∷ outputs) zero d e lt inside free is = ap (λ (b : Bool). b || false) is
free_more (s ∷ supplies) (o ∷ outputs) (suc k) d e lt inside free is =
    let next : suc k + 1 ≡ suc (k + 1) = omega arith in
    let parts = neither (conflicts s o) (any_conflicts (take k supplies) (take k outputs)) free in
    ap (λ (n : ℕ). any_conflicts (take n (s ∷ supplies)) (take n (o ∷ outputs))) next
    ∙ ap (λ (b : Bool). b || any_conflicts (take (k + 1) supplies) (take (k + 1) outputs)) parts.0
    ∙ free_more supplies outputs k d e (omega (arith, lt)) (omega (arith, inside)) parts.1 is
