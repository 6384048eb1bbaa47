-- A change of a setting within its range keeps the settings within their ranges.
use Rattle.std.proofs.Common.{◌≡◌, ℕ, zero, suc, ◌<◌, Bool, true, false, List, [], ◌∷◌, length, get_or, refl, ◌∙◌, ap, arith}
use Rattle.std.specs.Prelude.{◌&&◌, nat_le, slice_set}
use Rattle.std.specs.List.{list_all}
use Rattle.psu_settings.specs.declared.output_settings.OutputSettings.{OutputSettings}
use Rattle.psu_settings.specs.declared.setting.Setting.{Setting}
use Rattle.psu_settings.specs.declared.setting.Setting.TheVariants.{Voltage, Current, ProtectionLevel, Protection, State}
use Rattle.psu_settings.specs.Settings.{is_allowed, is_in_range, with_setting}

pub both : (a b : Bool) → (a && b) ≡ true → (a ≡ true) × (b ≡ true)
both true b e = (refl, e)
both false b e = absurd cc

pub join : (a b : Bool) → a ≡ true → b ≡ true → (a && b) ≡ true
join a b e f = ap (λ (x : Bool). x && b) e ∙ f

-- if all elements pass a test, so does the one at a place, and so do all after one is replaced by one that passes
pub each_passes : {X : Type 0} (p : X → Bool) (xs : List X) (i : ℕ) (d : X) → list_all p xs ≡ true → i < length xs → p (get_or xs i d) ≡ true
each_passes p [] i d e lt = absurd (omega arith)
each_passes p (x ∷ xs) zero d e lt = (both (p x) (list_all p xs) e).0
each_passes p (x ∷ xs) (suc i) d e lt = each_passes p xs i d (both (p x) (list_all p xs) e).1 (omega arith)

pub all_pass : {X : Type 0} (p : X → Bool) (xs : List X) (i : ℕ) (y : X) → list_all p xs ≡ true → p y ≡ true → list_all p (slice_set xs i y) ≡ true
all_pass p [] i y e f = refl
all_pass p (x ∷ xs) zero y e f = join (p y) (list_all p xs) f (both (p x) (list_all p xs) e).1
all_pass p (x ∷ xs) (suc i) y e f = let parts = both (p x) (list_all p xs) e in join (p x) (list_all p (slice_set xs i y)) parts.0 (all_pass p xs i y parts.1 f)

pub set_allowed : (o : OutputSettings) (s : Setting) → is_allowed o ≡ true → is_in_range s ≡ true → is_allowed (with_setting o s) ≡ true
set_allowed o (Voltage v) e f = let parts = both (nat_le o.voltage.0 60000) (nat_le o.current.0 5000 && nat_le o.level.0 60000) e in join (nat_le v.0 60000) (nat_le o.current.0 5000 && nat_le o.level.0 60000) f parts.1
set_allowed o (Current i) e f =
    let parts = both (nat_le o.voltage.0 60000) (nat_le o.current.0 5000 && nat_le o.level.0 60000) e in
    let more = both (nat_le o.current.0 5000) (nat_le o.level.0 60000) parts.1 in
    join (nat_le o.voltage.0 60000) (nat_le i.0 5000 && nat_le o.level.0 60000) parts.0 (join (nat_le i.0 5000) (nat_le o.level.0 60000) f more.1)
set_allowed o (ProtectionLevel v) e f =
    let parts = both (nat_le o.voltage.0 60000) (nat_le o.current.0 5000 && nat_le o.level.0 60000) e in
    let more = both (nat_le o.current.0 5000) (nat_le o.level.0 60000) parts.1 in
    join (nat_le o.voltage.0 60000) (nat_le o.current.0 5000 && nat_le v.0 60000) parts.0 (join (nat_le o.current.0 5000) (nat_le v.0 60000) more.0 f)
set_allowed o (Protection on) e f = e
set_allowed o (State on) e f = e
