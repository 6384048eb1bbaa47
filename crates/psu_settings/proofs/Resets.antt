-- Settings are those of `*RST` exactly if their bytes are.
use Rattle.std.proofs.Common.{◌≡◌, Bool, true, false, List, Decides, refl, sym, ◌∙◌, ap}
use Rattle.std.specs.Prelude.{◌==◌, ◌&&◌}
use Rattle.std.specs.Bool.{beq}
use Rattle.std.specs.Cmp.{booleans_Decides, unsigned_Decides}
use Rattle.std.specs.Cmp.Lexicographic.{pointwise}
use Rattle.std.proofs.lemmas.Slice.Eq.{bytes_eq-Decides, slice_eq-Decides}
use Rattle.psu_settings.specs.declared.output_settings.OutputSettings.{OutputSettings}
use Rattle.psu_settings.specs.Settings.{AreSettings, reset, is_reset, bytes_of}
use Rattle.psu_settings.proofs.Apart.{same_output, same_settings}
use Rattle.psu_settings.proofs.Ranges.{both, join}

abbrev pub same_each : OutputSettings → OutputSettings → Bool
same_each o p = o.voltage.0 == p.voltage.0 && (o.current.0 == p.current.0 && (o.level.0 == p.level.0 && (beq o.protection p.protection && beq o.on p.on)))

each_same : (o p : OutputSettings) → same_each o p ≡ true → o ≡ p
each_same o p e =
    let voltage = both (o.voltage.0 == p.voltage.0) (o.current.0 == p.current.0 && (o.level.0 == p.level.0 && (beq o.protection p.protection && beq o.on p.on))) e in
    let current = both (o.current.0 == p.current.0) (o.level.0 == p.level.0 && (beq o.protection p.protection && beq o.on p.on)) voltage.1 in
    let level = both (o.level.0 == p.level.0) (beq o.protection p.protection && beq o.on p.on) current.1 in
    let flags = both (beq o.protection p.protection) (beq o.on p.on) level.1 in
    same_output o p ((unsigned_Decides o.voltage.0 p.voltage.0).0 voltage.0) ((unsigned_Decides o.current.0 p.current.0).0 current.0) ((unsigned_Decides o.level.0 p.level.0).0 level.0)
    ((booleans_Decides o.protection p.protection).0 flags.0) ((booleans_Decides o.on p.on).0 flags.1)

same_all : (o p : OutputSettings) → o ≡ p → same_each o p ≡ true
same_all o p e =
    join (o.voltage.0 == p.voltage.0) _ ((unsigned_Decides o.voltage.0 p.voltage.0).1 (ap (λ (q : OutputSettings). q.voltage.0) e))
    (join (o.current.0 == p.current.0) _ ((unsigned_Decides o.current.0 p.current.0).1 (ap (λ (q : OutputSettings). q.current.0) e))
    (join (o.level.0 == p.level.0) _ ((unsigned_Decides o.level.0 p.level.0).1 (ap (λ (q : OutputSettings). q.level.0) e))
    (join (beq o.protection p.protection) (beq o.on p.on) ((booleans_Decides o.protection p.protection).1 (ap (λ (q : OutputSettings). q.protection) e))
    ((booleans_Decides o.on p.on).1 (ap (λ (q : OutputSettings). q.on) e)))))

each_Decides : (o p : OutputSettings) → Decides (same_each o p) (o ≡ p)
each_Decides o p = (each_same o p, same_all o p)

pub resets : (outputs : List OutputSettings) → AreSettings outputs → pointwise same_each outputs reset ≡ is_reset outputs
resets outputs are = by_tests (pointwise same_each outputs reset) refl (is_reset outputs) refl
  where
    settings : pointwise same_each outputs reset ≡ true → outputs ≡ reset
    settings = (slice_eq-Decides each_Decides outputs reset (pointwise same_each outputs reset) refl).0

    again : outputs ≡ reset → pointwise same_each outputs reset ≡ true
    again = (slice_eq-Decides each_Decides outputs reset (pointwise same_each outputs reset) refl).1

    by_tests : (a : Bool) → pointwise same_each outputs reset ≡ a → (b : Bool) → is_reset outputs ≡ b → a ≡ b
    by_tests true e true f = refl
    by_tests true e false f = sym ((bytes_eq-Decides (bytes_of outputs) (bytes_of reset)).1 (ap bytes_of (settings e))) ∙ f
    by_tests false e true f = sym e ∙ again (same_settings outputs reset are (refl, refl) ((bytes_eq-Decides (bytes_of outputs) (bytes_of reset)).0 f))
    by_tests false e false f = refl
