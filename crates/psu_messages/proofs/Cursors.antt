-- A cursor over the units of a text.
use Rattle.std.proofs.Common.{◌≡◌, ℕ, ◌+◌, ◌<◌, ◌≤◌, Bool, true, false, Option, Some, None, IfSome, arith, List, [], ◌∷◌, length, refl, sym, ap, subst}
use Rattle.std.proofs.lemmas.List.{append-nil}
use Rattle.psu_lex.specs.Message.{EndsIn, MakesUnits, Part, part}
use Rattle.psu_lex.specs.declared.unit.Unit as rust
use Rattle.psu_lex.specs.declared.units.Units.{Units}
use Rattle.psu_tree.specs.declared.command.Request.{Request}
use Rattle.psu_messages.specs.Places.{IsAt, IsCursor, IsSavedPlace}
use Rattle.psu_messages.specs.Units.{IsBehind, IsRequest, IsUnit, path_at}
use Rattle.psu_messages.specs.declared.cursor.Cursor.{Cursor}
use Rattle.psu_messages.specs.declared.cursor.SavedPlace.{SavedPlace}
use Rattle.psu_messages.proofs.Places.{at_end, at_next, at_same, behind_at, unit_at}

module _ (inside : Bool) (old : Cursor) (at : IsCursor inside old) (later : Units) where
  -- the next unit is read, after which these are left
  module _ (unit : rust.Unit) (request : Request) (new : Cursor) (makes : (more : List Part) → MakesUnits later.first [] later.text.now more → MakesUnits old.units.first [] old.units.text.now (part unit ∷ more))
      (ends : EndsIn old.units.text.now later.text.now) (less : length later.text.now < length old.units.text.now)
      (reads : IsRequest inside (path_at old.path (part unit)) (part unit) request new.path) (same : new.text ≡ old.text) (units : new.units ≡ later) (one : new.read ≡ old.read + 1) where
    pub continues : IsCursor inside new
    continues =
        subst (λ (t : _). IsAt inside t.now new.read new.units.text.now new.units.first new.path) (sym same)
        (at_same inside old.text.now _ _ _ _ _ _ _ _ one (ap (λ (u : Units). u.text.now) units) (ap (λ (u : Units). u.first) units) refl
        (at_next at later.text.now later.first (part unit) makes ends less request new.path reads))

    pub unit_is : IsUnit inside old.text.now old.read (part unit) request
    unit_is = unit_at at later.text.now later.first (part unit) makes ends less request new.path reads

  -- none is left
  pub ends_at : (count : ℕ) → MakesUnits old.units.first [] old.units.text.now [] → old.read ≤ count → ((rest : List ℕ) → EndsIn old.text.now rest → length rest ≡ 0 → later.text.now ≡ rest) → later.first ≡ true
      → IsAt inside old.text.now count later.text.now later.first old.path
  ends_at count none more are first =
      at_same inside old.text.now _ _ _ _ _ _ _ _ refl (are [] (old.text.now, sym (append-nil old.text.now)) refl) first refl (at_end at count none more)

-- a cursor that is back at the place of this one
pub is_back : (inside : Bool) (old new : Cursor) → IsCursor inside old → new.text ≡ old.text → new.units ≡ old.units → new.path ≡ old.path → new.read ≡ old.read → IsCursor inside new
is_back inside old new at text units path read =
    subst (λ (t : _). IsAt inside t.now new.read new.units.text.now new.units.first new.path) (sym text)
    (at_same inside old.text.now _ _ _ _ _ _ _ _ read (ap (λ (u : Units). u.text.now) units) (ap (λ (u : Units). u.first) units) path at)

-- no unit is left where the cursor is
pub none_behind : (inside : Bool) (old : Cursor) → IsCursor inside old → MakesUnits old.units.first [] old.units.text.now [] → IsBehind old.text.now old.read
none_behind inside old at none = behind_at at none

-- a place of a cursor that is kept is one of its text
pub some_kept : {A : Type 0} (kept : Option (SavedPlace A)) (cursor : Cursor) (bytes : List ℕ) → cursor.text.now ≡ bytes → IsCursor false cursor → IfSome kept (λ place. (inside : Bool) → IsCursor inside cursor → IsSavedPlace inside cursor.text.now place)
    → IfSome kept (IsSavedPlace false bytes)
some_kept None cursor bytes text at is = tt
some_kept (Some place) cursor bytes text at is = subst (λ (b : List ℕ). IsSavedPlace false b place) text (is false at)

pub some_later : {A : Type 0} (kept : Option (SavedPlace A)) (most more : ℕ) → most ≤ more → IfSome kept (λ place. place.read ≤ most) → IfSome kept (λ place. place.read ≤ more)
some_later None most more later is = tt
some_later (Some place) most more later is = omega (arith, later, is)
