-- Places in a text, between two of its units: where an execution has stopped and continues.
use Rattle.std.specs.Prelude.{◌≡◌, ◌⊎◌, ℕ, ◌+◌, ◌≤◌, Bool, List, [], ◌++◌, length}
use Rattle.psu_lex.specs.Message.{Part, EndsIn, IsMessage, MakesUnits}
use Rattle.psu_messages.specs.Units.{LeadsToPath}
use Rattle.psu_messages.specs.declared.cursor.Cursor.{Cursor}
use Rattle.psu_messages.specs.declared.cursor.SavedPlace.{SavedPlace}

-- A place in some bytes: so many units are before it, the bytes after it give the others, and the next one is read at
-- this path. Where no byte is after it, fewer units may be before it.
pub record IsAt (inside : Bool) (bytes : List ℕ) (done : ℕ) (rest : List ℕ) (first : Bool) (path : List (List ℕ)) : Type 0 where
  pub before : List Part
  pub count : (length before ≡ done) ⊎ ((rest ≡ []) × (length before ≤ done))
  pub units : (more : List Part) → MakesUnits first [] rest more → IsMessage bytes (before ++ more)
  pub leads : LeadsToPath inside before path
  pub ends : EndsIn bytes rest
  pub few : length before + length rest ≤ length bytes

-- a cursor is at a place in its text
abbrev pub IsCursor : Bool → Cursor → Type 0
IsCursor inside cursor = IsAt inside cursor.text.now cursor.read cursor.units.text.now cursor.units.first cursor.path

-- a place that is kept, by the number of bytes after it
abbrev pub IsSavedPlace : {A : Type 0} → Bool → List ℕ → SavedPlace A → Type 0
IsSavedPlace inside bytes place = (rest : List ℕ) × (length rest ≡ place.left) × IsAt inside bytes place.read rest place.first place.path
