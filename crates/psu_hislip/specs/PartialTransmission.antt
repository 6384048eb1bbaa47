-- A transmission: the concatenated payloads of its Data and its DataEnd. The maximum length is this project's profile.
use Rattle.std.specs.Prelude.{ℕ, ◌+◌, ◌<◌, nat_lt, if◌then◌else◌, Option, Some, None, List, [], ◌∷◌, ◌++◌, length}
use Rattle.psu_hislip.specs.Action.{Act}
use Rattle.psu_hislip.specs.declared.action.Origin.{Origin}

-- the bytes with more appended; over 65,536 none are kept
abbrev pub added : Option (List ℕ) → List ℕ → Option (List ℕ)
added None more = None
added (Some bytes) more = if nat_lt 65536 (length bytes + length more) then None else Some (bytes ++ more)

abbrev pub all_added : Option (List ℕ) → List (List ℕ) → Option (List ℕ)
all_added transmission [] = transmission
all_added transmission (more ∷ later) = all_added (added transmission more) later

-- the action of a whole transmission
abbrev pub executed : Origin → Option (List ℕ) → Act
executed origin None = Act.TooMuch origin
executed origin (Some bytes) = Act.Execute origin bytes

-- it has bytes that are kept
abbrev pub HasBytes : Option (List ℕ) → Type 0
HasBytes None = ⊥
HasBytes (Some bytes) = 0 < length bytes
