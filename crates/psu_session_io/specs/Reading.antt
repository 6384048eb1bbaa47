-- What a thread reads from a connection.
use Rattle.std.specs.Prelude.{◌≡◌, ℕ, List, ◌++◌}
use Rattle.psu_session_io.specs.declared.connection.Incoming.{Incoming}
use Rattle.psu_session_io.specs.declared.connection.Incoming.TheVariants.{Bytes, Nothing, End}

-- The bytes that were read are the first of these, and the others are left.
abbrev pub IsFirstOf : {S : Type 0} → Incoming S → List ℕ → List ℕ → Type 0
IsFirstOf (Bytes read) all left = read.bytes.now ++ left ≡ all
IsFirstOf Nothing all left = ⊥
IsFirstOf (End ended) all left = ⊥
