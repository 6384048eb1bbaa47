-- The entries of a map by labels, as macros.
use Rattle.std.specs.Prelude.{ℕ, List, map}
use Rattle.psu_nv.specs.Contents.{Macro}
use Rattle.psu_nv.specs.Commands.{macro_of}

abbrev pub macros_of : List (List ℕ × List ℕ) → List Macro
macros_of entries = map (λ e. macro_of e.0 e.1) entries
