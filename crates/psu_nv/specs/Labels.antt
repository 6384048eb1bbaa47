-- How the labels of macros are compared. Source: IEEE 488.2, 10.8 (`*DMC`).
use Rattle.std.specs.Prelude.{ℕ, Bool, List, map}
use Rattle.std.specs.Str.{bytes_eq}
use Rattle.std.specs.Char.{to_ascii_lowercase}

-- bytes in lower case
abbrev pub lowercase : List ℕ → List ℕ
lowercase bytes = map to_ascii_lowercase bytes

-- two labels are the same without regard to case
abbrev pub same_label : List ℕ → List ℕ → Bool
same_label a b = bytes_eq (lowercase a) (lowercase b)
