-- Strings and blocks: the bytes that a text encodes, and the text of a block as response data. Source: IEEE 488.2,
-- 7.7.5 (strings), 7.7.6 (blocks), 8.7.9 (blocks as response data).
use Rattle.std.specs.Prelude.{◌≡◌, ◌⊎◌, ℕ, List, [], ◌++◌, length, decimal}
use Rattle.psu_lex.specs.Message.{spelling, IsWhole}
use Rattle.psu_lex.specs.Message.Piece.{Quoted, Counted, Open}
use Rattle.psu_lex.specs.declared.scpi_error.ScpiError.{ScpiError}
use Rattle.psu_lex.specs.declared.scpi_error.ScpiError.TheVariants.{OutOfMemory}

-- the text is one string, which encodes these bytes
abbrev pub IsStringOf : List ℕ → List ℕ → Type 0
IsStringOf text bytes = (quote : ℕ) × (text ≡ spelling (Quoted quote bytes)) × IsWhole (Quoted quote bytes) []

-- the text is one block, which encodes these bytes: of definite length, or up to END
abbrev pub IsBlockOf : List ℕ → List ℕ → Type 0
IsBlockOf text bytes =
    ((digits : List ℕ) × (text ≡ spelling (Counted digits bytes)) × IsWhole (Counted digits bytes) [])
    ⊎ ((more : List ℕ) × (text ≡ spelling (Open bytes) ++ more) × IsWhole (Open bytes) more)

-- a datum is one block, which encodes these bytes: of definite length, or everything after `#0`
abbrev pub IsDatumOf : List ℕ → List ℕ → Type 0
IsDatumOf text bytes =
    ((digits : List ℕ) × (text ≡ spelling (Counted digits bytes)) × IsWhole (Counted digits bytes) []) ⊎ (text ≡ spelling (Open bytes))

-- an allocation failed and there are such bytes, or there are none and this is the fault
abbrev pub Refuses : ScpiError → (List ℕ → Type 0) → ScpiError → Type 0
Refuses fault IsOf error =
    ((error ≡ OutOfMemory) × (bytes : List ℕ) × IsOf bytes) ⊎ ((error ≡ fault) × ((bytes : List ℕ) → IsOf bytes → ⊥))

-- a block as response data: the number of its bytes in as few digits as possible, and the bytes
abbrev pub definite_text : List ℕ → List ℕ
definite_text bytes = spelling (Counted (decimal (length bytes)) bytes)
