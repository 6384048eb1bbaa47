-- Definitions for the contracts inside this crate: how bytes are stored.
use Rattle.std.specs.Prelude.{ℕ, ◌<◌, List, length, ⊤}
use Rattle.psu_lex.specs.declared.bytes.ByteStorage.{ByteStorage}
use Rattle.psu_lex.specs.declared.bytes.ByteStorage.TheVariants as storage

abbrev pub bytes_in : {A : Type 0} → ByteStorage A → List ℕ
bytes_in (storage.Few alloc few) = few.items
bytes_in (storage.Many list) = list.items

-- Bytes that need an allocation: more than 24. Fewer are stored in their value.
abbrev pub NeedsAllocation : List ℕ → Type 0
NeedsAllocation bytes = 24 < length bytes

-- Only bytes that need it are in allocated memory.
abbrev pub AllocatesForMany : {A : Type 0} → ByteStorage A → Type 0
AllocatesForMany (storage.Few alloc few) = ⊤
AllocatesForMany (storage.Many list) = NeedsAllocation list.items
