-- The header of a message. Source: IVI-6.1.
use Rattle.std.specs.Prelude.{ℕ, ◌<◌, ◌^◌, List, ◌∷◌, ◌++◌}
use Rattle.std.specs.Int.{w32, w64, to_be_bytes}
use Rattle.psu_hislip.specs.declared.header.Header.{Header}

-- `HS`, the type, the control code, the parameter and the length of the payload, most significant byte first
unfoldable pub header_bytes : Header → List ℕ
header_bytes h = 72 ∷ 83 ∷ h.kind ∷ h.control ∷ (to_be_bytes w32 h.parameter ++ to_be_bytes w64 h.length)

-- each number fits its bytes
abbrev pub Fits : Header → Type 0
Fits h = (h.kind < 256) × (h.control < 256) × (h.parameter < 2 ^ 32) × (h.length < 2 ^ 64)
