-- The messages of a stream of bytes. Source: IVI-6.1 (a header, then its payload); the maximum payload length and the
-- handling of a bad header are this project's profile.
use Rattle.std.specs.Prelude.{◌≡◌, ◌≢◌, ◌⊎◌, ℕ, ◌<◌, ◌≤◌, List, [], ◌∷◌, ◌++◌, length, take}
use Rattle.psu_hislip.specs.Header.{header_bytes, Fits}
use Rattle.psu_hislip.specs.declared.header.Header.{Header}
use Rattle.psu_hislip.specs.declared.message.Message as rust
use Rattle.psu_hislip.specs.declared.message.Message.TheVariants as message

-- A message: a frame with its payload, a frame whose payload is too long to be kept, or sixteen bytes that are not a
-- header.
pub data Received : Type 0 where
  Frame : Header → List ℕ → Received
  Oversize : Header → Received
  BadHeader : Received

-- The bytes begin with the message, and more follows it. An oversize frame counts as a message once its header is
-- complete; its payload is skipped as it arrives. After a bad header everything is skipped.
abbrev pub StartsWith : Received → List ℕ → List ℕ → Type 0
StartsWith (Frame h payload) bytes more =
    Fits h × (bytes ≡ header_bytes h ++ (payload ++ more)) × (length payload ≡ h.length) × (h.length ≤ 65536)
StartsWith (Oversize h) bytes more =
    Fits h × (65536 < h.length) × ((passed : List ℕ) × (bytes ≡ header_bytes h ++ (passed ++ more))
    × ((length passed ≡ h.length) ⊎ ((length passed < h.length) × (more ≡ []))))
StartsWith BadHeader bytes more = (16 ≤ length bytes) × (take 2 bytes ≢ 72 ∷ 83 ∷ []) × (more ≡ [])

-- the bytes are these messages concatenated, followed by a rest that does not begin with a message
abbrev pub IsStream : List ℕ → List Received → Type 0
IsStream bytes [] = (m : Received) (more : List ℕ) → StartsWith m bytes more → ⊥
IsStream bytes (m ∷ ms) = (more : List ℕ) × StartsWith m bytes more × IsStream more ms

-- a message of the code, with its payload as a list
abbrev pub received : {A : Type 0} → rust.Message A → Received
received (message.Frame h payload) = Frame h payload.items
received (message.Oversize h) = Oversize h
received message.BadHeader = BadHeader
