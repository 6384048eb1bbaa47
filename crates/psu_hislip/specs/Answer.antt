-- The frames of a response. Source: IVI-6.1; the sizes are this project's profile.
use Rattle.std.specs.Prelude.{◌≡◌, ◌<◌, ◌≤◌, ℕ, ◌-◌, min, max, All, Option, Some, None, List, [], ◌++◌, length, flat_map}
use Rattle.psu_hislip.specs.Frame.{frame_bytes}
use Rattle.psu_hislip.specs.declared.message_type.MessageType.TheVariants.{Data, DataEnd}

-- the maximum payload size: the client's maximum message size less the header, at least 1, at most 65,520
abbrev pub answer_size : Option ℕ → ℕ
answer_size None = 65520
answer_size (Some size) = max 1 (min (size - 16) 65520)

abbrev pub joined : List (List ℕ) → List ℕ
joined pieces = flat_map (λ piece. piece) pieces

-- the bytes are full pieces followed by a last one, which is empty only where there is nothing to send
pub record IsCut (size : ℕ) (bytes : List ℕ) (full : List (List ℕ)) (last : List ℕ) : Type 0 where
  pub whole : bytes ≡ joined full ++ last
  pub filled : All (λ piece. length piece ≡ size) full
  pub within : length last ≤ size
  pub some : last ≡ [] → bytes ≡ []

-- pieces as Data with this MessageID
abbrev pub data_of : ℕ → List (List ℕ) → List ℕ
data_of id pieces = flat_map (λ piece. frame_bytes Data 0 id piece) pieces

-- pieces as Data and the last as DataEnd, all with this MessageID
abbrev pub frames_of : ℕ → List (List ℕ) → List ℕ → List ℕ
frames_of id pieces last = data_of id pieces ++ frame_bytes DataEnd 0 id last

-- a response that is sent whole
abbrev pub IsAnswer : ℕ → ℕ → List ℕ → List ℕ → Type 0
IsAnswer size id bytes frames =
    (full : List (List ℕ)) × (last : List ℕ) × IsCut size bytes full last × (frames ≡ frames_of id full last)

-- # Parts

abbrev pub AreWithin : ℕ → List (List ℕ) → Type 0
AreWithin size pieces = All (λ piece. (0 < length piece) × (length piece ≤ size)) pieces

-- a part of a response that continues after it: its bytes as Data
abbrev pub IsPart : ℕ → ℕ → List ℕ → List ℕ → Type 0
IsPart size id bytes frames = (pieces : List (List ℕ)) × (bytes ≡ joined pieces) × AreWithin size pieces × (frames ≡ data_of id pieces)

-- a response cut anywhere: only the last payload is a DataEnd
abbrev pub IsAnswerCutAnywhere : ℕ → ℕ → List ℕ → List ℕ → Type 0
IsAnswerCutAnywhere size id bytes frames =
    (pieces : List (List ℕ)) × (last : List ℕ) × (bytes ≡ joined pieces ++ last) × AreWithin size pieces × (length last ≤ size)
    × (frames ≡ frames_of id pieces last)

-- the bytes and the frames of a part
pub record Part : Type 0 where
  pub bytes : List ℕ
  pub frames : List ℕ

-- each is a part, sent under some maximum payload size that is at most the greatest
abbrev pub AreParts : ℕ → ℕ → List Part → Type 0
AreParts greatest id parts = All (λ part. (size : ℕ) × (size ≤ greatest) × IsPart size id part.bytes part.frames) parts

-- the bytes of the parts, concatenated, and their frames
abbrev pub bytes_of : List Part → List ℕ
bytes_of parts = flat_map (λ part. part.bytes) parts

abbrev pub all_frames : List Part → List ℕ
all_frames parts = flat_map (λ part. part.frames) parts
