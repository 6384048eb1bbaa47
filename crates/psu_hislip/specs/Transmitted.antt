-- The transmissions of a run, as the client sent them.
use Rattle.std.specs.Prelude.{◌≡◌, ℕ, Bool, true, false, if◌then◌else◌, Option, Some, None, List, [], ◌∷◌, ◌++◌, length, nat_lt, filter, map, flat_map}
use Rattle.std.specs.List.{list_any}
use Rattle.psu_hislip.specs.MessageType.{type_of}
use Rattle.psu_hislip.specs.Stream.{Received}
use Rattle.psu_hislip.specs.Stream.Received.{Frame, Oversize, BadHeader}
use Rattle.psu_hislip.specs.Action.{Act}
use Rattle.psu_hislip.specs.Answer.{joined}
use Rattle.psu_hislip.specs.Runs.{Arrival, begins_clear, completes_clear, EndsComplete}
use Rattle.psu_hislip.specs.declared.header.Header.{Header}
use Rattle.psu_hislip.specs.declared.side.Side.{Side}
use Rattle.psu_hislip.specs.declared.side.Side.TheVariants.{Sync}
use Rattle.psu_hislip.specs.declared.message_type.MessageType.{MessageType}
use Rattle.psu_hislip.specs.declared.message_type.MessageType.TheVariants.{Data, DataEnd}

-- the payload of a Data, or that of a DataEnd with its MessageID
pub data Piece : Type 0 where
  More : List ℕ → Piece
  Last : ℕ → List ℕ → Piece

abbrev pub piece_of : Side → Option MessageType → Header → List ℕ → List Piece
piece_of Sync (Some Data) h payload = More payload ∷ []
piece_of Sync (Some DataEnd) h payload = Last h.parameter payload ∷ []
piece_of side type h payload = []

abbrev pub received_piece : Side → Received → List Piece
received_piece side (Frame h payload) = piece_of side (type_of h.kind) h payload
received_piece side (Oversize h) = []
received_piece side BadHeader = []

abbrev pub piece_in : Arrival → List Piece
piece_in t = received_piece t.side t.message

-- the payloads of its Data, and its DataEnd
pub record SentTransmission : Type 0 where
  pub payloads : List (List ℕ)
  pub id : ℕ
  pub last : List ℕ

abbrev pub pieces_of : SentTransmission → List Piece
pieces_of transmission = map More transmission.payloads ++ Last transmission.id transmission.last ∷ []

abbrev pub text_of : SentTransmission → List ℕ
text_of transmission = joined transmission.payloads ++ transmission.last

-- its action in a session that has had so many device clears
abbrev pub action_for : ℕ → SentTransmission → Act
action_for clears transmission =
    if nat_lt 65536 (length (text_of transmission)) then Act.TooMuch (record { id = transmission.id; clears = clears })
    else Act.Execute (record { id = transmission.id; clears = clears }) (text_of transmission)

abbrev pub is_transmission : Act → Bool
is_transmission (Act.Execute origin bytes) = true
is_transmission (Act.TooMuch origin) = true
is_transmission action = false

-- the actions of the transmissions of a run
abbrev pub transmissions : List Act → List Act
transmissions actions = filter is_transmission actions

-- its bytes, or none where they are too many
abbrev pub text_kept : SentTransmission → Option (List ℕ)
text_kept transmission = if nat_lt 65536 (length (text_of transmission)) then None else Some (text_of transmission)

abbrev pub action_text : Act → Option (List ℕ)
action_text (Act.Execute origin bytes) = Some bytes
action_text action = None

-- # Sessions with device clears

-- The messages up to the end of a device clear: those before it, which are whole transmissions and then payloads that
-- the clear cuts off; its AsyncDeviceClear; those received until its DeviceClearComplete; and the DeviceClearComplete.
pub record Stretch : Type 0 where
  pub before : List Arrival
  pub whole : List SentTransmission
  pub cut : List (List ℕ)
  pub clear : Arrival
  pub between : List Arrival
  pub complete : Arrival

abbrev pub run_of : Stretch → List Arrival
run_of s = s.before ++ s.clear ∷ (s.between ++ s.complete ∷ [])

pub record IsStretch (s : Stretch) : Type 0 where
  pub no_clear : list_any begins_clear s.before ≡ false
  pub pieces : flat_map piece_in s.before ≡ flat_map pieces_of s.whole ++ map More s.cut
  pub in_order : EndsComplete s.before → ⊥
  pub begins : begins_clear s.clear ≡ true
  pub incomplete : list_any completes_clear s.between ≡ false
  pub completes : completes_clear s.complete ≡ true
