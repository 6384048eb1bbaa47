-- A session with a device clear, message by message: the premises of the laws of runs can be met.
use Rattle.std.specs.Prelude.{ℕ, List, [], ◌∷◌, length}
use Rattle.psu_hislip.specs.Stream.Received.{Frame}
use Rattle.psu_hislip.specs.Frame.{header_of}
use Rattle.psu_hislip.specs.Runs.{Arrival}
use Rattle.psu_hislip.specs.Transmitted.{Stretch}
use Rattle.psu_hislip.specs.declared.side.Side.{Side}
use Rattle.psu_hislip.specs.declared.side.Side.TheVariants.{Sync, Async}
use Rattle.psu_hislip.specs.declared.message_type.MessageType.{MessageType}
use Rattle.psu_hislip.specs.declared.message_type.MessageType.TheVariants.{Data, DataEnd, DeviceClearComplete, AsyncInitialize, AsyncDeviceClear}

abbrev pub sends : Side → MessageType → ℕ → List ℕ → Arrival
sends side type parameter payload = record { side = side; message = Frame (header_of type 0 parameter (length payload)) payload }

-- Session 1 is joined; `A` and `B` are one transmission; `C` begins one that a device clear cuts off, with `D` after
-- it.
abbrev pub first_stretch : Stretch
first_stretch = record {
  before =
      sends Async AsyncInitialize 1 [] ∷ sends Sync Data 2 (65 ∷ []) ∷ sends Sync DataEnd 2 (66 ∷ []) ∷ sends Sync Data 4 (67 ∷ []) ∷ [];
  whole = record { payloads = (65 ∷ []) ∷ []; id = 2; last = 66 ∷ [] } ∷ [];
  cut = (67 ∷ []) ∷ [];
  clear = sends Async AsyncDeviceClear 0 [];
  between = sends Sync DataEnd 4 (68 ∷ []) ∷ [];
  complete = sends Sync DeviceClearComplete 0 [];
}

-- then `E` is a transmission
abbrev pub last_words : List Arrival
last_words = sends Sync DataEnd 6 (69 ∷ []) ∷ []
