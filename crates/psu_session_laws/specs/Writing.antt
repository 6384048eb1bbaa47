-- Who writes on a connection, over whole histories: bytes that are taken are written before others are taken.
use Rattle.std.specs.Prelude.{◌≡◌, ℕ, Bool, true, false, List, [], ◌∷◌, ◌++◌}
use Rattle.psu_hislip.specs.declared.side.Side.{Side}
use Rattle.psu_hislip.specs.declared.side.Side.TheVariants.{Sync, Async}
use Rattle.psu_session.specs.Events.{Event, Took, Wrote}
use Rattle.psu_session.specs.Step.{IsHistory}
use Rattle.psu_session.specs.State.{Start, SessionState, writes}

-- the first where both connections are the same, otherwise the second
abbrev pub on_same : Side → Side → Bool → Bool → Bool
on_same Sync Sync here elsewhere = here
on_same Async Async here elsewhere = here
on_same one other here elsewhere = elsewhere

-- whether a thread writes on a connection after an event
abbrev pub writes_by : Side → Bool → Event → Bool
writes_by side writing (Took on bytes) = on_same side on true writing
writes_by side writing (Wrote on) = on_same side on false writing
writes_by side writing _ = writing

-- and after events, one after another
abbrev pub writes_after : Side → Bool → List Event → Bool
writes_after side writing [] = writing
writes_after side writing (event ∷ events) = writes_after side (writes_by side writing event) events

-- The state says who writes: a thread writes on a connection where the last event of the two is that bytes are taken.
abbrev pub TheWriterIsKnown : Type 0
TheWriterIsKnown = (start : Start) (history : List Event) (s : SessionState) → IsHistory start history s → (side : Side) → writes side s ≡ writes_after side false history

-- Bytes are taken only while no thread writes: between two such events of a connection the first bytes are written.
abbrev pub EachTakeIsWritten : Type 0
EachTakeIsWritten = (start : Start) (history : List Event) (s : SessionState) → IsHistory start history s → (side : Side) (before between after : List Event) (first second : List ℕ)
    → history ≡ before ++ Took side first ∷ (between ++ Took side second ∷ after) → (some : List Event) × (more : List Event) × (between ≡ some ++ Wrote side ∷ more)
