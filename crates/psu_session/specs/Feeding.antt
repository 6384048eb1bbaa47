-- The bytes of a channel.
use Rattle.std.specs.Prelude.{◌≡◌, ℕ, List}
use Rattle.psu_hislip.specs.Channel.{Awaited}
use Rattle.psu_hislip.specs.Stream.{Received}
use Rattle.psu_hislip.specs.declared.side.Side.{Side}
use Rattle.psu_session.specs.Step.{Feeds}
use Rattle.psu_session.specs.State.{SessionState, channel_of, with_channel}

-- a channel has returned the messages that the next bytes of its stream complete
pub record IsFed (side : Side) (received_bytes : List ℕ) (messages : List Received) (s t : SessionState) : Type 0 where
  pub channel : Awaited
  pub feeds : Feeds (channel_of side s) received_bytes messages channel
  pub then : t ≡ with_channel side s channel
