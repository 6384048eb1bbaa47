use Rattle.std.specs.Prelude.{length, map}
use Rattle.psu_hislip.specs.Stream.{received}
use Rattle.psu_session.specs.Room.{KeepsCapacity}
use Rattle.psu_session.specs.Shown.{state_of}
use Rattle.psu_session.proofs.ReceivedMessages.{Receiving}
use Rattle.psu_session.proofs.parts.Parts.receive_messages.Given as goal

abbrev pub invariant-loop-message : goal.invariant-loop-message
invariant-loop-message g l = record {
  done : Receiving g.D.Device.does l.now l.side (map received l.initial.messages.items) (map received l.messages.items) (state_of l.initial.self) l.initial.device (state_of l.self) l.device;
  capacity : KeepsCapacity l.initial.self l.self;
}

abbrev pub decreases-loop-message : goal.decreases-loop-message
decreases-loop-message g l = length l.messages.items
