use Rattle.std.proofs.Common.{length}
use Rattle.psu_power_loss.specs.World.{Moves}
use Rattle.psu_power_loss.proofs.laws.write_is_an_event.Goals as goal

pub returns-clause-moves : goal.returns-clause-moves
returns-clause-moves g c honest = Moves.Writes c.args.at (length c.args.bytes.now) (c.write.ensures.state honest)
