use Rattle.psu_disk.specs.Memory.{memory}
use Rattle.psu_guide.proofs.play.NewInstrumentPlayer.play.Goals as goal

pub returns-in-Ok-clause-played : goal.returns-in-Ok-clause-played
returns-in-Ok-clause-played g c =
    let disk = c.in-Some.disk in
    let is = c.in-Ok.ensures.whole in
    record { disk = memory disk.bytes.items disk.unsynced.items; is_new = c.in-Some.ensures; over = memory is.0.bytes.items is.0.unsynced.items; writes = is.1 }

pub returns-in-Err-clause-stopped : goal.returns-in-Err-clause-stopped
returns-in-Err-clause-stopped g c =
    let disk = c.in-Some.disk in
    let is = c.in-Err.ensures.early in
    record { disk = memory disk.bytes.items disk.unsynced.items; is_new = c.in-Some.ensures; over = memory is.0.bytes.items is.0.unsynced.items; rest = is.1; text = is.2; ends = is.3; long = is.4 }
