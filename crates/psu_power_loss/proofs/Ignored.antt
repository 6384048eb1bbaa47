-- Calls for sessions that aren't open: the history and the disk are unchanged after one.
use Rattle.std.proofs.Common.{◌≡◌, List, Some, refl}
use Rattle.psu_disk.specs.Disk.{DiskState}
use Rattle.psu_exec.specs.Device.{State}
use Rattle.psu_exec.specs.Calls.{Entry, IsIgnored}
use Rattle.psu_power_loss.specs.World.{DiskAfter, PastUnit, World, recorded}

pub ignored_recorded : (s : State) (c : Entry) (us : List PastUnit) → IsIgnored s c → recorded s c us ≡ us
ignored_recorded s (Entry.Executed session request reply) us none = rw none.1 refl
ignored_recorded s (Entry.Settled session reply) us none = rw none.1 refl
ignored_recorded s (Entry.Closed session granted) us none = rw none.0 refl
ignored_recorded s (Entry.Cleared session) us none = rw none refl
ignored_recorded s other us none = refl

pub ignored_disk : (w : World) (c : Entry) (d : DiskState) → IsIgnored w.state c → DiskAfter w c d → d ≡ w.disk
ignored_disk w (Entry.GaveBack finished (Some over)) d none e = absurd none
ignored_disk w other d none e = e
