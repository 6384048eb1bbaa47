use Rattle.std.proofs.Common.{◌≡◌, length, drop}
use Rattle.psu_disk.specs.Touched.{IsKeptUp}
use Rattle.psu_disk.proofs.memory.settle.Given as goal

abbrev pub invariant-loop-span : goal.invariant-loop-span
invariant-loop-span l = record {
  synced : length l.synced ≡ length l.bytes;
  unsynced : length l.unsynced ≡ length l.bytes;
  kept_up : IsKeptUp l.bytes l.synced l.unsynced (drop l.span-index l.spans);
}
