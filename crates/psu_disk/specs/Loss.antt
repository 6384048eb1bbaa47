-- The value of an unsynced byte after a power loss.
use Rattle.std.specs.Prelude.{ℕ}
use Rattle.psu_disk.specs.declared.choice.Choice.{Choice}
use Rattle.psu_disk.specs.declared.choice.Choice.TheVariants.{Old, New, Fill}

-- the byte of the last sync, the byte that a read returned, or the same byte everywhere
abbrev pub lost : Choice → ℕ → ℕ → ℕ
lost Old synced read = synced
lost New synced read = read
lost (Fill byte) synced read = byte
