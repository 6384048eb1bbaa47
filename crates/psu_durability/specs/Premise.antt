-- The one premise of the laws at the program's disk: what the image file has when it is opened again.
use Rattle.std.specs.Prelude.{ℕ, List}
use Rattle.psu_disk.specs.Disk.{DiskState, IsCrashImage}

-- The file kept the model of the calls on it: each possible crash image of it as it is opened was possible before.
abbrev pub KeepsModel : (List ℕ → Type 0) → DiskState → Type 0
KeepsModel possible opened = (image : List ℕ) → IsCrashImage opened image → possible image
