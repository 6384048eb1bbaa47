-- What the instrument answers to lines that are sent to it, in the words of a run.
use Rattle.std.specs.Prelude.{◌≡◌, ◌⊎◌, ⊤, ℕ, List, [], length, None, Some}
use Rattle.psu_disk.specs.Disk.{DiskState, IsCrashImage}
use Rattle.psu_items.specs.Image.{EachRepresents, current_root, number_in}
use Rattle.psu_run.specs.Output.{Written}
use Rattle.psu_run.specs.Results.{DoesNotStart, WritesTo}
use Rattle.psu_run.specs.Lines.{IsTooLong}
use Rattle.psu_run.specs.declared.run_cause.RunCause.{RunCause}
use Rattle.psu_run.specs.declared.run_cause.RunCause.TheVariants.{TooLong}
use Rattle.psu_guide.specs.declared.play_fault.PlayFault.{PlayFault}
use Rattle.psu_guide.specs.declared.play_fault.PlayFault.TheVariants.{Memory, Run}

-- A disk with a new image, of 263,168 bytes: each possible crash image of it represents the empty map, which may take 256
-- pages, and the current root has the number 1.
pub record IsNew (disk : DiskState) : Type 0 where
  pub size : length disk.bytes ≡ 263168
  pub represents : EachRepresents disk 256 []
  pub first : (image : List ℕ) → IsCrashImage disk image → number_in (current_root image) image ≡ 1

-- a writer that holds a text, and does not count failed writes
abbrev pub holding : List ℕ → Written
holding text = record { bytes = Some text; failed = None }

-- On a new image a run to which this is sent ends well and writes this text, and no call of its disk fails.
pub record Plays (sent text : List ℕ) : Type 0 where
  pub disk : DiskState
  pub is_new : IsNew disk
  pub over : DiskState
  pub writes : WritesTo ⊤ None disk.bytes (Some sent) 0 0 (holding []) (holding text) over

-- On a new image a run to which this is sent ends early for this cause, and no call of its disk fails. `rest` is what it
-- did not read, and `text` what it wrote.
pub record FailsWith (sent : List ℕ) (cause : RunCause) : Type 0 where
  pub disk : DiskState
  pub is_new : IsNew disk
  pub over : DiskState
  pub rest : List ℕ
  pub text : List ℕ
  pub ends : DoesNotStart ⊤ cause 0 0 (Some sent) (Some rest) (holding []) (holding text) disk over
      ⊎ WritesTo ⊤ (Some cause) disk.bytes (Some sent) 0 0 (holding []) (holding text) over
  pub long : cause ≡ TooLong → IsTooLong (Some sent) (Some rest) None None

-- Why a new instrument cannot answer. A contract cannot see that an allocation failed.
abbrev pub CannotAnswer : List ℕ → PlayFault → Type 0
CannotAnswer sent Memory = ⊤
CannotAnswer sent (Run cause) = FailsWith sent cause
