-- Two executions of a device from its power-on, event by event: examples of what the rules allow.
use Rattle.std.specs.Prelude.{ℕ, Bool, true, false, Some, None, Ok, List, [], ◌∷◌, decimal}
use Rattle.psu_disk.specs.Disk.{DiskState}
use Rattle.psu_items.specs.declared.broken.BrokenCause.TheVariants.{Device}
use Rattle.psu_lex.specs.declared.scpi_error.ScpiError.TheVariants.{StorageFault}
use Rattle.psu_nv.specs.Commands.{apply, PowerOnClear}
use Rattle.psu_nv.specs.Contents.{Contents, items_of}
use Rattle.psu_status.specs.Status as reporting
use Rattle.psu_tree.specs.declared.command.Command.{Command}
use Rattle.psu_tree.specs.declared.command.Command.TheVariants as command
use Rattle.psu_tree.specs.declared.values.Flag.TheVariants.{PowerOnClear as Clears}
use Rattle.psu_tree.specs.declared.queries.Query.TheVariants.{OperationComplete}
use Rattle.psu_tree.specs.declared.command.Request.{Request}
use Rattle.psu_exec.specs.Batch.{batch}
use Rattle.psu_exec.specs.Device.{Done, Answer, Error, Parked}
use Rattle.psu_exec.specs.Calls.{JobKind, JobData, Commit, Reopen, Executed, Settled, Took, GaveBack, Opened, Job, Stored, Failed, Reopened}
use Rattle.psu_power_loss.specs.World.{World, Event, Call, DiskCall, Loss, Stop, Restart}

abbrev pub unit : Command → Request
unit command = record { call = None; reading = Ok command; inside = false }

-- `*PSC 1` and `*PSC 0`, and `*OPC?`
abbrev pub clears : Bool → Command
clears on = command.Flag Clears on

abbrev pub asks : Command
asks = command.Query OperationComplete

-- the contents after `*PSC 1`, and after a `*PSC 0` that follows it
abbrev pub cleared : World → Contents
cleared w = apply w.start (PowerOnClear None)

abbrev pub kept_again : World → Contents
kept_again w = apply (cleared w) (PowerOnClear (Some (record { sre = reporting.sre_kept w.start.enables; ese = reporting.ese_kept w.start.enables })))

-- a job from the map of some contents to that of others
abbrev pub job : World → JobKind → Contents → Contents → JobData
job w kind old new = record { kind = kind; limit = w.limit; before = items_of old; target = items_of new; edits = batch (items_of old) (items_of new) }

-- A session executes `*PSC 1` and a `*OPC?` that waits; a job stores the change, and the reply is 1. In the commit of
-- a `*PSC 0` a disk call is in progress.
abbrev pub stored_life : World → DiskState → DiskState → List Event
stored_life w disk torn = Call (Opened (Some 1)) w.disk ∷ Call (Executed 1 (unit (clears true)) Done) w.disk ∷ Call (Executed 1 (unit asks) Parked) w.disk ∷ Call (Took (Job (job w Commit w.start (cleared w)))) w.disk
    ∷ Call (GaveBack (Stored w.limit (items_of (cleared w))) (Some (1 ∷ []))) disk ∷ Call (Settled 1 (Answer (decimal 1))) disk ∷ Call (Executed 1 (unit (clears false)) Done) disk
    ∷ Call (Took (Job (job w Commit (cleared w) (kept_again w)))) disk ∷ DiskCall torn ∷ []

-- A session executes `*PSC 1` and a `*OPC?` that waits; in its job a sync fails after a write. The wait ends with
-- -320, and so does the next `*OPC?`. The store is reopened with the change, and the reply to `*OPC?` is 1.
abbrev pub broken_life : World → DiskState → DiskState → List Event
broken_life w torn disk = Call (Opened (Some 1)) w.disk ∷ Call (Executed 1 (unit (clears true)) Done) w.disk ∷ Call (Executed 1 (unit asks) Parked) w.disk ∷ Call (Took (Job (job w Commit w.start (cleared w)))) w.disk
    ∷ DiskCall torn ∷ DiskCall torn ∷ Call (GaveBack (Failed w.limit (items_of w.start) (batch (items_of w.start) (items_of (cleared w))) Device) (Some (1 ∷ []))) torn ∷ Call (Settled 1 (Error StorageFault)) torn
    ∷ Call (Executed 1 (unit asks) (Error StorageFault)) torn ∷ Call (Took (Job (job w Reopen w.start (cleared w)))) torn ∷ DiskCall disk
    ∷ Call (GaveBack (Reopened w.limit (items_of (cleared w))) (Some [])) disk ∷ Call (Executed 1 (unit asks) (Answer (decimal 1))) disk ∷ []

-- The process ends and is started again. In the restart a disk call leaves `swept`, and then power is lost, which
-- leaves `image`. In the next restart a disk call leaves `shut`, and the restart finds the contents after `*PSC 1`.
abbrev pub restarts : World → DiskState → List ℕ → DiskState → List Event
restarts w swept image shut = Stop ∷ DiskCall swept ∷ Loss image ∷ DiskCall shut ∷ Restart w.limit (cleared w) ∷ []
