-- The names that several proofs use.
pub use Rattle.std.proofs.Common.{[], ⊎_elim, ◌&&◌, ◌++◌, ◌+◌, ◌-◌, ◌<◌, ◌==◌, ◌^◌, ◌||◌, ◌∙◌, ◌∷◌, ◌≡◌, ◌≢◌, ◌≤◌, ◌⊎◌, add-one, Any, ap, append-nil, append_assoc, arith, Bool, bytes_eq, codes, drop, drop-cons, Err, false, flat_map, IfErr, IfSome, if◌then◌else◌, inl, inr, is_ok, IsErrAnd, length, length-append, List, map, None, not, Ok, Option, option_map, refl, Result, rules, slice_index, slice_index_or, slice_set, Some, subst, subst₂, suc, sym, take, true, zero, ℕ}
pub use Rattle.psu_disk.specs.Disk.{DiskState, HasFailed, IsCrashImage, LeavesOnly}
pub use Rattle.psu_disk.specs.Moments.{and_then, started, weaken}
pub use Rattle.psu_disk.specs.Ranges.{left_size, reads_left}
pub use Rattle.psu_disk.specs.declared.disk.Disk.{Ghosts}
pub use Rattle.psu_exec.proofs.Ignored.{serves_gave_back, serves_opened, serves_took}
pub use Rattle.psu_exec.specs.Calls.{Allows, Cleared, Commit, Entry, Executed, GaveBack, IsAccepted, Job, JobData, JobEnd, JobKind, Nothing, Opened, Reopen, Serves, Settled, Stored, Taken, Took, after_settle, job_of, job_out, least_free, opened, settle_answer, settled, wait_cut, wait_less, with_flush, with_stored}
pub use Rattle.psu_exec.specs.Device.{Answer, Expand, Flush, Later, MayAnswer, Parked, Reply, State, after_unit, answer_call, answer_meant, called, count_held, here, is_broken, is_denied, is_later, is_open, is_whole, meant, power_on, target, wait_of}
pub use Rattle.psu_exec.specs.Exec.{Exec}
pub use Rattle.psu_exec.specs.Jobs.{finished_disk, finished_of, idle_disk, job_data, job_disk, job_store}
pub use Rattle.psu_exec.specs.Shown.{outcome_of}
pub use Rattle.psu_power_loss.specs.World.{DiskAfter, Running, World, after, recorded, without_power}
pub use Rattle.psu_exec.specs.declared.idle_store.Condition.TheVariants.{Whole, Worn}
pub use Rattle.psu_exec.specs.declared.idle_store.IdleStore.{IdleStore}
pub use Rattle.psu_instrument.specs.Macros.{HoldsParameters}
pub use Rattle.psu_items.proofs.Fitting.{represents_readable}
pub use Rattle.psu_items.proofs.Standing.{represents_one}
pub use Rattle.psu_items.specs.Finding.{IsOldOrSame}
pub use Rattle.psu_items.specs.Image.{EachIsEither, EachRepresents, HasReadableRoot, IsEither, Represents}
pub use Rattle.psu_lex.specs.Message.{IsMessage, Part}
pub use Rattle.psu_lex.specs.Syntax.{Datum, HeaderParts, IsHeader, Syntax, SyntaxGives, header_text}
pub use Rattle.psu_lex.specs.declared.scpi_error.ScpiError.TheVariants.{TooMuchData}
pub use Rattle.psu_lex.specs.declared.scpi_error.ScpiError.{ScpiError}
pub use Rattle.psu_map.specs.Map.{Item}
pub use Rattle.psu_messages.specs.Answers.{IsAnswered, IsSilent, answer_in, answers, text_sent}
pub use Rattle.psu_messages.specs.Effects.{Effect, IsTry, Sent}
pub use Rattle.psu_messages.specs.Response.{response}
pub use Rattle.psu_messages.specs.ResponseBuffer.{Text, nothing}
pub use Rattle.psu_messages.specs.Units.{Fault, IsRequest, Source, faulty, path_at}
pub use Rattle.psu_nv.specs.Contents.{Contents, IsContents, items_of}
pub use Rattle.psu_run.specs.Lines.{AreAsked, AreRequests, AskedBy, Brings, HasRead, Message, first_onto, has, message_of, messages, parts_of, source_of}
pub use Rattle.psu_run.specs.Ends.{BeforeDrop, EventsLead, Halts, InCall, IsAlong, IsAtPower, IsBetween, IsByFailure, IsLeftBy, IsRefused, IsRefusedFor, IsWorn, NextBegins, NotStarted, RefusesMemory, RunsUpTo, StandsForPrefix, StopsFor, cause_of, failed_reads, failed_writes, fault_disk, returned_disk, start_of}
pub use Rattle.psu_run.specs.Output.{Fails, HoldsLittle, OutputState, Says, SaysUntil, Writes, WritesShort, Written, held}
pub use Rattle.psu_run.specs.Parts.{Answers, DeviceStops, Ends, EndsEarly, FaultOf, IsAt, IsDone, IsMemory, IsTied, IsWornAtLast, Leads, Ran, disk_in, failures_of}
pub use Rattle.psu_run.specs.Points.{IsRunCall, Acts, Begins, Calls, Does, EndsJob, IsFlush, IsJob, IsUnit, IsWornOut, Jobs, LeadsTo, CallsOn, MemoryRefused, NoCall, NoNumber, OneCall, PowersOn, RunPoint, Runs, ScriptAlone, Steps, StoreBroken, at_power_on, executed_by, fault_of, is_calm}
pub use Rattle.psu_run.specs.Results.{IsAsBefore, IsOfRun, RunTo, WritesTo, disk_from, disk_of, end_of}
pub use Rattle.psu_run.specs.Script.{Executes, ExecutesInside, ExecutesReply, HasOutcome, IsScript, Point, Replies, Scripted, at_start, finished, flushed, replied, waited}
pub use Rattle.psu_run.specs.declared.run_cause.RunCause.TheVariants.{Device, Memory, Open, Read, TooLong, Write}
pub use Rattle.psu_run.specs.declared.run_cause.RunCause.{RunCause}
pub use Rattle.psu_run.specs.declared.recover_fault.RecoverFault.{RecoverFault}
pub use Rattle.psu_run.specs.declared.run_fault.RunFault.{RunFault}
pub use Rattle.psu_tree.specs.Reading.{Reads, SyntaxCalls, SyntaxMoves}
pub use Rattle.psu_tree.specs.declared.command.Command.{Command}
pub use Rattle.psu_tree.specs.declared.command.MacroCall.{MacroCall}
pub use Rattle.psu_tree.specs.declared.command.Request.{Request}
pub use Rattle.std.proofs.KnownBytes.{Appends-nil, Appends-trans, Consumes-kept, Consumes-nil, Consumes-trans}
pub use Rattle.std.proofs.Math.Seq.{take-add, take-append-add, take-nil}
pub use Rattle.std.proofs.lemmas.Bool.Decides.{nat_tests}
pub use Rattle.std.proofs.lemmas.Grind.{common_steps}
pub use Rattle.std.proofs.lemmas.Option.{same_Some}
pub use Rattle.std.proofs.lemmas.List.{drop-drop, drop_all, get_or-take, get_or_past, nil_from_length, take-append-drop, take-append-le}
pub use Rattle.std.specs.Io.KnownBytes.{Appends, Consumes, Keeps}
pub use Rattle.std.specs.Option.{ForSome}
pub use Rattle.std.specs.Prelude.{⊤}

-- a fault that is propagated
pub passed : {A E : Type 0} (r : Result A E) (e : E) (P : E → Type 0) → IsErrAnd r (λ reported. reported ≡ e) → P e → IfErr r P
passed x0 e x2 is p = grind arith
