-- The instrument as commands see it, without sessions and store.
use Rattle.std.specs.Prelude.{ℕ, ◌-◌, ◌==◌, nat_le, Bool, true, false, if◌then◌else◌, Option, Some, None, List}
use Rattle.psu_lex.specs.declared.scpi_error.ScpiError.{ScpiError}
use Rattle.psu_nv.specs.Commands as nv
use Rattle.psu_nv.specs.Contents.{Contents}
use Rattle.psu_outputs.specs.Outputs.{reset_supplies, conditions, restored}
use Rattle.psu_outputs.specs.declared.supply.Supply.{Supply}
use Rattle.psu_status.specs.Registers.{with_condition, fifteen_bits}
use Rattle.psu_status.specs.Status as reporting
use Rattle.psu_status.specs.Status.{Reported}

-- the status; the four outputs; whether macro calls are expanded; whether user data is protected; and, where an `*OPC`
-- is pending, the number of unflushed changes that it waits for
pub record Instrument : Type 0 where
  pub status : Reported
  pub supplies : List Supply
  pub expands : Bool
  pub protected : Bool
  pub pending : Option ℕ

-- the outputs after the settings of a register are applied (`*RCL`): with no trips except those that they cause
abbrev pub with_register : List Supply → Contents → ℕ → List Supply
with_register supplies contents register = restored supplies (nv.settings_at contents.registers register)

-- The outputs at power-on: those after `*RST` with loads of 10 ohms; or, where the nonvolatile contents say so, these
-- with the settings of register 0 applied, so that an output may trip at once.
abbrev pub outputs_at_power_on : Contents → List Supply
outputs_at_power_on c = if c.recall then with_register reset_supplies c 0 else reset_supplies

-- At power-on the condition register of QUEStionable is what the outputs give, macros are disabled, and user data is
-- protected.
abbrev pub power_on : Contents → Instrument
power_on c = record { status = reporting.power_on c.enables (conditions (outputs_at_power_on c)); supplies = outputs_at_power_on c; expands = false; protected = true; pending = None }

abbrev pub with_status : Instrument → Reported → Instrument
with_status i status = record i { status = status }

-- `*SRE`: bit 6 is ignored
abbrev pub with_sre : Instrument → ℕ → Instrument
with_sre i bits = with_status i (record i.status { sre = reporting.without_mss bits })

-- `*ESE`
abbrev pub with_ese : Instrument → ℕ → Instrument
with_ese i bits = with_status i (record i.status { ese = bits })

-- other outputs; the condition register of QUEStionable is updated from them, once
abbrev pub with_supplies : Instrument → List Supply → Instrument
with_supplies i supplies = record i { status = record i.status { questionable = with_condition i.status.questionable (fifteen_bits (conditions supplies)) }; supplies = supplies }

-- the part of a nonvolatile command that the instrument applies: the enable registers
abbrev pub with_kept : Instrument → nv.Command → Instrument
with_kept i (nv.ServiceEnable bits) = with_sre i bits
with_kept i (nv.EventEnable bits) = with_ese i bits
with_kept i command = i

-- an error is queued, and sets its bit of the event status register
abbrev pub with_error : Instrument → ScpiError → Instrument
with_error i error = with_status i (reporting.with_error i.status error)

-- ---- operation complete

-- bit 0 of the event status register: the operations that `*OPC` waited for are complete
abbrev pub with_completion : Instrument → Instrument
with_completion i = record i { status = reporting.raised i.status 1; pending = None }

-- `*OPC` with n unflushed changes: with none it sets its bit at once; a later `*OPC` replaces an earlier one
abbrev pub with_pending : Instrument → ℕ → Instrument
with_pending i n = if n == 0 then with_completion i else record i { pending = Some n }

-- after k more changes are flushed
abbrev pub pending_less : Instrument → ℕ → Option ℕ → Instrument
pending_less i k None = i
pending_less i k (Some n) = if nat_le n k then with_completion i else record i { pending = Some (n - k) }

abbrev pub with_flushed : Instrument → ℕ → Instrument
with_flushed i k = pending_less i k i.pending
