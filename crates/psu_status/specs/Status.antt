-- The status of the instrument: what it reports, and how errors and events change it.
-- Sources: IEEE 488.2, chapter 11; SCPI-1999 volume 1, chapter 9, and volume 2, chapter 21.8.
use Rattle.std.specs.Prelude.{◌≡◌, ◌≤◌, ℕ, ◌+◌, ◌^◌, ◌==◌, ◌&&◌, not, nat_lt, Bool, false, if◌then◌else◌, Option, Some, None, List, [], ◌∷◌, ◌++◌, length, take, bit_and, bit_or}
use Rattle.psu_lex.specs.Errors.{event_bit}
use Rattle.psu_lex.specs.declared.scpi_error.ScpiError.{ScpiError}
use Rattle.psu_lex.specs.declared.scpi_error.ScpiError.TheVariants.{QueueOverflow}
use Rattle.psu_status.specs.declared.groups.Enables.{Enables}
use Rattle.psu_status.specs.declared.groups.Group.{Group}
use Rattle.psu_status.specs.declared.groups.Group.TheVariants.{Operation, Questionable}
use Rattle.psu_status.specs.declared.registers.Registers.{Registers}
use Rattle.psu_status.specs.Registers.{HaveFifteenBits, fifteen_bits, preset, summary, without_events}

-- The event status register with its enables and those of the status byte, the groups, and the errors, oldest first.
pub record Reported : Type 0 where
  pub esr : ℕ
  pub sre : ℕ
  pub ese : ℕ
  pub operation : Registers
  pub questionable : Registers
  pub errors : List ScpiError

-- The invariant: bit 6 of SRE and bit 15 of the groups' registers are 0, no condition bit of OPERation is 1, and at
-- most 16 errors are queued.
pub record IsReported (s : Reported) : Type 0 where
  pub sre : bit_and s.sre 64 ≡ 0
  pub operation : HaveFifteenBits s.operation
  pub questionable : HaveFifteenBits s.questionable
  pub idle : s.operation.condition ≡ 0
  pub queue : length s.errors ≤ 16

-- # Registers

abbrev pub has_bit : ℕ → ℕ → Bool
has_bit n k = not (bit_and n (2 ^ k) == 0)

-- bit 6 of SRE is ignored and reads 0
abbrev pub without_mss : ℕ → ℕ
without_mss bits = bit_and bits 191

abbrev pub raised : Reported → ℕ → Reported
raised s bits = record s { esr = bit_or s.esr bits }

abbrev pub group_of : Reported → Group → Registers
group_of s Operation = s.operation
group_of s Questionable = s.questionable

abbrev pub with_group : Reported → Group → Registers → Reported
with_group s Operation r = record s { operation = r }
with_group s Questionable r = record s { questionable = r }

abbrev pub all_preset : Reported → Reported
all_preset s = record s { operation = preset s.operation; questionable = preset s.questionable }

-- # The status byte

abbrev pub bit : ℕ → Bool → ℕ
bit k on = if on then 2 ^ k else 0

-- bit 2: an error is queued; 3: QUEStionable; 4: MAV; 5: an event of ESR is enabled; 7: OPERation
abbrev pub summaries : Reported → Bool → ℕ
summaries s mav =
    bit 2 (nat_lt 0 (length s.errors)) + (bit 3 (summary s.questionable) + (bit 4 mav + (bit 5 (not (bit_and s.esr s.ese == 0)) + bit 7 (summary s.operation))))

-- the bits that are enabled by SRE: a request for service is made where one of them goes from 0 to 1
abbrev pub enabled : Reported → Bool → ℕ
enabled s mav = bit_and (summaries s mav) s.sre

-- MSS: one of these bits is enabled by SRE
abbrev pub is_enabled : Reported → Bool → Bool
is_enabled s mav = not (enabled s mav == 0)

abbrev pub status_byte : Reported → Bool → ℕ
status_byte s mav = summaries s mav + bit 6 (is_enabled s mav)

-- the status byte that a status query returns: with RQS, the session's own request for service, in place of MSS
abbrev pub polled : Reported → Bool → Bool → ℕ
polled s mav rqs = summaries s mav + bit 6 rqs

-- # Errors

-- where the queue is full its newest entry becomes -350
abbrev pub queued : List ScpiError → ScpiError → List ScpiError
queued errors e = if length errors == 16 then take 15 errors ++ QueueOverflow ∷ [] else errors ++ e ∷ []

-- an error sets the bit of its class; if the queue is full, it sets the bit of -350 too
abbrev pub error_bits : List ScpiError → ScpiError → ℕ
error_bits errors e = if length errors == 16 then bit_or (event_bit e) (event_bit QueueOverflow) else event_bit e

abbrev pub with_error : Reported → ScpiError → Reported
with_error s e = record (raised s (error_bits s.errors e)) { errors = queued s.errors e }

abbrev pub oldest : List ScpiError → Option ScpiError
oldest [] = None
oldest (e ∷ es) = Some e

-- `*CLS`: no event and no error; conditions, filters and enables stay
abbrev pub cleared : Reported → Reported
cleared s = record s { esr = 0; operation = without_events s.operation; questionable = without_events s.questionable; errors = [] }

-- # Power-on

abbrev pub no_registers : Registers
no_registers = record { condition = 0; event = 0; enable = 0; positive = 0; negative = 0 }

abbrev pub sre_kept : Option Enables → ℕ
sre_kept None = 0
sre_kept (Some enables) = without_mss enables.sre

abbrev pub ese_kept : Option Enables → ℕ
ese_kept None = 0
ese_kept (Some enables) = enables.ese

-- a group as after PRESet, but with this condition from the start, so no bit of it has risen
abbrev pub standing : ℕ → Registers
standing bits = record (preset no_registers) { condition = bits }

-- PON alone in ESR (bit 7); the enables that were kept, or 0 where the power-on status clear flag is true; groups as
-- after PRESet, with the present condition of QUEStionable; no event, no error
abbrev pub power_on : Option Enables → ℕ → Reported
power_on enables bits = record { esr = 128; sre = sre_kept enables; ese = ese_kept enables; operation = preset no_registers; questionable = standing (fifteen_bits bits); errors = [] }

-- the service request of the present status with no message available: the status byte, where MSS is 1
abbrev pub first_request : Reported → Option ℕ
first_request s = if is_enabled s false then Some (status_byte s false) else None

-- The first service request that is prescribed: 96 exactly where enables were kept, with ESB (bit 5) in SRE and PON
-- (bit 7) in ESE.
abbrev pub prescribed : Option Enables → Option ℕ
prescribed None = None
prescribed (Some enables) = if has_bit enables.sre 5 && has_bit enables.ese 7 then Some 96 else None
