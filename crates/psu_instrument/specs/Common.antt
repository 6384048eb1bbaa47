-- The common commands, except those of macros. Source: IEEE 488.2, chapter 10.
use Rattle.std.specs.Prelude.{ℕ, nat_lt, nat_le, Bool, false, if◌then◌else◌, Some, None, is_some, is_none, List, length, codes, decimal}
use Rattle.psu_lex.specs.Data.{definite_text}
use Rattle.psu_lex.specs.declared.scpi_error.ScpiError.TheVariants.{CommandProtected, DataOutOfRange, TooMuchData}
use Rattle.psu_nv.specs.Commands.{ServiceEnable, EventEnable, PowerOnClear, Save, User, Recall}
use Rattle.psu_outputs.specs.Outputs.{all_settings, restored}
use Rattle.psu_settings.specs.Settings.{reset}
use Rattle.psu_status.specs.Status as reporting
use Rattle.psu_tree.specs.declared.values.Enable.{Enable}
use Rattle.psu_tree.specs.declared.values.Enable.TheVariants as enable
use Rattle.psu_tree.specs.declared.values.Flag.{Flag}
use Rattle.psu_tree.specs.declared.values.Flag.TheVariants as flag
use Rattle.psu_instrument.specs.Instrument.{with_status, with_sre, with_ese, with_supplies, with_register}
use Rattle.psu_instrument.specs.Meaning.{Situation, Meaning, Refuses, Does, Keeps, answers, says, leaves}

-- `*IDN?`: manufacturer, model, serial number, version
abbrev pub identity : List ℕ
identity = codes "EXAMPLE,PSU4,0,1.0"

-- `*TST?`: the self-test passes
abbrev pub self_test : Situation → Meaning
self_test s = says s 0

-- ---- status

-- `*CLS`: clears the event registers, the error queue, and a pending `*OPC`
abbrev pub clear_status : Situation → Meaning
clear_status s = leaves (record s.instrument { status = reporting.cleared s.instrument.status; pending = None })

-- `*ESE`, `*SRE`: nonvolatile while the power-on status clear flag is false
abbrev pub enabled : Situation → Enable → ℕ → Meaning
enabled s enable.EventStatus bits = if is_some s.contents.enables then Keeps (EventEnable bits) else leaves (with_ese s.instrument bits)
enabled s enable.ServiceRequest bits = if is_some s.contents.enables then Keeps (ServiceEnable bits) else leaves (with_sre s.instrument bits)

-- `*ESE?`, `*SRE?`
abbrev pub enables_queried : Situation → Enable → Meaning
enables_queried s enable.EventStatus = says s s.instrument.status.ese
enables_queried s enable.ServiceRequest = says s s.instrument.status.sre

-- `*ESR?`, which clears what it reads
abbrev pub event_status : Situation → Meaning
event_status s = Does (Some (decimal s.instrument.status.esr)) (with_status s.instrument (record s.instrument.status { esr = 0 }))

-- `*STB?`: MSS in bit 6, and the session's own message available bit
abbrev pub status_byte : Situation → Meaning
status_byte s = says s (reporting.status_byte s.instrument.status s.available)

-- ---- flags

-- `*PSC`: while the flag is false the enables are nonvolatile, beginning with the present ones. `*EMC`: whether macro
-- calls are expanded. `DIAGnostic:PUD:PROTect`: whether user data is protected. `OUTPut:PON:STATe`: whether the
-- power-on settings are those of register 0.
abbrev pub flagged : Situation → Flag → Bool → Meaning
flagged s flag.PowerOnClear on = Keeps (PowerOnClear (if on then None else Some (record { sre = s.instrument.status.sre; ese = s.instrument.status.ese })))
flagged s flag.Macros on = leaves (record s.instrument { expands = on })
flagged s flag.UserDataProtection on = leaves (record s.instrument { protected = on })
flagged s flag.Recall on = Keeps (Recall on)

abbrev pub digit : Bool → ℕ
digit on = if on then 1 else 0

-- the choice of the power-on settings as response data
abbrev pub choice : Bool → List ℕ
choice recall = if recall then codes "RCL0" else codes "RST"

-- `*PSC?`, `*EMC?`, `DIAGnostic:PUD:PROTect?`, `OUTPut:PON:STATe?`
abbrev pub flag_queried : Situation → Flag → Meaning
flag_queried s flag.PowerOnClear = says s (digit (is_none s.contents.enables))
flag_queried s flag.Macros = says s (digit s.instrument.expands)
flag_queried s flag.UserDataProtection = says s (digit s.instrument.protected)
flag_queried s flag.Recall = answers s (choice s.contents.recall)

-- ---- settings

-- `*RST`: the settings, with no trip; macros disabled, and no `*OPC` pending. Status, protection of user data and loads
-- are unchanged.
abbrev pub reset_all : Situation → Meaning
reset_all s = leaves (record (with_supplies s.instrument (restored s.instrument.supplies reset)) { expands = false; pending = None })

-- `*SAV` of the present settings, in a register from 0 to 99
abbrev pub saved : Situation → ℕ → Meaning
saved s register = if nat_le 100 register then Refuses DataOutOfRange else Keeps (Save register (all_settings s.instrument.supplies))

-- `*RCL`: the register's settings, with no trips except those that they cause
abbrev pub recalled : Situation → ℕ → Meaning
recalled s register =
    if nat_le 100 register then Refuses DataOutOfRange
    else leaves (with_supplies s.instrument (with_register s.instrument.supplies s.contents register))

-- ---- user data

-- `*PUD`: at most 63 bytes, and only while user data is not protected
abbrev pub user_data : Situation → List ℕ → Meaning
user_data s bytes =
    if nat_lt 63 (length bytes) then Refuses TooMuchData
    else (if s.instrument.protected then Refuses CommandProtected else Keeps (User bytes))

-- `*PUD?`
abbrev pub user_data_asked : Situation → Meaning
user_data_asked s = answers s (definite_text s.contents.user)
