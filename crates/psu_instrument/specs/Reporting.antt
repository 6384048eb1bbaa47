-- Errors and the groups of status registers. Sources: SCPI-1999 volume 1, chapter 9; volume 2, chapters 18 (STATus) and
-- 21 (SYSTem).
use Rattle.std.specs.Prelude.{ℕ, Option, Some, None, List, ◌++◌, ◌∷◌, length, drop, codes, decimal}
use Rattle.psu_lex.specs.Errors as errors
use Rattle.psu_lex.specs.declared.scpi_error.ScpiError.{ScpiError}
use Rattle.psu_status.specs.Registers.{filter_of, with_filter, fifteen_bits, without_events}
use Rattle.psu_status.specs.Status as reporting
use Rattle.psu_status.specs.declared.groups.Filter.{Filter}
use Rattle.psu_status.specs.declared.groups.Group.{Group}
use Rattle.psu_instrument.specs.Instrument.{with_status}
use Rattle.psu_instrument.specs.Meaning.{Situation, Meaning, Does, answers, says, leaves}

-- ---- errors

-- an error as response data: its number and its text; `0,"No error"` where there is none
abbrev pub error_text : Option ScpiError → List ℕ
error_text None = codes "0,\"No error\""
error_text (Some error) = 45 ∷ (decimal (errors.magnitude error) ++ (codes ",\"" ++ (errors.text error ++ codes "\"")))

-- `SYSTem:ERRor?`: returns the oldest error and removes it from the queue
abbrev pub next_error : Situation → Meaning
next_error s = Does (Some (error_text (reporting.oldest s.instrument.status.errors))) (with_status s.instrument (record s.instrument.status { errors = drop 1 s.instrument.status.errors }))

-- `SYSTem:ERRor:COUNt?`
abbrev pub error_count : Situation → Meaning
error_count s = says s (length s.instrument.status.errors)

-- `SYSTem:VERSion?`: the year of the standard
abbrev pub version : Situation → Meaning
version s = answers s (codes "1999.0")

-- ---- groups

-- `:CONDition?`
abbrev pub condition : Situation → Group → Meaning
condition s g = says s (reporting.group_of s.instrument.status g).condition

-- `[:EVENt]?`, which clears what it reads
abbrev pub events : Situation → Group → Meaning
events s g = Does (Some (decimal (reporting.group_of s.instrument.status g).event)) (with_status s.instrument (reporting.with_group s.instrument.status g (without_events (reporting.group_of s.instrument.status g))))

-- `:ENABle`, `:PTRansition`, `:NTRansition`: bit 15 is dropped
abbrev pub filtered : Situation → Group → Filter → ℕ → Meaning
filtered s g f bits = leaves (with_status s.instrument (reporting.with_group s.instrument.status g (with_filter (reporting.group_of s.instrument.status g) f (fifteen_bits bits))))

abbrev pub filter_asked : Situation → Group → Filter → Meaning
filter_asked s g f = says s (filter_of (reporting.group_of s.instrument.status g) f)

-- `STATus:PRESet`
abbrev pub preset : Situation → Meaning
preset s = leaves (with_status s.instrument (reporting.all_preset s.instrument.status))
