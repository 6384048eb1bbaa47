-- A group of status registers: condition, event and enable, with filters for rising and falling conditions.
-- Source: SCPI-1999 volume 1, chapter 9.
use Rattle.std.specs.Prelude.{ℕ, ◌<◌, ◌^◌, ◌==◌, not, Bool, bit_and, bit_or, bit_xor}
use Rattle.psu_status.specs.declared.groups.Filter.{Filter}
use Rattle.psu_status.specs.declared.groups.Filter.TheVariants.{Enable, Positive, Negative}
use Rattle.psu_status.specs.declared.registers.Registers.{Registers}

-- bit 15 is 0
abbrev pub fifteen_bits : ℕ → ℕ
fifteen_bits bits = bit_and bits 32767

-- bit 15 of each register is 0
pub record HaveFifteenBits (r : Registers) : Type 0 where
  pub condition : r.condition < 2 ^ 15
  pub event : r.event < 2 ^ 15
  pub enable : r.enable < 2 ^ 15
  pub positive : r.positive < 2 ^ 15
  pub negative : r.negative < 2 ^ 15

-- every rise is an event, no fall is, and no event is enabled; condition and events stay
abbrev pub preset : Registers → Registers
preset r = record r { enable = 0; positive = 32767; negative = 0 }

abbrev pub filter_of : Registers → Filter → ℕ
filter_of r Enable = r.enable
filter_of r Positive = r.positive
filter_of r Negative = r.negative

abbrev pub with_filter : Registers → Filter → ℕ → Registers
with_filter r Enable bits = record r { enable = bits }
with_filter r Positive bits = record r { positive = bits }
with_filter r Negative bits = record r { negative = bits }

-- the bits that are 1 and were 0, and those that are 0 and were 1
abbrev pub rising : ℕ → ℕ → ℕ
rising old new = bit_and (bit_xor old new) new

abbrev pub falling : ℕ → ℕ → ℕ
falling old new = bit_and (bit_xor old new) old

-- a rising bit that passes PTRansition and a falling one that passes NTRansition set their event
abbrev pub with_condition : Registers → ℕ → Registers
with_condition r bits = record r {
  condition = bits;
  event = bit_or (bit_or r.event (bit_and (rising r.condition bits) r.positive)) (bit_and (falling r.condition bits) r.negative);
}

abbrev pub without_events : Registers → Registers
without_events r = record r { event = 0 }

-- an event is enabled
abbrev pub summary : Registers → Bool
summary r = not (bit_and r.event r.enable == 0)
