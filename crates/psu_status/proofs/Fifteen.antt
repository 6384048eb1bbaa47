-- Bit 15 of a group's registers stays 0, and bit 6 of SRE too.
use Rattle.std.proofs.Common.{◌≡◌, ℕ, ◌<◌, ◌^◌, ◌∙◌, arith}
use Rattle.std.specs.Prelude.{bit_and}
use Rattle.std.specs.Int.Bits.{and_zero_l}
use Rattle.std.proofs.lemmas.Nat.{and_assoc, and_comm, and_le_r, or_lt}
use Rattle.psu_status.specs.declared.registers.Registers.{Registers}
use Rattle.psu_status.specs.Registers.{fifteen_bits, rising, falling, with_condition, HaveFifteenBits}
use Rattle.psu_status.specs.Status.{without_mss}

pub fifteen : (bits : ℕ) → fifteen_bits bits < 2 ^ 15
fifteen bits = omega (arith, and_le_r bits 32767)

passed : (bits filter : ℕ) → filter < 2 ^ 15 → bit_and bits filter < 2 ^ 15
passed bits filter fits = omega (arith, and_le_r bits filter)

pub condition_fits : (r : Registers) (bits : ℕ) → HaveFifteenBits r → HaveFifteenBits (with_condition r (fifteen_bits bits))
condition_fits r bits was = record {
  condition = fifteen bits;
  event = or_lt 15 _ _ (or_lt 15 _ _ was.event (passed (rising r.condition (fifteen_bits bits)) r.positive was.positive)) (passed (falling r.condition (fifteen_bits bits)) r.negative was.negative);
  enable = was.enable;
  positive = was.positive;
  negative = was.negative;
}

pub bit_6_of_sre : (bits : ℕ) → bit_and (without_mss bits) 64 ≡ 0
bit_6_of_sre bits = and_assoc 64 bits 191 ∙ and_comm bits 0 ∙ and_zero_l bits
