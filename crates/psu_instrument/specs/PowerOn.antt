-- The effect of power-on on the outputs, compared with `*RCL`.
use Rattle.std.specs.Prelude.{◌≡◌, ℕ, Bool, true, false}
use Rattle.psu_nv.specs.Contents.{Contents}
use Rattle.psu_instrument.specs.Common.{recalled}
use Rattle.psu_instrument.specs.Instrument.{Instrument, power_on}
use Rattle.psu_instrument.specs.Meaning.{leaves, situation}

-- these contents with the settings of `*RST` at power-on
abbrev pub without_recall : Contents → Contents
without_recall c = record c { recall = false }

-- the outputs and the condition register of QUEStionable are equal, and no event bit of QUEStionable is set
pub record StandsSo (i left : Instrument) : Type 0 where
  pub outputs : i.supplies ≡ left.supplies
  pub condition : i.status.questionable.condition ≡ left.status.questionable.condition
  pub quiet : i.status.questionable.event ≡ 0

-- With register 0 chosen, the outputs at power-on are those that `*RCL 0` gives after a power-on with the settings of
-- `*RST`: trips and current limits are those of `*RCL`, and only their events are missing.
abbrev pub PowersOnAsRecalled : Type 0
PowersOnAsRecalled =
    (c : Contents) → c.recall ≡ true → (limit : ℕ) (available : Bool) (left : Instrument) → recalled (situation limit c (power_on (without_recall c)) available) 0 ≡ leaves left → StandsSo (power_on c) left
