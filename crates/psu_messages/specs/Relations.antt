-- What is known of an executor: the relations between its states.
use Rattle.psu_tree.specs.declared.command.Request.{Request}
use Rattle.std.specs.Prelude.{◌≡◌, ◌⊎◌}
use Rattle.psu_messages.specs.declared.need.Need.{Need}
use Rattle.psu_messages.specs.declared.need.Need.TheVariants.{Turn}
use Rattle.psu_messages.specs.Effects.{Awaits, Effect}

-- An effect that was completed; a unit that was executed, but not to its end; any other effect that was not completed,
-- or an allocation failure; and a state in which it yields, so that others are let in before the next unit.
pub record Relations (X S : Type 0) : Type 1 where
  pub does : X → Effect → X → Type 0
  pub fails : X → Request → S → X → Type 0
  pub stops : X → S → X → Type 0
  pub yields : X → Type 0

-- the executor yields, or the last effect is a try of a unit, which waits for this
abbrev pub IsAwaited : {X S : Type 0} → Relations X S → X → Need → Type 0
IsAwaited r now need = ((need ≡ Turn) × r.yields now) ⊎ Awaits r.does now need
