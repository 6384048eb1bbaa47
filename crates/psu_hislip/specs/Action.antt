-- What a message asks for.
use Rattle.std.specs.Prelude.{ℕ, Bool, List, [], ◌∷◌}
use Rattle.psu_hislip.specs.declared.side.Side.{Side}
use Rattle.psu_hislip.specs.declared.action.Origin.{Origin}
use Rattle.psu_hislip.specs.declared.action.Action as rust
use Rattle.psu_hislip.specs.declared.action.Action.TheVariants as action

pub data Act : Type 0 where
  Send : Side → List ℕ → Act
  Execute : Origin → List ℕ → Act
  TooMuch : Origin → Act
  Trigger : Origin → Act
  Delivered : Act
  Status : Bool → Act
  Lock : ℕ → List ℕ → Act
  Release : Act
  Info : Act
  Clear : Act
  Closed : Act

-- an action of the code, with its bytes as a list
abbrev pub act : {A : Type 0} → rust.Action A → Act
act (action.Send side bytes) = Send side bytes.items
act (action.Execute origin bytes) = Execute origin bytes.items
act (action.TooMuch origin) = TooMuch origin
act (action.Trigger origin) = Trigger origin
act action.Delivered = Delivered
act (action.Status delivered) = Status delivered
act (action.Lock timeout string) = Lock timeout string.items
act action.Release = Release
act action.Info = Info
act action.Clear = Clear
act action.Closed = Closed

abbrev pub acts : {A : Type 0} → List (rust.Action A) → List Act
acts [] = []
acts (a ∷ more) = act a ∷ acts more
