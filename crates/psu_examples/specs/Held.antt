-- Whether a guide holds, and why it is refused, in the terms of its player: what it may answer, and why it may stop.
use Rattle.std.specs.Prelude.{◌≡◌, ◌≢◌, ℕ, ◌<◌, ⊤, List, [], ◌∷◌, ◌++◌, length, All}
use Rattle.psu_examples.specs.Examples.{Shown, examples_in}
use Rattle.psu_examples.specs.declared.guide_fault.GuideFault.{GuideFault}
use Rattle.psu_examples.specs.declared.guide_fault.GuideFault.TheVariants.{Empty, Differs, Ended, Memory}

-- the responses that are possible to the lines that are sent
abbrev pub Answering : Type 1
Answering = List ℕ → List ℕ → Type 0

-- the reasons to stop at the lines that are sent
abbrev pub Stopping : Type 0 → Type 1
Stopping F = List ℕ → F → Type 0

-- an example is answered as it states
abbrev pub Agrees : Answering → Shown → Type 0
Agrees plays e = plays e.sent e.answered

-- The guide has examples, `count` of them, and each is answered as it states.
pub record Holds (plays : Answering) (guide : List ℕ) (count : ℕ) : Type 0 where
  pub some : 0 < count
  pub number : count ≡ length (examples_in guide)
  pub each : All (Agrees plays) (examples_in guide)

-- the fault of an example: it is answered with another text than it states, or the player stops at it
abbrev pub IsFaultOf : {A F : Type 0} → Answering → Stopping F → Shown → GuideFault A F → Type 0
IsFaultOf plays stops e Empty = ⊥
IsFaultOf plays stops e (Differs line came) = (line ≡ e.line) × plays e.sent came.items × (came.items ≢ e.answered)
IsFaultOf plays stops e (Ended line fault) = (line ≡ e.line) × stops e.sent fault
IsFaultOf plays stops e Memory = ⊥

-- An example has this fault, and each before it is answered as it states.
pub record IsFirstFault {A F : Type 0} (plays : Answering) (stops : Stopping F) (examples : List Shown) (fault : GuideFault A F) : Type 0 where
  pub before : List Shown
  pub example : Shown
  pub after : List Shown
  pub is : examples ≡ before ++ example ∷ after
  pub held : All (Agrees plays) before
  pub has : IsFaultOf plays stops example fault

-- Why a guide is refused. A contract cannot see that memory was refused.
abbrev pub IsRefusal : {A F : Type 0} → Answering → Stopping F → List ℕ → GuideFault A F → Type 0
IsRefusal plays stops guide Empty = examples_in guide ≡ []
IsRefusal plays stops guide Memory = ⊤
IsRefusal plays stops guide fault = IsFirstFault plays stops (examples_in guide) fault
