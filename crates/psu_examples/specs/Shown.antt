-- The examples of what was read of a guide.
use Rattle.std.specs.Prelude.{ℕ, List, [], ◌∷◌, ◌++◌}
use Rattle.psu_examples.specs.Examples.{Shown, Where, answered_in, examples, sent_in}
use Rattle.psu_examples.specs.declared.example.Example.{Example}
use Rattle.psu_examples.specs.declared.place.Place.{Place}
use Rattle.psu_examples.specs.declared.place.Place.TheVariants.{Text, Block, Inside}

abbrev pub shown : {A : Type 0} → Example A → Shown
shown e = record { line = e.line; sent = e.sent.items; answered = e.answered.items }

-- the example that has begun
abbrev pub begun : {A : Type 0} → Place A → List Shown
begun (Inside e) = shown e ∷ []
begun place = []

-- the examples to come in these lines, including the one that has begun
abbrev pub coming : {A : Type 0} → Place A → ℕ → List (List ℕ) → List Shown
coming Text number lines = examples Where.Text number lines
coming Block number lines = examples Where.Block number lines
coming (Inside e) number lines =
    (record { line = e.line; sent = e.sent.items ++ sent_in lines; answered = e.answered.items ++ answered_in lines })
    ∷ examples Where.Inside number lines
