-- Definitions for the contracts inside this crate: the data of a header, in the form of the code.
use Rattle.std.specs.Prelude.{◌≡◌, List, [], ◌∷◌, Option, Some, None, Result, Ok, Err}
use Rattle.psu_lex.specs.Shown.{IsSomeDatum}
use Rattle.psu_lex.specs.Syntax.{Datum, datum_of}
use Rattle.psu_lex.specs.declared.data.Datum as rust
use Rattle.psu_lex.specs.declared.scpi_error.ScpiError.{ScpiError}
use Rattle.psu_lex.specs.declared.scpi_error.ScpiError.TheVariants.{MissingParameter, ParameterNotAllowed}
use Rattle.psu_tree.specs.Parameters.{next}

-- the datum where there is exactly one, otherwise the error for their number
abbrev pub only : List Datum → Result Datum ScpiError
only [] = Err MissingParameter
only (datum ∷ []) = Ok datum
only (datum ∷ other ∷ more) = Err ParameterNotAllowed

abbrev pub OneIs : Result rust.Datum ScpiError → List Datum → Type 0
OneIs (Err e) list = only list ≡ Err e
OneIs (Ok datum) list = (list ≡ datum_of datum ∷ []) × IsSomeDatum (datum_of datum)

-- one datum or none
abbrev pub PerhapsIs : Result (Option rust.Datum) ScpiError → List Datum → Type 0
PerhapsIs (Err e) list = (datum other : Datum) × (more : List Datum) × (list ≡ datum ∷ other ∷ more) × (e ≡ ParameterNotAllowed)
PerhapsIs (Ok None) list = list ≡ []
PerhapsIs (Ok (Some datum)) list = (list ≡ datum_of datum ∷ []) × IsSomeDatum (datum_of datum)

-- both data where there are exactly two, otherwise the error for their number
abbrev pub both : List Datum → Result (Datum × Datum) ScpiError
both [] = Err MissingParameter
both (datum ∷ []) = Err MissingParameter
both (datum ∷ other ∷ []) = Ok (datum, other)
both (datum ∷ other ∷ third ∷ more) = Err ParameterNotAllowed

abbrev pub TwoIs : Result (rust.Datum × rust.Datum) ScpiError → List Datum → Type 0
TwoIs (Err e) list = both list ≡ Err e
TwoIs (Ok pair) list = (list ≡ datum_of pair.0 ∷ datum_of pair.1 ∷ []) × IsSomeDatum (datum_of pair.0) × IsSomeDatum (datum_of pair.1)

-- the result of a datum: an error of its class, otherwise the result of its value
abbrev pub Gives : {A B : Type 0} → (Datum → Result A ScpiError → Type 0) → (A → Result B ScpiError) → Datum → Result B ScpiError → Type 0
Gives {A} Takes value datum given = (taken : Result A ScpiError) × Takes datum taken × (given ≡ next taken value)
