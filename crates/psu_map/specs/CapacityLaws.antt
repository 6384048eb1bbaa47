-- These facts are propositions (they have one proof at most), so a ghost field or an invariant may hold them. (They are
-- here, and not in proofs/, since the proof beside a ghost field may cite nothing else.)
use Rattle.std.specs.Prelude.{ℕ, List, [], ◌∷◌}
use Rattle.std.specs.List.{AllByRecursion}
use Rattle.std.proofs.Props.{props}
use Rattle.psu_map.specs.Map.{Item, Before, IsSorted}
use Rattle.psu_map.specs.Capacity.{Fits, CanHold}

Fits-IsProp : (i : Item) → IsProp (Fits i)
Fits-IsProp i = hlevel props

all-IsProp : (P : Item → Type 0) → ((i : Item) → IsProp (P i)) → (items : List Item) → IsProp (AllByRecursion P items)
all-IsProp P each [] = hlevel props
all-IsProp P each (i ∷ items) = hlevel (props, each, all-IsProp P each items)

pub IsSorted-IsProp : (items : List Item) → IsProp (IsSorted items)
IsSorted-IsProp [] = hlevel props
IsSorted-IsProp (i ∷ items) =
    let above = all-IsProp (λ (j : Item). Before i.key j.key) (λ j. hlevel props) items in
    hlevel (props, above, IsSorted-IsProp items)

pub CanHold-IsProp : (limit : ℕ) (map : List Item) → IsProp (CanHold limit map)
CanHold-IsProp limit map = let fits = all-IsProp Fits Fits-IsProp map in hlevel (props, fits)
