-- The session of the example.
use Rattle.std.proofs.Common.{◌≡◌, Bool, true, false, ◌||◌, List, [], ◌∷◌, ◌++◌, refl, ap}
use Rattle.std.specs.List.{list_any}
use Rattle.psu_hislip.specs.Runs.{Arrival, completes_clear, EndsComplete}
use Rattle.psu_hislip.specs.Transmitted.{IsStretch}
use Rattle.psu_hislip.specs.SomeSession.{first_stretch}

either : (a b : Bool) → b ≡ true → (a || b) ≡ true
either true b e = refl
either false b e = e

some_before : (xs ys : List Arrival) (x : Arrival) → completes_clear x ≡ true → list_any completes_clear (xs ++ x ∷ ys) ≡ true
some_before [] ys x e = rw e refl
some_before (y ∷ xs) ys x e = either (completes_clear y) (list_any completes_clear (xs ++ x ∷ ys)) (some_before xs ys x e)

never_completed : (run : List Arrival) → list_any completes_clear run ≡ false → EndsComplete run → ⊥
never_completed run none w = absurd (cc (some_before w.0 w.2 w.1 w.4, ap (list_any completes_clear) w.3))

pub is_stretch : IsStretch first_stretch
is_stretch = record {
  no_clear = refl;
  pieces = refl;
  in_order = never_completed first_stretch.before refl;
  begins = refl;
  incomplete = refl;
  completes = refl;
}
