-- When an output trips: each change of each output is a check of the output that is asked for.
use Rattle.std.proofs.Common.{◌≡◌, ℕ, ◌+◌, ◌<◌, Bool, true, false, cond, not, List, [], ◌∷◌, length, map, get_or, refl, sym, ◌∙◌, ap, arith, length-set, set}
use Rattle.std.specs.Prelude.{◌&&◌, ◌||◌, ◌↔◌, nat_lt}
use Rattle.std.specs.List.{list_all, list_any}
use Rattle.std.specs.Cmp.{unsigned_Decides}
use Rattle.std.proofs.lemmas.Bool.{lt-ltb, ltb-true}
use Rattle.std.proofs.lemmas.Grind.{get_or-set_at}
use Rattle.std.proofs.lemmas.List.{get_or-map, get_or-set_other, length-map}
use Rattle.psu_settings.specs.declared.output.Output.{Output}
use Rattle.psu_settings.specs.declared.output.Output.TheVariants.{First, Second, Third, Fourth}
use Rattle.psu_settings.specs.declared.setting.Setting.TheVariants.{State}
use Rattle.psu_settings.specs.Settings.{place_of, reset_output, with_setting}
use Rattle.psu_settings.proofs.Ranges.{all_pass, both, each_passes, join}
use Rattle.psu_outputs.specs.declared.quantities.Measured.{Measured}
use Rattle.psu_outputs.specs.declared.supply.Supply.{Supply}
use Rattle.psu_outputs.specs.Measuring.{is_limited, measured_on, trips}
use Rattle.psu_outputs.specs.Outputs.{checked, is_settled, reset_supply, supply_of, with_settings, without_trip}
use Rattle.psu_outputs.specs.Trips.{Change, IsAccepted, IsOver, AreAccepted, after, after_all, asked, clear_count, clear_none, clears, count, is_same, trip_count, trips_at}
use Rattle.psu_outputs.proofs.Lists.{all_settled, free_at, free_once_cleared, length_set, set_at}
use Rattle.psu_outputs.proofs.Settled.{off_while_tripped, own_settings, settled_cleared, settled_load}

low : (output : Output) → place_of output < 4
low First = omega arith
low Second = omega arith
low Third = omega arith
low Fourth = omega arith

-- # One output

on_if : (on : Bool) (m n : Measured) (level : ℕ) → n.voltage.0 ≡ 0 → nat_lt level (let x = cond on m n in x.voltage.0) ≡ true → on ≡ true
on_if true m n level none above = refl
on_if false m n level none above = absurd (let lt = ltb-true level n.voltage.0 above in omega (arith, lt, none))

trips_over : (s : Supply) → trips s.settings s.load.0 ≡ true → IsOver s
trips_over s t =
    let parts = both s.settings.protection _ t in
    (on_if s.settings.on (measured_on s.settings s.load.0 (is_limited s.settings s.load.0)) _ s.settings.level.0 refl parts.1, parts.0, ltb-true s.settings.level.0 _ parts.1)

over_trips : (s : Supply) → IsOver s → trips s.settings s.load.0 ≡ true
over_trips s over = join s.settings.protection _ over.1 (lt-ltb s.settings.level.0 _ over.2)

abbrev tripped_off : Supply → Supply
tripped_off s = record s { settings = with_setting s.settings (State false); tripped = true }

-- a tripped output that is off, or one that isn't tripped, trips at a check exactly if it is over its level
newly : (s : Supply) → (s.tripped && s.settings.on) ≡ false → (let n = checked s in n.tripped && not s.tripped) ≡ trips s.settings s.load.0
newly s off = by (trips s.settings s.load.0) refl
  where
    free : (tripped on : Bool) → (tripped && on) ≡ false → on ≡ true → not tripped ≡ true
    free true on e f = absurd cc
    free false on e f = refl

    never : (tripped : Bool) → (tripped && not tripped) ≡ false
    never true = refl
    never false = refl

    by : (t : Bool) → trips s.settings s.load.0 ≡ t → (let n = cond t (tripped_off s) s in n.tripped && not s.tripped) ≡ t
    by true t = free s.tripped s.settings.on off (trips_over s t).0
    by false t = never s.tripped

stays : (s : Supply) → s.tripped ≡ true → (let n = checked s in n.tripped) ≡ true
stays s e = by (trips s.settings s.load.0)
  where
    by : (t : Bool) → (let n = cond t (tripped_off s) s in n.tripped) ≡ true
    by true = refl
    by false = e

stays_off : (s : Supply) → s.settings.on ≡ false → (let n = checked s in n.settings.on) ≡ false
stays_off s e = by (trips s.settings s.load.0)
  where
    by : (t : Bool) → (let n = cond t (tripped_off s) s in n.settings.on) ≡ false
    by true = refl
    by false = e

off_if_tripped : (tripped on : Bool) → (tripped && on) ≡ false → tripped ≡ true → on ≡ false
off_if_tripped true on e f = e
off_if_tripped false on e f = absurd cc

untripped_if_on : (tripped on : Bool) → (tripped && on) ≡ false → on ≡ true → tripped ≡ false
untripped_if_on true on e f = absurd cc
untripped_if_on false on e f = refl

with_true : (b : Bool) → b ≡ (b && true)
with_true true = refl
with_true false = refl

with_false : (b : Bool) → false ≡ (b && false)
with_false true = refl
with_false false = refl

-- the trip that is asked for is the one before, unless it is cleared
pub still : (supplies : List Supply) (change : Change) (output : Output) → (let s = asked supplies change output in s.tripped) ≡ (let was = supply_of supplies output in was.tripped && not (clears change output))
still supplies (Change.Sets outputs) output = with_true _
still supplies (Change.Loads other load) output = by (is_same other output)
  where
    by : (b : Bool) → (let was = supply_of supplies output in let s = cond b (record was { load = record { 0 = load } }) was in s.tripped) ≡ (let was = supply_of supplies output in was.tripped && true)
    by true = with_true _
    by false = with_true _
still supplies (Change.Clears other) output = by (is_same other output)
  where
    by : (b : Bool) → (let was = supply_of supplies output in let s = cond b (without_trip was) was in s.tripped) ≡ (let was = supply_of supplies output in was.tripped && not b)
    by true = with_false _
    by false = with_true _
still supplies (Change.Restores outputs) output = with_false _

-- # One change of outputs that are settled

module _ (supplies : List Supply) (long : length supplies ≡ 4) (settled : list_all is_settled supplies ≡ true) where
  inside : (output : Output) → place_of output < length supplies
  inside output = let lt = low output in omega arith

  settled_at : (output : Output) → is_settled (supply_of supplies output) ≡ true
  settled_at output = each_passes is_settled supplies (place_of output) reset_supply settled (inside output)

  as_it_is : (output : Output) → supply_of supplies output ≡ checked (supply_of supplies output)
  as_it_is output = sym (own_settings (supply_of supplies output) (settled_at output))

  -- one output is replaced by one that a check makes
  replaced : (other output : Output) (f : Supply → Supply) (b : Bool) → is_same other output ≡ b
      → get_or (set supplies (place_of other) (checked (f (supply_of supplies other)))) (place_of output) reset_supply ≡ checked (cond b (f (supply_of supplies output)) (supply_of supplies output))
  replaced other output f true e =
      let place : place_of other ≡ place_of output = (unsigned_Decides (place_of other) (place_of output)).0 e in
      get_or-set_at supplies (place_of other) (place_of output) (checked (f (supply_of supplies other))) reset_supply (sym place) (inside other)
      ∙ ap (λ (n : ℕ). checked (f (get_or supplies n reset_supply))) place
  replaced other output f false e =
      get_or-set_other supplies (place_of other) (place_of output) (checked (f (supply_of supplies other))) reset_supply
      (λ same. let t = (unsigned_Decides (place_of other) (place_of output)).1 (sym same) in let f : true ≡ false = sym t ∙ e in absurd cc)
      ∙ as_it_is output

  cleared : (other : Output) → without_trip (supply_of supplies other) ≡ checked (without_trip (supply_of supplies other))
  cleared other = sym (own_settings (without_trip (supply_of supplies other)) (settled_cleared (supply_of supplies other) (settled_at other)))

  pub made : (change : Change) (output : Output) → IsAccepted supplies change → supply_of (after supplies change) output ≡ checked (asked supplies change output)
  made (Change.Sets outputs) output ok = set_at supplies outputs (place_of output) reset_supply reset_output (inside output) (let lt = low output in omega (arith, ok.0, lt))
  made (Change.Loads other load) output ok = replaced other output (λ (s : Supply). record s { load = record { 0 = load } }) (is_same other output) refl
  made (Change.Clears other) output ok =
      ap (λ (s : Supply). get_or (set supplies (place_of other) s) (place_of output) reset_supply) (cleared other)
      ∙ replaced other output without_trip (is_same other output) refl
  made (Change.Restores outputs) output ok =
      set_at (map without_trip supplies) outputs (place_of output) reset_supply reset_output (let lt = inside output in rw (length-map supplies without_trip) lt) (let lt = low output in omega (arith, ok, lt))
      ∙ ap (λ (s : Supply). with_settings s (get_or outputs (place_of output) reset_output)) (get_or-map without_trip supplies (place_of output) reset_supply reset_supply (inside output))

  pub off : (change : Change) (output : Output) → IsAccepted supplies change → (let s = asked supplies change output in s.tripped && s.settings.on) ≡ false
  off (Change.Sets outputs) output ok = free_at supplies outputs (place_of output) reset_supply reset_output ok.1 (inside output) (let lt = low output in omega (arith, ok.0, lt))
  off (Change.Loads other load) output ok = by (is_same other output)
    where
      by : (b : Bool) → (let was = supply_of supplies output in let s = cond b (record was { load = record { 0 = load } }) was in s.tripped && s.settings.on) ≡ false
      by true = off_while_tripped (supply_of supplies output) (settled_at output)
      by false = off_while_tripped (supply_of supplies output) (settled_at output)
  off (Change.Clears other) output ok = by (is_same other output)
    where
      by : (b : Bool) → (let was = supply_of supplies output in let s = cond b (without_trip was) was in s.tripped && s.settings.on) ≡ false
      by true = refl
      by false = off_while_tripped (supply_of supplies output) (settled_at output)
  off (Change.Restores outputs) output ok = refl

  pub kept : (change : Change) → IsAccepted supplies change → (length (after supplies change) ≡ 4) × (list_all is_settled (after supplies change) ≡ true)
  kept (Change.Sets outputs) ok = (length_set supplies outputs (long ∙ sym ok.0) ∙ long, all_settled supplies outputs ok.1)
  kept (Change.Loads other load) ok = (
    length-set supplies (place_of other) _ ∙ long,
    all_pass is_settled supplies (place_of other) _ settled (settled_load (supply_of supplies other) load (settled_at other)),
  )
  kept (Change.Clears other) ok = (
    length-set supplies (place_of other) _ ∙ long,
    all_pass is_settled supplies (place_of other) _ settled (settled_cleared (supply_of supplies other) (settled_at other)),
  )
  kept (Change.Restores outputs) ok =
      let same : length (map without_trip supplies) ≡ 4 = length-map supplies without_trip ∙ long in
      (length_set (map without_trip supplies) outputs (same ∙ sym ok) ∙ same, all_settled (map without_trip supplies) outputs (free_once_cleared supplies outputs))

  pub fires : (change : Change) (output : Output) → IsAccepted supplies change → trips_at supplies change output ≡ (let s = asked supplies change output in trips s.settings s.load.0)
  fires change output ok =
      let s = asked supplies change output in
      ap (λ (n : Supply). n.tripped && not s.tripped) (made change output ok) ∙ newly s (off change output ok)

  pub cause : (change : Change) (output : Output) → IsAccepted supplies change → (trips_at supplies change output ≡ true) ↔ IsOver (asked supplies change output)
  cause change output ok =
      let fire = fires change output ok in
      (λ e. trips_over (asked supplies change output) (sym fire ∙ e), λ over. fire ∙ over_trips (asked supplies change output) over)

  pub switches_off : (change : Change) (output : Output) → IsAccepted supplies change
      → supply_of (after supplies change) output ≡ cond (trips_at supplies change output) (tripped_off (asked supplies change output)) (asked supplies change output)
  switches_off change output ok =
      let s = asked supplies change output in
      made change output ok ∙ ap (λ (b : Bool). cond b (tripped_off s) s) (sym (fires change output ok))

  pub tripped_stays : (change : Change) (output : Output) → IsAccepted supplies change
      → (let was = supply_of supplies output in let now = supply_of (after supplies change) output in
      was.tripped ≡ true → clears change output ≡ false → (was.settings.on ≡ false) × (now.tripped ≡ true) × (now.settings.on ≡ false))
  tripped_stays change output ok tripped kept_so =
      let was = supply_of supplies output in
      let s = asked supplies change output in
      let same : s.tripped ≡ true = still supplies change output ∙ ap (λ (k : Bool). was.tripped && not k) kept_so ∙ sym (with_true was.tripped) ∙ tripped in (
        off_if_tripped was.tripped was.settings.on (off_while_tripped was (settled_at output)) tripped,
        ap (λ (n : Supply). n.tripped) (made change output ok) ∙ stays s same,
        ap (λ (n : Supply). n.settings.on) (made change output ok) ∙ stays_off s (off_if_tripped s.tripped s.settings.on (off change output ok) same),
      )

  -- trips before a change and at it are those that it clears and those after it
  balance : (change : Change) (output : Output) → IsAccepted supplies change
      → (let was = supply_of supplies output in let now = supply_of (after supplies change) output in
      count was.tripped + count (trips_at supplies change output) ≡ count (was.tripped && clears change output) + count now.tripped)
  balance change output ok =
      let was = supply_of supplies output in
      let now = supply_of (after supplies change) output in
      let s = asked supplies change output in
      ap (λ (b : Bool). count was.tripped + count (now.tripped && not b)) (still supplies change output)
      ∙ by was.tripped (clears change output) now.tripped (λ e. ap (λ (n : Supply). n.tripped) (made change output ok) ∙ stays s (still supplies change output ∙ e))
    where
      by : (w k n : Bool) → ((w && not k) ≡ true → n ≡ true) → count w + count (n && not (w && not k)) ≡ count (w && k) + count n
      by true true true e = refl
      by true true false e = refl
      by true false true e = refl
      by true false false e = absurd (let f = e refl in cc)
      by false true true e = refl
      by false true false e = refl
      by false false true e = refl
      by false false false e = refl

-- # Changes one after another

pub each_cleared : (supplies : List Supply) (changes : List Change) (output : Output) → length supplies ≡ 4 → list_all is_settled supplies ≡ true → AreAccepted supplies changes
    → (let was = supply_of supplies output in let now = supply_of (after_all supplies changes) output in
    count was.tripped + trip_count supplies changes output ≡ clear_count supplies changes output + count now.tripped)
each_cleared supplies [] output long settled ok = omega arith
each_cleared supplies (change ∷ changes) output long settled ok =
    let next = kept supplies long settled change ok.0 in
    let first = balance supplies long settled change output ok.0 in
    let rest = each_cleared (after supplies change) changes output next.0 next.1 ok.1 in
    omega (arith, first, rest)

never : (b : Bool) → count (b && false) ≡ 0
never true = refl
never false = refl

not_either : (a b : Bool) → not (a || b) ≡ true → (a ≡ false) × (not b ≡ true)
not_either true b e = absurd cc
not_either false b e = (refl, e)

none_cleared : (supplies : List Supply) (changes : List Change) (output : Output) → clear_none changes output ≡ true → clear_count supplies changes output ≡ 0
none_cleared supplies [] output none = refl
none_cleared supplies (change ∷ changes) output none =
    let parts = not_either (clears change output) (list_any (λ (c : Change). clears c output) changes) none in
    let was = supply_of supplies output in
    let here : count (was.tripped && clears change output) ≡ 0 = ap (λ (k : Bool). count (was.tripped && k)) parts.0 ∙ never was.tripped in
    let later = none_cleared (after supplies change) changes output parts.1 in
    omega (arith, here, later)

pub once : (supplies : List Supply) (changes : List Change) (output : Output) → length supplies ≡ 4 → list_all is_settled supplies ≡ true → AreAccepted supplies changes
    → (let was = supply_of supplies output in let now = supply_of (after_all supplies changes) output in
    was.settings.on ≡ true → clear_none changes output ≡ true → trip_count supplies changes output ≡ count now.tripped)
once supplies changes output long settled ok on none =
    let was = supply_of supplies output in
    let all = each_cleared supplies changes output long settled ok in
    let free : was.tripped ≡ false = untripped_if_on was.tripped was.settings.on (off_while_tripped was (settled_at supplies long settled output)) on in
    let zero_before : count was.tripped ≡ 0 = ap count free in
    let zero_cleared = none_cleared supplies changes output none in
    omega (arith, all, zero_before, zero_cleared)
