-- Places of releases in the queue of a session.
use Rattle.std.proofs.Common.{◌≡◌, ℕ, zero, suc, ◌+◌, ◌<◌, ◌≤◌, Bool, true, false, if◌then◌else◌, List, [], ◌∷◌, ◌++◌, refl, sym, ap, ◌∙◌, subst, append_assoc, arith, length, length-append}
use Rattle.std.specs.Prelude.{flat_map, map}
use Rattle.std.proofs.lemmas.List.{append-nil}
use Rattle.std.proofs.lemmas.List.Concat.{flat_map-append}
use Rattle.psu_hislip.specs.Action.{Act}
use Rattle.psu_session.specs.Orders.{Order, order_in}
use Rattle.psu_session_laws.specs.Releases.{before_release, releases_in, requested, requested_in}
use Rattle.psu_session.specs.Step.{release_in, works_in}
use Rattle.psu_session.specs.State.{Release, Work, Execute, ReleaseLock, due, is_due, left, order_of_work, orders_in}

-- ---- counts

pub releases_in-append : (xs ys : List Work) → releases_in (xs ++ ys) ≡ releases_in xs + releases_in ys
releases_in-append [] ys = omega arith
releases_in-append (Execute order ∷ xs) ys = releases_in-append xs ys
releases_in-append (ReleaseLock ∷ xs) ys = let e = releases_in-append xs ys in omega (arith, e)

no_release : (orders : List Order) → releases_in (map Execute orders) ≡ 0
no_release [] = refl
no_release (order ∷ orders) = no_release orders

pub none_in_works : (acts : List Act) → releases_in (flat_map works_in acts) ≡ 0
none_in_works [] = refl
none_in_works (act ∷ acts) =
    let here = no_release (order_in act) in
    let more = none_in_works acts in
    let both = releases_in-append (works_in act) (flat_map works_in acts) in
    omega (arith, here, more, both)

-- as many releases are requested as wait then
one_counted : (now number : ℕ) (act : Act) → releases_in (requested_in act) ≡ length (release_in now number act)
one_counted now number (Act.Send side frames) = refl
one_counted now number (Act.Execute origin bytes) = refl
one_counted now number (Act.TooMuch origin) = refl
one_counted now number (Act.Trigger origin) = refl
one_counted now number Act.Delivered = refl
one_counted now number (Act.Status delivered) = refl
one_counted now number (Act.Lock timeout string) = refl
one_counted now number Act.Release = refl
one_counted now number Act.Info = refl
one_counted now number Act.Clear = refl
one_counted now number Act.Closed = refl

pub counted : (now number : ℕ) (acts : List Act) → releases_in (requested acts) ≡ length (flat_map (release_in now number) acts)
counted now number [] = refl
counted now number (act ∷ acts) =
    let here = one_counted now number act in
    let more = counted now number acts in
    let one = releases_in-append (requested_in act) (requested acts) in
    let two = length-append (release_in now number act) (flat_map (release_in now number) acts) in
    omega (arith, here, more, one, two)

-- those that are due and those that are left
either : (all : Bool) (now last : ℕ) (release : Release) (releases : List Release) (b : Bool) → releases_in (due all now last releases) + length (left all now last releases) ≡ length releases
    → releases_in (if b then ReleaseLock ∷ due all now last releases else []) + length (if b then left all now last releases else release ∷ releases) ≡ suc (length releases)
either all now last release releases true e = omega (arith, e)
either all now last release releases false e = omega arith

pub due_and_left : (all : Bool) (now last : ℕ) (releases : List Release) → releases_in (due all now last releases) + length (left all now last releases) ≡ length releases
due_and_left all now last [] = refl
due_and_left all now last (release ∷ releases) = either all now last release releases (is_due all now last release) (due_and_left all now last releases)

-- ---- transmissions

one_order : (act : Act) → order_in act ≡ orders_in (requested_in act)
one_order (Act.Send side frames) = refl
one_order (Act.Execute origin bytes) = refl
one_order (Act.TooMuch origin) = refl
one_order (Act.Trigger origin) = refl
one_order Act.Delivered = refl
one_order (Act.Status delivered) = refl
one_order (Act.Lock timeout string) = refl
one_order Act.Release = refl
one_order Act.Info = refl
one_order Act.Clear = refl
one_order Act.Closed = refl

pub orders_requested : (acts : List Act) → flat_map order_in acts ≡ orders_in (requested acts)
orders_requested [] = refl
orders_requested (act ∷ acts) =
    ap (λ (z : List Order). z ++ flat_map order_in acts) (one_order act) ∙ ap (λ (z : List Order). orders_in (requested_in act) ++ z) (orders_requested acts)
    ∙ sym (flat_map-append order_of_work (requested_in act) (requested acts))

-- those before a release are the first ones
pub are_first : (number : ℕ) (works : List Work) → (more : List Order) × (orders_in works ≡ before_release number works ++ more)
are_first number [] = ([], refl)
are_first number (Execute order ∷ works) = let r = are_first number works in (r.0, ap (λ (z : List Order). order ∷ z) r.1)
are_first zero (ReleaseLock ∷ works) = (orders_in works, refl)
are_first (suc number) (ReleaseLock ∷ works) = are_first number works

-- what is requested later is not before it
still_before : (number : ℕ) (works more : List Work) → number < releases_in works → before_release number (works ++ more) ≡ before_release number works
still_before number [] more h = absurd (omega (arith, h))
still_before number (Execute order ∷ works) more h = ap (λ (z : List Order). order ∷ z) (still_before number works more h)
still_before zero (ReleaseLock ∷ works) more h = refl
still_before (suc number) (ReleaseLock ∷ works) more h = still_before number works more (omega (arith, h))

-- ---- the queue

-- Each release of a queue, the first of which has this number, is after the transmissions that were requested before
-- it. These transmissions are ahead of the queue.
abbrev pub ArePlaced : ℕ → List Order → List Work → List Work → Type 0
ArePlaced number ahead [] works = Unit {0}
ArePlaced number ahead (Execute order ∷ queue) works = ArePlaced number (ahead ++ order ∷ []) queue works
ArePlaced number ahead (ReleaseLock ∷ queue) works = ((more : List Order) × (ahead ≡ before_release number works ++ more)) × ArePlaced (suc number) ahead queue works

-- more is requested
pub still_placed : (number : ℕ) (ahead : List Order) (queue works more : List Work) → number + releases_in queue ≤ releases_in works → ArePlaced number ahead queue works → ArePlaced number ahead queue (works ++ more)
still_placed number ahead [] works more h p = tt
still_placed number ahead (Execute order ∷ queue) works more h p = still_placed number (ahead ++ order ∷ []) queue works more h p
still_placed number ahead (ReleaseLock ∷ queue) works more h (first, rest) =
    let same = still_before number works more (omega (arith, h)) in
    ((first.0, first.1 ∙ ap (λ (z : List Order). z ++ first.0) (sym same)), still_placed (suc number) ahead queue works more (omega (arith, h)) rest)

-- more is queued
pub both_placed : (number : ℕ) (ahead : List Order) (queue more works : List Work) → ArePlaced number ahead queue works → ArePlaced (number + releases_in queue) (ahead ++ orders_in queue) more works → ArePlaced number ahead (queue ++ more) works
both_placed number ahead [] more works p q =
    let same : number + 0 ≡ number = omega arith in
    subst (λ (z : ℕ). ArePlaced z ahead more works) same (subst (λ (z : List Order). ArePlaced (number + 0) z more works) (append-nil ahead) q)
both_placed number ahead (Execute order ∷ queue) more works p q =
    both_placed number (ahead ++ order ∷ []) queue more works p
    (subst (λ (z : List Order). ArePlaced (number + releases_in queue) z more works) (sym (append_assoc ahead (order ∷ []) (orders_in queue))) q)
both_placed number ahead (ReleaseLock ∷ queue) more works (first, rest) q =
    let same : number + suc (releases_in queue) ≡ suc number + releases_in queue = omega arith in
    (first, both_placed (suc number) ahead queue more works rest (subst (λ (z : ℕ). ArePlaced z (ahead ++ orders_in queue) more works) same q))

-- transmissions
pub orders_placed : (number : ℕ) (ahead : List Order) (queue works : List Work) → releases_in queue ≡ 0 → ArePlaced number ahead queue works
orders_placed number ahead [] works none = tt
orders_placed number ahead (Execute order ∷ queue) works none = orders_placed number (ahead ++ order ∷ []) queue works none
orders_placed number ahead (ReleaseLock ∷ queue) works none = absurd (omega (arith, none))

-- releases after all that was requested
pub releases_placed : (number : ℕ) (ahead : List Order) (queue works : List Work) → orders_in queue ≡ [] → ahead ≡ orders_in works → ArePlaced number ahead queue works
releases_placed number ahead [] works none is = tt
releases_placed number ahead (Execute order ∷ queue) works none is = absurd (cc (none))
releases_placed number ahead (ReleaseLock ∷ queue) works none is =
    let first = are_first number works in
    ((first.0, is ∙ first.1), releases_placed (suc number) ahead queue works none is)
