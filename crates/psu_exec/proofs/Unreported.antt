-- The sessions with a service request to report, after one more place.
use Rattle.std.proofs.Common.{◌≡◌, ◌≤◌, ◌<◌, ℕ, suc, ◌+◌, Bool, true, false, List, [], ◌∷◌, ◌++◌, length, map, take, get_or, refl, sym, ap, ap₂, ◌∙◌, arith, append_assoc}
use Rattle.std.specs.Prelude.{◌&&◌}
use Rattle.std.proofs.lemmas.List.{take_more, length-take-le}
use Rattle.psu_exec.specs.ServiceStates.{named, initial_service_state, reported, unreported_from}
use Rattle.psu_exec.specs.declared.service_states.ServiceState.{ServiceState}

-- a list with nothing after it
alone : (n : ℕ) (b : Bool) → named n b ++ [] ≡ named n b
alone n true = refl
alone n false = refl

unreported_append : (n m : ℕ) (os : List Bool) (ms : List ServiceState) (o : Bool) (x : ServiceState) → length os ≡ length ms → m ≡ n + length os → unreported_from n (os ++ o ∷ []) (ms ++ x ∷ []) ≡ unreported_from n os ms ++ named m (o && x.unreported)
unreported_append n m [] [] o x same e = alone n (o && x.unreported) ∙ ap (λ k. named k (o && x.unreported)) (let is : n ≡ m = omega arith in is)
unreported_append n m (p ∷ os) (y ∷ ms) o x same e =
    ap (λ rest. named n (p && y.unreported) ++ rest) (unreported_append (suc n) m os ms o x (omega arith) (omega arith)) ∙ sym (append_assoc (named n (p && y.unreported)) (unreported_from (suc n) os ms) (named m (o && x.unreported)))
unreported_append n m other another o x same e = absurd (let bad : ⊥ = omega arith in bad)

pub unreported_more : (os : List Bool) (ms : List ServiceState) (i : ℕ) (d : Bool) (e : ServiceState) → i < length os → i < length ms
    → unreported_from 1 (take (i + 1) os) (take (i + 1) ms) ≡ unreported_from 1 (take i os) (take i ms) ++ named (i + 1) (get_or os i d && (get_or ms i e).unreported)
unreported_more os ms i d e h g =
    let size : length (take i os) ≡ i = length-take-le i os (omega arith) in
    let other : length (take i ms) ≡ i = length-take-le i ms (omega arith) in
    ap₂ (unreported_from 1) (take_more os i d h) (take_more ms i e g) ∙ unreported_append 1 (i + 1) (take i os) (take i ms) (get_or os i d) (get_or ms i e) (omega arith) (omega arith)

pub length-named : (n : ℕ) (b : Bool) → length (named n b) ≤ 1
length-named n true = omega arith
length-named n false = omega arith

-- ---- where no session has one

-- no session has a service request to report
abbrev pub NoneUnreported : List ServiceState → Type 0
NoneUnreported ms = (i : ℕ) → i < length ms → (get_or ms i initial_service_state).unreported ≡ false

none_behind : (m : ServiceState) (ms : List ServiceState) → NoneUnreported (m ∷ ms) → NoneUnreported ms
none_behind m ms none i lt = none (suc i) (omega arith)

unnamed : (n : ℕ) (b c : Bool) → c ≡ false → named n (b && c) ≡ []
unnamed n true c e = ap (named n) e
unnamed n false c e = refl

pub none_unreported : (n : ℕ) (os : List Bool) (ms : List ServiceState) → NoneUnreported ms → unreported_from n os ms ≡ []
none_unreported n (o ∷ os) (m ∷ ms) none = ap₂ (λ a b. a ++ b) (unnamed n o m.unreported (none 0 (omega arith))) (none_unreported (suc n) os ms (none_behind m ms none))
none_unreported n other another none = refl

pub none_reported : (ms : List ServiceState) → NoneUnreported ms → map reported ms ≡ ms
none_reported [] none = refl
none_reported (m ∷ ms) none = ap₂ (λ a b. a ∷ b) (ap (λ (b : Bool). record m { unreported = b }) (sym (none 0 (omega arith)))) (none_reported ms (none_behind m ms none))
