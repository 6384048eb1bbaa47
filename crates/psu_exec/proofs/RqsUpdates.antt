-- Service states of sessions whose enabled bits are unchanged, or change by the status alone, or change for one
-- session alone.
use Rattle.std.proofs.Common.{◌≡◌, ℕ, zero, suc, Bool, true, false, not, cond, eqb, List, [], ◌∷◌, map, get_or, refl, ap, ap₂, sym, ◌∙◌}
use Rattle.std.specs.Prelude.{◌&&◌, bit_and, slice_set}
use Rattle.std.specs.Int.Bits.{and_zero_l, xor_self}
use Rattle.psu_status.specs.Status.{Reported, enabled}
use Rattle.psu_exec.specs.declared.service_states.Enabled.{Enabled}
use Rattle.psu_exec.specs.declared.service_states.ServiceState.{ServiceState}
use Rattle.psu_exec.specs.ServiceStates.{bits_of, each_rqs_updated, enabled_of, rqs_updated, rqs_updated_by, initial_service_state, released, requested, rises, with_available}
use Rattle.psu_exec.specs.Device.{State, followed, service_state_of, place_of}
use Rattle.psu_exec.specs.Calls.{with_answer, with_service_state, with_service_states}

no_rise : (b : ℕ) → rises b b ≡ false
no_rise b = ap (λ (n : ℕ). not (eqb (bit_and n b) 0)) (xor_self b) ∙ ap (λ (n : ℕ). not (eqb n 0)) (and_zero_l b)

rqs_updated_at : (rise zeros : Bool) (m : ServiceState) → rise ≡ false → cond rise (requested m) (cond (zeros && not zeros) (released m) m) ≡ m
rqs_updated_at true zeros m e = cc
rqs_updated_at false true m e = refl
rqs_updated_at false false m e = refl

pub rqs_updated_same : (b : ℕ) (m : ServiceState) → rqs_updated b b m ≡ m
rqs_updated_same b m = rqs_updated_at (rises b b) (eqb b 0) m (no_rise b)

each_same : (status : Reported) (ms : List ServiceState) → each_rqs_updated status status ms ms ≡ ms
each_same status [] = refl
each_same status (m ∷ ms) = ap₂ (λ (x : ServiceState) (xs : List ServiceState). x ∷ xs) (rqs_updated_same (enabled status m.available) m) (each_same status ms)

-- a step that changes no enabled bit
pub followed_same : (s : State) → followed s s ≡ s
followed_same s = ap (λ (ms : List ServiceState). record s { volatile = record s.volatile { service_states = ms } }) (each_same s.volatile.instrument.status s.volatile.service_states)

by_available : (old new : Reported) (m : ServiceState) (b : Bool) → rqs_updated (bits_of (enabled_of old) b) (bits_of (enabled_of new) b) m ≡ rqs_updated (enabled old b) (enabled new b) m
by_available old new m true = refl
by_available old new m false = refl

-- the status alone changes
pub each_by : (old new : Reported) (ms : List ServiceState) → map (rqs_updated_by (enabled_of old) (enabled_of new)) ms ≡ each_rqs_updated old new ms ms
each_by old new [] = refl
each_by old new (m ∷ ms) = ap₂ (λ (x : ServiceState) (xs : List ServiceState). x ∷ xs) (by_available old new m m.available) (each_by old new ms)

pub by_same : (e : Enabled) (ms : List ServiceState) → map (rqs_updated_by e e) ms ≡ ms
by_same e [] = refl
by_same e (m ∷ ms) = ap₂ (λ (x : ServiceState) (xs : List ServiceState). x ∷ xs) (rqs_updated_same (bits_of e m.available) m) (by_same e ms)

pub same_enabled : (a b : Enabled) → a.read ≡ b.read → a.unread ≡ b.unread → a ≡ b
same_enabled a b e f = ap₂ (λ (r u : ℕ). record { read = r; unread = u }) e f

-- one session's service state alone changes
each_set : (status : Reported) (ms : List ServiceState) (i : ℕ) (x : ServiceState)
    → each_rqs_updated status status ms (slice_set ms i x) ≡ slice_set ms i (rqs_updated (enabled status (get_or ms i initial_service_state).available) (enabled status x.available) x)
each_set status [] i x = refl
each_set status (m ∷ ms) zero x = ap (λ (xs : List ServiceState). rqs_updated (enabled status m.available) (enabled status x.available) x ∷ xs) (each_same status ms)
each_set status (m ∷ ms) (suc i) x = ap₂ (λ (y : ServiceState) (ys : List ServiceState). y ∷ ys) (rqs_updated_same (enabled status m.available) m) (each_set status ms i x)

-- the service state of a session that is sent a response, or reads it
abbrev pub changed : Reported → Bool → ServiceState → ServiceState
changed status b m = rqs_updated (enabled status m.available) (enabled status b) (with_available m b)

pub followed_at : (s : State) (session : ℕ) (b : Bool) → with_service_state s session (changed s.volatile.instrument.status b (service_state_of s session)) ≡ with_answer s session b
followed_at s session b = ap (with_service_states s) (sym (each_set s.volatile.instrument.status s.volatile.service_states (place_of session) (with_available (service_state_of s session) b)))

-- the state after a step that changes enabled bits by the status alone
pub followed_by : (before after : State) (old : Enabled) (service_states : List ServiceState) → old ≡ enabled_of before.volatile.instrument.status → before.volatile.service_states ≡ after.volatile.service_states
    → service_states ≡ map (rqs_updated_by old (enabled_of after.volatile.instrument.status)) after.volatile.service_states → with_service_states after service_states ≡ followed before after
followed_by before after old service_states e same is =
    ap (with_service_states after)
    (is ∙ ap (λ (x : Enabled). map (rqs_updated_by x (enabled_of after.volatile.instrument.status)) after.volatile.service_states) e ∙ each_by before.volatile.instrument.status after.volatile.instrument.status after.volatile.service_states
    ∙ ap (λ (ms : List ServiceState). each_rqs_updated before.volatile.instrument.status after.volatile.instrument.status ms after.volatile.service_states) (sym same))
