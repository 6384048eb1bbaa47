-- No enabled bit of the status byte rises where events or errors are only read and cleared.
use Rattle.std.proofs.Common.{◌≡◌, ℕ, ◌+◌, ◌*◌, zero, suc, Bool, true, false, ◌&&◌, not, ◌==◌, nat_lt, List, [], ◌∷◌, length, drop, refl, sym, ap, subst, ◌∙◌, arith}
use Rattle.std.specs.Prelude.{bit_and, bit_xor}
use Rattle.std.specs.Int.Bits.{and_self, and_zero_l, xor_add_and, xor_assoc, xor_self, xor_zero_r}
use Rattle.std.proofs.lemmas.Nat.{and_assoc, and_comm}
use Rattle.std.proofs.lemmas.Bool.{eqb-true, lt-ltb}
use Rattle.psu_lex.specs.declared.scpi_error.ScpiError.{ScpiError}
use Rattle.psu_status.specs.Registers.{rising, summary, without_events}
use Rattle.psu_status.specs.Status.{Reported, bit, enabled, group_of, summaries, with_group}
use Rattle.psu_status.specs.declared.groups.Group.{Group}
use Rattle.psu_status.specs.declared.groups.Group.TheVariants as group
use Rattle.psu_instrument.specs.Speaking.{RaisesNone}

-- ---- bits

-- nothing rises where the new bits are among the old ones
none_within : (old new : ℕ) → bit_and old new ≡ new → rising old new ≡ 0
none_within old new within =
    let first : bit_xor old new + bit_and old new * 2 ≡ old + new = xor_add_and old new in
    let last : bit_xor (bit_xor old new) new + bit_and (bit_xor old new) new * 2 ≡ bit_xor old new + new = xor_add_and (bit_xor old new) new in
    let again : bit_xor (bit_xor old new) new ≡ old = xor_assoc old new new ∙ ap (bit_xor old) (xor_self new) ∙ xor_zero_r old in
    omega (arith, first, last, again, within)

-- so too of the bits that a mask enables
within_enabled : (old new mask : ℕ) → bit_and old new ≡ new → bit_and (bit_and old mask) (bit_and new mask) ≡ bit_and new mask
within_enabled old new mask within =
    and_assoc (bit_and new mask) old mask
    ∙ ap (bit_and old) (ap (bit_and mask) (and_comm new mask) ∙ sym (and_assoc new mask mask) ∙ ap (λ (n : ℕ). bit_and n new) (and_self mask) ∙ and_comm mask new)
    ∙ sym (and_assoc mask old new) ∙ ap (λ (n : ℕ). bit_and n mask) within

-- whether a test of n Booleans always holds
abbrev always : ℕ → (List Bool → Bool) → Bool
always zero test = test []
always (suc n) test = always n (λ bs. test (true ∷ bs)) && always n (λ bs. test (false ∷ bs))

first : (a b : Bool) → (a && b) ≡ true → a ≡ true
first true b e = refl
first false b e = cc

second : (a b : Bool) → (a && b) ≡ true → b ≡ true
second true b e = e
second false b e = cc

always_at : (test : List Bool → Bool) (bs : List Bool) → always (length bs) test ≡ true → test bs ≡ true
always_at test [] e = e
always_at test (true ∷ bs) e = always_at (λ xs. test (true ∷ xs)) bs (first _ _ e)
always_at test (false ∷ bs) e = always_at (λ xs. test (false ∷ xs)) bs (second _ _ e)

-- ---- the status byte

abbrev is_any : List ScpiError → Bool
is_any errors = nat_lt 0 (length errors)

-- its bits without MSS: errors, QUEStionable, MAV, the event status register and OPERation
abbrev byte : Bool → Bool → Bool → Bool → Bool → ℕ
byte errors questionable mav events operation = bit 2 errors + (bit 3 questionable + (bit 4 mav + (bit 5 events + bit 7 operation)))

abbrev is_within : ℕ → ℕ → Bool
is_within old new = bit_and old new == new

abbrev within_byte : List Bool → Bool
within_byte (a ∷ b ∷ c ∷ d ∷ e ∷ f ∷ g ∷ h ∷ i ∷ []) = is_within (byte a b c d e) (byte (f && a) (g && b) c (h && d) (i && e))
within_byte _ = true

-- where f, g, h and i keep or clear a bit each, the bits are among those before
bits_within : (a b c d e f g h i : Bool) → bit_and (byte a b c d e) (byte (f && a) (g && b) c (h && d) (i && e)) ≡ byte (f && a) (g && b) c (h && d) (i && e)
bits_within a b c d e f g h i = eqb-true _ _ (always_at within_byte (a ∷ b ∷ c ∷ d ∷ e ∷ f ∷ g ∷ h ∷ i ∷ []) refl)

abbrev within_without_mav : List Bool → Bool
within_without_mav (a ∷ b ∷ d ∷ e ∷ []) = is_within (byte a b true d e) (byte a b false d e)
within_without_mav _ = true

-- where MAV is cleared, too
within_cleared : (a b d e : Bool) → bit_and (byte a b true d e) (byte a b false d e) ≡ byte a b false d e
within_cleared a b d e = eqb-true _ _ (always_at within_without_mav (a ∷ b ∷ d ∷ e ∷ []) refl)

-- ---- what queries clear

pub none_rises : (s : Reported) → RaisesNone s s
none_rises s available = none_within (enabled s available) (enabled s available) (and_self (enabled s available))

-- a response is delivered: MAV is cleared
pub mav_cleared : (s : Reported) (available : Bool) → rising (enabled s available) (enabled s false) ≡ 0
mav_cleared s false = none_rises s false
mav_cleared s true =
    none_within _ _ (within_enabled (summaries s true) (summaries s false) s.sre (within_cleared (is_any s.errors) (summary s.questionable) (not (bit_and s.esr s.ese == 0)) (summary s.operation)))

-- a status with the same enables whose bits are among those before
none_of : (old new : Reported) → new.sre ≡ old.sre → ((available : Bool) → bit_and (summaries old available) (summaries new available) ≡ summaries new available) → RaisesNone old new
none_of old new same within available =
    ap (λ (mask : ℕ). rising (enabled old available) (bit_and (summaries new available) mask)) same
    ∙ none_within _ _ (within_enabled (summaries old available) (summaries new available) old.sre (within available))

-- `*ESR?`
pub events_read : (s : Reported) → RaisesNone s (record s { esr = 0 })
events_read s = none_of s (record s { esr = 0 }) refl (λ available. rw (and_zero_l s.ese) (bits_within (is_any s.errors) (summary s.questionable) available (not (bit_and s.esr s.ese == 0)) (summary s.operation) true true false true))

-- `EVENt?`
pub group_read : (s : Reported) (g : Group) → RaisesNone s (with_group s g (without_events (group_of s g)))
group_read s group.Operation = none_of s (with_group s group.Operation (without_events s.operation)) refl (λ available. rw (and_zero_l s.operation.enable) (bits_within (is_any s.errors) (summary s.questionable) available (not (bit_and s.esr s.ese == 0)) (summary s.operation) true true true false))
group_read s group.Questionable = none_of s (with_group s group.Questionable (without_events s.questionable)) refl (λ available. rw (and_zero_l s.questionable.enable) (bits_within (is_any s.errors) (summary s.questionable) available (not (bit_and s.esr s.ese == 0)) (summary s.operation) true false true true))

abbrev ErrorsWithin : Reported → Bool → Bool → Bool → Type 0
ErrorsWithin s available old new =
    bit_and (byte old (summary s.questionable) available (not (bit_and s.esr s.ese == 0)) (summary s.operation)) (byte new (summary s.questionable) available (not (bit_and s.esr s.ese == 0)) (summary s.operation))
    ≡ byte new (summary s.questionable) available (not (bit_and s.esr s.ese == 0)) (summary s.operation)

errors_within : (s : Reported) (available old new : Bool) → (new ≡ true → old ≡ true) → ErrorsWithin s available old new
errors_within s available old true was =
    subst (λ (b : Bool). ErrorsWithin s available b true) (sym (was refl)) (bits_within true (summary s.questionable) available (not (bit_and s.esr s.ese == 0)) (summary s.operation) true true true true)
errors_within s available old false was = bits_within old (summary s.questionable) available (not (bit_and s.esr s.ese == 0)) (summary s.operation) false true true true

some_before : (errors : List ScpiError) → is_any (drop 1 errors) ≡ true → is_any errors ≡ true
some_before [] e = e
some_before (x ∷ es) e = lt-ltb 0 (suc (length es)) (omega arith)

-- `SYSTem:ERRor?`
pub error_read : (s : Reported) → RaisesNone s (record s { errors = drop 1 s.errors })
error_read s = none_of s (record s { errors = drop 1 s.errors }) refl (λ available. errors_within s available (is_any s.errors) (is_any (drop 1 s.errors)) (some_before s.errors))
