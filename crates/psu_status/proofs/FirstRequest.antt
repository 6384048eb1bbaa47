-- The service request that the registers make at power-on is the prescribed one.
use Rattle.std.proofs.Common.{◌≡◌, ℕ, ◌+◌, Bool, true, false, not, eqb, cond, Option, Some, None, refl, sym, ◌∙◌, ap}
use Rattle.std.specs.Prelude.{bit_and, ◌&&◌}
use Rattle.std.specs.Int.Bits.{and_zero_l}
use Rattle.std.proofs.lemmas.Nat.{and_comm, and_assoc}
use Rattle.psu_status.specs.declared.groups.Enables.{Enables}
use Rattle.psu_status.specs.Status.{power_on, first_request, prescribed, bit}

-- the first service request for this status byte; none where it misses all bits that SRE enables
abbrev requested : ℕ → Bool → Option ℕ
requested byte misses = cond (not misses) (Some (byte + bit 6 (not misses))) None

-- bit 5 of SRE, without bit 6
bit_of_sre : (sre : ℕ) → bit_and 32 (bit_and sre 191) ≡ bit_and sre 32
bit_of_sre sre = and_comm 32 (bit_and sre 191) ∙ and_assoc 32 sre 191

with_event : (misses : Bool) → requested 32 misses ≡ cond (not misses && true) (Some 96) None
with_event true = refl
with_event false = refl

abbrev no_request : Option ℕ
no_request = None

without_event : (b : Bool) → cond (b && false) (Some 96) no_request ≡ no_request
without_event true = refl
without_event false = refl

-- the bits of the status byte at power-on: bit 5 alone may be set
abbrev byte_of : Bool → ℕ
byte_of event = 0 + (0 + (0 + (bit 5 event + 0)))

by_event : (sre : ℕ) (event : Bool) → requested (byte_of event) (eqb (bit_and (byte_of event) (bit_and sre 191)) 0) ≡ cond (not (eqb (bit_and sre 32) 0) && event) (Some 96) no_request
by_event sre true = ap (λ (n : ℕ). requested 32 (eqb n 0)) (bit_of_sre sre) ∙ with_event (eqb (bit_and sre 32) 0)
by_event sre false = ap (λ (n : ℕ). requested 0 (eqb n 0)) (and_zero_l (bit_and sre 191)) ∙ sym (without_event (not (eqb (bit_and sre 32) 0)))

-- the first service request is the prescribed one, whatever the condition
pub request_at_power_on : (enables : Option Enables) (bits : ℕ) → first_request (power_on enables bits) ≡ prescribed enables
request_at_power_on None bits = refl
request_at_power_on (Some enables) bits =
    by_event enables.sre (not (eqb (bit_and 128 enables.ese) 0))
    ∙ ap (λ (n : ℕ). cond (not (eqb (bit_and enables.sre 32) 0) && not (eqb n 0)) (Some 96) no_request) (and_comm 128 enables.ese)
