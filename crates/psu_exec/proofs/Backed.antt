-- RQS is set only while an enabled bit is set, after each call.
use Rattle.std.proofs.Common.{◌≡◌, inl, inr, ℕ, zero, suc, Bool, true, false, not, cond, eqb, Some, None, List, [], ◌∷◌, map, get_or, replicate, refl, sym, ap, subst, ◌∙◌}
use Rattle.std.specs.Prelude.{◌&&◌, slice_set}
use Rattle.std.specs.Int.Bits.{and_zero_r}
use Rattle.std.proofs.lemmas.Bool.{eqb-true}
use Rattle.psu_items.specs.declared.commit.UnstartedCause.TheVariants as unstarted
use Rattle.psu_status.specs.Status.{Reported, enabled}
use Rattle.psu_exec.specs.declared.service_states.ServiceState.{ServiceState}
use Rattle.psu_exec.specs.ServiceStates.{each_rqs_updated, falls, fetched, rqs_updated, initial_service_state, opened_service_state, released, requested, rises, reported, with_available}
use Rattle.psu_exec.specs.Device.{State, after_meant, here, service_state_of, meant, place_of}
use Rattle.psu_exec.specs.Calls.{Entry, JobEnd, Stored, Unstarted, Failed, Reopened, Serves, GivesBack, target_flushed, wait_settled, with_answer}
use Rattle.psu_exec.specs.Backed.{AreBacked, IsBacked, EachRqsStaysBacked}
use Rattle.psu_exec.proofs.RqsUpdates.{changed, followed_at}

both_true : (a b : Bool) → a && b ≡ true → (a ≡ true) × (b ≡ true)
both_true true b h = (refl, h)
both_true false b h = cc

none_rises : (old new : ℕ) → eqb new 0 ≡ true → rises old new ≡ false
none_rises old new zeros = let is : new ≡ 0 = eqb-true new 0 zeros in rw is (ap (λ (n : ℕ). not (eqb n 0)) (and_zero_r _))

-- RQS of a session whose enabled bits were old and are new, by its previous value
at_bits : (rise zeros was : Bool) (m : ServiceState) → (rise ≡ true → zeros ≡ false) → (m.rqs ≡ true → was ≡ false)
    → (cond rise (requested m) (cond (zeros && not was) (released m) m)).rqs ≡ true → zeros ≡ false
at_bits true zeros was m up since set = up refl
at_bits false true true m up since set = let bad = since set in cc
at_bits false true false m up since set = cc
at_bits false false was m up since set = refl

by_bits : (old new : ℕ) (m : ServiceState) → (m.rqs ≡ true → eqb old 0 ≡ false) → (rqs_updated old new m).rqs ≡ true → eqb new 0 ≡ false
by_bits old new m since set = at_bits (rises old new) (eqb new 0) (eqb old 0) m (up (eqb new 0) refl) since set
  where
    up : (b : Bool) → eqb new 0 ≡ b → rises old new ≡ true → eqb new 0 ≡ false
    up true is r = let bad : true ≡ false = sym r ∙ none_rises old new is in cc
    up false is r = is

-- a change of RQS leaves MAV as it was
same_at : (rise fall : Bool) (m : ServiceState) → (cond rise (requested m) (cond fall (released m) m)).available ≡ m.available
same_at true fall m = by m.rqs where
  by : (b : Bool) → (cond b m (record m { rqs = true; unfetched = true; unreported = true })).available ≡ m.available
  by true = refl
  by false = refl
same_at false true m = refl
same_at false false m = refl

same_available : (old new : ℕ) (m : ServiceState) → (rqs_updated old new m).available ≡ m.available
same_available old new m = same_at (rises old new) (falls old new) m

one_backed : (status : Reported) (old : ℕ) (m : ServiceState) → (m.rqs ≡ true → eqb old 0 ≡ false) → IsBacked status (rqs_updated old (enabled status m.available) m)
one_backed status old m since set = subst (λ (b : Bool). eqb (enabled status b) 0 ≡ false) (sym (same_available old (enabled status m.available) m)) (by_bits old (enabled status m.available) m since set)

pub followed_backed : (old new : Reported) (ms : List ServiceState) → AreBacked old ms → AreBacked new (each_rqs_updated old new ms ms)
followed_backed old new [] h = tt
followed_backed old new (m ∷ ms) h = (one_backed new (enabled old m.available) m h.0, followed_backed old new ms h.1)

set_backed : (status : Reported) (ms : List ServiceState) (i : ℕ) (x : ServiceState) → IsBacked status x → AreBacked status ms → AreBacked status (slice_set ms i x)
set_backed status [] i x new h = tt
set_backed status (m ∷ ms) zero x new h = (new, h.1)
set_backed status (m ∷ ms) (suc i) x new h = (h.0, set_backed status ms i x new h.1)

at_backed : (status : Reported) (ms : List ServiceState) (i : ℕ) → AreBacked status ms → IsBacked status (get_or ms i initial_service_state)
at_backed status [] i h set = cc
at_backed status (m ∷ ms) zero h set = h.0 set
at_backed status (m ∷ ms) (suc i) h set = at_backed status ms i h.1 set

reported_backed : (status : Reported) (ms : List ServiceState) → AreBacked status ms → AreBacked status (map reported ms)
reported_backed status [] h = tt
reported_backed status (m ∷ ms) h = (h.0, reported_backed status ms h.1)

answer_backed : (s : State) (session : ℕ) (b : Bool) → AreBacked s.volatile.instrument.status s.volatile.service_states → AreBacked s.volatile.instrument.status (with_answer s session b).volatile.service_states
answer_backed s session b h =
    let status = s.volatile.instrument.status in
    let m = service_state_of s session in
    subst (λ (t : State). AreBacked status t.volatile.service_states) (followed_at s session b)
    (set_backed status s.volatile.service_states (place_of session) (changed status b m) (one_backed status (enabled status m.available) (with_available m b) (at_backed status s.volatile.service_states (place_of session) h)) h)

end_backed : (s new : State) (finished : JobEnd) → GivesBack s finished new → AreBacked s.volatile.instrument.status s.volatile.service_states → AreBacked new.volatile.instrument.status new.volatile.service_states
end_backed s new (Stored limit map) is h = rw is (followed_backed s.volatile.instrument.status (target_flushed s).volatile.instrument.status s.volatile.service_states h)
end_backed s new (Unstarted limit before edits unstarted.Memory) is h = rw is h
end_backed s new (Reopened limit map) (inl all) h = rw all.1 (followed_backed s.volatile.instrument.status (target_flushed s).volatile.instrument.status s.volatile.service_states h)
end_backed s new (Reopened limit map) (inr none) h = rw none.1 h
end_backed s new other is h = rw is h

pub fresh_backed : (status : Reported) (n : ℕ) → AreBacked status (replicate n initial_service_state)
fresh_backed status zero = tt
fresh_backed status (suc n) = ((λ set. cc), fresh_backed status n)

serves_backed : (s new : State) (entry : Entry) → Serves s entry new → AreBacked s.volatile.instrument.status s.volatile.service_states → AreBacked new.volatile.instrument.status new.volatile.service_states
serves_backed s new (Entry.Executed session request reply) a h = rw a.1.is (followed_backed s.volatile.instrument.status (after_meant s session (meant (here s session) request.reading) reply).volatile.instrument.status s.volatile.service_states h)
serves_backed s new (Entry.Settled session reply) a h = rw a.2 (followed_backed s.volatile.instrument.status (wait_settled s session reply).volatile.instrument.status s.volatile.service_states h)
serves_backed s new (Entry.GaveBack finished (Some over)) a h = end_backed s new finished a.gives h
serves_backed s new (Entry.Opened (Some session)) a h =
    rw a.1 (set_backed s.volatile.instrument.status s.volatile.service_states (place_of session) (opened_service_state s.volatile.instrument.status) (one_backed s.volatile.instrument.status 0 initial_service_state (λ set. cc)) h)
serves_backed s new (Entry.Closed session granted) a h = rw a.2 (set_backed s.volatile.instrument.status s.volatile.service_states (place_of session) initial_service_state (λ set. cc) h)
serves_backed s new (Entry.Sent session sessions work) a h = rw a.1.2 (reported_backed s.volatile.instrument.status (with_answer s session true).volatile.service_states (answer_backed s session true h))
serves_backed s new (Entry.Delivered session) a h = rw a.1 (answer_backed s session false h)
serves_backed s new (Entry.Queried session byte) a h = rw a.2 (set_backed s.volatile.instrument.status s.volatile.service_states (place_of session) (released (service_state_of s session)) (λ set. cc) h)
serves_backed s new (Entry.Fetched session byte) a h =
    rw a.2 (set_backed s.volatile.instrument.status s.volatile.service_states (place_of session) (fetched (service_state_of s session)) (at_backed s.volatile.instrument.status s.volatile.service_states (place_of session) h) h)
serves_backed s new (Entry.Notified sessions work) a h = rw a.2 (reported_backed s.volatile.instrument.status s.volatile.service_states h)
serves_backed s new (Entry.Locked session kind now timeout result) a h = rw a.2 h
serves_backed s new (Entry.Released session result) a h = rw a.2 h
serves_backed s new other a h = rw a.1 h

pub stays_backed : EachRqsStaysBacked
stays_backed s new entry (inl a) h = serves_backed s new entry a h
stays_backed s new entry (inr none) h = rw none.1 h
