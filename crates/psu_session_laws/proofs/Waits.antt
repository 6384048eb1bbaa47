-- A lock request that waits is answered once.
use Rattle.std.proofs.Common.{◌≡◌, ◌⊎◌, ℕ, Bool, true, false, Option, Some, None, Ok, List, [], ◌∷◌, ◌++◌, refl, sym, ap, ◌∙◌, inl, inr}
use Rattle.std.specs.Prelude.{flat_map}
use Rattle.std.proofs.lemmas.List.Concat.{flat_map-append}
use Rattle.psu_locks.specs.declared.results.Grant.{Grant}
use Rattle.psu_hislip.specs.Action.{Act}
use Rattle.psu_hislip.specs.Channel.{Awaited}
use Rattle.psu_hislip.specs.Core.{outcome_of}
use Rattle.psu_hislip.specs.LockResponses.{lock_response}
use Rattle.psu_hislip.specs.Stream.{Received}
use Rattle.psu_hislip.specs.declared.header.Header.{Header}
use Rattle.psu_hislip.specs.declared.action.Origin.{Origin}
use Rattle.psu_hislip.specs.declared.side.Side.{Side}
use Rattle.psu_hislip.specs.declared.side.Side.TheVariants.{Sync, Async}
use Rattle.psu_session.specs.Numbers.{number_on, parameter}
use Rattle.psu_session.specs.Orders.{Done}
use Rattle.psu_session.specs.Events as events
use Rattle.psu_session.specs.Events.{Event, LockGranted, waits_after}
use Rattle.psu_session_laws.specs.Requests.{immediate}
use Rattle.psu_session.specs.Step.{Each, EachReceived, IsLockGranted, IsMessageReceived, IsServiceRequested, SessionStep, Steps, granted, happened, release_in, works_in}
use Rattle.psu_session.specs.Step.SessionStep.{Receives, Notifies, Ticks, Begins, Works, ReleasesLock, Ends, Takes, Writes}
use Rattle.psu_session.specs.Step.Steps.{Still, Then}
use Rattle.psu_session.specs.State.{Start, SessionState, added, fresh, numbered, with_channel, with_core, with_output, with_writes}
use Rattle.psu_session_laws.proofs.Keeping.{none_after}
use Rattle.psu_session_laws.proofs.Immediate.{each_does}
use Rattle.psu_session.proofs.Serving.{waits_after-append}
use Rattle.psu_session_laws.proofs.Splitting.{within}
use Rattle.psu_session_laws.proofs.Splitting.Within.{Left, Right}

-- ---- what a step does to the wait

with_number : (number : Option ℕ) (s : SessionState) → (numbered s number).lock_waits ≡ s.lock_waits
with_number None s = refl
with_number (Some number) s = refl

pub fed_waits : (side : Side) (s : SessionState) (channel : Awaited) → (with_channel side s channel).lock_waits ≡ s.lock_waits
fed_waits Sync s channel = refl
fed_waits Async s channel = refl

with_rest : (side : Side) (s : SessionState) (bytes : List ℕ) → (with_output side s bytes).lock_waits ≡ s.lock_waits
with_rest Sync s bytes = refl
with_rest Async s bytes = refl

with_writer : (side : Side) (s : SessionState) (writing : Bool) → (with_writes side s writing).lock_waits ≡ s.lock_waits
with_writer Sync s writing = refl
with_writer Async s writing = refl

effects_leave : (waits : Bool) (origin : Origin) (done : List Done) → waits_after waits (happened origin done) ≡ waits
effects_leave waits origin [] = refl
effects_leave waits origin (d ∷ done) = effects_leave waits origin done

pub one_message : (now : ℕ) (side : Side) (message : Received) (s : SessionState) (done : List Event) (t : SessionState) → IsMessageReceived now side message s done t → t.lock_waits ≡ waits_after s.lock_waits done
one_message now side message s done t r =
    let out = outcome_of s.core side message in
    let more = added (with_core s out.core) (flat_map works_in out.actions) (flat_map (release_in now (parameter message)) out.actions) r.immediate in
    ap (λ (z : SessionState). z.lock_waits) r.then ∙ with_number (number_on side message) more ∙ ap (λ (z : List Event). waits_after s.lock_waits z) (sym r.are)

each_message : (now : ℕ) (side : Side) (messages : List Received) (s : SessionState) (done : List Event) (t : SessionState) → EachReceived now side messages s done t → t.lock_waits ≡ waits_after s.lock_waits done
each_message now side [] s done t (none, same) = ap (λ (z : SessionState). z.lock_waits) same ∙ ap (λ (z : List Event). waits_after s.lock_waits z) (sym none)
each_message now side (message ∷ messages) s done t (mid, first, more, is, one, rest) =
    each_message now side messages mid more t rest ∙ ap (λ (z : Bool). waits_after z more) (one_message now side message s first mid one)
    ∙ sym (waits_after-append s.lock_waits first more) ∙ ap (λ (z : List Event). waits_after s.lock_waits z) (sym is)

still : (s : SessionState) (done : List Event) (t : SessionState) → done ≡ [] → t.lock_waits ≡ s.lock_waits → t.lock_waits ≡ waits_after s.lock_waits done
still s done t none same = same ∙ ap (λ (z : List Event). waits_after s.lock_waits z) (sym none)

step_waits : (s : SessionState) (done : List Event) (t : SessionState) → SessionStep s done t → t.lock_waits ≡ waits_after s.lock_waits done
step_waits s done t (Receives now side received_bytes h) =
    each_message now side h.messages (with_channel side s h.channel) h.immediate t h.each ∙ ap (λ (z : Bool). waits_after z h.immediate) (fed_waits side s h.channel) ∙ ap (λ (z : List Event). waits_after s.lock_waits z) (sym h.are)
step_waits s done t (Notifies a) = ap (λ (z : SessionState). z.lock_waits) a.then
step_waits s done t (Ticks now tick) = still s done t tick.are (ap (λ (z : SessionState). z.lock_waits) tick.then)
step_waits s done t (ReleasesLock g) = ap (λ (z : SessionState). z.lock_waits) g.then
step_waits s done t (Begins b) = still s done t b.are (ap (λ (z : SessionState). z.lock_waits) b.then)
step_waits s done t (Works w) =
    ap (λ (z : SessionState). z.lock_waits) w.then ∙ sym (effects_leave s.lock_waits w.order.origin w.effects_done) ∙ ap (λ (z : List Event). waits_after s.lock_waits z) (sym w.are)
step_waits s done t (Ends e) = still s done t e.are (ap (λ (z : SessionState). z.lock_waits) e.then)
step_waits s done t (Takes side bytes taking) =
    ap (λ (z : SessionState). z.lock_waits) taking.then ∙ with_writer side (with_output side s []) true ∙ with_rest side s [] ∙ ap (λ (z : List Event). waits_after s.lock_waits z) (sym taking.are)
step_waits s done t (Writes side w) = ap (λ (z : SessionState). z.lock_waits) w.then ∙ with_writer side s false ∙ ap (λ (z : List Event). waits_after s.lock_waits z) (sym w.are)

pub wait_is_known : (start : Start) (history : List Event) (s : SessionState) → Steps (fresh start) history s → s.lock_waits ≡ waits_after false history
wait_is_known start history s Still = refl
wait_is_known start history s (Then {done = done} {t = t} steps more u m) =
    step_waits t more u m ∙ ap (λ (z : Bool). waits_after z more) (wait_is_known start done t steps) ∙ sym (waits_after-append false done more)

-- ---- the results of lock requests

abbrev result_in : Event → List Grant
result_in (events.LockGranted grant) = grant ∷ []
result_in _ = []

abbrev results : List Event → List Grant
results history = flat_map result_in history

immediate_has_none : (xs : List Event) → results (immediate xs) ≡ []
immediate_has_none [] = refl
immediate_has_none (events.LockGranted grant ∷ xs) = immediate_has_none xs
immediate_has_none (_ ∷ xs) = immediate_has_none xs

each_has_none : (waits : Bool) (acts : List Act) (done : List Event) → Each waits acts done → results done ≡ []
each_has_none waits acts done each = ap results (sym (each_does waits acts done each)) ∙ immediate_has_none done

effects_have_none : (origin : Origin) (done : List Done) → results (happened origin done) ≡ []
effects_have_none origin [] = refl
effects_have_none origin (d ∷ done) = effects_have_none origin done

messages_have_none : (now : ℕ) (side : Side) (messages : List Received) (s : SessionState) (done : List Event) (t : SessionState) → EachReceived now side messages s done t → results done ≡ []
messages_have_none now side [] s done t (none, same) = ap results none
messages_have_none now side (message ∷ messages) s done t (mid, first, more, is, one, rest) =
    ap results is ∙ flat_map-append result_in first more ∙ ap (λ (z : List Grant). z ++ results more) (ap results one.are ∙ each_has_none s.lock_waits (outcome_of s.core side message).actions one.immediate one.each)
    ∙ messages_have_none now side messages mid more t rest

module _ (s : SessionState) (before after : List Event) (grant : Grant) where
  no_result : (done : List Event) → results done ≡ [] → done ≡ before ++ LockGranted grant ∷ after → ⊥
  no_result done none is = none_after (results before) grant (results after) (sym (flat_map-append result_in before (LockGranted grant ∷ after)) ∙ ap results (sym is) ∙ none)

  is_first : (given : Grant) → LockGranted given ∷ [] ≡ before ++ LockGranted grant ∷ after → before ≡ []
  is_first given e = first before e where
    first : (xs : List Event) → LockGranted given ∷ [] ≡ xs ++ LockGranted grant ∷ after → xs ≡ []
    first [] e = refl
    first (x ∷ xs) e = let rest : [] ≡ xs ++ LockGranted grant ∷ after = cc (e) in absurd (none_after xs (LockGranted grant) after (sym rest))

  waited : (waits : Bool) (header : Option Header) (given : Grant) → granted waits header given ≡ before ++ LockGranted grant ∷ after → waits_after waits before ≡ true
  waited false header given e = absurd (none_after before (LockGranted grant) after (sym e))
  waited true None given e = absurd (none_after before (LockGranted grant) after (sym e))
  waited true (Some header) given e = ap (λ (z : List Event). waits_after true z) (is_first given e)

  caused : (done : List Event) → ((given : Grant) × IsLockGranted s.lock_waits given done) ⊎ IsServiceRequested done → done ≡ before ++ LockGranted grant ∷ after → waits_after s.lock_waits before ≡ true
  caused done (inl (given, e)) is = waited s.lock_waits (lock_response (Ok given)) given (sym e ∙ is)
  caused done (inr (request, e)) is = absurd (no_result done (ap results e) is)

  here : (done : List Event) (t : SessionState) → SessionStep s done t → done ≡ before ++ LockGranted grant ∷ after → waits_after s.lock_waits before ≡ true
  here done t (Receives now side received_bytes h) is = absurd (no_result done (ap results h.are ∙ messages_have_none now side h.messages (with_channel side s h.channel) h.immediate t h.each) is)
  here done t (Notifies a) is = caused done a.is is
  here done t (Ticks now tick) is = absurd (no_result done (ap results tick.are) is)
  here done t (ReleasesLock g) is = absurd (no_result done (ap results g.are) is)
  here done t (Begins b) is = absurd (no_result done (ap results b.are) is)
  here done t (Works w) is = absurd (no_result done (ap results w.are ∙ effects_have_none w.order.origin w.effects_done) is)
  here done t (Ends e) is = absurd (no_result done (ap results e.are) is)
  here done t (Takes side bytes taking) is = absurd (no_result done (ap results taking.are) is)
  here done t (Writes side w) is = absurd (no_result done (ap results w.are) is)

pub answered_once : (start : Start) (history : List Event) (s : SessionState) → Steps (fresh start) history s → (before after : List Event) (grant : Grant) → history ≡ before ++ LockGranted grant ∷ after → waits_after false before ≡ true
answered_once start history s Still before after grant is = absurd (none_after before (LockGranted grant) after (sym is))
answered_once start history s (Then {done = done} {t = t} steps more u m) before after grant is = elim (within done more before after (LockGranted grant) is) [
  | Left rest at ↦ answered_once start done t steps before rest grant at
  | Right rest at then ↦ ap (λ (z : List Event). waits_after false z) at ∙ waits_after-append false done rest ∙ ap (λ (z : Bool). waits_after z rest) (sym (wait_is_known start done t steps)) ∙ here t rest after grant more u m then
]
