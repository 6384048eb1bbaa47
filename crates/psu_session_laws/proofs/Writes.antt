-- On each connection bytes that are taken are written before others are taken.
use Rattle.std.proofs.Common.{◌≡◌, ◌⊎◌, ℕ, Bool, true, false, Option, Some, None, Ok, List, [], ◌∷◌, ◌++◌, refl, sym, ap, ◌∙◌, inl, inr, append_assoc}
use Rattle.std.specs.Prelude.{flat_map}
use Rattle.std.proofs.lemmas.List.Concat.{flat_map-append}
use Rattle.psu_locks.specs.declared.results.Grant.{Grant}
use Rattle.psu_hislip.specs.Action.{Act}
use Rattle.psu_hislip.specs.Channel.{Awaited}
use Rattle.psu_hislip.specs.Core.{outcome_of}
use Rattle.psu_hislip.specs.LockResponses.{lock_response}
use Rattle.psu_hislip.specs.Stream.{Received}
use Rattle.psu_hislip.specs.declared.header.Header.{Header}
use Rattle.psu_hislip.specs.declared.action.Origin.{Origin}
use Rattle.psu_hislip.specs.declared.side.Side.{Side}
use Rattle.psu_hislip.specs.declared.side.Side.TheVariants.{Sync, Async}
use Rattle.psu_session.specs.Numbers.{number_on, parameter}
use Rattle.psu_session.specs.Orders.{Done}
use Rattle.psu_session.specs.Events as events
use Rattle.psu_session.specs.Events.{Event, Took, Wrote}
use Rattle.psu_session_laws.specs.Requests.{immediate}
use Rattle.psu_session.specs.Step.{Each, EachReceived, IsLockGranted, IsMessageReceived, IsServiceRequested, SessionStep, Steps, granted, happened, release_in, works_in}
use Rattle.psu_session.specs.Step.SessionStep.{Receives, Notifies, Ticks, Begins, Works, ReleasesLock, Ends, Takes, Writes}
use Rattle.psu_session.specs.Step.Steps.{Still, Then}
use Rattle.psu_session.specs.State.{Start, SessionState, added, fresh, numbered, settled, with_channel, with_core, with_output, with_writes, writes}
use Rattle.psu_session_laws.specs.Writing.{on_same, writes_after, writes_by}
use Rattle.psu_session_laws.proofs.Keeping.{none_after}
use Rattle.psu_session_laws.proofs.Immediate.{each_does}
use Rattle.psu_session_laws.proofs.Splitting.{within}
use Rattle.psu_session_laws.proofs.Splitting.Within.{Left, Right}

pub writes_after-append : (side : Side) (writing : Bool) (xs ys : List Event) → writes_after side writing (xs ++ ys) ≡ writes_after side (writes_after side writing xs) ys
writes_after-append side writing [] ys = refl
writes_after-append side writing (x ∷ xs) ys = writes_after-append side (writes_by side writing x) xs ys

-- ---- events that neither take nor write

abbrev taking_in : Event → List Event
taking_in (events.Took side bytes) = Took side bytes ∷ []
taking_in (events.Wrote side) = Wrote side ∷ []
taking_in _ = []

abbrev takings : List Event → List Event
takings history = flat_map taking_in history

leave : (side : Side) (writing : Bool) (xs : List Event) → takings xs ≡ [] → writes_after side writing xs ≡ writing
leave side writing [] e = refl
leave side writing (events.Took on bytes ∷ xs) e = absurd (cc (e))
leave side writing (events.Wrote on ∷ xs) e = absurd (cc (e))
leave side writing (_ ∷ xs) e = leave side writing xs e

immediate_take_none : (xs : List Event) → takings (immediate xs) ≡ []
immediate_take_none [] = refl
immediate_take_none (events.Took side bytes ∷ xs) = immediate_take_none xs
immediate_take_none (events.Wrote side ∷ xs) = immediate_take_none xs
immediate_take_none (_ ∷ xs) = immediate_take_none xs

each_takes_none : (waits : Bool) (acts : List Act) (done : List Event) → Each waits acts done → takings done ≡ []
each_takes_none waits acts done each = ap takings (sym (each_does waits acts done each)) ∙ immediate_take_none done

effects_take_none : (origin : Origin) (done : List Done) → takings (happened origin done) ≡ []
effects_take_none origin [] = refl
effects_take_none origin (d ∷ done) = effects_take_none origin done

messages_take_none : (now : ℕ) (side : Side) (messages : List Received) (s : SessionState) (done : List Event) (t : SessionState) → EachReceived now side messages s done t → takings done ≡ []
messages_take_none now side [] s done t (none, same) = ap takings none
messages_take_none now side (message ∷ messages) s done t (mid, first, more, is, one, rest) =
    ap takings is ∙ flat_map-append taking_in first more ∙ ap (λ (z : List Event). z ++ takings more) (ap takings one.are ∙ each_takes_none s.lock_waits (outcome_of s.core side message).actions one.immediate one.each)
    ∙ messages_take_none now side messages mid more t rest

granted_takes_none : (waits : Bool) (header : Option Header) (grant : Grant) → takings (granted waits header grant) ≡ []
granted_takes_none false header grant = refl
granted_takes_none true None grant = refl
granted_takes_none true (Some header) grant = refl

caused_takes_none : (waits : Bool) (done : List Event) → ((grant : Grant) × IsLockGranted waits grant done) ⊎ IsServiceRequested done → takings done ≡ []
caused_takes_none waits done (inl (grant, e)) = ap takings e ∙ granted_takes_none waits (lock_response (Ok grant)) grant
caused_takes_none waits done (inr (request, e)) = ap takings e

-- ---- what a step does to the writers

-- two states with the same writers
abbrev SameWriters : SessionState → SessionState → Type 0
SameWriters s t = (t.sync_writes ≡ s.sync_writes) × (t.async_writes ≡ s.async_writes)

writer : (side : Side) (s t : SessionState) → SameWriters s t → writes side t ≡ writes side s
writer Sync s t same = same.0
writer Async s t same = same.1

with_number : (number : Option ℕ) (s : SessionState) → SameWriters s (numbered s number)
with_number None s = (refl, refl)
with_number (Some number) s = (refl, refl)

with_feed : (side : Side) (s : SessionState) (channel : Awaited) → SameWriters s (with_channel side s channel)
with_feed Sync s channel = (refl, refl)
with_feed Async s channel = (refl, refl)

one_message : (now : ℕ) (side : Side) (message : Received) (s : SessionState) (done : List Event) (t : SessionState) → IsMessageReceived now side message s done t → SameWriters s t
one_message now side message s done t r =
    let out = outcome_of s.core side message in
    let more = added (with_core s out.core) (flat_map works_in out.actions) (flat_map (release_in now (parameter message)) out.actions) r.immediate in
    let counted = with_number (number_on side message) more in
    (ap (λ (z : SessionState). z.sync_writes) r.then ∙ counted.0, ap (λ (z : SessionState). z.async_writes) r.then ∙ counted.1)

each_message : (now : ℕ) (side : Side) (messages : List Received) (s : SessionState) (done : List Event) (t : SessionState) → EachReceived now side messages s done t → SameWriters s t
each_message now side [] s done t (none, same) = (ap (λ (z : SessionState). z.sync_writes) same, ap (λ (z : SessionState). z.async_writes) same)
each_message now side (message ∷ messages) s done t (mid, first, more, is, one, rest) =
    let a = one_message now side message s first mid one in
    let b = each_message now side messages mid more t rest in
    (b.0 ∙ a.0, b.1 ∙ a.1)

-- the writers of a state are those after its events
abbrev IsKnown : Side → SessionState → List Event → SessionState → Type 0
IsKnown side s done t = writes side t ≡ writes_after side (writes side s) done

still : (side : Side) (s : SessionState) (done : List Event) (t : SessionState) → takings done ≡ [] → SameWriters s t → IsKnown side s done t
still side s done t none same = writer side s t same ∙ sym (leave side (writes side s) done none)

same_by : (s t u : SessionState) → t ≡ u → SameWriters s u → SameWriters s t
same_by s t u e same = (ap (λ (z : SessionState). z.sync_writes) e ∙ same.0, ap (λ (z : SessionState). z.async_writes) e ∙ same.1)

taken_by_one : (side on : Side) (s : SessionState) → writes side (with_writes on (with_output on s []) true) ≡ on_same side on true (writes side s)
taken_by_one Sync Sync s = refl
taken_by_one Sync Async s = refl
taken_by_one Async Sync s = refl
taken_by_one Async Async s = refl

written_by_one : (side on : Side) (s : SessionState) → writes side (with_writes on s false) ≡ on_same side on false (writes side s)
written_by_one Sync Sync s = refl
written_by_one Sync Async s = refl
written_by_one Async Sync s = refl
written_by_one Async Async s = refl

step_writes : (side : Side) (s : SessionState) (done : List Event) (t : SessionState) → SessionStep s done t → IsKnown side s done t
step_writes side s done t (Receives now on received_bytes h) =
    let fed = with_feed on s h.channel in
    let all = each_message now on h.messages (with_channel on s h.channel) h.immediate t h.each in
    still side s done t (ap takings h.are ∙ messages_take_none now on h.messages (with_channel on s h.channel) h.immediate t h.each) (all.0 ∙ fed.0, all.1 ∙ fed.1)
step_writes side s done t (Notifies a) = still side s done t (caused_takes_none s.lock_waits done a.is) (same_by s t (added s [] [] done) a.then (refl, refl))
step_writes side s done t (Ticks now tick) = still side s done t (ap takings tick.are) (same_by s t (settled false now s) tick.then (refl, refl))
step_writes side s done t (ReleasesLock g) = still side s done t (ap takings g.are) (same_by s t _ g.then (refl, refl))
step_writes side s done t (Begins b) = still side s done t (ap takings b.are) (same_by s t _ b.then (refl, refl))
step_writes side s done t (Works w) = still side s done t (ap takings w.are ∙ effects_take_none w.order.origin w.effects_done) (same_by s t _ w.then (refl, refl))
step_writes side s done t (Ends e) = still side s done t (ap takings e.are) (same_by s t _ e.then (refl, refl))
step_writes side s done t (Takes on bytes taking) = ap (writes side) taking.then ∙ taken_by_one side on s ∙ ap (λ (z : List Event). writes_after side (writes side s) z) (sym taking.are)
step_writes side s done t (Writes on w) = ap (writes side) w.then ∙ written_by_one side on s ∙ ap (λ (z : List Event). writes_after side (writes side s) z) (sym w.are)

at_first : (start : Start) (side : Side) → writes side (fresh start) ≡ false
at_first start Sync = refl
at_first start Async = refl

pub writer_is_known : (start : Start) (history : List Event) (s : SessionState) → Steps (fresh start) history s → (side : Side) → writes side s ≡ writes_after side false history
writer_is_known start history s Still side = at_first start side
writer_is_known start history s (Then {done = done} {t = t} steps more u m) side =
    step_writes side t more u m ∙ ap (λ (z : Bool). writes_after side z more) (writer_is_known start done t steps side) ∙ sym (writes_after-append side false done more)

-- ---- one event that takes bytes

module _ (side : Side) (s : SessionState) (before after : List Event) (bytes : List ℕ) where
  no_taking : (done : List Event) → takings done ≡ [] → done ≡ before ++ Took side bytes ∷ after → ⊥
  no_taking done none is =
      none_after (takings before) (Took side bytes) (takings after) (sym (flat_map-append taking_in before (Took side bytes ∷ after)) ∙ ap takings (sym is) ∙ none)

  is_free : (done : List Event) (t : SessionState) → SessionStep s done t → done ≡ before ++ Took side bytes ∷ after → writes_after side (writes side s) before ≡ false
  is_free done t (Receives now on received_bytes h) is =
      absurd (no_taking done (ap takings h.are ∙ messages_take_none now on h.messages (with_channel on s h.channel) h.immediate t h.each) is)
  is_free done t (Notifies a) is = absurd (no_taking done (caused_takes_none s.lock_waits done a.is) is)
  is_free done t (Ticks now tick) is = absurd (no_taking done (ap takings tick.are) is)
  is_free done t (ReleasesLock g) is = absurd (no_taking done (ap takings g.are) is)
  is_free done t (Begins b) is = absurd (no_taking done (ap takings b.are) is)
  is_free done t (Works w) is = absurd (no_taking done (ap takings w.are ∙ effects_take_none w.order.origin w.effects_done) is)
  is_free done t (Ends e) is = absurd (no_taking done (ap takings e.are) is)
  is_free done t (Takes on given taking) is = only before (sym taking.are ∙ is) where
    only : (xs : List Event) → Took on given ∷ [] ≡ xs ++ Took side bytes ∷ after → writes_after side (writes side s) xs ≡ false
    only [] e = let same : on ≡ side = cc (e) in ap (λ (z : Side). writes z s) (sym same) ∙ taking.free
    only (x ∷ xs) e = let rest : [] ≡ xs ++ Took side bytes ∷ after = cc (e) in absurd (none_after xs (Took side bytes) after (sym rest))
  is_free done t (Writes on w) is = only before (sym w.are ∙ is) where
    only : (xs : List Event) → Wrote on ∷ [] ≡ xs ++ Took side bytes ∷ after → writes_after side (writes side s) xs ≡ false
    only [] e = absurd (cc (e))
    only (x ∷ xs) e = let rest : [] ≡ xs ++ Took side bytes ∷ after = cc (e) in absurd (none_after xs (Took side bytes) after (sym rest))

free_before : (start : Start) (history : List Event) (s : SessionState) → Steps (fresh start) history s → (side : Side) (before after : List Event) (bytes : List ℕ) → history ≡ before ++ Took side bytes ∷ after → writes_after side false before ≡ false
free_before start history s Still side before after bytes is = absurd (none_after before (Took side bytes) after (sym is))
free_before start history s (Then {done = done} {t = t} steps more u m) side before after bytes is = elim (within done more before after (Took side bytes) is) [
  | Left rest at ↦ free_before start done t steps side before rest bytes at
  | Right rest at then ↦ ap (λ (z : List Event). writes_after side false z) at ∙ writes_after-append side false done rest ∙ ap (λ (z : Bool). writes_after side z rest) (sym (writer_is_known start done t steps side)) ∙ is_free side t rest after bytes more u m then
]

-- ---- between two of them

-- some event of these writes the bytes of a connection
abbrev IsWrittenIn : Side → List Event → Type 0
IsWrittenIn side between = (some : List Event) × (more : List Event) × (between ≡ some ++ Wrote side ∷ more)

later : (side : Side) (x : Event) (xs : List Event) → IsWrittenIn side xs → IsWrittenIn side (x ∷ xs)
later side x xs (some, more, is) = (x ∷ some, more, ap (λ (z : List Event). x ∷ z) is)

-- where a thread writes before these events and no thread after them
written_in : (side : Side) (xs : List Event) → writes_after side true xs ≡ false → IsWrittenIn side xs
written_in side [] e = absurd (cc (e))
written_in Sync (events.Took Sync bytes ∷ xs) e = later Sync _ xs (written_in Sync xs e)
written_in Sync (events.Took Async bytes ∷ xs) e = later Sync _ xs (written_in Sync xs e)
written_in Async (events.Took Sync bytes ∷ xs) e = later Async _ xs (written_in Async xs e)
written_in Async (events.Took Async bytes ∷ xs) e = later Async _ xs (written_in Async xs e)
written_in Sync (events.Wrote Sync ∷ xs) e = ([], xs, refl)
written_in Sync (events.Wrote Async ∷ xs) e = later Sync _ xs (written_in Sync xs e)
written_in Async (events.Wrote Sync ∷ xs) e = later Async _ xs (written_in Async xs e)
written_in Async (events.Wrote Async ∷ xs) e = ([], xs, refl)
written_in side (event ∷ xs) e = later side event xs (written_in side xs e)

taken_then : (side : Side) (writing : Bool) (bytes : List ℕ) (between : List Event) → writes_after side writing (Took side bytes ∷ between) ≡ writes_after side true between
taken_then Sync writing bytes between = refl
taken_then Async writing bytes between = refl

pub each_take_is_written : (start : Start) (history : List Event) (s : SessionState) → Steps (fresh start) history s → (side : Side) (before between after : List Event) (first second : List ℕ)
    → history ≡ before ++ Took side first ∷ (between ++ Took side second ∷ after) → IsWrittenIn side between
each_take_is_written start history s steps side before between after first second is =
    let split : history ≡ (before ++ Took side first ∷ between) ++ Took side second ∷ after = is ∙ sym (append_assoc before (Took side first ∷ between) (Took side second ∷ after)) in
    let free = free_before start history s steps side (before ++ Took side first ∷ between) after second split in
    written_in side between (sym (taken_then side (writes_after side false before) first between) ∙ sym (writes_after-append side false before (Took side first ∷ between)) ∙ free)
