-- Device clears in runs of a session.
use Rattle.std.proofs.Common.{◌≡◌, ◌⊎◌, ℕ, Bool, true, false, ◌&&◌, ◌||◌, not, Option, Some, List, [], ◌∷◌, ◌++◌, refl, sym, ap, ◌∙◌, subst, inl, inr, if◌then◌else◌}
use Rattle.std.specs.List.{list_any}
use Rattle.std.proofs.lemmas.List.Elements.{filter-append}
use Rattle.psu_hislip.specs.Action.{Act}
use Rattle.psu_hislip.specs.LockResponses.{lock_code}
use Rattle.psu_hislip.specs.Core.{Core, Outcome, reply, is_sync, is_begun, after_begin, takes, row}
use Rattle.psu_hislip.specs.Runs.{Arrival, outcome, actions_of, core_after, received_type, is_clear, begins_clear, is_complete, completes_clear, is_input, brings_input, EndsComplete, is_execution, executions, started}
use Rattle.psu_hislip.specs.declared.header.Header.{Header}
use Rattle.psu_hislip.specs.declared.side.Side.{Side}
use Rattle.psu_hislip.specs.declared.side.Side.TheVariants.{Sync, Async}
use Rattle.psu_hislip.specs.declared.side.DeviceClear.{DeviceClear}
use Rattle.psu_hislip.specs.declared.side.DeviceClear.TheVariants.{Idle, InProgress, Early}
use Rattle.psu_hislip.specs.declared.lock_responses.LockResponse.TheVariants as lock
use Rattle.psu_hislip.specs.declared.message_type.MessageType.{MessageType}
use Rattle.psu_hislip.specs.declared.message_type.MessageType.TheVariants.{AsyncLock, AsyncLockResponse, Data, DataEnd, DeviceClearComplete, AsyncRemoteLocalControl, Trigger, AsyncMaximumMessageSize, AsyncInitialize, AsyncDeviceClear, AsyncStatusQuery, AsyncLockInfo}
use Rattle.psu_hislip.proofs.Runs.{ends_badly, failed_before, not_failed, core_after-append}
use Rattle.psu_hislip.proofs.Cases.{Cases, cases, is_good, erroneous}
use Rattle.psu_hislip.proofs.Cases.Cases.{Ended, Fails, Discarded, Erroneous, Row}

abbrev pub is_early : DeviceClear → Bool
is_early Idle = false
is_early InProgress = false
is_early Early = true

-- a device clear is under way and no bytes of a transmission are kept, or the session has failed
abbrev pub InClear : Core → Type 0
InClear core = (core.failed ≡ true) ⊎ ((is_begun core.clear ≡ true) × (core.transmission ≡ Some []))

pub neither : (a b : Bool) → (a || b) ≡ false → (a ≡ false) × (b ≡ false)
neither true b e = absurd (cc)
neither false b e = (refl, e)

-- # AsyncDeviceClear

pub clear_type : (side : Side) (o : Option MessageType) → is_clear side o ≡ true → (side ≡ Async) × (o ≡ Some AsyncDeviceClear)
clear_type Async (Some AsyncDeviceClear) e = (refl, refl)
clear_type side o e = absurd (cc)

pub clear_good : (side : Side) (o : Option MessageType) → is_clear side o ≡ true → is_good side o ≡ true
clear_good Async (Some AsyncDeviceClear) e = refl
clear_good side o e = absurd (cc)

begun_after : (c : DeviceClear) → is_early c ≡ false → is_begun (after_begin c) ≡ true
begun_after Idle e = refl
begun_after InProgress e = refl
begun_after Early e = absurd (cc)

pub clear_row : (t : Arrival) (type : MessageType) → begins_clear t ≡ true → received_type t.message ≡ Some type → type ≡ AsyncDeviceClear
clear_row t type b i = let kind = (clear_type t.side (received_type t.message) b).1 in cc

pub clear_begins : (core : Core) (t : Arrival) → begins_clear t ≡ true → is_early core.clear ≡ false → Cases core t.side t.message → InClear (outcome core t).core
clear_begins core t b early (Ended f o) = inl (ap (λ (z : Outcome). z.core.failed) o ∙ f)
clear_begins core t b early (Fails code f o) = inl (ap (λ (z : Outcome). z.core.failed) o)
clear_begins core t b early (Discarded f d s c o) = absurd (cc (ap is_sync (clear_type t.side (received_type t.message) b).0))
clear_begins core t b early (Erroneous code f n o) = absurd (cc (erroneous t.side t.message code n, clear_good t.side (received_type t.message) b))
clear_begins core t b early (Row type h p f m i n k g o) =
    let is : outcome core t ≡ row core AsyncDeviceClear h p = o ∙ ap (λ z. row core z h p) (clear_row t type b i) in
    inr (ap (λ (z : Outcome). is_begun z.core.clear) is ∙ begun_after core.clear early, ap (λ (z : Outcome). z.core.transmission) is)

-- # Between the two messages

locked_executions : (b c : Bool) (timeout : ℕ) (string : List ℕ)
    → executions ((if b then Act.Release else (if c then reply Async AsyncLockResponse (lock_code lock.Error) else Act.Lock timeout string)) ∷ []) ≡ []
locked_executions true c timeout string = refl
locked_executions false true timeout string = refl
locked_executions false false timeout string = refl

begun_again : (c : DeviceClear) → is_begun c ≡ true → is_begun (after_begin c) ≡ true
begun_again Idle e = absurd (cc)
begun_again InProgress e = refl
begun_again Early e = absurd (cc)

not_discarded : (c d : Bool) → c ≡ true → d ≡ false → (true && c && not d) ≡ false → ⊥
not_discarded true true e f g = absurd (cc)
not_discarded true false e f g = absurd (cc)
not_discarded false d e f g = absurd (cc)

row_in_clear : (core : Core) (side : Side) (type : MessageType) (h : Header) (p : List ℕ) → takes side type ≡ true → is_begun core.clear ≡ true → core.transmission ≡ Some []
    → is_complete side (Some type) ≡ false → (is_sync side && is_begun core.clear && not (is_complete side (Some type))) ≡ false
    → (is_begun (row core type h p).core.clear ≡ true) × ((row core type h p).core.transmission ≡ Some []) × (executions (row core type h p).actions ≡ [])
row_in_clear core Async AsyncInitialize h p k b s c g = (b, s, refl)
row_in_clear core Async AsyncLock h p k b s c g = (b, s, locked_executions _ _ h.parameter p)
row_in_clear core Async AsyncLockInfo h p k b s c g = (b, s, refl)
row_in_clear core Async AsyncRemoteLocalControl h p k b s c g = (b, s, refl)
row_in_clear core Async AsyncMaximumMessageSize h p k b s c g = (b, s, refl)
row_in_clear core Async AsyncDeviceClear h p k b s c g = (begun_again core.clear b, refl, refl)
row_in_clear core Async AsyncStatusQuery h p k b s c g = (b, s, refl)
row_in_clear core Async type h p k b s c g = absurd (cc)
row_in_clear core Sync type h p k b s c g = absurd (not_discarded (is_begun core.clear) (is_complete Sync (Some type)) b c g)

in_begun : (core : Core) → core.failed ≡ false → InClear core → (is_begun core.clear ≡ true) × (core.transmission ≡ Some [])
in_begun core f (inl e) = absurd (cc)
in_begun core f (inr e) = e

clear_continues : (core : Core) (t : Arrival) → InClear core → completes_clear t ≡ false → Cases core t.side t.message → InClear (outcome core t).core × (executions (outcome core t).actions ≡ [])
clear_continues core t in_clear c (Ended f o) = (inl (ap (λ (z : Outcome). z.core.failed) o ∙ f), ap (λ (z : Outcome). executions z.actions) o)
clear_continues core t in_clear c (Fails code f o) = (inl (ap (λ (z : Outcome). z.core.failed) o), ap (λ (z : Outcome). executions z.actions) o)
clear_continues core t in_clear c (Discarded f d s n o) = (subst (λ (z : Outcome). InClear z.core) (sym o) in_clear, ap (λ (z : Outcome). executions z.actions) o)
clear_continues core t in_clear c (Erroneous code f n o) = (subst (λ (z : Outcome). InClear z.core) (sym o) in_clear, ap (λ (z : Outcome). executions z.actions) o)
clear_continues core t in_clear c (Row type h p f m i n k g o) =
    let begun = in_begun core f in_clear in
    let fact = row_in_clear core t.side type h p k begun.0 begun.1 (ap (λ z. is_complete t.side z) (sym i) ∙ c) g in (
      subst (λ (z : Outcome). InClear z.core) (sym o) (inr (fact.0, fact.1)),
      ap (λ (z : Outcome). executions z.actions) o ∙ fact.2,
    )

pub nothing_executed : (core : Core) (ts : List Arrival) → InClear core → list_any completes_clear ts ≡ false → InClear (core_after core ts) × (executions (actions_of core ts) ≡ [])
nothing_executed core [] in_clear none = (in_clear, refl)
nothing_executed core (t ∷ ts) in_clear none =
    let no = neither (completes_clear t) (list_any completes_clear ts) none in
    let step = clear_continues core t in_clear no.0 (cases core t.side t.message) in
    let more = nothing_executed (outcome core t).core ts step.0 no.1 in (
      more.0,
      filter-append is_execution (outcome core t).actions (actions_of (outcome core t).core ts)
          ∙ ap (λ (z : List Act). z ++ executions (actions_of (outcome core t).core ts)) step.1 ∙ more.1,
    )

-- # A DeviceClearComplete that arrives first

pub Remembers : Core → List Arrival → Type 0
Remembers core ts = ((is_early core.clear ≡ true) × (list_any brings_input ts ≡ false)) ⊎ EndsComplete ts

input_good : (side : Side) (o : Option MessageType) → is_good side o ≡ false → is_input side o ≡ false
input_good Sync (Some Data) e = absurd (cc)
input_good Sync (Some DataEnd) e = absurd (cc)
input_good Sync (Some Trigger) e = absurd (cc)
input_good Sync o e = refl
input_good Async o e = refl

begun_late : (c : DeviceClear) → is_begun c ≡ true → is_early c ≡ true → ⊥
begun_late Idle b e = absurd (cc)
begun_late InProgress b e = absurd (cc)
begun_late Early b e = absurd (cc)

never_early : (c : DeviceClear) → is_early (after_begin c) ≡ true → ⊥
never_early Idle e = absurd (cc)
never_early InProgress e = absurd (cc)
never_early Early e = absurd (cc)

row_early : (core : Core) (side : Side) (type : MessageType) (h : Header) (p : List ℕ) → takes side type ≡ true → is_early (row core type h p).core.clear ≡ true
    → ((is_early core.clear ≡ true) × (is_input side (Some type) ≡ false)) ⊎ (is_complete side (Some type) ≡ true)
row_early core Sync Data h p k e = absurd (cc)
row_early core Sync DataEnd h p k e = absurd (cc)
row_early core Sync Trigger h p k e = absurd (cc)
row_early core Sync DeviceClearComplete h p k e = inr refl
row_early core Async AsyncDeviceClear h p k e = absurd (never_early core.clear e)
row_early core Async AsyncInitialize h p k e = inl (e, refl)
row_early core Async AsyncLock h p k e = inl (e, refl)
row_early core Async AsyncLockInfo h p k e = inl (e, refl)
row_early core Async AsyncRemoteLocalControl h p k e = inl (e, refl)
row_early core Async AsyncMaximumMessageSize h p k e = inl (e, refl)
row_early core Async AsyncStatusQuery h p k e = inl (e, refl)
row_early core side type h p k e = absurd (cc)

message_early : (core : Core) (t : Arrival) → (outcome core t).core.failed ≡ false → is_early (outcome core t).core.clear ≡ true → Cases core t.side t.message
    → ((is_early core.clear ≡ true) × (brings_input t ≡ false)) ⊎ (completes_clear t ≡ true)
message_early core t good e (Ended f o) = absurd (ends_badly _ _ o f good)
message_early core t good e (Fails code f o) = absurd (ends_badly _ _ o refl good)
message_early core t good e (Discarded f d s c o) = absurd (begun_late core.clear d (ap (λ (z : Outcome). is_early z.core.clear) (sym o) ∙ e))
message_early core t good e (Erroneous code f n o) =
    inl (ap (λ (z : Outcome). is_early z.core.clear) (sym o) ∙ e, input_good t.side (received_type t.message) (erroneous t.side t.message code n))
message_early core t good e (Row type h p f m i n k g o) =
    elim (row_early core t.side type h p k (ap (λ (z : Outcome). is_early z.core.clear) (sym o) ∙ e)) [
      | inl w ↦ inl (w.0, ap (λ z. is_input t.side z) i ∙ w.1)
      | inr w ↦ inr (ap (λ z. is_complete t.side z) i ∙ w)
    ]

pub remembers : (core : Core) (ts : List Arrival) → (core_after core ts).failed ≡ false → is_early (core_after core ts).clear ≡ true
    → ((is_early core.clear ≡ true) × (list_any brings_input ts ≡ false)) ⊎ EndsComplete ts
remembers core [] good e = inl (e, refl)
remembers core (t ∷ ts) good e =
    let next = (outcome core t).core in
    elim (remembers next ts good e) [
      | inl w ↦ elim (message_early core t (not_failed next ts good) w.0 (cases core t.side t.message)) [
        | inl v ↦ inl (v.0, ap (λ b. b || list_any brings_input ts) v.1 ∙ w.1)
        | inr v ↦ inr ([], t, ts, refl, v, w.1)
      ]
      | inr w ↦ inr (t ∷ w.0, w.1, w.2, ap (λ (z : List Arrival). t ∷ z) w.3, w.4, w.5)
    ]

-- # Whole runs

after_clear : (core : Core) (t : Arrival) → begins_clear t ≡ true → (core.failed ≡ false → is_early core.clear ≡ true → ⊥) → (b : Bool) → core.failed ≡ b → (c : Bool) → is_early core.clear ≡ c
    → InClear (outcome core t).core
after_clear core t b bare true f c e = inl (failed_before core (t ∷ []) f)
after_clear core t b bare false f true e = absurd (bare f e)
after_clear core t b bare false f false e = clear_begins core t b e (cases core t.side t.message)

pub in_clear : (session : ℕ) (before : List Arrival) (t : Arrival) → begins_clear t ≡ true → (EndsComplete before → ⊥) → InClear (outcome (core_after (started session) before) t).core
in_clear session before t b bare =
    let core = core_after (started session) before in
    let late : core.failed ≡ false → is_early core.clear ≡ true → ⊥ =
    λ f e. elim (remembers (started session) before f e) [ inl w ↦ absurd (cc (w.0)) | inr w ↦ bare w ] in
    after_clear core t b late core.failed refl (is_early core.clear) refl

pub none_in_a_clear : (session : ℕ) (before : List Arrival) (t : Arrival) (between : List Arrival) → begins_clear t ≡ true → (EndsComplete before → ⊥) → list_any completes_clear between ≡ false
    → executions (actions_of (core_after (started session) (before ++ t ∷ [])) between) ≡ []
none_in_a_clear session before t between b bare none =
    ap (λ (z : Core). executions (actions_of z between)) (core_after-append (started session) before (t ∷ []))
    ∙ (nothing_executed (outcome (core_after (started session) before) t).core between (in_clear session before t b bare) none).1
