-- The number of device clears in a session, and the origins of what is executed.
use Rattle.std.proofs.Common.{◌≡◌, ◌≢◌, ◌⊎◌, ℕ, ◌+◌, ◌%◌, ◌^◌, ◌<◌, ◌≤◌, Bool, true, false, Option, Some, None, List, [], ◌∷◌, ◌++◌, length, refl, sym, ap, ◌∙◌, subst, inl, inr, if◌then◌else◌, arith, length-append, All}
use Rattle.std.specs.List.{filter}
use Rattle.std.proofs.lemmas.Grind.{flat_map-append}
use Rattle.std.proofs.lemmas.List.Elements.{filter-append, All-nil, All-cons, All-append}
use Rattle.psu_hislip.specs.Action.{Act}
use Rattle.psu_hislip.specs.LockResponses.{lock_code}
use Rattle.psu_hislip.specs.PartialTransmission.{executed, added}
use Rattle.psu_hislip.specs.Core.{Core, Outcome, reply, is_sync, takes, row, delivered, is_delivered, origin}
use Rattle.psu_hislip.specs.Runs.{Arrival, outcome, actions_of, core_after, received_type, is_clear, begins_clear, origin_of, origins, clears_in}
use Rattle.psu_hislip.specs.declared.header.Header.{Header}
use Rattle.psu_hislip.specs.declared.action.Origin.{Origin}
use Rattle.psu_hislip.specs.declared.side.Side.{Side}
use Rattle.psu_hislip.specs.declared.side.Side.TheVariants.{Sync, Async}
use Rattle.psu_hislip.specs.declared.lock_responses.LockResponse.TheVariants as lock
use Rattle.psu_hislip.specs.declared.message_type.MessageType.{MessageType}
use Rattle.psu_hislip.specs.declared.message_type.MessageType.TheVariants.{AsyncLock, AsyncLockResponse, Data, DataEnd, DeviceClearComplete, AsyncRemoteLocalControl, Trigger, AsyncMaximumMessageSize, AsyncInitialize, AsyncDeviceClear, AsyncStatusQuery, AsyncLockInfo}
use Rattle.psu_hislip.proofs.Runs.{ends_badly, not_failed}
use Rattle.psu_hislip.proofs.Cases.{Cases, cases, is_good, erroneous}
use Rattle.psu_hislip.proofs.Cases.Cases.{Ended, Fails, Discarded, Erroneous, Row}

-- # The number of device clears

abbrev pub counted : Bool → ℕ → ℕ
counted b clears = if b then (clears + 1) % 2 ^ 64 else clears

row_clears : (core : Core) (side : Side) (type : MessageType) (h : Header) (p : List ℕ) → takes side type ≡ true → (row core type h p).core.clears ≡ counted (is_clear side (Some type)) core.clears
row_clears core Sync Data h p k = refl
row_clears core Sync DataEnd h p k = refl
row_clears core Sync Trigger h p k = refl
row_clears core Sync DeviceClearComplete h p k = refl
row_clears core Async AsyncInitialize h p k = refl
row_clears core Async AsyncLock h p k = refl
row_clears core Async AsyncLockInfo h p k = refl
row_clears core Async AsyncRemoteLocalControl h p k = refl
row_clears core Async AsyncMaximumMessageSize h p k = refl
row_clears core Async AsyncDeviceClear h p k = refl
row_clears core Async AsyncStatusQuery h p k = refl
row_clears core side type h p k = absurd (cc)

no_clear : (side : Side) (o : Option MessageType) → is_good side o ≡ false → is_clear side o ≡ false
no_clear Async (Some AsyncDeviceClear) e = absurd (cc)
no_clear Async o e = refl
no_clear Sync o e = refl

pub sync_no_clear : (side : Side) (o : Option MessageType) → is_sync side ≡ true → is_clear side o ≡ false
sync_no_clear Sync o e = refl
sync_no_clear Async o e = absurd (cc)

pub message_clears : (core : Core) (t : Arrival) → (outcome core t).core.failed ≡ false → Cases core t.side t.message → (outcome core t).core.clears ≡ counted (begins_clear t) core.clears
message_clears core t e (Ended f o) = absurd (ends_badly _ _ o f e)
message_clears core t e (Fails code f o) = absurd (ends_badly _ _ o refl e)
message_clears core t e (Discarded f b s c o) = ap (λ (z : Outcome). z.core.clears) o ∙ ap (λ b. counted b core.clears) (sym (sync_no_clear t.side (received_type t.message) s))
message_clears core t e (Erroneous code f n o) =
    ap (λ (z : Outcome). z.core.clears) o ∙ ap (λ b. counted b core.clears) (sym (no_clear t.side (received_type t.message) (erroneous t.side t.message code n)))
message_clears core t e (Row type h p f m i n k g o) =
    ap (λ (z : Outcome). z.core.clears) o ∙ row_clears core t.side type h p k ∙ ap (λ z. counted (is_clear t.side z) core.clears) (sym i)

count_on : (b : Bool) (x n m k : ℕ) → x < 2 ^ 64 → n ≡ counted b x → (n < 2 ^ 64) × (m ≡ (n + k) % 2 ^ 64 → m ≡ (x + ((if b then 1 else 0) + k)) % 2 ^ 64)
count_on true x n m k small e = (omega (arith, e), λ h. omega (arith, e, h, small))
count_on false x n m k small e = (omega (arith, e, small), λ h. omega (arith, e, h, small))

clears_cons : (t : Arrival) (ts : List Arrival) (b : Bool) → begins_clear t ≡ b → clears_in (t ∷ ts) ≡ (if b then 1 else 0) + clears_in ts
clears_cons t ts true e = rw e (omega arith)
clears_cons t ts false e = rw e (omega arith)

pub run_clears : (core : Core) (ts : List Arrival) → core.clears < 2 ^ 64 → (core_after core ts).failed ≡ false → (core_after core ts).clears ≡ (core.clears + clears_in ts) % 2 ^ 64
run_clears core [] small e = omega (arith, small)
run_clears core (t ∷ ts) small e =
    let next = (outcome core t).core in
    let on = count_on (begins_clear t) core.clears next.clears (core_after next ts).clears (clears_in ts) small (message_clears core t (not_failed next ts e) (cases core t.side t.message)) in
    on.1 (run_clears next ts on.0 e) ∙ ap (λ (z : ℕ). (core.clears + z) % 2 ^ 64) (sym (clears_cons t ts (begins_clear t) refl))

-- # Origins

read_origins : (b : Bool) → origins (if b then Act.Delivered ∷ [] else []) ≡ []
read_origins true = refl
read_origins false = refl

executed_origins : (o : Origin) (bytes : Option (List ℕ)) → origins (executed o bytes ∷ []) ≡ o ∷ []
executed_origins o None = refl
executed_origins o (Some bytes) = refl

locked_origins : (b c : Bool) (timeout : ℕ) (string : List ℕ) → origins ((if b then Act.Release else (if c then reply Async AsyncLockResponse (lock_code lock.Error) else Act.Lock timeout string)) ∷ []) ≡ []
locked_origins true c timeout string = refl
locked_origins false true timeout string = refl
locked_origins false false timeout string = refl

abbrev IsAtMostOne : Core → List Origin → Type 0
IsAtMostOne core xs = (xs ≡ []) ⊎ ((h : Header) × (xs ≡ origin core h ∷ []))

row_origins : (core : Core) (side : Side) (type : MessageType) (h : Header) (p : List ℕ) → takes side type ≡ true → IsAtMostOne core (origins (row core type h p).actions)
row_origins core Sync Data h p k = inl (read_origins (is_delivered h))
row_origins core Sync DataEnd h p k =
    inr (
      h,
      flat_map-append origin_of (delivered h) (executed (origin core h) (added core.transmission p) ∷ [])
          ∙ ap (λ (z : List Origin). z ++ origins (executed (origin core h) (added core.transmission p) ∷ [])) (read_origins (is_delivered h))
          ∙ executed_origins (origin core h) (added core.transmission p),
    )
row_origins core Sync Trigger h p k = inr (h, refl)
row_origins core Sync DeviceClearComplete h p k = inl refl
row_origins core Async AsyncInitialize h p k = inl refl
row_origins core Async AsyncLock h p k = inl (locked_origins _ _ h.parameter p)
row_origins core Async AsyncLockInfo h p k = inl refl
row_origins core Async AsyncRemoteLocalControl h p k = inl refl
row_origins core Async AsyncMaximumMessageSize h p k = inl refl
row_origins core Async AsyncDeviceClear h p k = inl refl
row_origins core Async AsyncStatusQuery h p k = inl refl
row_origins core side type h p k = absurd (cc)

message_origins : (core : Core) (t : Arrival) → Cases core t.side t.message → IsAtMostOne core (origins (outcome core t).actions)
message_origins core t (Ended f o) = inl (ap (λ (z : Outcome). origins z.actions) o)
message_origins core t (Fails code f o) = inl (ap (λ (z : Outcome). origins z.actions) o)
message_origins core t (Discarded f b s c o) = inl (ap (λ (z : Outcome). origins z.actions) o)
message_origins core t (Erroneous code f n o) = inl (ap (λ (z : Outcome). origins z.actions) o)
message_origins core t (Row type h p f m i n k g o) = subst (λ (z : Outcome). IsAtMostOne core (origins z.actions)) (sym o) (row_origins core t.side type h p k)

at_most : (core : Core) (xs : List Origin) (P : Origin → Type 0) → IsAtMostOne core xs → ((h : Header) → P (origin core h)) → All P xs
at_most core xs P (inl e) f = subst (λ (z : List Origin). All P z) (sym e) (All-nil P)
at_most core xs P (inr w) f = subst (λ (z : List Origin). All P z) (sym w.1) (All-cons P (origin core w.0) [] (f w.0) (All-nil P))

clears_append : (xs ys : List Arrival) → clears_in (xs ++ ys) ≡ clears_in xs + clears_in ys
clears_append xs ys = ap (λ (z : List Arrival). length z) (filter-append begins_clear xs ys) ∙ length-append (filter begins_clear xs) (filter begins_clear ys)

some_of : (b : Bool) (n k m : ℕ) → n ≡ (if b then 1 else 0) + k → k ≤ m → n ≤ 1 + m
some_of true n k m e h = omega (arith, e, h)
some_of false n k m e h = omega (arith, e, h)

at_most_all : (ts : List Arrival) → clears_in ts ≤ length ts
at_most_all [] = omega arith
at_most_all (t ∷ ts) = let h = some_of (begins_clear t) (clears_in (t ∷ ts)) (clears_in ts) (length ts) (clears_cons t ts (begins_clear t) refl) (at_most_all ts) in omega (arith, h)

differs : (x n m : ℕ) → x < 2 ^ 64 → 0 < n → n < 2 ^ 64 → m ≡ (x + n) % 2 ^ 64 → x ≢ m
differs x n m small some few e same = absurd (omega (arith, small, some, few, e, same))

pub none_current : (core : Core) (before later : List Arrival) → core.clears < 2 ^ 64 → (core_after core (before ++ later)).failed ≡ false → 0 < clears_in later → length (before ++ later) < 2 ^ 64
    → All (λ o. o.clears ≢ (core_after core (before ++ later)).clears) (origins (actions_of core before))
none_current core [] later small e some few = All-nil (λ (o : Origin). o.clears ≢ (core_after core later).clears)
none_current core (t ∷ ts) later small e some few =
    let next = (outcome core t).core in
    let all = t ∷ (ts ++ later) in
    let end = (core_after core all).clears in
    let P : Origin → Type 0 = λ o. o.clears ≢ end in
    let count : (0 < clears_in all) × (clears_in all < 2 ^ 64) = (omega (arith, clears_append (t ∷ ts) later, some), omega (arith, at_most_all all, few)) in
    let here : core.clears ≢ end = differs core.clears (clears_in all) end small count.0 count.1 (run_clears core all small e) in
    let on = count_on (begins_clear t) core.clears next.clears 0 0 small (message_clears core t (not_failed next (ts ++ later) e) (cases core t.side t.message)) in
    subst (λ (z : List Origin). All P z) (sym (flat_map-append origin_of (outcome core t).actions (actions_of next ts)))
    (All-append P (origins (outcome core t).actions) (origins (actions_of next ts))
    (at_most core (origins (outcome core t).actions) P (message_origins core t (cases core t.side t.message)) (λ h. here))
    (none_current next ts later on.0 e some (omega (arith, few))))
