-- The outcome of a message, by cases.
use Rattle.std.proofs.Common.{◌≡◌, ℕ, Bool, true, false, ◌&&◌, not, ◌==◌, Option, Some, None, List, [], ◌∷◌, refl, sym, ap, ◌∙◌, if◌then◌else◌}
use Rattle.std.specs.Prelude.{nat_le}
use Rattle.psu_hislip.specs.MessageType.{code_of, type_of}
use Rattle.psu_hislip.specs.Faults.{fatal_code, error_code}
use Rattle.psu_hislip.specs.Stream.{Received}
use Rattle.psu_hislip.specs.Stream.Received.{Frame, Oversize, BadHeader}
use Rattle.psu_hislip.specs.Action.{Act}
use Rattle.psu_hislip.specs.Core.{Core, outcome_with, reply, is_sync, is_begun, completes, takes, ill_formed, type_error, error, fatal, row, heeded, without_fault, outcome_of}
use Rattle.psu_hislip.specs.Runs.{received_type, is_complete}
use Rattle.psu_hislip.specs.declared.header.Header.{Header}
use Rattle.psu_hislip.specs.declared.side.Side.{Side}
use Rattle.psu_hislip.specs.declared.side.Side.TheVariants.{Sync, Async}
use Rattle.psu_hislip.specs.declared.codes.FatalCode.{FatalCode}
use Rattle.psu_hislip.specs.declared.codes.ErrorCode.{ErrorCode}
use Rattle.psu_hislip.specs.declared.codes.ErrorCode.TheVariants.{UnrecognizedType, UnrecognizedVendorType}
use Rattle.psu_hislip.specs.declared.message_type.MessageType.{MessageType}
use Rattle.psu_hislip.specs.declared.message_type.MessageType.TheVariants.{FatalError, Error, Data, DataEnd, Trigger, DeviceClearComplete, AsyncDeviceClear}
use Rattle.psu_hislip.proofs.Types.{code_of_type}

pub data Cases (core : Core) (side : Side) (m : Received) : Type 0 where
  Ended : core.failed ≡ true → outcome_of core side m ≡ outcome_with (Act.Closed ∷ []) core → Cases core side m
  Fails : (code : FatalCode) → core.failed ≡ false
      → outcome_of core side m ≡ outcome_with (reply side FatalError (fatal_code code) ∷ Act.Closed ∷ []) (record core { failed = true }) → Cases core side m
  Discarded : core.failed ≡ false → is_begun core.clear ≡ true → is_sync side ≡ true → is_complete side (received_type m) ≡ false → outcome_of core side m ≡ outcome_with [] core → Cases core side m
  Erroneous : (code : ErrorCode) → core.failed ≡ false → error side m ≡ Some code → outcome_of core side m ≡ outcome_with (reply side Error (error_code code) ∷ []) core → Cases core side m
  Row : (type : MessageType) (h : Header) (payload : List ℕ) → core.failed ≡ false → m ≡ Frame h payload → received_type m ≡ Some type → error side m ≡ None → takes side type ≡ true
      → (is_sync side && is_begun core.clear && not (is_complete side (Some type))) ≡ false → outcome_of core side m ≡ row core type h payload → Cases core side m

both : (a b : Bool) → (a && b) ≡ true → (a ≡ true) × (b ≡ true)
both true b e = (refl, e)
both false b e = absurd (cc)

-- the type that completes a device clear
completes_type : (type : MessageType) (h : Header) → type_of h.kind ≡ Some type → (h.kind == code_of DeviceClearComplete) ≡ is_complete Sync (Some type)
completes_type DeviceClearComplete h e = rw (code_of_type h.kind DeviceClearComplete e)
completes_type type h e = rw (code_of_type h.kind type e)

not_true : (b : Bool) → not b ≡ true → b ≡ false
not_true true e = absurd (cc)
not_true false e = refl

not_complete_type : (side : Side) (h : Header) → not (h.kind == code_of DeviceClearComplete) ≡ true → (o : Option MessageType) → type_of h.kind ≡ o → is_complete side o ≡ false
not_complete_type Async h e o t = refl
not_complete_type Sync h e None t = refl
not_complete_type Sync h e (Some type) t = sym (completes_type type h t) ∙ not_true (h.kind == code_of DeviceClearComplete) e

is_not_complete : (side : Side) (m : Received) → not (completes m) ≡ true → is_complete side (received_type m) ≡ false
is_not_complete side (Frame h p) e = not_complete_type side h e (type_of h.kind) refl
is_not_complete Sync (Oversize h) e = refl
is_not_complete Sync BadHeader e = refl
is_not_complete Async (Oversize h) e = refl
is_not_complete Async BadHeader e = refl

same_discard : (side : Side) (c : Bool) (type : MessageType) (h : Header) → type_of h.kind ≡ Some type → (is_sync side && c && not (h.kind == code_of DeviceClearComplete)) ≡ false
    → (is_sync side && c && not (is_complete side (Some type))) ≡ false
same_discard Async c type h t g = refl
same_discard Sync c type h t g = ap (λ (b : Bool). c && not b) (sym (completes_type type h t)) ∙ g

no_type : (b : Bool) (x y : ErrorCode) → (if b then Some x else Some y) ≡ None → ⊥
no_type true x y e = absurd (cc)
no_type false x y e = absurd (cc)

is_taken : (b c : Bool) (x z : ErrorCode) (y : Option ErrorCode) → (if b then Some x else (if c then y else Some z)) ≡ None → c ≡ true
is_taken true c x z y e = absurd (cc)
is_taken false true x z y e = refl
is_taken false false x z y e = absurd (cc)

-- a message without a fault
passes : (core : Core) (side : Side) (m : Received) → core.failed ≡ false → fatal core side m ≡ None → (is_sync side && is_begun core.clear && not (completes m)) ≡ false → error side m ≡ None
    → outcome_of core side m ≡ without_fault core m
passes core side m e f g n = rw (e, f, g, n)

by_type : (core : Core) (side : Side) (h : Header) (p : List ℕ) → core.failed ≡ false → fatal core side (Frame h p) ≡ None → (is_sync side && is_begun core.clear && not (completes (Frame h p))) ≡ false
    → error side (Frame h p) ≡ None → (o : Option MessageType) → type_of h.kind ≡ o → Cases core side (Frame h p)
by_type core side h p e f g n None t =
    let none = ap (λ o. if nat_le 128 h.kind then Some UnrecognizedVendorType else type_error side o h p) (sym t) ∙ n in
    absurd (no_type (nat_le 128 h.kind) UnrecognizedVendorType UnrecognizedType none)
by_type core side h p e f g n (Some type) t =
    let none = ap (λ o. if nat_le 128 h.kind then Some UnrecognizedVendorType else type_error side o h p) (sym t) ∙ n in
    Row type h p e refl t n (is_taken (nat_le 128 h.kind) (takes side type) UnrecognizedVendorType UnrecognizedType (ill_formed type h p) none)
    (same_discard side (is_begun core.clear) type h t g) (passes core side (Frame h p) e f g n ∙ ap (λ o. heeded core o h p) t)

by_message : (core : Core) (side : Side) (m : Received) → core.failed ≡ false → fatal core side m ≡ None → (is_sync side && is_begun core.clear && not (completes m)) ≡ false → error side m ≡ None
    → Cases core side m
by_message core side (Frame h p) e f g n = by_type core side h p e f g n (type_of h.kind) refl
by_message core side (Oversize h) e f g n = absurd (cc)
by_message core side BadHeader e f g n = absurd (cc)

by_error : (core : Core) (side : Side) (m : Received) → core.failed ≡ false → fatal core side m ≡ None → (is_sync side && is_begun core.clear && not (completes m)) ≡ false
    → (o : Option ErrorCode) → error side m ≡ o → Cases core side m
by_error core side m e f g (Some code) n = Erroneous code e n (rw (e, f, g, n))
by_error core side m e f g None n = by_message core side m e f g n

by_discard : (core : Core) (side : Side) (m : Received) → core.failed ≡ false → fatal core side m ≡ None → (b : Bool) → (is_sync side && is_begun core.clear && not (completes m)) ≡ b → Cases core side m
by_discard core side m e f true g =
    let all = both (is_sync side && is_begun core.clear) (not (completes m)) g in
    let begun = both (is_sync side) (is_begun core.clear) all.0 in
    Discarded e begun.1 begun.0 (is_not_complete side m all.1) (rw (e, f, g))
by_discard core side m e f false g = by_error core side m e f g (error side m) refl

by_fatal : (core : Core) (side : Side) (m : Received) → core.failed ≡ false → (o : Option FatalCode) → fatal core side m ≡ o → Cases core side m
by_fatal core side m e (Some code) f = Fails code e (rw (e, f))
by_fatal core side m e None f = by_discard core side m e f (is_sync side && is_begun core.clear && not (completes m)) refl

by_failed : (core : Core) (side : Side) (m : Received) (b : Bool) → core.failed ≡ b → Cases core side m
by_failed core side m true e = Ended e (rw e)
by_failed core side m false e = by_fatal core side m e (fatal core side m) refl

pub cases : (core : Core) (side : Side) (m : Received) → Cases core side m
cases core side m = by_failed core side m core.failed refl

-- # Frames that have no error

-- types of which every frame is good
abbrev pub is_good : Side → Option MessageType → Bool
is_good Sync (Some Data) = true
is_good Sync (Some DataEnd) = true
is_good Sync (Some Trigger) = true
is_good Sync (Some DeviceClearComplete) = true
is_good Async (Some AsyncDeviceClear) = true
is_good side type = false

good_frame : (side : Side) (type : MessageType) (h : Header) (p : List ℕ) → type_of h.kind ≡ Some type → is_good side (Some type) ≡ true → error side (Frame h p) ≡ None
good_frame Sync Data h p t g = rw (code_of_type h.kind Data t)
good_frame Sync DataEnd h p t g = rw (code_of_type h.kind DataEnd t)
good_frame Sync Trigger h p t g = rw (code_of_type h.kind Trigger t)
good_frame Sync DeviceClearComplete h p t g = rw (code_of_type h.kind DeviceClearComplete t)
good_frame Async AsyncDeviceClear h p t g = rw (code_of_type h.kind AsyncDeviceClear t)
good_frame side type h p t g = absurd (cc)

has_error : (side : Side) (h : Header) (p : List ℕ) (code : ErrorCode) → error side (Frame h p) ≡ Some code → (o : Option MessageType) → type_of h.kind ≡ o → is_good side o ≡ false
has_error Sync h p code e (Some Data) t = absurd (cc (good_frame Sync Data h p t refl))
has_error Sync h p code e (Some DataEnd) t = absurd (cc (good_frame Sync DataEnd h p t refl))
has_error Sync h p code e (Some Trigger) t = absurd (cc (good_frame Sync Trigger h p t refl))
has_error Sync h p code e (Some DeviceClearComplete) t = absurd (cc (good_frame Sync DeviceClearComplete h p t refl))
has_error Async h p code e (Some AsyncDeviceClear) t = absurd (cc (good_frame Async AsyncDeviceClear h p t refl))
has_error side h p code e o t = refl

pub erroneous : (side : Side) (m : Received) (code : ErrorCode) → error side m ≡ Some code → is_good side (received_type m) ≡ false
erroneous side (Frame h p) code e = has_error side h p code e (type_of h.kind) refl
erroneous Sync (Oversize h) code e = refl
erroneous Async (Oversize h) code e = refl
erroneous Sync BadHeader code e = refl
erroneous Async BadHeader code e = refl
