-- The executed transmissions of a run are those that the client sent.
use Rattle.std.proofs.Common.{◌≡◌, ℕ, ◌+◌, Bool, true, false, Option, Some, None, List, [], ◌∷◌, ◌++◌, length, refl, sym, ap, ◌∙◌, subst, if◌then◌else◌, arith, append_assoc, length-append}
use Rattle.std.specs.Prelude.{map, flat_map, filter}
use Rattle.std.specs.List.{list_any}
use Rattle.std.proofs.lemmas.List.{append-nil, map-append}
use Rattle.std.proofs.lemmas.List.Elements.{filter-append}
use Rattle.psu_hislip.specs.MessageType.{type_of}
use Rattle.psu_hislip.specs.Stream.{Received}
use Rattle.psu_hislip.specs.Stream.Received.{Frame}
use Rattle.psu_hislip.specs.Action.{Act}
use Rattle.psu_hislip.specs.LockResponses.{lock_code}
use Rattle.psu_hislip.specs.PartialTransmission.{executed, added, all_added}
use Rattle.psu_hislip.specs.Core.{Core, Outcome, reply, is_begun, after_complete, takes, row, delivered, is_delivered, origin}
use Rattle.psu_hislip.specs.Runs.{Arrival, outcome, actions_of, core_after, received_type, is_clear, begins_clear}
use Rattle.psu_hislip.specs.Transmitted.{Piece, piece_of, received_piece, piece_in, SentTransmission, pieces_of, action_for, is_transmission, transmissions}
use Rattle.psu_hislip.specs.Transmitted.Piece.{More, Last}
use Rattle.psu_hislip.specs.declared.header.Header.{Header}
use Rattle.psu_hislip.specs.declared.action.Origin.{Origin}
use Rattle.psu_hislip.specs.declared.side.Side.{Side}
use Rattle.psu_hislip.specs.declared.side.Side.TheVariants.{Sync, Async}
use Rattle.psu_hislip.specs.declared.side.DeviceClear.{DeviceClear}
use Rattle.psu_hislip.specs.declared.side.DeviceClear.TheVariants.{Idle, InProgress, Early}
use Rattle.psu_hislip.specs.declared.lock_responses.LockResponse.TheVariants as lock
use Rattle.psu_hislip.specs.declared.message_type.MessageType.{MessageType}
use Rattle.psu_hislip.specs.declared.message_type.MessageType.TheVariants.{AsyncLock, AsyncLockResponse, Data, DataEnd, DeviceClearComplete, AsyncRemoteLocalControl, Trigger, AsyncMaximumMessageSize, AsyncInitialize, AsyncDeviceClear, AsyncStatusQuery, AsyncLockInfo}
use Rattle.psu_hislip.proofs.Transmissions.{whole_transmission}
use Rattle.psu_hislip.proofs.Runs.{ends_badly, not_failed}
use Rattle.psu_hislip.proofs.Clears.{neither}
use Rattle.psu_hislip.proofs.Cases.{Cases, cases, is_good, erroneous}
use Rattle.psu_hislip.proofs.Cases.Cases.{Ended, Fails, Discarded, Erroneous, Row}

-- # One message

-- how pieces change the bytes so far, and the actions of the transmissions
pub data Adds (clears : ℕ) (old new : Option (List ℕ)) (pieces : List Piece) (actions : List Act) : Type 0 where
  Unchanged : pieces ≡ [] → new ≡ old → transmissions actions ≡ [] → Adds clears old new pieces actions
  Extends : (payload : List ℕ) → pieces ≡ More payload ∷ [] → new ≡ added old payload → transmissions actions ≡ [] → Adds clears old new pieces actions
  Ends : (id : ℕ) (payload : List ℕ) → pieces ≡ Last id payload ∷ [] → new ≡ Some [] → transmissions actions ≡ executed (record { id = id; clears = clears }) (added old payload) ∷ []
      → Adds clears old new pieces actions

pub record Step (core : Core) (pieces : List Piece) (after : Outcome) : Type 0 where
  pub clears : after.core.clears ≡ core.clears
  pub taken : is_begun after.core.clear ≡ false
  pub adds : Adds core.clears core.transmission after.core.transmission pieces after.actions

read_none : (b : Bool) → transmissions (if b then Act.Delivered ∷ [] else []) ≡ []
read_none true = refl
read_none false = refl

one_executed : (o : Origin) (bytes : Option (List ℕ)) → transmissions (executed o bytes ∷ []) ≡ executed o bytes ∷ []
one_executed o None = refl
one_executed o (Some bytes) = refl

locked_none : (b c : Bool) (timeout : ℕ) (string : List ℕ) → transmissions ((if b then Act.Release else (if c then reply Async AsyncLockResponse (lock_code lock.Error) else Act.Lock timeout string)) ∷ []) ≡ []
locked_none true c timeout string = refl
locked_none false true timeout string = refl
locked_none false false timeout string = refl

still_open : (c : DeviceClear) → is_begun c ≡ false → is_begun (after_complete c) ≡ false
still_open Idle e = refl
still_open InProgress e = refl
still_open Early e = refl

row_step : (core : Core) (side : Side) (type : MessageType) (h : Header) (p : List ℕ) → takes side type ≡ true → is_begun core.clear ≡ false → is_clear side (Some type) ≡ false
    → Step core (piece_of side (Some type) h p) (row core type h p)
row_step core Sync Data h p k b c = record { clears = refl; taken = refl; adds = Extends p refl refl (read_none (is_delivered h)) }
row_step core Sync DataEnd h p k b c = record {
  clears = refl;
  taken = refl;
  adds = Ends h.parameter p refl refl
      (filter-append is_transmission (delivered h) (executed (origin core h) (added core.transmission p) ∷ [])
      ∙ ap (λ (z : List Act). z ++ transmissions (executed (origin core h) (added core.transmission p) ∷ [])) (read_none (is_delivered h))
      ∙ one_executed (origin core h) (added core.transmission p));
}
row_step core Sync Trigger h p k b c = record { clears = refl; taken = refl; adds = Unchanged refl refl refl }
row_step core Sync DeviceClearComplete h p k b c = record { clears = refl; taken = still_open core.clear b; adds = Unchanged refl refl refl }
row_step core Async AsyncInitialize h p k b c = record { clears = refl; taken = b; adds = Unchanged refl refl refl }
row_step core Async AsyncLock h p k b c = record { clears = refl; taken = b; adds = Unchanged refl refl (locked_none _ _ h.parameter p) }
row_step core Async AsyncLockInfo h p k b c = record { clears = refl; taken = b; adds = Unchanged refl refl refl }
row_step core Async AsyncRemoteLocalControl h p k b c = record { clears = refl; taken = b; adds = Unchanged refl refl refl }
row_step core Async AsyncMaximumMessageSize h p k b c = record { clears = refl; taken = b; adds = Unchanged refl refl refl }
row_step core Async AsyncDeviceClear h p k b c = absurd (cc)
row_step core Async AsyncStatusQuery h p k b c = record { clears = refl; taken = b; adds = Unchanged refl refl refl }
row_step core side type h p k b c = absurd (cc)

no_piece_of : (side : Side) (o : Option MessageType) (h : Header) (p : List ℕ) → is_good side o ≡ false → piece_of side o h p ≡ []
no_piece_of Sync (Some Data) h p e = absurd (cc)
no_piece_of Sync (Some DataEnd) h p e = absurd (cc)
no_piece_of Sync o h p e = refl
no_piece_of Async o h p e = refl

no_piece : (side : Side) (m : Received) → is_good side (received_type m) ≡ false → received_piece side m ≡ []
no_piece side (Frame h p) e = no_piece_of side (type_of h.kind) h p e
no_piece side (Received.Oversize h) e = refl
no_piece side Received.BadHeader e = refl

piece_is : (t : Arrival) (type : MessageType) (h : Header) (p : List ℕ) → t.message ≡ Frame h p → received_type t.message ≡ Some type → piece_of t.side (Some type) h p ≡ piece_in t
piece_is t type h p m i =
    ap (λ z. piece_of t.side z h p) (sym i ∙ ap received_type m) ∙ ap (λ z. received_piece t.side z) (sym m)

message_step : (core : Core) (t : Arrival) → (outcome core t).core.failed ≡ false → is_begun core.clear ≡ false → begins_clear t ≡ false → Cases core t.side t.message → Step core (piece_in t) (outcome core t)
message_step core t e b c (Ended f o) = absurd (ends_badly _ _ o f e)
message_step core t e b c (Fails code f o) = absurd (ends_badly _ _ o refl e)
message_step core t e b c (Discarded f d s n o) = absurd (cc)
message_step core t e b c (Erroneous code f n o) =
    subst (λ (z : Outcome). Step core (piece_in t) z) (sym o)
    (record { clears = refl; taken = b; adds = Unchanged (no_piece t.side t.message (erroneous t.side t.message code n)) refl refl })
message_step core t e b c (Row type h p f m i n k g o) =
    subst (λ (z : Outcome). Step core (piece_in t) z) (sym o)
    (subst (λ (z : List Piece). Step core z (row core type h p)) (piece_is t type h p m i)
    (row_step core t.side type h p k b (ap (λ z. is_clear t.side z) (sym i) ∙ c)))

-- # Pieces in a row

abbrev is_last : Piece → Bool
is_last (More payload) = false
is_last (Last id payload) = true

abbrev lasts : List Piece → ℕ
lasts pieces = length (filter is_last pieces)

lasts-append : (xs ys : List Piece) → lasts (xs ++ ys) ≡ lasts xs + lasts ys
lasts-append xs ys = ap (λ (z : List Piece). length z) (filter-append is_last xs ys) ∙ length-append (filter is_last xs) (filter is_last ys)

no_lasts : (payloads : List (List ℕ)) → lasts (map More payloads) ≡ 0
no_lasts [] = omega arith
no_lasts (p ∷ ps) = no_lasts ps

-- payloads of Data alone are not a whole transmission
none_whole : (payloads rest : List (List ℕ)) (trs : List SentTransmission) → map More payloads ≡ flat_map pieces_of trs ++ map More rest → trs ≡ []
none_whole payloads rest [] e = refl
none_whole payloads rest (tr ∷ more) e =
    let end = Last tr.id tr.last ∷ [] in
    let left = map More tr.payloads ++ end in
    let right = flat_map pieces_of more in
    let one : lasts end ≡ 1 = omega arith in
    absurd (omega (arith, ap lasts e, no_lasts payloads, lasts-append (left ++ right) (map More rest), lasts-append left right, lasts-append (map More tr.payloads) end, one))

same_first : (a b : List (List ℕ)) (i j : ℕ) (p q : List ℕ) (x y : List Piece) → map More a ++ Last i p ∷ x ≡ map More b ++ Last j q ∷ y → (a ≡ b) × (i ≡ j) × (p ≡ q) × (x ≡ y)
same_first [] [] i j p q x y e = (refl, cc, cc, cc)
same_first [] (d ∷ b) i j p q x y e = absurd (cc)
same_first (c ∷ a) [] i j p q x y e = absurd (cc)
same_first (c ∷ a) (d ∷ b) i j p q x y e =
    let head : c ≡ d = cc in
    let tail : map More a ++ Last i p ∷ x ≡ map More b ++ Last j q ∷ y = cc in
    let more = same_first a b i j p q x y tail in
    (cc (head, more.0), more.1, more.2, more.3)

regroup : (tr : SentTransmission) (more : List SentTransmission) (rest : List (List ℕ))
    → flat_map pieces_of (tr ∷ more) ++ map More rest ≡ map More tr.payloads ++ Last tr.id tr.last ∷ (flat_map pieces_of more ++ map More rest)
regroup tr more rest =
    append_assoc (map More tr.payloads ++ Last tr.id tr.last ∷ []) (flat_map pieces_of more) (map More rest)
    ∙ append_assoc (map More tr.payloads) (Last tr.id tr.last ∷ []) (flat_map pieces_of more ++ map More rest)

abbrev whole : List (List ℕ) → ℕ → List ℕ → SentTransmission
whole payloads id last = record { payloads = payloads; id = id; last = last }

first_whole : (acc : List (List ℕ)) (id : ℕ) (p : List ℕ) (x : List Piece) (trs : List SentTransmission) (rest : List (List ℕ)) → map More acc ++ Last id p ∷ x ≡ flat_map pieces_of trs ++ map More rest
    → (more : List SentTransmission) × (trs ≡ whole acc id p ∷ more) × (x ≡ flat_map pieces_of more ++ map More rest)
first_whole acc id p x [] rest e =
    absurd (omega (arith, ap lasts e, no_lasts rest, lasts-append (map More acc) (Last id p ∷ x)))
first_whole acc id p x (tr ∷ more) rest e =
    let same = same_first acc tr.payloads id tr.id p tr.last x (flat_map pieces_of more ++ map More rest) (e ∙ regroup tr more rest) in
    (more, ap (λ z. whole z tr.id tr.last ∷ more) (sym same.0) ∙ ap (λ z. whole acc z tr.last ∷ more) (sym same.1) ∙ ap (λ z. whole acc id z ∷ more) (sym same.2), same.3)

-- # A run

all_added-push : (start : Option (List ℕ)) (acc : List (List ℕ)) (p : List ℕ) → all_added start (acc ++ p ∷ []) ≡ added (all_added start acc) p
all_added-push start [] p = refl
all_added-push start (q ∷ acc) p = all_added-push (added start q) acc p

regrouped : (acc : List (List ℕ)) (p : List ℕ) (x : List Piece) → map More (acc ++ p ∷ []) ++ x ≡ map More acc ++ (More p ∷ x)
regrouped acc p x = ap (λ z. z ++ x) (map-append More acc (p ∷ [])) ∙ append_assoc (map More acc) (More p ∷ []) x

-- what the rest of the run asks for, whatever precedes it
abbrev Again : Core → List Piece → List Act → Type 0
Again next pieces acts =
    (acc : List (List ℕ)) (trs : List SentTransmission) (rest : List (List ℕ)) → next.transmission ≡ all_added (Some []) acc
    → map More acc ++ pieces ≡ flat_map pieces_of trs ++ map More rest → transmissions acts ≡ map (action_for next.clears) trs

run_step : (core next : Core) (first later : List Act) (one pieces : List Piece) (acc : List (List ℕ)) (trs : List SentTransmission) (rest : List (List ℕ))
    → core.transmission ≡ all_added (Some []) acc → next.clears ≡ core.clears → map More acc ++ (one ++ pieces) ≡ flat_map pieces_of trs ++ map More rest
    → Adds core.clears core.transmission next.transmission one first → Again next pieces later → transmissions first ++ transmissions later ≡ map (action_for core.clears) trs
run_step core next first later one pieces acc trs rest begun same e (Unchanged none kept quiet) again =
    ap (λ (z : List Act). z ++ transmissions later) quiet
    ∙ again acc trs rest (kept ∙ begun) (ap (λ z. map More acc ++ (z ++ pieces)) (sym none) ∙ e)
    ∙ ap (λ z. map (action_for z) trs) same
run_step core next first later one pieces acc trs rest begun same e (Extends p is adds quiet) again =
    ap (λ (z : List Act). z ++ transmissions later) quiet
    ∙ again (acc ++ p ∷ []) trs rest (adds ∙ ap (λ z. added z p) begun ∙ sym (all_added-push (Some []) acc p))
    (regrouped acc p pieces ∙ ap (λ z. map More acc ++ (z ++ pieces)) (sym is) ∙ e)
    ∙ ap (λ z. map (action_for z) trs) same
run_step core next first later one pieces acc trs rest begun same e (Ends id p is empty asks) again =
    let split = first_whole acc id p pieces trs rest (ap (λ z. map More acc ++ (z ++ pieces)) (sym is) ∙ e) in
    let o : Origin = record { id = id; clears = core.clears } in
    let here : transmissions first ≡ action_for core.clears (whole acc id p) ∷ [] =
    asks ∙ ap (λ z. executed o (added z p) ∷ []) begun ∙ ap (λ z. z ∷ []) (whole_transmission o acc p) in
    let more : transmissions later ≡ map (action_for core.clears) split.0 = again [] split.0 rest empty split.2 ∙ ap (λ z. map (action_for z) split.0) same in
    ap (λ (z : List Act). z ++ transmissions later) here ∙ ap (λ (z : List Act). action_for core.clears (whole acc id p) ∷ z) more ∙ ap (λ z. map (action_for core.clears) z) (sym split.1)

pub run_transmissions : (core : Core) (ts : List Arrival) → (core_after core ts).failed ≡ false → is_begun core.clear ≡ false → list_any begins_clear ts ≡ false
    → Again core (flat_map piece_in ts) (actions_of core ts)
run_transmissions core [] good b none acc trs rest begun e =
    ap (λ z. map (action_for core.clears) z) (sym (none_whole acc rest trs (sym (append-nil (map More acc)) ∙ e)))
run_transmissions core (t ∷ ts) good b none acc trs rest begun e =
    let next = (outcome core t).core in
    let clear = neither (begins_clear t) (list_any begins_clear ts) none in
    let step = message_step core t (not_failed next ts good) b clear.0 (cases core t.side t.message) in
    filter-append is_transmission (outcome core t).actions (actions_of next ts)
    ∙ run_step core next (outcome core t).actions (actions_of next ts) (piece_in t) (flat_map piece_in ts) acc trs rest begun step.clears e step.adds
    (λ acc trs rest begun e. run_transmissions next ts good step.taken clear.1 acc trs rest begun e)
