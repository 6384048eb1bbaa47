-- Runs of a session.
use Rattle.std.proofs.Common.{◌≡◌, ℕ, ◌==◌, Bool, true, false, Option, Some, None, List, [], ◌∷◌, ◌++◌, refl, sym, ap, ◌∙◌, flat_map}
use Rattle.std.proofs.lemmas.Grind.{flat_map-append}
use Rattle.psu_hislip.specs.Header.{header_bytes}
use Rattle.psu_hislip.specs.Faults.{error_code, fatal_code}
use Rattle.psu_hislip.specs.Action.{Act}
use Rattle.psu_hislip.specs.Core.{Core, Outcome, outcome_with, reply, is_sync, error}
use Rattle.std.specs.List.{list_any}
use Rattle.psu_hislip.specs.MessageType.{code_of}
use Rattle.psu_hislip.specs.declared.codes.FatalCode.{FatalCode}
use Rattle.psu_hislip.specs.Runs.{Arrival, Answer, sends_fatal_error, outcome, actions_of, core_after, received_type, is_complete, AreClosed, answer_of, answers, due, unless_faulty, answers_due}
use Rattle.psu_hislip.specs.declared.side.Side.{Side}
use Rattle.psu_hislip.specs.declared.side.Side.TheVariants.{Sync, Async}
use Rattle.psu_hislip.specs.declared.codes.ErrorCode.{ErrorCode}
use Rattle.psu_hislip.specs.declared.message_type.MessageType.{MessageType}
use Rattle.psu_hislip.specs.declared.message_type.MessageType.TheVariants.{FatalError, Error, DeviceClearComplete, AsyncInitialize}
use Rattle.psu_hislip.proofs.Rows.{row_answers}
use Rattle.psu_hislip.proofs.Cases.{Cases, cases}
use Rattle.psu_hislip.proofs.Cases.Cases.{Ended, Fails, Discarded, Erroneous, Row}

-- one message of a run
pub first_actions : (core : Core) (t : Arrival) (ts : List Arrival) (o : Outcome) → outcome core t ≡ o → actions_of core (t ∷ ts) ≡ o.actions ++ actions_of o.core ts
first_actions core t ts o e = ap (λ (z : Outcome). z.actions ++ actions_of z.core ts) e

pub first_core : (core : Core) (t : Arrival) (ts : List Arrival) (o : Outcome) → outcome core t ≡ o → core_after core (t ∷ ts) ≡ core_after o.core ts
first_core core t ts o e = ap (λ (z : Outcome). core_after z.core ts) e

-- # Failed sessions

pub ends_badly : (a b : Outcome) → a ≡ b → b.core.failed ≡ true → a.core.failed ≡ false → ⊥
ends_badly a b same failed good = absurd (cc (ap (λ (z : Outcome). z.core.failed) same))

outcome_closed : (core : Core) (t : Arrival) → core.failed ≡ true → Cases core t.side t.message → outcome core t ≡ outcome_with (Act.Closed ∷ []) core
outcome_closed core t e (Ended f o) = o
outcome_closed core t e (Fails code f o) = absurd (cc)
outcome_closed core t e (Discarded f b s c o) = absurd (cc)
outcome_closed core t e (Erroneous code f n o) = absurd (cc)
outcome_closed core t e (Row type h p f m i n k g o) = absurd (cc)

pub closed : (core : Core) (ts : List Arrival) → core.failed ≡ true → AreClosed core ts
closed core [] e = refl
closed core (t ∷ ts) e =
    first_actions core t ts (outcome_with (Act.Closed ∷ []) core) (outcome_closed core t e (cases core t.side t.message)) ∙ ap (λ (z : List Act). Act.Closed ∷ z) (closed core ts e)

pub failed_before : (core : Core) (ts : List Arrival) → core.failed ≡ true → (core_after core ts).failed ≡ true
failed_before core [] e = e
failed_before core (t ∷ ts) e =
    ap (λ (z : Core). z.failed) (first_core core t ts (outcome_with (Act.Closed ∷ []) core) (outcome_closed core t e (cases core t.side t.message))) ∙ failed_before core ts e

still_good : (core : Core) (ts : List Arrival) → (core_after core ts).failed ≡ false → (b : Bool) → core.failed ≡ b → core.failed ≡ false
still_good core ts e true f = absurd (cc (failed_before core ts f))
still_good core ts e false f = f

pub not_failed : (core : Core) (ts : List Arrival) → (core_after core ts).failed ≡ false → core.failed ≡ false
not_failed core ts e = still_good core ts e core.failed refl

pub core_after-append : (core : Core) (xs ys : List Arrival) → core_after core (xs ++ ys) ≡ core_after (core_after core xs) ys
core_after-append core [] ys = refl
core_after-append core (x ∷ xs) ys = core_after-append (outcome core x).core xs ys

-- # Responses

no_due : (side : Side) (o : Option MessageType) → is_sync side ≡ true → is_complete side o ≡ false → due side o ≡ []
no_due Sync (Some DeviceClearComplete) s c = absurd (cc)
no_due Sync o s c = refl
no_due Async o s c = absurd (cc)

faulty : (o : Option ErrorCode) (codes : List Answer) → codes ≡ [] → unless_faulty o codes ≡ []
faulty None codes e = e
faulty (Some code) codes e = refl

error_answer : (side : Side) (control : ℕ) → answers (reply side Error control ∷ []) ≡ []
unfolding header_bytes
error_answer side control = refl

message_answers : (core : Core) (t : Arrival) → (outcome core t).core.failed ≡ false → Cases core t.side t.message → answers (outcome core t).actions ≡ answers_due t
message_answers core t e (Ended f o) = absurd (ends_badly _ _ o f e)
message_answers core t e (Fails code f o) = absurd (ends_badly _ _ o refl e)
message_answers core t e (Discarded f b s c o) =
    ap (λ (z : Outcome). answers z.actions) o ∙ sym (faulty (error t.side t.message) (due t.side (received_type t.message)) (no_due t.side (received_type t.message) s c))
message_answers core t e (Erroneous code f n o) =
    ap (λ (z : Outcome). answers z.actions) o ∙ error_answer t.side (error_code code) ∙ ap (λ z. unless_faulty z (due t.side (received_type t.message))) (sym n)
message_answers core t e (Row type h p f m i n k g o) =
    ap (λ (z : Outcome). answers z.actions) o ∙ row_answers core t.side type h p k ∙ ap (λ z. due t.side z) (sym i) ∙ ap (λ z. unless_faulty z (due t.side (received_type t.message))) (sym n)

pub run_answers : (core : Core) (ts : List Arrival) → (core_after core ts).failed ≡ false → answers (actions_of core ts) ≡ flat_map answers_due ts
run_answers core [] e = refl
run_answers core (t ∷ ts) e =
    let next = (outcome core t).core in
    flat_map-append answer_of (outcome core t).actions (actions_of next ts)
    ∙ ap (λ (z : List Answer). z ++ answers (actions_of next ts)) (message_answers core t (not_failed next ts e) (cases core t.side t.message))
    ∙ ap (λ (z : List Answer). answers_due t ++ z) (run_answers next ts e)

-- # FatalError

no_fatal : (side : Side) (o : Option MessageType) → list_any (λ (answer : Answer). answer.type == code_of FatalError) (due side o) ≡ false
no_fatal Sync (Some DeviceClearComplete) = refl
no_fatal Async (Some AsyncInitialize) = refl
no_fatal side o = refl

pub ends : (core : Core) (t : Arrival) → sends_fatal_error (outcome core t).actions ≡ true → Cases core t.side t.message
    → (code : FatalCode) × ((outcome core t).actions ≡ reply t.side FatalError (fatal_code code) ∷ Act.Closed ∷ []) × ((outcome core t).core.failed ≡ true)
unfolding header_bytes
ends core t e (Ended f o) = absurd (cc (ap (λ (z : Outcome). sends_fatal_error z.actions) o))
ends core t e (Fails code f o) = (code, ap (λ (z : Outcome). z.actions) o, ap (λ (z : Outcome). z.core.failed) o)
ends core t e (Discarded f b s c o) = absurd (cc (ap (λ (z : Outcome). sends_fatal_error z.actions) o))
ends core t e (Erroneous code f n o) = absurd (cc (ap (λ (z : Outcome). sends_fatal_error z.actions) o))
ends core t e (Row type h p f m i n k g o) =
    absurd (cc (ap (λ (z : Outcome). sends_fatal_error z.actions) o, ap (λ (z : List Answer). list_any (λ (answer : Answer). answer.type == code_of FatalError) z) (row_answers core t.side type h p k), no_fatal t.side (Some type)))
