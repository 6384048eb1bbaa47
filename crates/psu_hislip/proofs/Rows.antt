-- What the types of messages ask for.
use Rattle.std.proofs.Common.{◌≡◌, ℕ, Bool, true, false, Option, Some, None, List, [], ◌∷◌, ◌++◌, refl, ap, ◌∙◌, if◌then◌else◌}
use Rattle.std.proofs.lemmas.Grind.{flat_map-append}
use Rattle.psu_hislip.specs.Header.{header_bytes}
use Rattle.psu_hislip.specs.Action.{Act}
use Rattle.psu_hislip.specs.LockResponses.{lock_code}
use Rattle.psu_hislip.specs.PartialTransmission.{executed, added}
use Rattle.psu_hislip.specs.Core.{Core, reply, takes, row, delivered, is_delivered, origin}
use Rattle.psu_hislip.specs.Runs.{Answer, answer_on, answer_of, answers, due}
use Rattle.psu_hislip.specs.declared.header.Header.{Header}
use Rattle.psu_hislip.specs.declared.action.Origin.{Origin}
use Rattle.psu_hislip.specs.declared.side.Side.{Side}
use Rattle.psu_hislip.specs.declared.side.Side.TheVariants.{Sync, Async}
use Rattle.psu_hislip.specs.declared.lock_responses.LockResponse.TheVariants as lock
use Rattle.psu_hislip.specs.declared.message_type.MessageType.{MessageType}
use Rattle.psu_hislip.specs.declared.message_type.MessageType.TheVariants.{AsyncLock, AsyncLockResponse, Data, DataEnd, DeviceClearComplete, AsyncRemoteLocalControl, Trigger, AsyncMaximumMessageSize, AsyncInitialize, AsyncDeviceClear, AsyncStatusQuery, AsyncLockInfo}

-- # Responses

read_answers : (b : Bool) → answers (if b then Act.Delivered ∷ [] else []) ≡ []
read_answers true = refl
read_answers false = refl

executed_answers : (o : Origin) (bytes : Option (List ℕ)) → answers (executed o bytes ∷ []) ≡ []
executed_answers o None = refl
executed_answers o (Some bytes) = refl

locked_answer : (b c : Bool) (timeout : ℕ) (string : List ℕ) → answers ((if b then Act.Release else (if c then reply Async AsyncLockResponse (lock_code lock.Error) else Act.Lock timeout string)) ∷ []) ≡ answer_on Async AsyncLockResponse
unfolding header_bytes
locked_answer true c timeout string = refl
locked_answer false true timeout string = refl
locked_answer false false timeout string = refl

pub row_answers : (core : Core) (side : Side) (type : MessageType) (h : Header) (p : List ℕ) → takes side type ≡ true → answers (row core type h p).actions ≡ due side (Some type)
unfolding header_bytes
row_answers core Sync Data h p k = read_answers (is_delivered h)
row_answers core Sync DataEnd h p k =
    flat_map-append answer_of (delivered h) (executed (origin core h) (added core.transmission p) ∷ [])
    ∙ ap (λ (z : List Answer). z ++ answers (executed (origin core h) (added core.transmission p) ∷ [])) (read_answers (is_delivered h))
    ∙ executed_answers (origin core h) (added core.transmission p)
row_answers core Sync Trigger h p k = refl
row_answers core Sync DeviceClearComplete h p k = refl
row_answers core Async AsyncInitialize h p k = refl
row_answers core Async AsyncLock h p k = locked_answer _ _ h.parameter p
row_answers core Async AsyncLockInfo h p k = refl
row_answers core Async AsyncRemoteLocalControl h p k = refl
row_answers core Async AsyncMaximumMessageSize h p k = refl
row_answers core Async AsyncDeviceClear h p k = refl
row_answers core Async AsyncStatusQuery h p k = refl
row_answers core side type h p k = absurd (cc)
