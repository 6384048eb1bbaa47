-- The locks and the waits of session 1.
use Rattle.psu_locks.specs.Locks.{Locks, may_command}
use Rattle.psu_run.proofs.Common.{◌≡◌, ℕ, not, false, Option, None, List, [], ◌∷◌, refl, ap, ◌∙◌, arith, map, option_map, slice_index_or, slice_set, Allows, IsAccepted, Job, JobData, JobEnd, State, Took, count_held, is_denied, wait_cut, wait_less, wait_of}
use Rattle.psu_exec.specs.declared.waits.Wait.{Wait}

-- only the locks deny a session
pub still_allowed : (s new : State) → new.volatile.locks ≡ s.volatile.locks → is_denied s 1 ≡ false → is_denied new 1 ≡ false
still_allowed s new same free = ap (λ (l : Locks). not (may_command l.holders 1)) same ∙ free

pub no_wait : (waits : List (Option Wait)) → slice_index_or (slice_set waits 0 None) 0 None ≡ None
no_wait [] = refl
no_wait (w ∷ ws) = refl

pub no_wait_after : (turn : Wait → Wait) (waits : List (Option Wait)) → slice_index_or waits 0 None ≡ None → slice_index_or (map (option_map turn) waits) 0 None ≡ None
no_wait_after turn [] h = refl
no_wait_after turn (w ∷ waits) h = grind arith

-- a job's end makes no wait
pub job_free : (s taken new : State) (job : JobData) (end : JobEnd) (over : List ℕ) → Allows s (Took (Job job)) taken → IsAccepted taken end over new → wait_of s.flush 1 ≡ None → wait_of new.flush 1 ≡ None
job_free s taken new job end over given gave free =
    let out : wait_of taken.flush 1 ≡ None = grind arith in
    let less = no_wait_after (wait_less (count_held taken.flush.held)) taken.flush.waits out in
    let cut = no_wait_after wait_cut taken.flush.waits out in grind arith
