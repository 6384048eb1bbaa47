-- Steps, one after another: the units that they execute, and what they leave of a point.
use Rattle.psu_run.proofs.Common.{IsRunCall, ◌≡◌, ◌⊎◌, ℕ, zero, suc, ◌&&◌, true, List, [], ◌∷◌, ◌++◌, refl, sym, ap, ◌∙◌, subst, append_assoc, append-nil, inl, inr, arith, Option, Some, Acts, Begins, Calls, Does, Effect, Entry, Executed, GaveBack, OneCall, IsFlush, IsJob, IsUnit, Job, JobKind, Jobs, Later, Nothing, Parked, Reopen, Reply, Request, RunPoint, Running, Settled, NoCall, Steps, Took, executed_by, is_calm, text_sent, Sent, BeforeDrop, Cleared, Device, IsRefusedFor, Memory, Open, Read, RunCause, TooLong, Write, finished}
use Rattle.psu_messages.specs.Effects as effects

-- ---- the units that they execute

-- one call
pub begins_call : {p q : RunPoint} {H : Type 0} (entry : Entry) (a : List Request) → IsRunCall entry → Calls H p entry q → a ≡ executed_by entry → Begins H a p q
begins_call {p} {q} entry a made c is = OneCall entry q [] made c (is ∙ sym (append-nil (executed_by entry))) (NoCall refl)

executes_none : (entry : Entry) (more : List Request) → [] ≡ executed_by entry ++ more → (executed_by entry ≡ []) × (more ≡ [])
executes_none (Executed session request reply) more is = grind arith
executes_none entry more is = (refl, sym is)

begins_after : {H : Type 0} {p m q : RunPoint} (a none : List Request) → [] ≡ none → Begins H none p m → Begins H a m q → Begins H a p q
begins_after {H} {p} {m} {q} a none empty (NoCall is) b = subst (λ (z : RunPoint). Begins H a z q) is b
begins_after a none empty (OneCall entry mid more made c is rest) b =
    let both = executes_none entry more (empty ∙ is) in OneCall entry mid a made c (ap (λ (l : List Request). l ++ a) (sym both.0)) (begins_after a more (sym both.1) rest b)

-- calls that execute no unit, and then some
pub begins_behind : {p m q : RunPoint} {H : Type 0} (a : List Request) → Begins H [] p m → Begins H a m q → Begins H a p q
begins_behind a none b = begins_after a [] refl none b

pub begins_none : {p q : RunPoint} {H : Type 0} (a : List Request) → Begins H [] p q → Begins H a p q
begins_none {p} {q} a none = begins_behind a none (NoCall refl)

-- some, and then calls that execute no unit
pub begins_idle : {H : Type 0} {p m q : RunPoint} (a : List Request) → Begins H a p m → Begins H [] m q → Begins H a p q
begins_idle {H} {p} {m} {q} a (NoCall is) none = subst (λ (z : RunPoint). Begins H a z q) is (begins_none a none)
begins_idle {H} {p} {m} {q} a (OneCall entry mid more made c is rest) none = OneCall entry mid more made c is (begins_idle more rest none)

pub job_begins : {p q : RunPoint} {kind : JobKind} {H : Type 0} → IsJob H kind p q → Begins H [] p q
job_begins (job, finished, over, out, takes, give, kind_is, own, long) = OneCall (Took (Job job)) out [] tt takes refl (begins_call (GaveBack finished (Some over)) [] tt give refl)

-- a call in which memory was refused, and a drop of a wait after it
pub refused_before : {p q : RunPoint} {H : Type 0} (cause : RunCause) (session : ℕ) → IsRefusedFor H (Some cause) p → Calls H p (Cleared session) q → IsRefusedFor H (Some cause) q
refused_before (Memory sign) session refused call = BeforeDrop session refused call
refused_before Read session refused call = tt
refused_before TooLong session refused call = tt
refused_before Write session refused call = tt
refused_before (Open why) session refused call = tt
refused_before Device session refused call = tt

-- a store is reopened before
pub reopening : {p q : RunPoint} {H : Type 0} → (q ≡ p) ⊎ IsJob H Reopen p q → Begins H [] p q
reopening (inl same) = NoCall same
reopening (inr job) = job_begins job

pub jobs_begin : {H : Type 0} (n : ℕ) (p q : RunPoint) → Jobs H n p q → Begins H [] p q
jobs_begin zero p q is = NoCall is
jobs_begin (suc n) p q (inl none) = begins_call (Took Nothing) [] tt none refl
jobs_begin (suc n) p q (inr (kind, mid, job, rest)) = begins_behind [] (job_begins job) (jobs_begin n mid q rest)

pub flush_begins : {p q : RunPoint} {H : Type 0} → IsFlush H p q → Begins H [] p q
flush_begins {p} {q} f = jobs_begin 4 p q f

acts_begin : {p q : RunPoint} {H : Type 0} (request : Request) (reply : Reply) → Acts H request reply p q → Begins H (request ∷ []) p q
acts_begin request reply (final, inl at_once) = begins_call (Executed 1 request reply) (request ∷ []) refl at_once (grind arith)
acts_begin request reply (final, inr (parked, over, c, f, s)) = OneCall (Executed 1 request Parked) parked [] refl c refl (begins_behind [] (flush_begins f) (begins_call (Settled 1 reply) [] refl s refl))

pub unit_begins : {p q : RunPoint} {H : Type 0} (request : Request) (reply : Reply) → IsUnit H request reply p q → Begins H (request ∷ []) p q
unit_begins request reply (inl acts) = acts_begin request reply acts
unit_begins request reply (inr (late, again, c, f, acts)) = OneCall (Executed 1 request Later) late (request ∷ []) refl c refl (begins_behind (request ∷ []) (flush_begins f) (acts_begin request reply acts))

-- ---- the text, and whether all was calm

pub calm_step : {p q : RunPoint} {call : Option Entry} {H : Type 0} → Steps H p call q → q.calm ≡ true → (p.calm ≡ true) × (is_calm call ≡ true)
calm_step {p} {q} {call} s calm = let is : (p.calm && is_calm call) ≡ true = sym (ap (λ (z : RunPoint). z.calm) s.is) ∙ calm in grind arith

-- the text grew by `more`; and where all was calm at the end, it was at the start
abbrev pub Keeps : RunPoint → RunPoint → List ℕ → Type 0
Keeps p q more = (q.text ≡ p.text ++ more) × (q.calm ≡ true → p.calm ≡ true)

pub step_keeps : {p q : RunPoint} {call : Option Entry} {H : Type 0} → Steps H p call q → Keeps p q []
step_keeps {p} s = (ap (λ (z : RunPoint). z.text) s.is ∙ sym (append-nil p.text), λ calm. (calm_step s calm).0)

pub keeps_then : (p m q : RunPoint) (a b : List ℕ) → Keeps p m a → Keeps m q b → Keeps p q (a ++ b)
keeps_then p m q a b k l = (l.0 ∙ ap (λ (z : List ℕ). z ++ b) k.0 ∙ append_assoc p.text a b, λ calm. k.1 (l.1 calm))

pub begins_keep : {H : Type 0} {p q : RunPoint} (a : List Request) → Begins H a p q → Keeps p q []
begins_keep {H} {p} {q} a (NoCall is) = subst (λ (z : RunPoint). Keeps p z []) (sym is) (sym (append-nil p.text), λ calm. calm)
begins_keep {H} {p} {q} a (OneCall entry mid more made c is rest) = keeps_then p mid q [] [] (step_keeps c) (begins_keep more rest)

pub effects_keep : (H : Type 0) (p q : RunPoint) (list : List Effect) → effects.Runs (Does H) p list q → Keeps p q (text_sent list)
effects_keep H p q [] is = subst (λ (z : RunPoint). Keeps p z []) (sym is) (sym (append-nil p.text), λ calm. calm)
effects_keep H p q (effects.Executed request reply ∷ list) (mid, unit, rest) = keeps_then p mid q [] (text_sent list) (begins_keep (request ∷ []) (unit_begins request reply unit)) (effects_keep H mid q list rest)
effects_keep H p q (effects.Settled reply ∷ list) (mid, never, rest) = absurd never
effects_keep H p q (Sent text last ∷ list) (mid, is, rest) = keeps_then p mid q text (text_sent list) (subst (λ (z : RunPoint). Keeps p z text) (sym is) (refl, λ calm. calm)) (effects_keep H mid q list rest)

-- ---- the mode

-- a call is made while the device is on, and leaves it on
running : {p q : RunPoint} {entry : Entry} {H : Type 0} → Calls H p entry q → (p.world.mode ≡ Running) × (q.world.mode ≡ Running)
running c = let by = c.leads in (grind arith, grind arith)

begins_running : {H : Type 0} {p q : RunPoint} (a : List Request) → Begins H a p q → p.world.mode ≡ Running → q.world.mode ≡ Running
begins_running a (NoCall is) on = ap (λ (z : RunPoint). z.world.mode) is ∙ on
begins_running a (OneCall entry mid more made c is rest) on = begins_running more rest (running c).1

pub flush_running : {p q : RunPoint} {H : Type 0} → IsFlush H p q → q.world.mode ≡ Running
flush_running (inl none) = (running none).1
flush_running {p} {q} (inr (kind, mid, job, rest)) = begins_running [] (jobs_begin 3 mid q rest) (running job.5).1
