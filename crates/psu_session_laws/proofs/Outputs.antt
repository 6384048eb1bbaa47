-- What is appended to the output of a connection was taken from it, or is still in it.
use Rattle.std.proofs.Common.{◌≡◌, ℕ, ◌-◌, Bool, true, false, Option, Some, None, List, [], ◌∷◌, ◌++◌, refl, sym, ap, ◌∙◌, append_assoc}
use Rattle.std.specs.Prelude.{flat_map}
use Rattle.std.proofs.lemmas.List.{append-nil}
use Rattle.psu_hislip.specs.Action.{Act}
use Rattle.psu_hislip.specs.Channel.{Awaited}
use Rattle.psu_hislip.specs.Core.{Core, outcome_of}
use Rattle.psu_hislip.specs.Stream.{Received}
use Rattle.psu_hislip.specs.declared.action.Origin.{Origin}
use Rattle.psu_hislip.specs.declared.side.Side.{Side}
use Rattle.psu_hislip.specs.declared.side.Side.TheVariants.{Sync, Async}
use Rattle.psu_session.specs.Numbers.{clears, number_on, parameter}
use Rattle.psu_messages.specs.Executions.{beginning}
use Rattle.psu_session.specs.Orders as orders
use Rattle.psu_session.specs.Orders.{Done}
use Rattle.psu_session_laws.specs.Exchanged.{on}
use Rattle.psu_session.specs.Credit.{cost, cost_of}
use Rattle.psu_session.specs.Events as events
use Rattle.psu_session.specs.Events.{Event, put}
use Rattle.psu_session_laws.specs.Views.{taken}
use Rattle.psu_session.specs.Step.{EachReceived, IsMessageReceived, SessionStep, arrived, running, happened, release_in, works_in}
use Rattle.psu_session.specs.Step.SessionStep.{Receives, Notifies, Ticks, Begins, Works, ReleasesLock, Ends, Takes, Writes}
use Rattle.psu_session.specs.State.{Running, Release, SessionState, Work, added, numbered, output, settled, with_channel, with_core, with_held, with_output, with_owed, with_work, with_writes}
use Rattle.psu_session_laws.proofs.ExchangeEvents.{caused_taken, effects_put, effects_put_none, effects_take, immediate_keep, taken-append}
use Rattle.psu_session.proofs.Serving.{put-append}

abbrev pub IsOutput : Side → List Event → SessionState → Type 0
IsOutput side xs s = put side xs ≡ taken side xs ++ output side s

-- what is appended and what is taken meanwhile
abbrev Balances : Side → SessionState → List Event → SessionState → Type 0
Balances side s done t = output side s ++ put side done ≡ taken side done ++ output side t

pub balanced : (side : Side) (xs : List Event) (s : SessionState) (done : List Event) (t : SessionState) → IsOutput side xs s → Balances side s done t → IsOutput side (xs ++ done) t
balanced side xs s done t is b =
    put-append side xs done ∙ ap (λ (z : List ℕ). z ++ put side done) is ∙ append_assoc (taken side xs) (output side s) (put side done) ∙ ap (λ (z : List ℕ). taken side xs ++ z) b
    ∙ sym (append_assoc (taken side xs) (taken side done) (output side t)) ∙ ap (λ (z : List ℕ). z ++ output side t) (sym (taken-append side xs done))

still : (side : Side) (s : SessionState) (done : List Event) (t : SessionState) → done ≡ [] → output side t ≡ output side s → Balances side s done t
still side s done t none same =
    ap (λ (z : List Event). output side s ++ put side z) none ∙ append-nil (output side s) ∙ sym same ∙ ap (λ (z : List Event). taken side z ++ output side t) (sym none)

more_output : (side : Side) (s : SessionState) (works : List Work) (requested : List Release) (done : List Event) → output side (added s works requested done) ≡ output side s ++ put side done
more_output Sync s works requested done = refl
more_output Async s works requested done = refl

settled_output : (side : Side) (all : Bool) (now : ℕ) (s : SessionState) → output side (settled all now s) ≡ output side s
settled_output Sync all now s = refl
settled_output Async all now s = refl

numbered_output : (side : Side) (number : Option ℕ) (s : SessionState) → output side (numbered s number) ≡ output side s
numbered_output side None s = refl
numbered_output Sync (Some number) s = refl
numbered_output Async (Some number) s = refl

arrived_output : (on : Side) (now : ℕ) (side : Side) (message : Received) (acts : List Act) (s : SessionState) (immediate : List Event) → output on (arrived now side message acts s immediate) ≡ output on s ++ put on immediate
arrived_output on now side message acts s immediate =
    let more = added s (flat_map works_in acts) (flat_map (release_in now (parameter message)) acts) immediate in
    settled_output on (clears acts) now (numbered more (number_on side message)) ∙ numbered_output on (number_on side message) more ∙ more_output on s (flat_map works_in acts) (flat_map (release_in now (parameter message)) acts) immediate

core_output : (side : Side) (s : SessionState) (core : Core) → output side (with_core s core) ≡ output side s
core_output Sync s core = refl
core_output Async s core = refl

orders_output : (side : Side) (s : SessionState) (waiting : List Work) (g : Option Running) → output side (with_work s waiting g) ≡ output side s
orders_output Sync s waiting g = refl
orders_output Async s waiting g = refl

held_output : (side : Side) (s : SessionState) (held : ℕ) → output side (with_held s held) ≡ output side s
held_output Sync s held = refl
held_output Async s held = refl

owed_output : (side : Side) (s : SessionState) (owed : ℕ) → output side (with_owed s owed) ≡ output side s
owed_output Sync s owed = refl
owed_output Async s owed = refl

works_output : (side : Side) (s : SessionState) (g : Option Running) (origin : Origin) (done : List Done)
    → output side s ++ put side (happened origin done) ≡ taken side (happened origin done) ++ output side (with_output Sync (with_work s s.waiting g) (s.sync ++ orders.frames done))
works_output Sync s g origin done = ap (λ (z : List ℕ). s.sync ++ z) (effects_put origin done) ∙ ap (λ (z : List ℕ). z ++ (s.sync ++ orders.frames done)) (sym (effects_take Sync origin done))
works_output Async s g origin done = ap (λ (z : List ℕ). s.async ++ z) (effects_put_none origin done) ∙ append-nil s.async ∙ ap (λ (z : List ℕ). z ++ s.async) (sym (effects_take Async origin done))

takes_output : (side on : Side) (s : SessionState) (bytes : List ℕ) → output on s ≡ bytes → output side s ++ [] ≡ taken side (events.Took on bytes ∷ []) ++ output side (with_writes on (with_output on s []) true)
takes_output Sync Sync s bytes e = append-nil s.sync ∙ e ∙ sym (append-nil bytes) ∙ sym (append-nil (bytes ++ []))
takes_output Async Async s bytes e = append-nil s.async ∙ e ∙ sym (append-nil bytes) ∙ sym (append-nil (bytes ++ []))
takes_output Sync Async s bytes e = append-nil s.sync
takes_output Async Sync s bytes e = append-nil s.async

writer_output : (side on : Side) (s : SessionState) (writing : Bool) → output side (with_writes on s writing) ≡ output side s
writer_output Sync Sync s writing = refl
writer_output Sync Async s writing = refl
writer_output Async Sync s writing = refl
writer_output Async Async s writing = refl

channel_output : (side on : Side) (s : SessionState) (channel : Awaited) → output side (with_channel on s channel) ≡ output side s
channel_output Sync Sync s channel = refl
channel_output Sync Async s channel = refl
channel_output Async Sync s channel = refl
channel_output Async Async s channel = refl

balances_one : (side : Side) (now : ℕ) (on : Side) (message : Received) (s : SessionState) (done : List Event) (t : SessionState) → IsMessageReceived now on message s done t → Balances side s done t
balances_one side now on message s done t r =
    let keeps : taken side done ≡ [] = ap (taken side) r.are ∙ immediate_keep side s.lock_waits (outcome_of s.core on message).actions r.immediate r.each in
    ap (λ (z : List Event). output side s ++ put side z) r.are ∙ ap (λ (z : List ℕ). z ++ put side r.immediate) (sym (core_output side s (outcome_of s.core on message).core))
    ∙ sym (arrived_output side now on message (outcome_of s.core on message).actions (with_core s (outcome_of s.core on message).core) r.immediate) ∙ ap (output side) (sym r.then) ∙ ap (λ (z : List ℕ). z ++ output side t) (sym keeps)

balances_each : (side : Side) (now : ℕ) (on : Side) (messages : List Received) (s : SessionState) (done : List Event) (t : SessionState) → EachReceived now on messages s done t → Balances side s done t
balances_each side now on [] s done t (none, same) = still side s done t none (ap (output side) same)
balances_each side now on (message ∷ messages) s done t (mid, first, more, is, one, rest) =
    let a = balances_one side now on message s first mid one in
    let b = balances_each side now on messages mid more t rest in
    ap (λ (z : List Event). output side s ++ put side z) is ∙ ap (λ (z : List ℕ). output side s ++ z) (put-append side first more) ∙ sym (append_assoc (output side s) (put side first) (put side more))
    ∙ ap (λ (z : List ℕ). z ++ put side more) a ∙ append_assoc (taken side first) (output side mid) (put side more) ∙ ap (λ (z : List ℕ). taken side first ++ z) b
    ∙ sym (append_assoc (taken side first) (taken side more) (output side t)) ∙ ap (λ (z : List ℕ). z ++ output side t) (sym (taken-append side first more)) ∙ ap (λ (z : List Event). taken side z ++ output side t) (sym is)

pub balances : (side : Side) (s : SessionState) (done : List Event) (t : SessionState) → SessionStep s done t → Balances side s done t
balances side s done t (Receives now on received_bytes h) =
    let b = balances_each side now on h.messages (with_channel on s h.channel) h.immediate t h.each in
    ap (λ (z : List Event). output side s ++ put side z) h.are ∙ ap (λ (z : List ℕ). z ++ put side h.immediate) (sym (channel_output side on s h.channel)) ∙ b ∙ ap (λ (z : List Event). taken side z ++ output side t) (sym h.are)
balances side s done t (Notifies a) =
    sym (more_output side s [] [] done) ∙ ap (output side) (sym a.then) ∙ ap (λ (z : List ℕ). z ++ output side t) (sym (caused_taken s.lock_waits side done a.is))
balances side s done t (Ticks now tick) = still side s done t tick.are (ap (output side) tick.then ∙ settled_output side false now s)
balances side s done t (ReleasesLock g) =
    let keeps : taken side done ≡ [] = ap (taken side) g.are in
    let freed = with_work s g.later None in
    ap (λ (z : List ℕ). z ++ put side done) (sym (orders_output side s g.later None) ∙ sym (owed_output side freed (s.owed - cost 0))) ∙ sym (more_output side (with_owed freed (s.owed - cost 0)) [] [] done) ∙ ap (output side) (sym g.then) ∙ ap (λ (z : List ℕ). z ++ output side t) (sym keeps)
balances side s done t (Begins b) = still side s done t b.are (ap (output side) b.then ∙ orders_output side s b.later (Some (running b.order beginning)))
balances side s done t (Works w) =
    ap (λ (z : List Event). output side s ++ put side z) w.are ∙ works_output side s (Some (running w.order w.new)) w.order.origin w.effects_done
    ∙ ap (λ (z : List Event). taken side z ++ output side (with_output Sync (with_work s s.waiting (Some (running w.order w.new))) (s.sync ++ orders.frames w.effects_done))) (sym w.are)
    ∙ ap (λ (z : SessionState). taken side done ++ output side z) (sym w.then)
balances side s done t (Ends e) = still side s done t e.are (ap (output side) e.then ∙ held_output side (with_work s s.waiting None) (s.held - cost_of e.order) ∙ orders_output side s s.waiting None)
balances side s done t (Takes on bytes taking) =
    ap (λ (z : List Event). output side s ++ put side z) taking.are ∙ takes_output side on s bytes taking.all
    ∙ ap (λ (z : List Event). taken side z ++ output side (with_writes on (with_output on s []) true)) (sym taking.are) ∙ ap (λ (z : SessionState). taken side done ++ output side z) (sym taking.then)
balances side s done t (Writes on w) =
    ap (λ (z : List Event). output side s ++ put side z) w.are ∙ append-nil (output side s) ∙ sym (writer_output side on s false) ∙ ap (output side) (sym w.then) ∙ ap (λ (z : List Event). taken side z ++ output side t) (sym w.are)
