-- What a session holds is counted.
use Rattle.std.proofs.Common.{◌≡◌, ℕ, suc, ◌+◌, ◌-◌, ◌*◌, Bool, true, false, Option, Some, None, List, [], ◌∷◌, ◌++◌, refl, sym, ap, ◌∙◌, subst, arith, length, length-append}
use Rattle.std.specs.Prelude.{flat_map}
use Rattle.std.proofs.lemmas.List.Concat.{flat_map-append}
use Rattle.psu_hislip.specs.Channel.{Awaited}
use Rattle.psu_hislip.specs.Core.{outcome_of}
use Rattle.psu_hislip.specs.Stream.{Received}
use Rattle.psu_hislip.specs.declared.side.Side.{Side}
use Rattle.psu_hislip.specs.declared.side.Side.TheVariants.{Sync, Async}
use Rattle.psu_session.specs.Numbers.{clears, number_on, parameter}
use Rattle.psu_messages.specs.Executions.{beginning}
use Rattle.psu_session.specs.Orders as orders
use Rattle.psu_session.specs.Credit.{cost, cost_of, held_with}
use Rattle.psu_session_laws.specs.Holding.{costs}
use Rattle.psu_session.specs.Events.{Event}
use Rattle.psu_session_laws.specs.Holding.{cost_running}
use Rattle.psu_session_laws.specs.Releases.{releases_in}
use Rattle.psu_session.specs.Step.{EachReceived, IsMessageReceived, SessionStep, Steps, running, release_in, works_in}
use Rattle.psu_session.specs.Step.SessionStep.{Receives, Notifies, Ticks, Begins, Works, ReleasesLock, Ends, Takes, Writes}
use Rattle.psu_session.specs.Step.Steps.{Still, Then}
use Rattle.psu_session.specs.State.{Running, Release, Start, SessionState, Work, Execute, ReleaseLock, added, due, fresh, numbered, order_of_work, orders_in, owed_with, settled, with_channel, with_core, with_held, with_output, with_owed, with_work, with_writes}
use Rattle.psu_session_laws.proofs.Places.{due_and_left, none_in_works, releases_in-append}
use Rattle.psu_session_laws.proofs.Settling.{none_due}

held_is : (orders : List orders.Order) (held : ℕ) → held_with orders held ≡ held + costs orders
held_is [] held = omega arith
held_is (order ∷ orders) held = let e = held_is orders (held + cost_of order) in omega (arith, e)

owed_is : (releases : List Release) (owed : ℕ) → owed_with releases owed ≡ owed + 128 * length releases
owed_is [] owed = omega arith
owed_is (release ∷ releases) owed = let e = owed_is releases (owed + cost 0) in omega (arith, e)

costs-append : (xs ys : List orders.Order) → costs (xs ++ ys) ≡ costs xs + costs ys
costs-append [] ys = omega arith
costs-append (x ∷ xs) ys = let e = costs-append xs ys in omega (arith, e)

works_cost : (xs ys : List Work) → costs (orders_in (xs ++ ys)) ≡ costs (orders_in xs) + costs (orders_in ys)
works_cost xs ys = ap costs (flat_map-append order_of_work xs ys) ∙ costs-append (orders_in xs) (orders_in ys)

record Counted (s : SessionState) : Type 0 where
  transmissions : s.held ≡ costs (orders_in s.waiting) + cost_running s.running
  releases : s.owed ≡ 128 * (releases_in s.waiting + length s.releases)

settles : (all : Bool) (now : ℕ) (s : SessionState) → Counted s → Counted (settled all now s)
settles all now s c =
    let more = due all now s.last s.releases in
    let none : costs (orders_in more) ≡ 0 = ap costs (none_due all now s.last s.releases) in
    let works = works_cost s.waiting more in
    let sum = releases_in-append s.waiting more in
    let split = due_and_left all now s.last s.releases in
    let held = c.transmissions in
    let owed = c.releases in
    record { transmissions = omega (arith, held, works, none); releases = omega (arith, owed, sum, split) }

adds : (s : SessionState) (works : List Work) (requested : List Release) (done : List Event) → releases_in works ≡ 0 → Counted s → Counted (added s works requested done)
adds s works requested done none c =
    let in_queue = works_cost s.waiting works in
    let sum = releases_in-append s.waiting works in
    let waits = length-append s.releases requested in
    let more_held = held_is (orders_in works) s.held in
    let more_owed = owed_is requested s.owed in
    let held = c.transmissions in
    let owed = c.releases in
    record { transmissions = omega (arith, held, in_queue, more_held); releases = omega (arith, owed, sum, waits, none, more_owed) }

counts : (number : Option ℕ) (s : SessionState) → Counted s → Counted (numbered s number)
counts None s c = c
counts (Some number) s c = record { transmissions = c.transmissions; releases = c.releases }

arrives : (now : ℕ) (side : Side) (message : Received) (s : SessionState) (done : List Event) (t : SessionState) → IsMessageReceived now side message s done t → Counted s → Counted t
arrives now side message s done t r c =
    let out = outcome_of s.core side message in
    let here = with_core s out.core in
    let works = flat_map works_in out.actions in
    let requested = flat_map (release_in now (parameter message)) out.actions in
    let more = added here works requested r.immediate in
    subst Counted (sym r.then)
    (settles (clears out.actions) now (numbered more (number_on side message))
    (counts (number_on side message) more (adds here works requested r.immediate (none_in_works out.actions) (record { transmissions = c.transmissions; releases = c.releases }))))

each_arrives : (now : ℕ) (side : Side) (messages : List Received) (s : SessionState) (done : List Event) (t : SessionState) → EachReceived now side messages s done t → Counted s → Counted t
each_arrives now side [] s done t (none, same) c = subst Counted (sym same) c
each_arrives now side (message ∷ messages) s done t (mid, first, more, is, one, rest) c = each_arrives now side messages mid more t rest (arrives now side message s first mid one c)

channel_counted : (side : Side) (s : SessionState) (channel : Awaited) → Counted s → Counted (with_channel side s channel)
channel_counted Sync s channel c = record { transmissions = c.transmissions; releases = c.releases }
channel_counted Async s channel c = record { transmissions = c.transmissions; releases = c.releases }

output_counted : (side : Side) (s : SessionState) (bytes : List ℕ) → Counted s → Counted (with_output side s bytes)
output_counted Sync s bytes c = record { transmissions = c.transmissions; releases = c.releases }
output_counted Async s bytes c = record { transmissions = c.transmissions; releases = c.releases }

writer_counted : (side : Side) (s : SessionState) (writing : Bool) → Counted s → Counted (with_writes side s writing)
writer_counted Sync s writing c = record { transmissions = c.transmissions; releases = c.releases }
writer_counted Async s writing c = record { transmissions = c.transmissions; releases = c.releases }

-- what the first transmission of the queue counts as, it counts as in execution
begins : (s : SessionState) (order : orders.Order) (later : List Work) → s.running ≡ None → s.waiting ≡ Execute order ∷ later → Counted s → Counted (with_work s later (Some (running order beginning)))
begins s order later none first c =
    let held : s.held ≡ (cost_of order + costs (orders_in later)) + 0 =
    c.transmissions ∙ ap (λ (z : List Work). costs (orders_in z) + cost_running s.running) first ∙ ap (λ (z : Option Running). (cost_of order + costs (orders_in later)) + cost_running z) none in
    record { transmissions = omega (arith, held); releases = c.releases ∙ ap (λ (z : List Work). 128 * (releases_in z + length s.releases)) first }

ends : (s : SessionState) (order : orders.Order) (g : Running) → s.running ≡ Some g → g.order ≡ order → Counted s → Counted (with_held (with_work s s.waiting None) (s.held - cost_of order))
ends s order g is same c =
    let held : s.held ≡ costs (orders_in s.waiting) + cost_of order
    = c.transmissions ∙ ap (λ (z : Option Running). costs (orders_in s.waiting) + cost_running z) is ∙ ap (λ (z : orders.Order). costs (orders_in s.waiting) + cost_of z) same in
    record { transmissions = omega (arith, held); releases = c.releases }

frees : (s : SessionState) (later : List Work) → s.running ≡ None → s.waiting ≡ ReleaseLock ∷ later → Counted s → Counted (with_owed (with_work s later None) (s.owed - cost 0))
frees s later none first c =
    let owed : s.owed ≡ 128 * (suc (releases_in later) + length s.releases) = c.releases ∙ ap (λ (z : List Work). 128 * (releases_in z + length s.releases)) first in
    record {
      transmissions = c.transmissions ∙ ap (λ (z : List Work). costs (orders_in z) + cost_running s.running) first ∙ ap (λ (z : Option Running). costs (orders_in later) + cost_running z) none;
      releases = omega (arith, owed);
    }

keeps : (s : SessionState) (done : List Event) (t : SessionState) → SessionStep s done t → Counted s → Counted t
keeps s done t (Receives now side received_bytes h) c = each_arrives now side h.messages (with_channel side s h.channel) h.immediate t h.each (channel_counted side s h.channel c)
keeps s done t (Notifies a) c = subst Counted (sym a.then) (adds s [] [] done refl c)
keeps s done t (Ticks now tick) c = subst Counted (sym tick.then) (settles false now s c)
keeps s done t (Begins b) c = subst Counted (sym b.then) (begins s b.order b.later b.none b.first c)
keeps s done t (Works w) c =
    let here = with_work s s.waiting (Some (running w.order w.new)) in
    let same : Counted here = record { transmissions = c.transmissions ∙ ap (λ (z : Option Running). costs (orders_in s.waiting) + cost_running z) w.is; releases = c.releases } in
    subst Counted (sym w.then) (output_counted Sync here (s.sync ++ orders.frames w.effects_done) same)
keeps s done t (ReleasesLock g) c = subst Counted (sym g.then) (adds (with_owed (with_work s g.later None) (s.owed - cost 0)) [] [] done refl (frees s g.later g.none g.first c))
keeps s done t (Ends e) c = subst Counted (sym e.then) (ends s e.order (running e.order e.progress) e.is refl c)
keeps s done t (Takes side bytes taking) c = subst Counted (sym taking.then) (writer_counted side (with_output side s []) true (output_counted side s [] c))
keeps s done t (Writes side w) c = subst Counted (sym w.then) (writer_counted side s false c)

counted : (start : Start) (history : List Event) (s : SessionState) → Steps (fresh start) history s → Counted s
counted start history s Still = record { transmissions = refl; releases = refl }
counted start history s (Then {done = done} {t = t} steps more u m) = keeps t more u m (counted start done t steps)

pub transmissions_counted : (start : Start) (history : List Event) (s : SessionState) → Steps (fresh start) history s → s.held ≡ costs (orders_in s.waiting) + cost_running s.running
transmissions_counted start history s steps = (counted start history s steps).transmissions

pub releases_counted : (start : Start) (history : List Event) (s : SessionState) → Steps (fresh start) history s → s.owed ≡ 128 * (releases_in s.waiting + length s.releases)
releases_counted start history s steps = (counted start history s steps).releases
