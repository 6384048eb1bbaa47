-- The steps of a run, with its power losses, and runs one after another on the same disk, as one list of events of the
-- theorem on power loss; and what the images at the points of a run represent.
use Rattle.psu_run.proofs.Common.{Any, ◌≡◌, ℕ, suc, ◌+◌, false, Option, Some, None, List, [], ◌∷◌, ◌++◌, length, refl, sym, ◌∙◌, subst, inl, inr, arith, ⊎_elim, ap, append-nil, take, DiskState, EachIsEither, EachRepresents, Entry, EventsLead, IsAlong, IsCrashImage, IsEither, IsLeftBy, Item, LeadsTo, Opened, PowersOn, Represents, RunPoint, Running, StandsForPrefix, Steps, World, after, count_held, get_or_past, items_of, left_size, nil_from_length, power_on, reads_left, represents_one, take-nil, target, without_power, Serves}
use Rattle.psu_power_loss.specs.World.{Stopped, Restarting, Event, Call, DiskCall, Loss, Stop, Restart, Moves, Writes, Syncs, KeepsMaps, Happens, IsStart, Run, CallsBy}
use Rattle.psu_power_loss.proofs.Invariant.{only_left, kept_at_start, left_in_life}
use Rattle.psu_nv.specs.Commands.{Command as Change, applied}
use Rattle.psu_power_loss.proofs.Events.{other_disk, prefix_is_left, run_keeps, while_running}

-- ---- lists of events

run_join : (xs ys : List Event) (w mid new : World) → Run w xs mid → Run mid ys new → Run w (xs ++ ys) new
run_join [] ys w mid new p q = subst (λ (z : World). Run z ys new) p q
run_join (x ∷ xs) ys w mid new p q = (p.0, p.1, run_join xs ys p.0 mid new p.2 q)

pub leads_then : (w mid new : World) → EventsLead w mid → EventsLead mid new → EventsLead w new
leads_then w mid new p q = (p.0 ++ q.0, run_join p.0 q.0 w mid new p.1 q.1)

leads_behind : (w mid new : World) (event : Event) → Happens w event mid → EventsLead mid new → EventsLead w new
leads_behind w mid new event h p = (event ∷ p.0, (mid, h, p.1))

-- a call is an event
happens : (w new : World) (entry : Entry) (c : (disk : DiskState) × CallsBy Serves w entry disk new) → Happens w (Call entry c.0) new
happens w new entry x3 = grind arith

-- a step that is a call is one on an honest disk
call_of : {H : Type 0} → H → (w new : World) (entry : Entry) → LeadsTo H w (Some entry) new → (disk : DiskState) × CallsBy Serves w entry disk new
call_of h w new entry (disk, (s, on, serves, after, is)) = (disk, (s, on, serves, after h, is))

-- ---- a restart

-- where each possible crash image represents the map that the disk's bytes represent
standing_keeps : (d new : DiskState) (limit : ℕ) (map : List Item) → Represents d.bytes limit map → EachRepresents new limit map → KeepsMaps d new
standing_keeps d new limit map was is = λ image left. (
  d.bytes,
  reads_left d,
  λ n m s. let one = represents_one limit n map m d.bytes was s in subst (λ (k : List Item). Represents image n k) one.1 (subst (λ (k : ℕ). Represents image k map) one.0 (is image left)),
)

-- a synced disk that is written in one call
rewritten : (bytes : List ℕ) (new : DiskState) → length new.bytes ≡ length bytes → Moves (without_power bytes) new
rewritten bytes new size = Writes 0 all (record {
  bytes = record { size = size; below = λ k low. absurd (omega (arith, low)); above = λ k high. get_or_past new.bytes k 0 (omega (arith, high, size)) ∙ sym (get_or_past bytes k 0 (omega (arith, high))) };
  others = λ k out. ⊎_elim (λ low. absurd (omega (arith, low))) (λ high. get_or_past new.unsynced k false (omega (arith, high))) out;
  stays = λ k flagged. cc;
})
  where
    all : ℕ
    all = length bytes + length new.unsynced

is_start : (on : World) → IsStart on → on ≡ record { state = power_on on.limit on.start; history = []; disk = on.disk; mode = Running; limit = on.limit; start = on.start }
is_start on s = grind arith

-- a disk that a restart syncs, and then writes
swept : (w : World) (new : DiskState) → KeepsMaps w.disk new → length new.bytes ≡ length w.disk.bytes → EventsLead (record w { mode = Stopped }) (record w { disk = new; mode = Restarting w.disk })
swept w new keeps size =
    let synced : KeepsMaps w.disk (without_power w.disk.bytes) = λ image left. (w.disk.bytes, reads_left w.disk, λ limit map s. subst (λ (x : List ℕ). Represents x limit map) (sym (only_left w.disk.bytes image left)) s) in
    let began : World = record w { disk = without_power w.disk.bytes; mode = Restarting w.disk } in (
      DiskCall (without_power w.disk.bytes) ∷ DiskCall new ∷ [],
      (
        began,
        (Syncs refl (λ k. refl), inr (record { down = tt; same = synced }, refl)),
        (record w { disk = new; mode = Restarting w.disk }, (rewritten w.disk.bytes new size, inr (record { down = tt; same = keeps }, refl)), refl),
      ),
    )

-- on an honest disk each possible crash image represents the contents of a power-on
is_started : {H : Type 0} {image : List ℕ} {new : World} → H → (p : PowersOn H image new) → IsStart p.on
is_started h p = record { state = p.state; history = p.history; mode = p.mode; sound = p.sound; fitting = p.fitting; disk = p.disk h }

-- A device that powers on from the bytes that the disk of a world reads as is reached by events, once everything has
-- stopped there.
restart_leads : {H : Type 0} → H → (w new : World) → PowersOn H w.disk.bytes new → EventsLead (record w { mode = Stopped }) new
restart_leads h w new p =
    let on = p.on in let begun = is_started h p in let shut : World = record w { disk = on.disk; mode = Restarting w.disk } in
    leads_then (record w { mode = Stopped }) shut new (swept w on.disk (standing_keeps w.disk on.disk on.limit (items_of on.start) (p.found h) begun.disk) (p.size h))
    (leads_behind shut on new (Restart on.limit on.start) (record { down = tt; sound = begun.sound; fitting = begun.fitting; stands = begun.disk }, is_start on begun)
    (Call (Opened (Some 1)) p.opens.0 ∷ [], (new, happens on new (Opened (Some 1)) p.opens, refl)))

-- the disk that is returned is reached by events
pub left_leads : (w : World) (disk : DiskState) → IsLeftBy w disk → (stopped : World) × EventsLead w stopped × (stopped.disk ≡ disk)
left_leads w disk left = (
  record w { disk = disk; mode = Restarting w.disk },
  leads_behind w (record w { mode = Stopped }) (record w { disk = disk; mode = Restarting w.disk }) Stop refl (swept w disk (keeps left) (size left)),
  refl,
)
  where
    keeps : IsLeftBy w disk → KeepsMaps w.disk disk
    keeps (inl same) = λ image is. (image, same image is, λ limit map s. s)
    keeps (inr (limit, map, was, is, long)) = standing_keeps w.disk disk limit map (was w.disk.bytes (reads_left w.disk)) is

    size : IsLeftBy w disk → length disk.bytes ≡ length w.disk.bytes
    size (inl same) = left_size w.disk disk.bytes (same disk.bytes (reads_left disk))
    size (inr (limit, map, was, is, long)) = long

-- ---- steps

step_leads : {H : Type 0} → H → (call : Option Entry) (w new : World) → LeadsTo H w call new → EventsLead w new
step_leads h (Some entry) w new c = let made = call_of h w new entry c in (Call entry made.0 ∷ [], (new, happens w new entry made, refl))
step_leads h None w new (whole, p) =
    let dark : World = record w { disk = without_power w.disk.bytes } in
    leads_behind w (record dark { mode = Stopped }) new (Loss w.disk.bytes) (reads_left w.disk, refl) (restart_leads h dark new p)

-- the power-on of a run, from a world before it
pub power_leads : {H : Type 0} → H → (image : List ℕ) (power before : World) → PowersOn H image power → before.disk.bytes ≡ image → EventsLead before power
power_leads {H} h image power before p same =
    leads_behind before (record before { mode = Stopped }) power Stop refl (restart_leads h before power (subst (λ (x : List ℕ). PowersOn H x power) (sym same) p))

-- a world that is reached by events from a device that has just been powered on
abbrev pub Reached : World → Type 0
Reached w = (first : World) × IsStart first × EventsLead first w

pub reached_on : (w new : World) → EventsLead w new → Reached w → Reached new
reached_on w new e (first, start, before) = (first, start, leads_then first w new before e)

pub reached_power : {H : Type 0} → H → (image : List ℕ) (power : World) → PowersOn H image power → Reached power
reached_power h image power p = (p.on, is_started h p, (Call (Opened (Some 1)) p.opens.0 ∷ [], (power, happens p.on power (Opened (Some 1)) p.opens, refl)))

-- ---- the points of a run

pub along_here : (p : RunPoint) (image : List ℕ) → StandsForPrefix p.world image → IsAlong p image
along_here p image stands = (0, p.world, omega arith, refl, stands)

along_more : (w : World) (ws : List World) (image : List ℕ) → Any (λ (v : World). StandsForPrefix v image) ws → Any (λ (v : World). StandsForPrefix v image) (w ∷ ws)
along_more w ws image (k, v, low, is, stands) = (suc k, v, omega (arith, low), is, stands)

-- the run continues from one point to another: events lead on, and what was passed stays passed
abbrev pub Continues : RunPoint → RunPoint → Type 0
Continues p q = EventsLead p.world q.world × ((image : List ℕ) → IsAlong p image → IsAlong q image)

pub step_goes : {p q : RunPoint} {call : Option Entry} {H : Type 0} → H → Steps H p call q → Continues p q
step_goes {p} {q} {call} h s = (
  step_leads h call p.world q.world s.leads,
  λ image along. subst (λ (z : RunPoint). IsAlong z image) (sym s.is) (along_more q.world (p.world ∷ p.passed) image along),
)

pub goes_then : (p m q : RunPoint) → Continues p m → Continues m q → Continues p q
goes_then p m q a b = (leads_then p.world m.world q.world a.0 b.0, λ image along. b.1 image (a.1 image along))

pub stays_on : (p : RunPoint) → Continues p p
stays_on p = (([], refl), λ image along. along)

-- ---- what the images of a world that was reached represent: a prefix of what was executed

pub prefix_of_reached : (w : World) (image : List ℕ) → Reached w → IsCrashImage w.disk image → StandsForPrefix w image
prefix_of_reached w image (first, start, (events, run)) left = prefix_is_left first w events image start run left

-- while a job is out: an image that represents the map before, or the target
pub prefix_of_either : (w : World) (image : List ℕ) → Reached w → w.mode ≡ Running → IsEither w.state.flush.limit w.state.flush.before (target w.state.flush) image → StandsForPrefix w image
prefix_of_either w image r running either =
    let f = w.state.flush in let alone = without_power image in let l = while_running w running (run_keeps r.0 w r.2.0 r.2.1 (kept_at_start r.0 r.1)) in
    let each : EachIsEither alone f.limit f.before (target f) = λ x left. subst (IsEither f.limit f.before (target f)) (sym (only_left image x left)) either in
    let p = left_in_life (record w { disk = alone }) (other_disk w alone each l) image (reads_left alone) in
    (p.k, record { from = p.prefix.from; to = p.prefix.to }, p.kept, p.stands)

-- where each possible crash image represents one map, and did so in a world that was reached
same_prefix : (w : World) (disk : DiskState) (limit : ℕ) (map : List Item) → Reached w → EachRepresents w.disk limit map → EachRepresents disk limit map → (image : List ℕ) → IsCrashImage disk image → StandsForPrefix w image
same_prefix w disk limit map r was is image left =
    let p = prefix_of_reached w w.disk.bytes r (reads_left w.disk) in
    let one = represents_one limit w.limit map (items_of (after w p.0)) w.disk.bytes (was w.disk.bytes (reads_left w.disk)) p.3 in
    (p.0, p.1, p.2, subst (λ (m : List Item). Represents image w.limit m) one.1 (subst (λ (n : ℕ). Represents image n map) one.0 (is image left)))

-- one image that represents the map that each possible crash image represented
pub prefix_of_map : (w : World) (limit : ℕ) (map : List Item) (image : List ℕ) → Reached w → EachRepresents w.disk limit map → Represents image limit map → StandsForPrefix w image
prefix_of_map w limit map image r was is =
    same_prefix w (without_power image) limit map r was (λ x left. subst (λ (z : List ℕ). Represents z limit map) (sym (only_left image x left)) is) image (reads_left (without_power image))

pub leaves_prefix : (w : World) (disk : DiskState) → Reached w → IsLeftBy w disk → (image : List ℕ) → IsCrashImage disk image → StandsForPrefix w image
leaves_prefix w disk r (inl same) = λ image left. prefix_of_reached w image r (same image left)
leaves_prefix w disk r (inr (limit, map, was, is, size)) = same_prefix w disk limit map r was is

-- ---- the disk once all is flushed

pub flushed_stands : (w : World) → Reached w → w.mode ≡ Running → w.state.flush.unflushed ≡ 0 → EachRepresents w.disk w.limit (items_of w.state.flush.contents)
flushed_stands w r running none image left =
    let l = while_running w running (run_keeps r.0 w r.2.0 r.2.1 (kept_at_start r.0 r.1)) in let empty : l.rest ≡ [] = nil_from_length l.rest (sym l.count ∙ none) in
    let contents : w.state.flush.contents ≡ applied w.start l.gone = l.contents ∙ ap (λ (cs : List Change). applied w.start (l.gone ++ cs)) empty ∙ ap (applied w.start) (append-nil l.gone) in
    let taken : take (count_held w.state.flush.held) l.rest ≡ [] = ap (λ (cs : List Change). take (count_held w.state.flush.held) cs) empty ∙ take-nil (count_held w.state.flush.held) in
    let aim : target w.state.flush ≡ items_of w.state.flush.contents
    = l.aim ∙ ap (λ (cs : List Change). items_of (applied w.start (l.gone ++ cs))) taken ∙ ap (λ (cs : List Change). items_of (applied w.start cs)) (append-nil l.gone) ∙ ap items_of (sym contents) in
    ⊎_elim (λ s. subst (λ (m : List Item). Represents image w.limit m) (l.first_map ∙ ap items_of (sym contents)) s) (λ s. subst (λ (m : List Item). Represents image w.limit m) aim s) (l.disk image left)
