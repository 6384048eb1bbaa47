-- One execution that can happen.
use Rattle.std.proofs.Common.{◌≡◌, inl, inr, ℕ, true, false, Some, None, List, [], ◌∷◌, length, refl, sym, ap, subst, arith, decimal}
use Rattle.psu_disk.specs.Disk.{DiskState, IsCrashImage}
use Rattle.psu_map.specs.Map.{Item}
use Rattle.psu_items.specs.Image.{Represents, EachRepresents, EachIsEither}
use Rattle.psu_nv.specs.Commands.{apply, PowerOnClear}
use Rattle.psu_nv.specs.Contents.{items_of, IsContents, Contents, fits}
use Rattle.psu_exec.specs.Device.{Done, Answer, Parked, Runs, Means, kept_unless, State, power_on, after_unit}
use Rattle.psu_power_loss.proofs.Clearing.{sound_cleared, sound_kept, fits_cleared}
use Rattle.psu_exec.specs.Calls.{Entry, Executed, Settled, Took, GaveBack, Opened, Job, Stored, job_of, job_out, with_stored, opened, after_settle}
use Rattle.psu_power_loss.specs.World.{World, Running, Stopped, Restarting, Loss, Stop, DiskCall, Moves, KeepsMaps, Restart, answered, without_power, recorded, Run, IsStart}
use Rattle.psu_power_loss.specs.Lives.{unit, asks, clears, cleared, kept_again, stored_life}
use Rattle.psu_power_loss.specs.Headline.{SomeLife, BrokenOffRestart}
use Rattle.psu_power_loss.proofs.Invariant.{only_left}

-- the world of a device that has just been powered on
unfoldable pub fresh : ℕ → Contents → DiskState → World
fresh limit c disk = record { state = power_on limit c; history = []; disk = disk; mode = Running; limit = limit; start = c }

abbrev pub called : World → Entry → State → DiskState → World
called w e s disk = record w { state = s; history = recorded w.state e w.history; disk = disk }

-- a world at its start is that one
pub is_fresh : (w : World) → IsStart w → w ≡ fresh w.limit w.start w.disk
unfolding fresh
is_fresh w s = rw (s.state, s.history, s.mode) refl

-- the first execution, up to the disk call in its last commit
record FirstLife (w : World) (disk torn : DiskState) : Type 0 where
  pub last : World
  pub run : Run w (stored_life w disk torn) last
  pub one : answered last.history ≡ 1
  pub three : length last.history ≡ 3
  pub torn_is : last.disk ≡ torn

life_of : (limit : ℕ) (c : Contents) (d e torn : DiskState) → IsContents c → fits limit c ≡ true → fits limit (kept_again (fresh limit c d)) ≡ true → EachRepresents e limit (items_of (cleared (fresh limit c d))) → Moves e torn
    → EachIsEither torn limit (items_of (cleared (fresh limit c d))) (items_of (kept_again (fresh limit c d))) → FirstLife (fresh limit c d) e torn
unfolding fresh
life_of limit c d e torn sound fit again_fits each moves either =
    let cleared_is : IsContents (apply c (PowerOnClear None)) = sound_cleared c sound in
    let cleared_fits : fits limit (apply c (PowerOnClear None)) ≡ true = fits_cleared limit c fit in
    let again_is : IsContents (kept_again (fresh limit c d)) = sound_kept (apply c (PowerOnClear None)) _ cleared_is in
    let m : List Item = items_of (apply c (PowerOnClear None)) in
    let w0 : World = fresh limit c d in
    let open_one : Entry = Opened (Some 1) in
    let w1 : World = called w0 open_one (opened w0.state (Some 1)) d in
    let first : Entry = Executed 1 (unit (clears true)) Done in
    let w2 : World = called w1 first (after_unit w1.state 1 (unit (clears true)) Done) d in
    let query : Entry = Executed 1 (unit asks) Parked in
    let w3 : World = called w2 query (after_unit w2.state 1 (unit asks) Parked) d in
    let took : Entry = Took (Job (job_of (job_out w3.state.flush))) in
    let w4 : World = called w3 took (record w3.state { flush = job_out w3.state.flush }) d in
    let back : Entry = GaveBack (Stored limit m) (Some (1 ∷ [])) in
    let w5 : World = called w4 back (with_stored w4.state) e in
    let settle : Entry = Settled 1 (Answer (decimal 1)) in
    let w6 : World = called w5 settle (after_settle w5.state 1 (Answer (decimal 1))) e in
    let more : Entry = Executed 1 (unit (clears false)) Done in
    let w7 : World = called w6 more (after_unit w6.state 1 (unit (clears false)) Done) e in
    let again : Entry = Took (Job (job_of (job_out w7.state.flush))) in
    let w8 : World = called w7 again (record w7.state { flush = job_out w7.state.flush }) e in
    let w9 : World = record w8 { disk = torn } in record {
      last = w9;
      run = (
        w1,
        (w1.state, refl, inl (refl, refl), refl, refl),
        (
          w2,
          (w2.state, refl, inl (refl, record { may = Runs (record { free = refl; due = refl }) (Means refl (inl (sym (ap (kept_unless None true) cleared_fits)))); is = refl; sound = cleared_is; fitting = cleared_fits }), refl, refl),
          (
            w3,
            (w3.state, refl, inl (refl, record { may = Runs (record { free = refl; due = refl }) (Means refl (inl refl)); is = refl; sound = cleared_is; fitting = cleared_fits }), refl, refl),
            (
              w4,
              (w4.state, refl, inl ((refl, inr (refl, omega arith), refl), refl), refl, refl),
              (
                w5,
                (w5.state, refl, inl (record { out = refl; expected = (refl, refl); gives = refl; over_is = refl }), each, refl),
                (
                  w6,
                  (w6.state, refl, inl (refl, refl, refl), refl, refl),
                  (
                    w7,
                    (w7.state, refl, inl (refl, record { may = Runs (record { free = refl; due = refl }) (Means refl (inl (sym (ap (kept_unless None true) again_fits)))); is = refl; sound = again_is; fitting = again_fits }), refl, refl),
                    (
                      w8,
                      (w8.state, refl, inl ((refl, inr (refl, omega arith), refl), refl), refl, refl),
                      (w9, (moves, inl (record { running = refl; out = refl; either = either }, refl)), refl),
                    ),
                  ),
                ),
              ),
            ),
          ),
        ),
      );
      one = refl;
      three = refl;
      torn_is = refl;
    }

life_from : (limit : ℕ) (c : Contents) (d e torn : DiskState) → IsContents c → fits limit c ≡ true → (w : World) → w ≡ fresh limit c d → fits limit (kept_again w) ≡ true → EachRepresents e limit (items_of (cleared w)) → Moves e torn
    → EachIsEither torn limit (items_of (cleared w)) (items_of (kept_again w)) → FirstLife w e torn
unfolding fresh
life_from limit c d e torn sound fit w start = subst
    (λ (v : World). fits limit (kept_again v) ≡ true → EachRepresents e limit (items_of (cleared v)) → Moves e torn → EachIsEither torn limit (items_of (cleared v)) (items_of (kept_again v)) → FirstLife v e torn)
    (sym start) (life_of limit c d e torn sound fit)

first_life : (w : World) (e torn : DiskState) → IsStart w → fits w.limit (kept_again w) ≡ true → EachRepresents e w.limit (items_of (cleared w)) → Moves e torn → EachIsEither torn w.limit (items_of (cleared w)) (items_of (kept_again w)) → FirstLife w e torn
first_life w e torn start = life_from w.limit w.start w.disk e torn start.sound start.fitting w (is_fresh w start)

-- power is lost, and a restart finds what the crash image represents
pub loses : (w : World) (image : List ℕ) (limit : ℕ) (c : Contents) → IsCrashImage w.disk image → IsContents c → fits limit c ≡ true → Represents image limit (items_of c) → (now : World) × Run w (Loss image ∷ Restart limit c ∷ []) now
loses w image limit c left sound fit stands =
    let lost : World = record w { disk = without_power image; mode = Stopped } in
    let now : World = record { state = power_on limit c; history = []; disk = without_power image; mode = Running; limit = limit; start = c } in
    (now, (lost, (left, refl), (now, (record { down = tt; sound = sound; fitting = fit; stands = λ other is. rw (only_left image other is) stands }, refl), refl)))

-- the process ends, a restart is interrupted, and the next one finds what the crash image represents
ends : (w : World) (swept shut : DiskState) (image : List ℕ) (limit : ℕ) (c : Contents) → Moves w.disk swept → KeepsMaps w.disk swept → IsCrashImage swept image → Moves (without_power image) shut → KeepsMaps (without_power image) shut
    → IsContents c → fits limit c ≡ true → Represents image limit (items_of c) → (now : World) × Run w (Stop ∷ DiskCall swept ∷ Loss image ∷ DiskCall shut ∷ Restart limit c ∷ []) now
ends w swept shut image limit c sweeps keeps left shuts same sound fit stands =
    let stopped : World = record w { mode = Stopped } in
    let begun : World = record w { disk = swept; mode = Restarting w.disk } in
    let lost : World = record w { disk = without_power image; mode = Stopped } in
    let again : World = record w { disk = shut; mode = Restarting (without_power image) } in
    let now : World = record { state = power_on limit c; history = []; disk = shut; mode = Running; limit = limit; start = c } in
    let each : EachRepresents shut limit (items_of c) = λ other is. let from = same other is in from.2 limit (items_of c) (rw (only_left image from.0 from.1) stands) in (
      now,
      (
        stopped,
        refl,
        (
          begun,
          (sweeps, inr (record { down = tt; same = keeps }, refl)),
          (lost, (left, refl), (again, (shuts, inr (record { down = tt; same = same }, refl)), (now, (record { down = tt; sound = sound; fitting = fit; stands = each }, refl), refl))),
        ),
      ),
    )

pub some_life : SomeLife
some_life w e torn image start again each moves either left stands =
    let life = first_life w e torn start again each moves either in
    let end = loses life.last image w.limit (cleared w) (rw life.torn_is left) (sound_cleared w.start start.sound) (fits_cleared w.limit w.start start.fitting) stands in
    (life.last, end.0, life.run, life.one, life.three, end.1)

pub broken_off_restart : BrokenOffRestart
broken_off_restart w e torn swept shut image start again each moves either sweeps keeps left stands shuts same =
    let life = first_life w e torn start again each moves either in
    let end = ends life.last swept shut image w.limit (cleared w) (rw life.torn_is sweeps) (rw life.torn_is keeps) left shuts same (sound_cleared w.start start.sound) (fits_cleared w.limit w.start start.fitting) stands in
    (life.last, end.0, life.run, life.one, end.1)
