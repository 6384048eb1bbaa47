-- An execution in which the store breaks and is reopened.
use Rattle.std.proofs.Common.{◌≡◌, inl, inr, ℕ, true, Some, None, ap, List, [], ◌∷◌, refl, sym, subst, arith, decimal}
use Rattle.psu_disk.specs.Disk.{DiskState}
use Rattle.psu_disk.specs.Ranges.{reads_left}
use Rattle.psu_map.specs.Map.{Item}
use Rattle.psu_map.specs.Batch.{Edit}
use Rattle.psu_items.specs.Image.{EachRepresents, EachIsEither}
use Rattle.psu_items.specs.declared.broken.BrokenCause.TheVariants.{Device}
use Rattle.psu_nv.specs.Commands.{apply, PowerOnClear}
use Rattle.psu_nv.specs.Contents.{items_of, IsContents, Contents, fits}
use Rattle.psu_exec.specs.Batch.{batch}
use Rattle.psu_exec.specs.Device.{Done, Answer, Error, Parked, Runs, Means, kept_unless, after_unit}
use Rattle.psu_lex.specs.declared.scpi_error.ScpiError.TheVariants.{StorageFault}
use Rattle.psu_power_loss.proofs.Clearing.{sound_cleared, fits_cleared}
use Rattle.psu_exec.specs.Calls.{Entry, Executed, Settled, Took, GaveBack, Opened, Job, Failed, Reopened, job_of, job_out, broken, with_stored, opened, after_settle}
use Rattle.psu_power_loss.specs.World.{World, Loss, Restart, Moves, answered, Run}
use Rattle.psu_power_loss.specs.Lives.{unit, asks, clears, cleared, broken_life}
use Rattle.psu_power_loss.specs.Headline.{BrokenLife}
use Rattle.psu_power_loss.proofs.Life.{fresh, called, is_fresh, loses}

life_from : (limit : ℕ) (c : Contents) (d torn e : DiskState) → IsContents c → fits limit c ≡ true → (w : World) → w ≡ fresh limit c d → Moves d torn → EachIsEither torn limit (items_of c) (items_of (apply c (PowerOnClear None))) → Moves torn e
    → EachRepresents e limit (items_of (apply c (PowerOnClear None)))
    → (last : World) × (now : World) × Run w (broken_life w torn e) last × (answered last.history ≡ 3) × Run last (Loss e.bytes ∷ Restart w.limit (cleared w) ∷ []) now
unfolding fresh
life_from limit c d torn e sound fit w start breaks either mends each =
    let cleared_is : IsContents (apply c (PowerOnClear None)) = sound_cleared c sound in
    let cleared_fits : fits limit (apply c (PowerOnClear None)) ≡ true = fits_cleared limit c fit in
    let first_map : List Item = items_of c in
    let goal : List Item = items_of (apply c (PowerOnClear None)) in
    let edits : List Edit = batch first_map goal in
    let w0 : World = fresh limit c d in
    let open_one : Entry = Opened (Some 1) in
    let w1 : World = called w0 open_one (opened w0.state (Some 1)) d in
    let first : Entry = Executed 1 (unit (clears true)) Done in
    let w2 : World = called w1 first (after_unit w1.state 1 (unit (clears true)) Done) d in
    let query : Entry = Executed 1 (unit asks) Parked in
    let w3 : World = called w2 query (after_unit w2.state 1 (unit asks) Parked) d in
    let took : Entry = Took (Job (job_of (job_out w3.state.flush))) in
    let w4 : World = called w3 took (record w3.state { flush = job_out w3.state.flush }) d in
    let written : World = record w4 { disk = torn } in
    let fails : Entry = GaveBack (Failed limit first_map edits Device) (Some (1 ∷ [])) in
    let w5 : World = called written fails (record w4.state { flush = broken w4.state.flush }) torn in
    let settle : Entry = Settled 1 (Error StorageFault) in
    let w6 : World = called w5 settle (after_settle w5.state 1 (Error StorageFault)) torn in
    let refused : Entry = Executed 1 (unit asks) (Error StorageFault) in
    let w7 : World = called w6 refused (after_unit w6.state 1 (unit asks) (Error StorageFault)) torn in
    let again : Entry = Took (Job (job_of (job_out w7.state.flush))) in
    let w8 : World = called w7 again (record w7.state { flush = job_out w7.state.flush }) torn in
    let mended : World = record w8 { disk = e } in
    let back : Entry = GaveBack (Reopened limit goal) (Some []) in
    let w9 : World = called mended back (with_stored w8.state) e in
    let last : Entry = Executed 1 (unit asks) (Answer (decimal 1)) in
    let w10 : World = called w9 last (after_unit w9.state 1 (unit asks) (Answer (decimal 1))) e in
    let end = loses w10 e.bytes limit (apply c (PowerOnClear None)) (reads_left e) cleared_is cleared_fits (each e.bytes (reads_left e)) in
    subst (λ (v : World). (last : World) × (now : World) × Run v (broken_life v torn e) last × (answered last.history ≡ 3) × Run last (Loss e.bytes ∷ Restart v.limit (cleared v) ∷ []) now) (sym start) (
      w10,
      end.0,
      (
        w1,
        (w1.state, refl, inl (refl, refl), refl, refl),
        (
          w2,
          (w2.state, refl, inl (refl, record { may = Runs (record { free = refl; due = refl }) (Means refl (inl (sym (ap (kept_unless None true) cleared_fits)))); is = refl; sound = cleared_is; fitting = cleared_fits }), refl, refl),
          (
            w3,
            (w3.state, refl, inl (refl, record { may = Runs (record { free = refl; due = refl }) (Means refl (inl refl)); is = refl; sound = cleared_is; fitting = cleared_fits }), refl, refl),
            (
              w4,
              (w4.state, refl, inl ((refl, inr (refl, omega arith), refl), refl), refl, refl),
              (
                written,
                (breaks, inl (record { running = refl; out = refl; either = either }, refl)),
                (
                  written,
                  (Moves.Stays refl, inl (record { running = refl; out = refl; either = either }, refl)),
                  (
                    w5,
                    (w5.state, refl, inl (record { out = refl; expected = (refl, refl, refl); gives = refl; over_is = refl }), either, refl),
                    (
                      w6,
                      (w6.state, refl, inl (refl, refl, refl), refl, refl),
                      (
                        w7,
                        (w7.state, refl, inl (refl, record { may = Runs (record { free = refl; due = refl }) (Means refl (inl refl)); is = refl; sound = cleared_is; fitting = cleared_fits }), refl, refl),
                        (
                          w8,
                          (w8.state, refl, inl ((refl, inl refl, refl), refl), refl, refl),
                          (
                            mended,
                            (mends, inl (record { running = refl; out = refl; either = λ image left. inr (each image left) }, refl)),
                            (
                              w9,
                              (w9.state, refl, inl (record { out = refl; expected = (refl, inr refl); gives = inl (refl, refl); over_is = refl }), each, refl),
                              (w10, (w10.state, refl, inl (refl, record { may = Runs (record { free = refl; due = refl }) (Means refl (inl refl)); is = refl; sound = cleared_is; fitting = cleared_fits }), refl, refl), refl),
                            ),
                          ),
                        ),
                      ),
                    ),
                  ),
                ),
              ),
            ),
          ),
        ),
      ),
      refl,
      end.1,
    )

pub breaks_and_mends : BrokenLife
breaks_and_mends w torn e start breaks either mends each = life_from w.limit w.start w.disk torn e start.sound start.fitting w (is_fresh w start) breaks either mends each
