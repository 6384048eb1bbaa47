use Rattle.psu_run.proofs.Common.{◌≡◌, ℕ, List, [], refl, ap, ◌∙◌, subst, sym, Some, arith, Item, NotStarted, Opened, Represents, Running, Serves, World, least_free, power_on, reads_left, represents_readable, serves_opened, RecoverFault, start_of, Open, Device, map}
use Rattle.psu_run.proofs.Going.{worn_shows}
use Rattle.psu_run.specs.Ends.{cause_of}
use Rattle.psu_run.specs.declared.recover_fault.RecoverFault.TheVariants as recover_fault
use Rattle.psu_exec.specs.declared.start_cause.StartCause.TheVariants as start
use Rattle.psu_exec.specs.Starts.{AreBad}
use Rattle.psu_exec.specs.declared.start_cause.PowerCause.{PowerCause}
use Rattle.psu_exec.specs.declared.start_cause.PowerCause.TheVariants as power
use Rattle.psu_exec.specs.Starts.{start_of_power_on}
use Rattle.psu_run.proofs.powered_device.PoweredDevice.of_store.Goals as goal

-- why the power-on failed, where the image represents the map
refused : (cause : PowerCause) (image : List ℕ) (limit n : ℕ) (map : List Item) → Represents image limit map → (cause ≡ power.BadItems → AreBad limit map) → NotStarted image n n (start_of_power_on cause)
refused power.BadItems image limit n map stands bad = (limit, map, stands, bad refl)
refused power.Memory image limit n map stands bad = (refl, represents_readable image limit map stands)

pub returns-in-Err-clause-refused : goal.returns-in-Err-clause-refused
returns-in-Err-clause-refused g c =
    let fault = c.in-Err.fault in (
      c.power_fault.result,
      c.from.ensures,
      λ image stands. subst (NotStarted image (g.D.Disk.failures c.args.store.disk) (g.D.Disk.failures c.args.store.disk)) (sym c.power_fault.ensures) (refused fault.cause image c.args.store.limit _ c.args.store.items stands c.in-Err.ensures.bad),
    )

pub returns-in-Err-clause-own : goal.returns-in-Err-clause-own
returns-in-Err-clause-own g c = λ h. c.items.ensures.represents h _ (reads_left (g.D.Disk.state c.args.store.disk))

pub returns-clause-own : goal.returns-clause-own
returns-clause-own g c = λ h. c.items.ensures.represents h _ (reads_left (g.D.Disk.state c.args.store.disk))

pub returns-clause-starts : goal.returns-clause-starts
returns-clause-starts g c = λ image known.
    let on = c.in-Ok.exec in let new = c.open_session.new.self in let store = c.args.store in let power = c.in-Ok.ensures in let disk = g.D.Disk.state store.disk in
    let serves = serves_opened on.device new.device (Some c.in-Ok-open_session.session) c.in-Ok-open_session.ensures.opened in
    let opens = subst (λ n. Serves on.device (Opened n) new.device) (serves.0 ∙ ap least_free power.state) serves in
    let limit : on.device.flush.limit ≡ store.limit = let is = power.state in grind arith in
    let state = power.state ∙ ap (λ (n : ℕ). power_on n on.device.flush.contents) (sym limit) in
    let first : World = record { state = on.device; history = []; disk = disk; mode = Running; limit = on.device.flush.limit; start = on.device.flush.contents } in
    let opened : World = record first { state = new.device } in (
      opened,
      record {
        on = first;
        state = state;
        history = refl;
        mode = refl;
        sound = power.sound;
        fitting = rw limit power.fitting;
        disk = λ h. rw (limit, power.found) (c.items.ensures.represents h);
        found = λ h. rw (limit, power.found) (known h).0;
        size = λ h. (known h).1;
        opens = (disk, (new.device, refl, opens, refl, refl));
      },
      (refl, refl, refl, refl),
    )

-- a power-on makes no call of the disk
not_opened : (why : RecoverFault) (cause : PowerCause) → start_of why ≡ start_of_power_on cause → cause_of why ≡ Open start.Device → ⊥
not_opened (recover_fault.Start why) power.BadItems is e = let bad = sym is in cc
not_opened (recover_fault.Start why) power.Memory is e = cc
not_opened (recover_fault.Memory sign) cause is e = cc

no_device : (why : RecoverFault) → cause_of why ≡ Device → ⊥
no_device (recover_fault.Start why) e = cc
no_device (recover_fault.Memory sign) e = cc

pub returns-in-Err-clause-failed : goal.returns-in-Err-clause-failed
returns-in-Err-clause-failed g c = record {
  opening = λ e. absurd (not_opened c.power_fault.result c.in-Err.fault.cause c.power_fault.ensures (sym c.from.ensures ∙ e));
  device = λ e. absurd (no_device c.power_fault.result (sym c.from.ensures ∙ e));
  worn = λ worn h. worn_shows (g.D.Disk.state c.in-Err.fault.store.disk) c.in-Err.fault.store.number (λ image left. c.number.ensures.represents h image left ∙ c.number.ensures.value) worn;
}

pub invariant_of-result-clause-last : goal.invariant_of-result-clause-last
invariant_of-result-clause-last g c = grind arith
