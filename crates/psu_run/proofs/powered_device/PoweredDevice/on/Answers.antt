use Rattle.psu_run.proofs.Going.{for_disk}
use Rattle.psu_run.proofs.Common.{refl, ◌∙◌, ℕ, sym, subst, arith, inl, IsAt, IsOldOrSame, LeavesOnly, NotStarted, at_power_on, passed, started, disk_from, start_of}
use Rattle.psu_run.proofs.powered_device.PoweredDevice.on.Goals as goal

-- ---- on a store that is open

pub returns-in_ok-powered-in-Store-clause-starts : goal.returns-in_ok-powered-in-Store-clause-starts
returns-in_ok-powered-in-Store-clause-starts g c =
    let e = c.in_ok-powered-in-Store.ensures in let store = c.in-Store.store in let on = e.starts (g.D.Disk.state store.disk).bytes (λ h. (e.own h, refl)) in
    rw c.in-Store.is (on.0, on.1, for_disk c.in_ok-powered-in-Store.powered.exec (λ disk. IsAt c.in_ok-powered-in-Store.powered.exec disk (at_power_on on.0 (g.D.Disk.failures disk))) e.stored on.2)

pub returns-in_ok-powered-in-Store-clause-disk : goal.returns-in_ok-powered-in-Store-clause-disk
returns-in_ok-powered-in-Store-clause-disk g c =
    let store = c.in-Store.store in rw c.in-Store.is (store.disk, c.in_ok-powered-in-Store.ensures.stored, refl, refl)

pub returns-in_ok-powered-in-Store-clause-time : goal.returns-in_ok-powered-in-Store-clause-time
returns-in_ok-powered-in-Store-clause-time g c = λ h t.
    let store = c.in-Store.store in
    rw c.in-Store.is (for_disk c.in_ok-powered-in-Store.powered.exec (λ disk. LeavesOnly g.D.Disk.moment g.D.Disk.left_since store.disk disk (IsOldOrSame (g.D.Disk.state store.disk))) c.in_ok-powered-in-Store.ensures.stored
    (started g.D.Disk.moment g.D.Disk.left_since store.disk (IsOldOrSame (g.D.Disk.state store.disk)) (λ x left. inl (g.met.D.Disk.only_now t store.disk x left))))

pub returns-in_err-powered-in-Store-clause-refused : goal.returns-in_err-powered-in-Store-clause-refused
returns-in_err-powered-in-Store-clause-refused g c =
    let e = c.in_err-powered-in-Store.ensures in
    passed c.from_residual.result c.in_err-powered-in-Store.field-0.0 _ c.from_residual.ensures.1
    (rw (e.disk, c.in-Store.is) (e.refused.0, e.refused.1, λ h. e.refused.2 (g.D.Disk.state c.in-Store.store.disk).bytes (e.own h)))

pub returns-in_err-powered-in-Store-clause-time_refused : goal.returns-in_err-powered-in-Store-clause-time_refused
returns-in_err-powered-in-Store-clause-time_refused g c = λ h t.
    let store = c.in-Store.store in
    passed c.from_residual.result c.in_err-powered-in-Store.field-0.0 _ c.from_residual.ensures.1
    (rw (c.in_err-powered-in-Store.ensures.disk, c.in-Store.is)
    (started g.D.Disk.moment g.D.Disk.left_since store.disk (IsOldOrSame (g.D.Disk.state store.disk)) (λ x left. inl (g.met.D.Disk.only_now t store.disk x left))))

pub returns-in_err-powered-in-Store-clause-left : goal.returns-in_err-powered-in-Store-clause-left
returns-in_err-powered-in-Store-clause-left g c = λ h.
    passed c.from_residual.result c.in_err-powered-in-Store.field-0.0 _ c.from_residual.ensures.1
    (rw (c.in_err-powered-in-Store.ensures.disk, c.in-Store.is) (λ limit map each. each))

-- ---- on an image

pub returns-in-Err-clause-refused : goal.returns-in-Err-clause-refused
returns-in-Err-clause-refused g c =
    let refused = c.in-Err.ensures in
    (c.opening_fault.result, c.from.ensures, λ h. subst (NotStarted (g.D.Disk.state (disk_from c.args.start)).bytes (g.D.Disk.failures (disk_from c.args.start)) (g.D.Disk.failures c.in-Err.refused.disk)) (sym c.opening_fault.ensures) (grind arith))

pub returns-in-Err-clause-left : goal.returns-in-Err-clause-left
returns-in-Err-clause-left g c = rw c.in-Image.is (λ h limit map each. (c.in-Err.ensures.left limit map each).left h)

pub returns-in_ok-powered-in-Image-clause-starts : goal.returns-in_ok-powered-in-Image-clause-starts
returns-in_ok-powered-in-Image-clause-starts g c =
    let opened = c.in-Ok.ensures in let disk = c.in-Image.disk in let store = c.in-Ok.store in let e = c.in_ok-powered-in-Image.ensures in
    let on = e.starts (g.D.Disk.state disk).bytes (λ h. (opened.represented h, g.met.D.Disk.sized h store.disk ∙ opened.step.extent ∙ sym (g.met.D.Disk.sized h disk))) in
    rw c.in-Image.is (on.0, on.1, for_disk c.in_ok-powered-in-Image.powered.exec (λ d. IsAt c.in_ok-powered-in-Image.powered.exec d (at_power_on on.0 (g.D.Disk.failures d))) e.stored on.2)

pub returns-in_ok-powered-in-Image-clause-disk : goal.returns-in_ok-powered-in-Image-clause-disk
returns-in_ok-powered-in-Image-clause-disk g c =
    let store = c.in-Ok.store in let step = c.in-Ok.ensures.step in
    rw c.in-Image.is (store.disk, c.in_ok-powered-in-Image.ensures.stored, step.works, step.extent)

pub returns-in_ok-powered-in-Image-clause-time : goal.returns-in_ok-powered-in-Image-clause-time
returns-in_ok-powered-in-Image-clause-time g c = λ h t.
    let store = c.in-Ok.store in let disk = c.in-Image.disk in
    rw c.in-Image.is (for_disk c.in_ok-powered-in-Image.powered.exec (λ d. LeavesOnly g.D.Disk.moment g.D.Disk.left_since disk d (IsOldOrSame (g.D.Disk.state disk))) c.in_ok-powered-in-Image.ensures.stored (c.in-Ok.ensures.images.time h t))

pub returns-in_err-powered-in-Image-clause-refused : goal.returns-in_err-powered-in-Image-clause-refused
returns-in_err-powered-in-Image-clause-refused g c =
    let e = c.in_err-powered-in-Image.ensures in let opened = c.in-Ok.ensures in let disk = c.in-Image.disk in
    passed c.from_residual-in_err-powered-in-Image.result c.in_err-powered-in-Image.field-0.0 _ c.from_residual-in_err-powered-in-Image.ensures.1
    (let r = e.refused in
    rw (e.disk, c.in-Image.is) (r.0, r.1, λ h. subst (λ (n : ℕ). NotStarted (g.D.Disk.state disk).bytes n (g.D.Disk.failures c.in-Ok.store.disk) (start_of r.0)) opened.step.works (r.2 (g.D.Disk.state disk).bytes (opened.represented h))))

pub returns-in_err-powered-in-Image-clause-left : goal.returns-in_err-powered-in-Image-clause-left
returns-in_err-powered-in-Image-clause-left g c = λ h.
    passed c.from_residual-in_err-powered-in-Image.result c.in_err-powered-in-Image.field-0.0 _ c.from_residual-in_err-powered-in-Image.ensures.1
    (rw (c.in_err-powered-in-Image.ensures.disk, c.in-Image.is) (λ limit map each. (c.in-Ok.ensures.left limit map each).left h))
