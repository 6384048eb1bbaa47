use Rattle.std.proofs.Common.{◌*◌, ℕ, ◌∙◌, ap, arith, length}
use Rattle.psu_pages.proofs.Steps.{follows_one, run_one, written_one}
use Rattle.psu_pages.proofs.writing.write_page.Goals as goal

pub returns-clause-written : goal.returns-clause-written
returns-clause-written g c = λ h.
    let d = g.D.Disk in
    let bytes = c.bytes.result.now in
    written_one c.args.at _ (length bytes) (ap (λ (p : ℕ). 512 * p) c.from.ensures) c.bytes.ensures.whole bytes (d.state c.args.disk.now).bytes (d.state c.write.new.self).bytes
    (omega (arith, c.bytes.ensures.whole, c.from.ensures, c.requires, g.met.D.Disk.sized h c.args.disk.now)) c.bytes.ensures.whole (c.in_ok-write.ensures.written h)
    ∙ c.bytes.ensures.value

pub returns-in_err-write-clause-left : goal.returns-in_err-write-clause-left
returns-in_err-write-clause-left g c = record {
  left = λ h. follows_one c.args.at _ (length c.bytes.result.now) (ap (λ (p : ℕ). 512 * p) c.from.ensures) c.bytes.ensures.whole _ _ (c.write.ensures.left h);
  time = λ h t.
      run_one c.args.at _ (length c.bytes.result.now) (ap (λ (p : ℕ). 512 * p) c.from.ensures) c.bytes.ensures.whole (g.met.D.Disk.only_now t c.args.disk.now) (c.write.ensures.left h) (c.write.ensures.time t);
}

pub returns-clause-left : goal.returns-clause-left
returns-clause-left g c = record {
  left = λ h. follows_one c.args.at _ (length c.bytes.result.now) (ap (λ (p : ℕ). 512 * p) c.from.ensures) c.bytes.ensures.whole _ _ (c.write.ensures.left h);
  time = λ h t.
      run_one c.args.at _ (length c.bytes.result.now) (ap (λ (p : ℕ). 512 * p) c.from.ensures) c.bytes.ensures.whole (g.met.D.Disk.only_now t c.args.disk.now) (c.write.ensures.left h) (c.write.ensures.time t);
}
