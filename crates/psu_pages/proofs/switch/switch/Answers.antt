use Rattle.psu_pages.proofs.Places.{page_gated}
use Rattle.std.proofs.Common.{arith}
use Rattle.psu_pages.proofs.Switching.{HasWrittenContents, touched_written, touched_opened, run_touched, run_touched_opened, left_written, run_written, left_opened, run_opened, encoded, lower}
use Rattle.psu_pages.proofs.switch.switch.Given.{Over}
use Rattle.psu_pages.proofs.switch.switch.Goals.{In_ok-write_contents}
use Rattle.psu_pages.proofs.switch.switch.Goals as goal

written : (g : Over) (c : In_ok-write_contents g) → g.D.Disk.honest → HasWrittenContents c.args.next c.args.contents.now (g.D.Disk.state c.args.disk.now) (g.D.Disk.state c.write_contents.new.disk)
written g c h = record { but = c.write_contents.ensures.seen h; has_contents = c.in_ok-write_contents.ensures.has_contents h; only = c.in_ok-write_contents.ensures.synced h }

pub returns-in_err-write_contents-clause-left : goal.returns-in_err-write_contents-clause-left
returns-in_err-write_contents-clause-left g c = λ v l n b hs i ready. record {
  left = λ h. left_written ready (c.write_contents.ensures.left.left h);
  time = λ h t. run_written ready (c.write_contents.ensures.left.time h t);
}

pub returns-in_err-write_contents-clause-touched : goal.returns-in_err-write_contents-clause-touched
returns-in_err-write_contents-clause-touched g c = record {
  left = λ h. touched_written c.args.next (c.write_contents.ensures.left.left h);
  time = λ h t. run_touched c.args.next (c.write_contents.ensures.left.time h t);
}

pub returns-in_err-set_gate-clause-left : goal.returns-in_err-set_gate-clause-left
returns-in_err-set_gate-clause-left g c = λ v l n b hs i ready. record {
  left = λ h. left_opened ready (written g (goal.at.returns-in_err-set_gate-clause-left g c).In_ok-write_contents h) (c.set_gate.ensures.left.left h);
  time = λ h t. run_opened ready (written g (goal.at.returns-in_err-set_gate-clause-left g c).In_ok-write_contents h) (c.write_contents.ensures.left.time h t) (c.set_gate.ensures.left.time h t);
}

pub returns-in_err-set_gate-clause-touched : goal.returns-in_err-set_gate-clause-touched
returns-in_err-set_gate-clause-touched g c = record {
  left = λ h. touched_opened c.args.next (c.write_contents.ensures.left.left h) (c.set_gate.ensures.left.left h);
  time = λ h t. run_touched_opened c.args.next (c.write_contents.ensures.left.time h t) (c.write_contents.ensures.left.left h) (c.set_gate.ensures.left.time h t);
}

pub returns-clause-left : goal.returns-clause-left
returns-clause-left g c = λ v l n b hs i ready. record {
  left = λ h. left_opened ready (written g (goal.at.returns-clause-left g c).In_ok-write_contents h) (c.set_gate.ensures.left.left h);
  time = λ h t. run_opened ready (written g (goal.at.returns-clause-left g c).In_ok-write_contents h) (c.write_contents.ensures.left.time h t) (c.set_gate.ensures.left.time h t);
}

pub returns-clause-touched : goal.returns-clause-touched
returns-clause-touched g c = record {
  left = λ h. touched_opened c.args.next (c.write_contents.ensures.left.left h) (c.set_gate.ensures.left.left h);
  time = λ h t. run_touched_opened c.args.next (c.write_contents.ensures.left.time h t) (c.write_contents.ensures.left.left h) (c.set_gate.ensures.left.time h t);
}

pub returns-clause-encoded : goal.returns-clause-encoded
returns-clause-encoded g c = λ h v l n b hs i ready. encoded ready (written g (goal.at.returns-clause-encoded g c).In_ok-write_contents h) (record { but = c.set_gate.ensures.seen h; is_open = c.in_ok-set_gate.ensures.done h; only = c.in_ok-set_gate.ensures.synced h })

pub returns-clause-lower : goal.returns-clause-lower
returns-clause-lower g c = λ h v l n b hs i ready. lower ready (written g (goal.at.returns-clause-lower g c).In_ok-write_contents h) (record { but = c.set_gate.ensures.seen h; is_open = c.in_ok-set_gate.ensures.done h; only = c.in_ok-set_gate.ensures.synced h })

pub returns-clause-spelled : goal.returns-clause-spelled
returns-clause-spelled g c = λ h.
    let d = g.D.Disk in
    page_gated c.args.next 165 c.args.contents.now (d.state c.write_contents.new.disk).bytes (d.state c.set_gate.new.disk).bytes (omega (arith, c.requires.roots, c.write_contents.ensures.step.extent, g.met.D.Disk.sized h c.write_contents.new.disk)) (c.in_ok-write_contents.ensures.has_contents h) (c.set_gate.ensures.seen h) (c.in_ok-set_gate.ensures.done h)
