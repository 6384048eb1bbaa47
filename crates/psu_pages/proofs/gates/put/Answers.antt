use Rattle.std.proofs.Common.{length}
use Rattle.psu_pages.proofs.Putting.{run_written}
use Rattle.psu_pages.proofs.Quiet.{quiet_runs}
use Rattle.psu_pages.proofs.gates.put.Goals as goal

pub returns-in_err-write-clause-left : goal.returns-in_err-write-clause-left
returns-in_err-write-clause-left g c = record {
  left = λ h. c.write.ensures.left h;
  time = λ h t. run_written c.args.at (length c.args.bytes.now) (g.met.D.Disk.only_now t c.args.disk.now) (c.write.ensures.left h) (c.write.ensures.time t);
}

pub returns-in_err-make_sure-clause-left : goal.returns-in_err-make_sure-clause-left
returns-in_err-make_sure-clause-left g c = record {
  left = λ h x l. c.write.ensures.left h x (c.make_sure.ensures.left.left h x l);
  time = λ h t. quiet_runs (run_written c.args.at (length c.args.bytes.now) (g.met.D.Disk.only_now t c.args.disk.now) (c.write.ensures.left h) (c.write.ensures.time t)) (c.write.ensures.left h) (c.make_sure.ensures.left.time h t);
}

pub returns-clause-left : goal.returns-clause-left
returns-clause-left g c = record {
  left = λ h x l. c.write.ensures.left h x (c.make_sure.ensures.left.left h x l);
  time = λ h t. quiet_runs (run_written c.args.at (length c.args.bytes.now) (g.met.D.Disk.only_now t c.args.disk.now) (c.write.ensures.left h) (c.write.ensures.time t)) (c.write.ensures.left h) (c.make_sure.ensures.left.time h t);
}
