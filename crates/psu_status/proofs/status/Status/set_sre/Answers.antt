use Rattle.psu_status.proofs.Fifteen.{bit_6_of_sre}
use Rattle.psu_status.proofs.status.Status.set_sre.Goals as goal

pub invariant_of-self : goal.invariant_of-self
invariant_of-self c = record {
  sre = bit_6_of_sre c.args.bits;
  operation = c.self.invariant.operation;
  questionable = c.self.invariant.questionable;
  idle = c.self.invariant.idle;
  queue = c.self.invariant.queue;
}
