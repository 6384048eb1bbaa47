use Rattle.std.proofs.Common.{◌∙◌, ap, arith, length, rules}
use Rattle.psu_status.specs.Status.{first_request}
use Rattle.psu_status.specs.declared.registers.Registers.{Registers}
use Rattle.psu_status.proofs.Fifteen.{bit_6_of_sre}
use Rattle.psu_status.proofs.FirstRequest.{request_at_power_on}
use Rattle.psu_status.proofs.status.Status.power_on.Goals as goal

pub returns-clause-status : goal.returns-clause-status
returns-clause-status c = search rules

pub returns-clause-request : goal.returns-clause-request
returns-clause-request c = ap first_request (returns-clause-status c) ∙ request_at_power_on c.args.enables c.args.condition

pub invariant_of-result : goal.invariant_of-result
invariant_of-result c = record {
  sre = bit_6_of_sre c.unwrap_or-kept.result.sre;
  operation = c.new.ensures.fifteen;
  questionable = c.standing.ensures.fifteen;
  idle = ap (λ (r : Registers). r.condition) c.new.ensures.registers;
  queue = omega (arith, ap length c.new-2.ensures);
}
