use Rattle.psu_run.proofs.Common.{◌∙◌, arith, refl}
use Rattle.psu_run.proofs.Going.{worn_shows}
use Rattle.psu_run.proofs.powered_device.PoweredDevice.fault.Goals as goal

pub returns-in-Whole : goal.returns-in-Whole
returns-in-Whole g c = record {
  cause_is = refl;
  disk = let there = c.in-Whole.ensures.0 in grind arith;
  worn_is = λ worn. c.args.self.last c.in-Whole.store c.in-Whole.ensures.0 worn;
  worn = λ h worn. worn_shows (g.D.Disk.state c.in-Whole.store.disk) c.in-Whole.store.number (λ image left. c.number.ensures.represents h image left ∙ c.number.ensures.value) worn;
}

pub returns-in-Failed : goal.returns-in-Failed
returns-in-Failed g c = record {
  cause_is = refl;
  disk = let there = c.in-Failed.ensures.0 in grind arith;
  worn_is = λ worn. let broken = c.in-Failed.ensures.3 in cc;
  worn = λ h worn. absurd worn;
}
