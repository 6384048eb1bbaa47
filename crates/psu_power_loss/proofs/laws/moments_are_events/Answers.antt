use Rattle.psu_power_loss.proofs.Moments.{keeps_map}
use Rattle.psu_power_loss.proofs.laws.moments_are_events.Goals as goal

pub returns-clause-jobs : goal.returns-clause-jobs
returns-clause-jobs g c records first mid last limit before target whole later keeps image left = whole.each image (keeps image (g.met.D.Disk.counts_now records mid (g.D.Disk.moment first) image later left))

pub returns-clause-openings : goal.returns-clause-openings
returns-clause-openings g c records first mid last whole later keeps image left =
    keeps_map (g.D.Disk.state first) image (whole.each image (keeps image (g.met.D.Disk.counts_now records mid (g.D.Disk.moment first) image later left)))
