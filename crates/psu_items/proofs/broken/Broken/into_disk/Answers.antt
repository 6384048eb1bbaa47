use Rattle.psu_map.specs.Batch.{changed}
use Rattle.psu_items.proofs.Recovering.{each_either}
use Rattle.psu_items.proofs.broken.Broken.into_disk.Goals as goal

pub returns-clause-represents : goal.returns-clause-represents
returns-clause-represents g c = λ h. let s = c.args.self in each_either (g.D.Disk.state s.disk) s.limit s.before (changed s.before s.batch) (s.either h)
