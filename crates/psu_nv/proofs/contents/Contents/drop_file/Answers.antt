use Rattle.psu_nv.specs.Contents.{contents_of}
use Rattle.psu_nv.proofs.Keeping.{kept_without}
use Rattle.psu_nv.proofs.contents.Contents.drop_file.Goals as goal

pub invariant_of-self : goal.invariant_of-self
invariant_of-self g c = kept_without (contents_of c.self.inside.registers c.self.inside.user c.self.inside.macros c.self.inside.enables c.self.inside.files c.self.inside.recall) c.remove.new.self c.args.name.now c.self.invariant c.remove.ensures
