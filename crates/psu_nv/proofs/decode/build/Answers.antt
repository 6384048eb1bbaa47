use Rattle.std.proofs.Common.{sym, subst}
use Rattle.std.specs.List.{AllByRecursion}
use Rattle.psu_map.specs.Map.{Item}
use Rattle.psu_nv.specs.Contents.{IsFile}
use Rattle.psu_nv.specs.Costs.{IsShort}
use Rattle.psu_nv.specs.Decoding.{files_in}
use Rattle.psu_nv.proofs.Parts.{all-map}
use Rattle.psu_nv.proofs.decode.build.Goals as goal

pub of-requires : goal.of-requires
of-requires g c = subst (AllByRecursion IsShort) (sym c.in_ok-files_of.ensures) (all-map IsFile IsShort (files_in c.args.items.now) (λ (i : Item) (file : IsFile i). file.most) c.requires.files)
