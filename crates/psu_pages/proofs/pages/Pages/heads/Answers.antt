use Rattle.std.proofs.Common.{List, sym, subst}
use Rattle.std.specs.List.{AllByRecursion}
use Rattle.std.specs.Prelude.{◌≡◌}
use Rattle.psu_disk.specs.Ranges.{reads_left}
use Rattle.psu_pages.specs.Image.{Head, head_at}
use Rattle.psu_pages.proofs.Encoding.{heads_there}
use Rattle.psu_pages.proofs.pages.Pages.heads.Goals as goal

pub returns-clause-there : goal.returns-clause-there
returns-clause-there g c = λ h sure.
    let disk = g.D.Disk.state (let p = c.args.self.now in p.disk) in
    let p = c.args.self.now in
    subst (λ (hs : List Head). AllByRecursion (λ (head : Head). head_at disk.bytes head.at ≡ head) hs) (sym c.deref.ensures.value)
    (heads_there p.root disk.bytes p.heads.items (p.encodes h sure disk.bytes (reads_left disk)).has_contents.heads_are)
