use Rattle.psu_pages.proofs.Encoding.{encodes_version}
use Rattle.psu_pages.proofs.pages.Pages.version.Goals as goal

pub returns-clause-represents : goal.returns-clause-represents
returns-clause-represents g c = λ h sure image left.
    let p = c.args.self.now in
    encodes_version p.root p.version p.limit p.number p.heads.items _ image (p.encodes h sure image left)
