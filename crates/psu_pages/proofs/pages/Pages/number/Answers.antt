use Rattle.psu_pages.proofs.Encoding.{encodes_number}
use Rattle.psu_pages.proofs.pages.Pages.number.Goals as goal

pub returns-clause-represents : goal.returns-clause-represents
returns-clause-represents g c = λ h sure image left.
    let p = c.args.self.now in
    encodes_number p.root p.version p.limit p.number p.heads.items _ image (p.encodes h sure image left)
