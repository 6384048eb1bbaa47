use Rattle.std.proofs.Common.{ap, is_some, sym, subst, ◌∙◌}
use Rattle.psu_map.specs.Map.{get}
use Rattle.psu_nv.specs.Contents.{IsContents, items_of}
use Rattle.psu_nv.specs.Views.{part_of}
use Rattle.psu_nv.proofs.Gets.{part_found}
use Rattle.psu_nv.proofs.Kept.{contents_keys, get_bad}
use Rattle.psu_nv.proofs.contents.Contents.has_item.Goals as goal

pub returns-in-Some : goal.returns-in-Some
returns-in-Some g c =
    let items = items_of c.args.self.now in
    c.has_part.ensures ∙ sym (ap is_some (ap (get items) c.in-Some.ensures.some ∙ part_found c.args.self.now (part_of c.in-Some.part)))

pub returns-in-None : goal.returns-in-None
returns-in-None g c =
    sym (ap is_some (get_bad (items_of c.args.self.now) c.args.key.now (contents_keys c.args.self.now (subst IsContents c.self.view_is c.self.invariant)) c.in-None.ensures.none))
