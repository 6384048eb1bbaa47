use Rattle.std.proofs.Common.{sym, ◌∙◌}
use Rattle.psu_nv.proofs.Finding.{got_kind, no_kind, no_known}
use Rattle.psu_nv.proofs.contents.Contents.file.Goals as goal

pub returns-in-empty : goal.returns-in-empty
returns-in-empty g c =
    let found = c.in_ok-get.ensures in
    absurd (no_kind c.in_ok-get.field-0.now c.in-empty.len_below (got_kind c.self.inside.files c.args.name.now _ c.self.invariant.files (sym found)))

pub returns-in-None : goal.returns-in-None
returns-in-None g c =
    let found = c.in_ok-get.ensures in
    absurd (no_known c.in_ok-get.field-0.now c.in-len1-up.len_at_least (sym c.of_code.ensures ∙ c.in-None.is) (got_kind c.self.inside.files c.args.name.now _ c.self.invariant.files (sym found)))
