use Rattle.std.proofs.Common.{refl}
use Rattle.psu_lex.proofs.HeaderScans.{header_out, parts_shown}
use Rattle.psu_lex.proofs.headers.header_of.Goals as goal

pub returns : goal.returns
returns c =
    let h = header_out c.args.text.now c.requires in
    (h.0, h.1, h.2, parts_shown _ c.args.text.now c.behind_mark-body.result.now c.mark_of-mark.result c.ends_asking-asks.result h.0 h.1 h.2 c.mark_of-mark.ensures c.behind_mark-body.ensures c.ends_asking-asks.ensures refl refl c.without_ask.ensures refl)
