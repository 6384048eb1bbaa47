use Rattle.std.proofs.Common.{sym, ◌∙◌, ap, ℕ, take}
use Rattle.psu_lex.proofs.WrittenData.{up_to_cut, written_at}
use Rattle.psu_lex.proofs.data_scan.written_end.Goals as goal

pub returns-clause-written : goal.returns-clause-written
returns-clause-written c =
    written_at c.args.body.now c.front.result.now c.unwrap_or-end.result c.dark_end.result
    (up_to_cut c.args.body.now c.memchr.result c.memchr.ensures ∙ ap (λ (z : ℕ). take z c.args.body.now) (sym c.unwrap_or-end.ensures))
    c.front.ensures c.dark_end.ensures.within c.dark_end.ensures.white c.dark_end.ensures.dark
