use Rattle.std.proofs.Common.{rules, Some, ap, sym, ◌∙◌, ◌∷◌}
use Rattle.atomic_table.specs.Table.{rest}
use Rattle.psu_turn.specs.Steps.{Sat}
use Rattle.psu_turn.proofs.Keeping.{takes_on, same_name, same_at}
use Rattle.psu_turn.proofs.turn.Turn.take.Goals as goal

pub load-requires : goal.load-requires
load-requires g c = let same = c.loop.invariant.2 in (
  search rules,
  search rules,
  takes_on g.T.Machine.state g.T.Machine.allows _ _ _ _ _ _ (same_at _ _ _ same.me c.requires.waiting.0) (same_name _ _ _ same.me c.requires.named),
)

pub exchange-requires : goal.exchange-requires
exchange-requires g c = let same = c.loop.invariant.2 in
    let t = (c.load.ensures.2 c.args.ticket (same_at _ _ _ same.me c.requires.waiting.0)).0 c.if-load-ticket.true in
    let out = ap (λ (m : Sat g.row.T.Denot g.row.T-State.Denot g.row.T-Entry.Denot). m.1) t.3 in
    (search rules, (Some t.0, out ∙ ap (λ l. (0, Some t.0) ∷ rest l) (sym out)))
