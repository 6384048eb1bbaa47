use Rattle.std.proofs.Common.{rules, sym, ◌∙◌}
use Rattle.std.proofs.lemmas.Bool.{leb-true}
use Rattle.psu_turn.proofs.Keeping.{draws_on, same_name, same_at}
use Rattle.psu_turn.proofs.turn.Turn.draw.Goals as goal

pub compare_exchange-found-requires : goal.compare_exchange-found-requires
compare_exchange-found-requires g c = let same = c.loop.invariant.2 in let ready = c.requires.ready.0 in (
  search rules,
  search rules,
  draws_on g.T.Machine.state g.T.Machine.allows _ _ _ _ _ _ (same_at _ _ _ same.me ready.idle) (same_name _ _ _ same.me ready.named) (leb-true _ _ (sym c.has_turn.ensures ∙ c.if-has_turn.true)),
)
