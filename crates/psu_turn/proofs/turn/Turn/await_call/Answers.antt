use Rattle.std.proofs.Common.{rules}
use Rattle.psu_turn.proofs.Keeping.{knows_on, same_name, same_at}
use Rattle.psu_turn.proofs.turn.Turn.await_call.Goals as goal

pub load-requires : goal.load-requires
load-requires g c = let same = c.loop.invariant.2 in (
  search rules,
  search rules,
  knows_on g.T.Machine.state g.T.Machine.allows _ _ _ _ _ _ (same_at _ _ _ same.me c.requires.waiting) (same_name _ _ _ same.me c.requires.named),
)
