use Rattle.std.proofs.Common.{rules}
use Rattle.psu_turn.proofs.Keeping.{splits_on, named_on}
use Rattle.psu_turn.proofs.Walks.{child_unnamed, child_idle}
use Rattle.psu_turn.proofs.turn.Turn.split.Goals as goal

pub split_seat-other-requires : goal.split_seat-other-requires
split_seat-other-requires g c = let idle = c.rise-place.ensures.ready.0 in (search rules, search rules, splits_on g.T.Machine.state g.T.Machine.allows _ _ _ _ idle.named)

pub load-requires : goal.load-requires
load-requires g c = let idle = c.rise-place.ensures.ready.0 in let cut = c.split_seat-other.ensures.4 in let m = c.rise-place.result.me in let r = c.split_seat-other.result.me in
    (search rules, search rules, named_on g.T.Machine.state g.T.Machine.allows _ _ _ r _ (child_unnamed m r idle cut) (child_idle m r cut))
