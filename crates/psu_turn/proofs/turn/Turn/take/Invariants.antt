use Rattle.psu_turn.specs.Sights.{Stays}
use Rattle.psu_turn.proofs.turn.Turn.take.Given as goal

abbrev pub invariant-loop : goal.invariant-loop
invariant-loop g l = (goal.iterator-loop g).can_next l.iterator' × (goal.iterator-loop g).is_finite l.iterator' × Stays l.initial.place l.place
