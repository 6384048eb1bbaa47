use Rattle.psu_tree.proofs.Nodes.{Reaches}
use Rattle.psu_tree.proofs.words.node_end.Given as goal

abbrev pub invariant-loop-at : goal.invariant-loop-at
invariant-loop-at l = Reaches l.text l.at
