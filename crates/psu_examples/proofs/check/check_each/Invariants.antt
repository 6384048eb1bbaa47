use Rattle.std.proofs.Common.{All, map, take}
use Rattle.psu_examples.specs.Held.{Agrees}
use Rattle.psu_examples.specs.Shown.{shown}
use Rattle.psu_examples.proofs.check.check_each.Given as goal

abbrev pub invariant-loop-example : goal.invariant-loop-example
invariant-loop-example g l = All (Agrees g.P.Player.plays) (map shown (take l.example-index l.examples))
