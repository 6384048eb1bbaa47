use Rattle.std.proofs.Common.{Bool, length}
use Rattle.psu_lex.proofs.UnitScans.{Tells}
use Rattle.psu_lex.proofs.high_bytes.has_high.Given as goal

-- the whole text has such a byte if and only if the rest has one
abbrev pub invariant-pieces : goal.invariant-pieces
invariant-pieces l = (high : Bool) → Tells l.rest high → Tells l.text high

abbrev pub decreases-pieces : goal.decreases-pieces
decreases-pieces l = length l.rest
