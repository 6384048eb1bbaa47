use Rattle.std.proofs.Common.{◌≡◌, drop}
use Rattle.psu_lex.specs.Bytes.{is_closed}
use Rattle.psu_lex.proofs.pieces.closes.Given as goal

abbrev pub invariant-loop-byte : goal.invariant-loop-byte
invariant-loop-byte l = is_closed (drop l.byte-index l.text) ≡ is_closed l.text
