use Rattle.std.proofs.Common.{◌≡◌, drop}
use Rattle.psu_lex.specs.Bytes.{all_digits}
use Rattle.psu_lex.proofs.pieces.are_digits.Given as goal

abbrev pub invariant-loop-byte : goal.invariant-loop-byte
invariant-loop-byte l = all_digits (drop l.byte-index l.text) ≡ all_digits l.text
