use Rattle.std.proofs.Common.{◌≡◌, drop}
use Rattle.psu_lex.specs.Bytes.{all_white}
use Rattle.psu_lex.proofs.message.is_blank.Given as goal

abbrev pub invariant-loop-byte : goal.invariant-loop-byte
invariant-loop-byte l = all_white (drop l.byte-index l.text) ≡ all_white l.text
