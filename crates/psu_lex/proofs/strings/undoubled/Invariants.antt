use Rattle.std.proofs.Common.{◌≡◌, ◌++◌, drop, false}
use Rattle.psu_lex.specs.Scan.{single}
use Rattle.psu_lex.proofs.strings.undoubled.Given as goal

abbrev pub invariant-loop-byte : goal.invariant-loop-byte
invariant-loop-byte g l = l.list.items ++ single l.second l.quote (drop l.byte-index l.body) ≡ single false l.quote l.body
