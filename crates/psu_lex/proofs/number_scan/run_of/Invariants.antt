use Rattle.std.proofs.Common.{◌≡◌, ◌++◌, take, drop}
use Rattle.psu_lex.specs.NumberScan.{belongs, run, left}
use Rattle.psu_lex.proofs.number_scan.run_of.Given as goal

abbrev pub invariant-loop-at : goal.invariant-loop-at
invariant-loop-at l = record {
  front : take l.at l.text ++ run (belongs l.class) (drop l.at l.text) ≡ run (belongs l.class) l.text;
  back : left (belongs l.class) (drop l.at l.text) ≡ left (belongs l.class) l.text;
}
