use Rattle.std.proofs.Common.{◌≡◌, List, length, true}
use Rattle.psu_lex.specs.Syntax.{Datum}
use Rattle.psu_lex.specs.Shown.{TailLists}
use Rattle.psu_lex.specs.SyntaxScan.{is_parted}
use Rattle.psu_lex.proofs.data_scan.is_list_tail.Given as goal

-- a list continues with the tail if and only if one continues with the rest
abbrev pub invariant-next : goal.invariant-next
invariant-next l = record {
  up : (others : List Datum) → TailLists l.rest others → (all : List Datum) × TailLists l.tail all;
  down : (all : List Datum) → TailLists l.tail all → (others : List Datum) × TailLists l.rest others;
  parted : is_parted l.rest ≡ true;
}

abbrev pub decreases-next : goal.decreases-next
decreases-next l = length l.rest
