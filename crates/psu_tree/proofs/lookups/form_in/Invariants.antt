use Rattle.std.proofs.Common.{◌≡◌, ℕ, true, List, Bor, length}
use Rattle.std.specs.Prelude.{map}
use Rattle.psu_tree.specs.Headers.{form_for}
use Rattle.psu_tree.specs.Shown.{each_begins, entries}
use Rattle.psu_tree.proofs.lookups.form_in.Given as goal

abbrev pub invariant-sections : goal.invariant-sections
invariant-sections l = record {
  rows : form_for (entries l.rest) (map (λ (word : Bor (List ℕ)). word.now) l.words) l.asks ≡ form_for (entries l.sections) (map (λ (word : Bor (List ℕ)). word.now) l.words) l.asks;
  letters : each_begins l.rest ≡ true;
}

abbrev pub decreases-sections : goal.decreases-sections
decreases-sections l = length l.rest
