use Rattle.std.proofs.Common.{◌≡◌, ℕ, Bor, List, drop}
use Rattle.std.specs.Prelude.{map}
use Rattle.psu_tree.specs.Reading.{suffix_of}
use Rattle.psu_tree.proofs.suffixes.suffix_of.Given as goal

abbrev pub invariant-loop-word : goal.invariant-loop-word
invariant-loop-word l = suffix_of (map (λ (word : Bor (List ℕ)). word.now) (drop l.word-index l.words)) ≡ suffix_of (map (λ (word : Bor (List ℕ)). word.now) l.words)
