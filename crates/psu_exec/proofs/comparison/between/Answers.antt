use Rattle.std.proofs.Common.{◌≡◌, ◌-◌, ◌++◌, ℕ, List, length, take, drop, sym, ap, ◌∙◌}
use Rattle.std.proofs.lemmas.List.{take-append-drop}
use Rattle.psu_map.specs.Map.{Item}
use Rattle.psu_exec.proofs.comparison.between.Goals as goal

parts : (items rest : List Item) (i n : ℕ) → rest ≡ drop i items → items ≡ take i items ++ (take n rest ++ drop n rest)
parts items rest i n is = sym (take-append-drop i items) ∙ ap (λ (l : List Item). take i items ++ l) (sym is ∙ sym (take-append-drop n rest))

pub returns : goal.returns
returns g c =
    let one = c.args.one.now in
    let other = c.args.other.now in
    let first = c.same_first-first.result in
    let one_rest = c.split_at.result.1.now in
    let other_rest = c.split_at-2.result.1.now in
    let n = length one_rest - c.same_last-last.result in
    let m = length other_rest - c.same_last-last.result in
    record {
      front = take first one;
      back = drop n one_rest;
      one_is = parts one one_rest first n c.split_at.ensures.back;
      other_is = parts other other_rest first m c.split_at-2.ensures.back ∙ ap (λ (l : List Item). l ++ (take m other_rest ++ drop m other_rest)) (sym c.same_first-first.ensures.same)
          ∙ ap (λ (l : List Item). take first one ++ (take m other_rest ++ l)) (sym c.same_last-last.ensures.same);
    }
