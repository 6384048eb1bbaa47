use Rattle.std.proofs.Common.{rules, arith, ◌≡◌, List, length, map, All, ap, subst, ◌∙◌}
use Rattle.std.proofs.lemmas.List.{length-map}
use Rattle.psu_examples.specs.Examples.{Shown, examples_in}
use Rattle.psu_examples.specs.Held.{Agrees}
use Rattle.psu_examples.specs.Shown.{shown}
use Rattle.psu_examples.proofs.check.examples_held.Goals as goal

pub returns-clause-held : goal.returns-clause-held
returns-clause-held g c =
    let is : map shown c.in_ok-examples.examples.items ≡ examples_in c.args.guide.now = c.in_ok-examples.ensures in
    record {
      some = search rules;
      number = omega (arith, c.len.ensures, c.deref.ensures.len, ap (λ l. length l) c.deref.ensures.value, length-map c.in_ok-examples.examples.items shown, ap (λ (l : List Shown). length l) is);
      each = subst (All (Agrees g.P.Player.plays)) (ap (map shown) c.deref.ensures.value ∙ is) c.in_ok-check_each.ensures.held;
    }
