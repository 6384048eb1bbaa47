use Rattle.std.proofs.Common.{◌≡◌, ◌∷◌, Option, Some, None, IfSome, IfNone, refl, sym, subst, ◌∙◌}
use Rattle.psu_lex.specs.Shown.{HoldsFound}
use Rattle.psu_lex.specs.Syntax.{datum_of}
use Rattle.psu_lex.specs.SyntaxScan.{datum_at}
use Rattle.psu_lex.specs.declared.data.Found.{Found}
use Rattle.psu_lex.proofs.DataLists.{lists_in, no_list, rest_of, some_datum}
use Rattle.psu_lex.proofs.data_scan.is_list.Goals as goal

pub returns-in-None-clause-no : goal.returns-in-None-clause-no
returns-in-None-clause-no c = λ f list.
    let none = subst (λ (z : Option Found). IfNone z (datum_at c.args.text.now ≡ None)) c.in-None.is c.requires.none in
    no_list c.args.text.now list (sym c.is_blank.ensures ∙ f) none

pub returns-in-Some-clause-yes : goal.returns-in-Some-clause-yes
returns-in-Some-clause-yes c = λ t.
    let text = c.args.text.now in
    let tail = c.in-Some.first.tail.now in
    let datum = datum_of c.in-Some.first.datum in
    let some = subst (λ (z : Option Found). IfSome z (λ found. datum_at text ≡ Some (datum_of found.datum, found.tail.now))) c.in-Some.is c.requires.some in
    let more = c.is_list_tail.ensures.yes t in (
      datum ∷ more.0,
      lists_in text tail datum more.0 some more.1,
      subst (λ (z : Option Found). HoldsFound z (datum ∷ more.0)) (sym c.in-Some.is) (more.0, refl, some_datum text tail datum some, more.1),
    )

pub returns-in-Some-clause-no : goal.returns-in-Some-clause-no
returns-in-Some-clause-no c = λ f list l.
    let text = c.args.text.now in
    let some = subst (λ (z : Option Found). IfSome z (λ found. datum_at text ≡ Some (datum_of found.datum, found.tail.now))) c.in-Some.is c.requires.some in
    let k = rest_of text c.in-Some.first.tail.now (datum_of c.in-Some.first.datum) list some l in
    c.is_list_tail.ensures.no f k.others k.listed
