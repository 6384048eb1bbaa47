use Rattle.std.proofs.Common.{◌≡◌, ◌∷◌, ℕ, List, true, false, sym, ◌∙◌, ap, subst}
use Rattle.std.specs.List.{AllByRecursion}
use Rattle.psu_pages.specs.Free.{is_free, Marks}
use Rattle.psu_pages.specs.Image.{Head, AreApart, pages_of, IsNone, head_on, page_in}
use Rattle.psu_pages.proofs.Keeping.{at_is}
use Rattle.psu_pages.proofs.Scanning.{head_were_free, head_apart, head_claimed, head_still_free}
use Rattle.psu_pages.specs.Finding.{IsFit}
use Rattle.psu_pages.proofs.scan.read_head.Goals as goal

pub returns-clause-fit : goal.returns-clause-fit
returns-clause-fit g c =
    let head = c.in-Some.head in
    let on = rw c.in-Some.is at c.in_ok-head.ensures.found in
    let at : head.at ≡ c.args.name = ap (λ (h : Head). h.at) on.0 ∙ at_is c.args.name _ in
    let is : c.args.name ∷ c.pages.result.now ≡ pages_of head = ap (λ (p : ℕ). p ∷ c.pages.result.now) (sym at) ∙ ap (λ (ps : List ℕ). head.at ∷ ps) c.pages.ensures in
    let was : is_free c.args.free.now c.args.name ≡ true = sym c.take.ensures.was ∙ c.if-not-take.false in
    let next = c.take.ensures.taken c.if-not-take.false in
    let free = c.take_all.ensures.were_free c.if-not-take_all.false in
    record {
      is_head = on.1;
      were_free = subst (AllByRecursion (λ (p : ℕ). is_free c.args.free.now p ≡ true)) is (head_were_free c.args.name c.pages.result.now c.args.free.now c.take.new.self c.take_all.new.self was next free);
      apart = subst AreApart is (head_apart c.args.name c.pages.result.now c.args.free.now c.take.new.self c.take_all.new.self was next free (c.take_all.ensures.apart c.if-not-take_all.false));
    }

pub returns-clause-claimed : goal.returns-clause-claimed
returns-clause-claimed g c =
    let head = c.in-Some.head in
    let on = rw c.in-Some.is at c.in_ok-head.ensures.found in
    let at : head.at ≡ c.args.name = ap (λ (h : Head). h.at) on.0 ∙ at_is c.args.name _ in
    let is : c.args.name ∷ c.pages.result.now ≡ pages_of head = ap (λ (p : ℕ). p ∷ c.pages.result.now) (sym at) ∙ ap (λ (ps : List ℕ). head.at ∷ ps) c.pages.ensures in
    let was : is_free c.args.free.now c.args.name ≡ true = sym c.take.ensures.was ∙ c.if-not-take.false in
    let next = c.take.ensures.taken c.if-not-take.false in
    subst (λ (ps : List ℕ). Marks false ps c.args.free.now c.take_all.new.self) is
    (head_claimed c.args.name c.pages.result.now c.args.free.now c.take.new.self c.take_all.new.self was next (c.take_all.ensures.were_free c.if-not-take_all.false) (c.take_all.ensures.taken c.if-not-take_all.false))

pub returns-then-not-take_all-clause-none : goal.returns-then-not-take_all-clause-none
returns-then-not-take_all-clause-none g c = λ h none fit.
    let on = rw c.in-Some.is at c.in_ok-head.ensures.found in
    let is : c.in-Some.head ≡ head_on c.args.name (page_in c.args.name (g.D.Disk.state c.args.disk.now).bytes) = on.0 ∙ ap (head_on c.args.name) (c.in_ok-read_page.ensures.bytes h) in
    let its = subst (IsFit c.args.free.now) (sym is) fit in
    let at = ap (λ (hd : Head). hd.at) is ∙ at_is c.args.name _ in
    let rest = sym c.pages.ensures in
    c.take_all.ensures.refused c.if-not-take_all.true
    (head_still_free c.args.name c.pages.result.now c.args.free.now c.take.new.self (c.take.ensures.taken c.if-not-take.false) (subst (λ (ps : List ℕ). IsNone ps c.args.name) rest (subst (IsNone (let hd = c.in-Some.head in hd.pages)) at its.apart.0)) (subst (AllByRecursion (λ (p : ℕ). is_free c.args.free.now p ≡ true)) rest its.were_free.1))
    (subst AreApart rest its.apart.1)
