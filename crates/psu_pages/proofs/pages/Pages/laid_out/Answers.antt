use Rattle.std.proofs.Common.{◌≡◌, ℕ, List, ◌∷◌, [], drop, sym, ◌∙◌, ap, arith, subst}
use Rattle.psu_disk.specs.Ranges.{reads_left}
use Rattle.psu_pages.specs.declared.root.Root.TheVariants.{First}
use Rattle.psu_pages.specs.Free.{IsRoster}
use Rattle.psu_pages.specs.Image.{Head}
use Rattle.psu_pages.specs.Shown.{items_in, EachEncodes}
use Rattle.psu_pages.specs.Spelling.{filled, root_contents, names}
use Rattle.psu_pages.proofs.Publishing.{contents_filled}
use Rattle.psu_pages.specs.declared.standing.Standing.TheVariants.{One, Both}
use Rattle.psu_pages.proofs.pages.Pages.laid_out.Given.{Over}
use Rattle.psu_pages.proofs.pages.Pages.laid_out.Goals.{In-Ok-lay_out}
use Rattle.psu_pages.proofs.pages.Pages.laid_out.Goals as goal

contents : (g : Over) (c : In-Ok-lay_out g) → c.after_gate.result.now ≡ filled 511 (root_contents c.args.limit 1 [])
contents g c =
    let page = c.spell_root.ensures ∙ ap (λ (hs : List Head). 0 ∷ root_contents c.args.limit 1 (names hs)) (c.deref.ensures.value ∙ c.new-heads.ensures.items) in
    c.after_gate.ensures.value ∙ ap (λ (b : List ℕ). drop 1 (filled 512 b)) page ∙ contents_filled (root_contents c.args.limit 1 [])

encoded : (g : Over) (c : In-Ok-lay_out g) → g.D.Disk.honest → EachEncodes (g.D.Disk.state c.lay_out.new.disk) First 2 c.args.limit 1 [] []
encoded g c h =
    let roster : IsRoster c.args.limit [] = record { each = tt; pool = tt; apart = tt; count = omega arith; cost = omega arith; distinct = tt } in
    c.in-Ok-lay_out.ensures.encoded h c.args.limit 1 (record { contents_are = contents g c; number_fits = omega arith; roster = roster; there = tt }) c.requires.limit_least c.requires.limit_most c.requires.room

pub invariant_of-result-clause-encodes : goal.invariant_of-result-clause-encodes
invariant_of-result-clause-encodes g c = λ h sure.
    let new = g.D.Disk.state c.lay_out.new.disk in
    let on_new = encoded g (goal.at.invariant_of-result-clause-encodes g c).In-Ok-lay_out h in
    subst (λ (hs : List Head). EachEncodes new First 2 c.args.limit 1 hs (items_in First new.bytes)) (sym c.new-heads.ensures.items) (subst (EachEncodes new First 2 c.args.limit 1 []) (sym (on_new new.bytes (reads_left new)).has_contents.items_are) on_new)

pub returns-in-Ok-lay_out-clause-spelled : goal.returns-in-Ok-lay_out-clause-spelled
returns-in-Ok-lay_out-clause-spelled g c = λ h. c.in-Ok-lay_out.ensures.spelled h ∙ ap (λ (b : List ℕ). 165 ∷ b) (contents g (goal.at.returns-in-Ok-lay_out-clause-spelled g c).In-Ok-lay_out)

pub returns-in-Ok-lay_out-clause-empty : goal.returns-in-Ok-lay_out-clause-empty
returns-in-Ok-lay_out-clause-empty g c = λ h.
    let new = g.D.Disk.state c.lay_out.new.disk in
    (encoded g (goal.at.returns-in-Ok-lay_out-clause-empty g c).In-Ok-lay_out h new.bytes (reads_left new)).has_contents.items_are

pub invariant_of-result-clause-shut : goal.invariant_of-result-clause-shut
invariant_of-result-clause-shut g c = λ h one. c.in-Ok-lay_out.ensures.shut h

pub invariant_of-result-clause-lower : goal.invariant_of-result-clause-lower
invariant_of-result-clause-lower g c = λ h both. let no : One ≡ Both = both in absurd (cc)

pub returns-in-Ok-lay_out-clause-zero : goal.returns-in-Ok-lay_out-clause-zero
returns-in-Ok-lay_out-clause-zero g c = λ h. c.in-Ok-lay_out.ensures.zero h
