use Rattle.std.proofs.Common.{◌≡◌, ◌==◌, ◌&&◌, Bool, true, false, ℕ, List, ◌∷◌, Bor, sym, ap, ◌∙◌}
use Rattle.std.specs.Prelude.{map, Option}
use Rattle.std.specs.Option.{option_copied}
use Rattle.psu_tree.specs.Headers.{form_for}
use Rattle.psu_tree.specs.Scans.{first_letter, second_letter}
use Rattle.psu_tree.specs.Shown.{each_begins, entries, named_of}
use Rattle.psu_tree.specs.declared.rows.Row.{Row}
use Rattle.psu_tree.specs.declared.rows.Section.{Section}
use Rattle.psu_tree.proofs.Sections.{each_one, found, none_passed, passed, unnamed}
use Rattle.psu_tree.proofs.lookups.form_in.Goals as goal

-- a section whose letters the words do not begin with is not named by them
named : (sections others : List Section) (s : Section) (ws : List (List ℕ)) (begins : Bool) (first second : ℕ) → sections ≡ s ∷ others → each_begins sections ≡ true
    → first ≡ first_letter ws → second ≡ second_letter ws → begins ≡ (s.first == first && s.second == second) → begins ≡ false → named_of s.root ws ≡ false
named sections others s ws begins first second e h a b is off =
    unnamed s.root ws s.first s.second (each_one sections others s e h).0 (rw (sym a, sym b) (sym is ∙ off))

pub sections-preserved-then-is_passed : goal.sections-preserved-then-is_passed
sections-preserved-then-is_passed c =
    let ws : List (List ℕ) = map (λ (word : Bor (List ℕ)). word.now) c.args.words.now in
    let s : Section = c.in-Some.section.now in
    let off = named c.sections.rest.now c.in-Some.others.now s ws c.has_letters-begins.result c.first_letter-first.result c.second_letter-second.result c.in-Some.ensures.cases.0 c.sections.invariant.letters
    c.first_letter-first.ensures c.second_letter-second.ensures c.has_letters-begins.ensures in
    let none = none_passed s.root s.rows.now ws c.has_letters-begins.result off (sym c.is_passed.ensures ∙ c.if-is_passed.true) in
    record {
      rows = passed s.root s.rows.now (entries c.in-Some.others.now) ws c.args.asks none ∙ ap (λ (z : List Section). form_for (entries z) ws c.args.asks) (sym c.in-Some.ensures.cases.0) ∙ c.sections.invariant.rows;
      letters = (each_one c.sections.rest.now c.in-Some.others.now s c.in-Some.ensures.cases.0 c.sections.invariant.letters).1;
    }

pub row_in-requires-clause-named : goal.row_in-requires-clause-named
row_in-requires-clause-named c =
    let ws : List (List ℕ) = map (λ (word : Bor (List ℕ)). word.now) c.args.words.now in
    let s : Section = c.in-Some.section.now in
    named c.sections.rest.now c.in-Some.others.now s ws c.has_letters-begins.result c.first_letter-first.result c.second_letter-second.result c.in-Some.ensures.cases.0 c.sections.invariant.letters
    c.first_letter-first.ensures c.second_letter-second.ensures c.has_letters-begins.ensures

pub returns-in-Some-row_in : goal.returns-in-Some-row_in
returns-in-Some-row_in c =
    let ws : List (List ℕ) = map (λ (word : Bor (List ℕ)). word.now) c.args.words.now in
    let s : Section = c.in-Some.section.now in
    let row : _ = sym c.row_in.ensures ∙ ap (λ (o : Option (Bor Row)). option_copied o) c.in-Some-row_in.is in
    c.row_form.ensures ∙ found s.root s.rows.now (entries c.in-Some.others.now) ws c.args.asks c.in-Some-row_in.row.now row
    ∙ ap (λ (z : List Section). form_for (entries z) ws c.args.asks) (sym c.in-Some.ensures.cases.0) ∙ c.sections.invariant.rows

pub sections-preserved : goal.sections-preserved
sections-preserved c =
    let ws : List (List ℕ) = map (λ (word : Bor (List ℕ)). word.now) c.args.words.now in
    let s : Section = c.in-Some.section.now in
    let row : _ = sym c.row_in.ensures ∙ ap (λ (o : Option (Bor Row)). option_copied o) c.in_default-row_in.is in
    record {
      rows = passed s.root s.rows.now (entries c.in-Some.others.now) ws c.args.asks row ∙ ap (λ (z : List Section). form_for (entries z) ws c.args.asks) (sym c.in-Some.ensures.cases.0) ∙ c.sections.invariant.rows;
      letters = (each_one c.sections.rest.now c.in-Some.others.now s c.in-Some.ensures.cases.0 c.sections.invariant.letters).1;
    }
