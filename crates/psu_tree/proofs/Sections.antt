-- The first row of a table by its sections.
use Rattle.std.proofs.Common.{◌≡◌, ℕ, ◌==◌, ◌&&◌, Bool, true, false, not, Bor, List, [], ◌∷◌, ◌++◌, length, refl, sym, ap, ◌∙◌, arith, inl, inr}
use Rattle.std.specs.Prelude.{Some, None, map, if◌then◌else◌}
use Rattle.std.proofs.Math.Bool.{and-false, and-true}
use Rattle.std.proofs.lemmas.Bool.{and_parts, cases_Bool, eqb-true}
use Rattle.psu_lex.specs.Bytes.{all_digits}
use Rattle.psu_tree.specs.Headers.{Entry, form_for, capital, fits, in_brackets, is_form, is_numbered, is_small, stem}
use Rattle.psu_tree.specs.Scans.{first_letter, second_letter}
use Rattle.psu_tree.specs.Shown.{begins_with, each_begins, entry, fits_after, named_of, row_after}
use Rattle.psu_tree.specs.declared.rows.Node.{Node}
use Rattle.psu_tree.specs.declared.rows.Row.{Row}
use Rattle.psu_tree.specs.declared.rows.Section.{Section}

same_fit : (root : Node) (row : Row) (ws : List (List ℕ)) → fits (entry root row).nodes ws ≡ fits_after (named_of root ws) (in_brackets root.kind) row.nodes.now ws
same_fit root row [] = refl
same_fit root row (word ∷ words) = refl

pub found : (root : Node) (rows : List Row) (more : List Entry) (ws : List (List ℕ)) (asks : Bool) (row : Row)
    → row_after (named_of root ws) (in_brackets root.kind) rows ws ≡ Some row
    → (if asks then row.query else row.command) ≡ form_for (map (entry root) rows ++ more) ws asks
found root [] more ws asks row h = absurd (cc h)
found root (first ∷ rows) more ws asks row h = elim (cases_Bool (fits_after (named_of root ws) (in_brackets root.kind) first.nodes.now ws)) [
  | inl t ↦ let e : first ≡ row = cc (rw t at h) in rw (same_fit root first ws ∙ t) (rw e refl)
  | inr f ↦ rw (same_fit root first ws ∙ f) (found root rows more ws asks row (rw f at h))
]

pub passed : (root : Node) (rows : List Row) (more : List Entry) (ws : List (List ℕ)) (asks : Bool)
    → row_after (named_of root ws) (in_brackets root.kind) rows ws ≡ None
    → form_for more ws asks ≡ form_for (map (entry root) rows ++ more) ws asks
passed root [] more ws asks h = refl
passed root (first ∷ rows) more ws asks h = elim (cases_Bool (fits_after (named_of root ws) (in_brackets root.kind) first.nodes.now ws)) [
  | inl t ↦ absurd (cc (rw t at h))
  | inr f ↦ rw (same_fit root first ws ∙ f) (passed root rows more ws asks (rw f at h))
]

closed : (rows : List Row) (ws : List (List ℕ)) → row_after false false rows ws ≡ None
closed [] ws = refl
closed (first ∷ rows) [] = closed rows []
closed (first ∷ rows) (word ∷ words) = closed rows (word ∷ words)

closed_at : (named missing : Bool) (rows : List Row) (ws : List (List ℕ)) → named ≡ false → missing ≡ false → row_after named missing rows ws ≡ None
closed_at named missing rows ws n m = rw (n, m) (closed rows ws)

-- no words, and a required root
pub none_without : (root : Node) (rows : List Row) (words : List (Bor (List ℕ))) → length words ≡ 0 → in_brackets root.kind ≡ false
    → None ≡ row_after (named_of root (map (λ (word : Bor (List ℕ)). word.now) words)) (in_brackets root.kind) rows (map (λ (word : Bor (List ℕ)). word.now) words)
none_without root rows [] e m = sym (closed_at false (in_brackets root.kind) rows [] refl m)
none_without root rows (word ∷ words) e m = absurd (omega (arith, e))

-- a required root that is not named
pub none_named : (root : Node) (rows : List Row) (ws : List (List ℕ)) → named_of root ws ≡ false → in_brackets root.kind ≡ false → None ≡ row_after (named_of root ws) (in_brackets root.kind) rows ws
none_named root rows ws n m = sym (closed_at (named_of root ws) (in_brackets root.kind) rows ws n m)

-- ---- a root that begins with other letters

not_small : (b : Bool) → not b ≡ true → b ≡ false
not_small true h = absurd (cc (h))
not_small false h = refl

no_form : (n : ℕ) (ns : List ℕ) → is_small n ≡ false → is_form (n ∷ ns) [] ≡ false
no_form n ns s = rw s refl

other_first : (n : ℕ) (ns : List ℕ) (x : ℕ) (xs : List ℕ) → is_small n ≡ false → (n == capital x) ≡ false → is_form (n ∷ ns) (x ∷ xs) ≡ false
other_first n ns x xs s f = simp (s, f)

other_second : (n m : ℕ) (ns : List ℕ) (x y : ℕ) (xs : List ℕ) → is_small n ≡ false → is_small m ≡ false → (m == capital y) ≡ false → is_form (n ∷ m ∷ ns) (x ∷ y ∷ xs) ≡ false
other_second n m ns x y xs s t f = simp (s, t, f, and-false)

too_short : (n m : ℕ) (ns : List ℕ) (x : ℕ) → is_small n ≡ false → is_small m ≡ false → is_form (n ∷ m ∷ ns) (x ∷ []) ≡ false
too_short n m ns x s t = simp (s, t, and-false)

too_long : (n x y : ℕ) (xs : List ℕ) → is_small n ≡ false → is_form (n ∷ []) (x ∷ y ∷ xs) ≡ false
too_long n x y xs s = simp (s, and-false)

form_two : (n m : ℕ) (ns : List ℕ) (x y : ℕ) (xs : List ℕ) → is_small n ≡ false → is_small m ≡ false → (n == capital x && m == capital y) ≡ false → is_form (n ∷ m ∷ ns) (x ∷ y ∷ xs) ≡ false
form_two n m ns x y xs s t f = elim (cases_Bool (n == capital x)) [
  | inl e ↦ other_second n m ns x y xs s t (rw e at f)
  | inr g ↦ other_first n (m ∷ ns) x (y ∷ xs) s g
]

apart_one : (n : ℕ) (word : List ℕ) (words : List (List ℕ)) → is_small n ≡ false → (n == first_letter (word ∷ words) && 0 == second_letter (word ∷ words)) ≡ false → is_form (n ∷ []) word ≡ false
apart_one n [] words s f = no_form n [] s
apart_one n (x ∷ []) words s f = other_first n [] x [] s (sym (and-true (n == capital x)) ∙ f)
apart_one n (x ∷ y ∷ xs) words s f = too_long n x y xs s

apart_two : (numbered : Bool) (n m : ℕ) (ns word : List ℕ) (words : List (List ℕ)) → is_small n ≡ false → is_small m ≡ false
    → (n == first_letter (word ∷ words) && m == second_letter (word ∷ words)) ≡ false → is_form (n ∷ m ∷ ns) (if numbered then stem word else word) ≡ false
apart_two true n m ns [] words s t f = no_form n (m ∷ ns) s
apart_two false n m ns [] words s t f = no_form n (m ∷ ns) s
apart_two false n m ns (x ∷ []) words s t f = too_short n m ns x s t
apart_two true n m ns (x ∷ []) words s t f = elim (cases_Bool (all_digits (x ∷ []))) [
  | inl d ↦ rw d (no_form n (m ∷ ns) s)
  | inr d ↦ rw d (too_short n m ns x s t)
]
apart_two false n m ns (x ∷ y ∷ xs) words s t f = form_two n m ns x y xs s t f
apart_two true n m ns (x ∷ y ∷ xs) words s t f = elim (cases_Bool (all_digits (x ∷ y ∷ xs))) [
  | inl d ↦ rw d (no_form n (m ∷ ns) s)
  | inr d ↦ elim (cases_Bool (all_digits (y ∷ xs))) [
    | inl e ↦ rw (d, e) (too_short n m ns x s t)
    | inr e ↦ rw (d, e) (form_two n m ns x y (stem xs) s t f)
  ]
]

-- a node that begins with two letters, and words that do not
apart : (numbered : Bool) (first second : ℕ) (name word : List ℕ) (words : List (List ℕ)) → begins_with first second numbered name ≡ true
    → (first == first_letter (word ∷ words) && second == second_letter (word ∷ words)) ≡ false → is_form name (if numbered then stem word else word) ≡ false
apart numbered first second [] word words h f = absurd (cc (h))
apart numbered first second (n ∷ []) word words h f =
    let p = and_parts (not (is_small n) && not numbered) (n == first && 0 == second) h in
    let q = and_parts (not (is_small n)) (not numbered) p.0 in
    let r = and_parts (n == first) (0 == second) p.1 in
    let plain : numbered ≡ false = not_small numbered q.1 in
    let off : (n == first_letter (word ∷ words) && 0 == second_letter (word ∷ words)) ≡ false = rw (eqb-true n first r.0, eqb-true 0 second r.1) f in
    rw plain (apart_one n word words (not_small (is_small n) q.0) off)
apart numbered first second (n ∷ m ∷ ns) word words h f =
    let p = and_parts (not (is_small n) && not (is_small m)) (n == first && m == second) h in
    let q = and_parts (not (is_small n)) (not (is_small m)) p.0 in
    let r = and_parts (n == first) (m == second) p.1 in
    let off : (n == first_letter (word ∷ words) && m == second_letter (word ∷ words)) ≡ false = rw (eqb-true n first r.0, eqb-true m second r.1) f in
    apart_two numbered n m ns word words (not_small (is_small n) q.0) (not_small (is_small m) q.1) off

pub unnamed : (root : Node) (ws : List (List ℕ)) (first second : ℕ) → begins_with first second (is_numbered root.kind) root.name.now ≡ true
    → (first == first_letter ws && second == second_letter ws) ≡ false → named_of root ws ≡ false
unnamed root [] first second h f = refl
unnamed root (word ∷ words) first second h f = apart (is_numbered root.kind) first second root.name.now word words h f

-- a section that is skipped
pub none_passed : (root : Node) (rows : List Row) (ws : List (List ℕ)) (begins : Bool) → (begins ≡ false → named_of root ws ≡ false) → (not begins && not (in_brackets root.kind)) ≡ true
    → row_after (named_of root ws) (in_brackets root.kind) rows ws ≡ None
none_passed root rows ws begins named h =
    let p = and_parts (not begins) (not (in_brackets root.kind)) h in
    closed_at (named_of root ws) (in_brackets root.kind) rows ws (named (not_small begins p.0)) (not_small (in_brackets root.kind) p.1)

pub each_one : (sections others : List Section) (section : Section) → sections ≡ section ∷ others → each_begins sections ≡ true
    → (begins_with section.first section.second (is_numbered section.root.kind) section.root.name.now ≡ true) × (each_begins others ≡ true)
each_one sections others section e h =
    and_parts (begins_with section.first section.second (is_numbered section.root.kind) section.root.name.now) (each_begins others) (ap each_begins (sym e) ∙ h)
