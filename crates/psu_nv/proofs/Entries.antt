-- The entries of a map by labels, as macros.
use Rattle.std.proofs.Common.{◌≡◌, ℕ, Bool, true, false, cond, List, [], ◌∷◌, ◌++◌, map, Option, None, Some, refl, sym, ap, ◌∙◌, true≢false, is_some, if◌then◌else◌, subst, append_assoc}
use Rattle.std.specs.List.{AllByRecursion, IsDistinct}
use Rattle.std.specs.Map.{keys_of, lookup}
use Rattle.indexmap.specs.IndexMap.{IndexMap, get_by, insert_entry, shift_remove_entry}
use Rattle.indexmap.proofs.CallerLemmas.{insert_entry-new}
use Rattle.psu_nv.specs.Labels.{same_label}
use Rattle.psu_nv.specs.Contents.{Macro, body_at, has_label}
use Rattle.psu_nv.specs.Commands.{macro_of, without_label}
use Rattle.psu_nv.specs.Entries.{macros_of}
use Rattle.psu_nv.proofs.Keeping.{label_sym}

looked_up : (label : List ℕ) (entries : List (List ℕ × List ℕ)) → lookup (same_label label) entries ≡ body_at (macros_of entries) label
looked_up label [] = refl
looked_up label (e ∷ es) = ap (λ b. cond b (Some e.1) (lookup (same_label label) es)) (label_sym label e.0) ∙ ap (λ rest. cond (same_label e.0 label) (Some e.1) rest) (looked_up label es)

-- a lookup finds the body of the first macro with the label
pub found : {S : Type 0} (m : IndexMap (List ℕ) (List ℕ) S) (label : List ℕ) → get_by (same_label label) m ≡ body_at (macros_of m.entries) label
found m label = looked_up label m.entries

-- the macro with the label is removed, and the others keep their order
pub removed : (label : List ℕ) → (entries : List (List ℕ × List ℕ)) → macros_of (shift_remove_entry (same_label label) entries) ≡ without_label (macros_of entries) label
removed label [] = refl
removed label (e ∷ es) = by (same_label label e.0) refl (removed label es)
  where
    by : (b : Bool) → same_label label e.0 ≡ b → macros_of (shift_remove_entry (same_label label) es) ≡ without_label (macros_of es) label
        → macros_of (cond b es (e ∷ shift_remove_entry (same_label label) es)) ≡ without_label (macros_of (e ∷ es)) label
    by true is rest = ap (λ b. if b then macros_of es else macro_of e.0 e.1 ∷ without_label (macros_of es) label) (sym is ∙ label_sym label e.0)
    by false is rest = ap (λ l. macro_of e.0 e.1 ∷ l) rest ∙ ap (λ b. if b then macros_of es else macro_of e.0 e.1 ∷ without_label (macros_of es) label) (sym is ∙ label_sym label e.0)

put_last : (entries : List (List ℕ × List ℕ)) → (label body : List ℕ) → macros_of (entries ++ (label, body) ∷ []) ≡ macros_of entries ++ macro_of label body ∷ []
put_last [] label body = refl
put_last (e ∷ es) label body = ap (λ l. macro_of e.0 e.1 ∷ l) (put_last es label body)

none : (o : Option (List ℕ)) → is_some o ≡ false → o ≡ None
none None is = refl
none (Some x) is = absurd (true≢false is)

-- a macro with a new label is appended
pub defined : {S : Type 0} (m : IndexMap (List ℕ) (List ℕ) S) (label body : List ℕ) → has_label (macros_of m.entries) label ≡ false
    → macros_of (insert_entry same_label m.entries label body) ≡ macros_of m.entries ++ macro_of label body ∷ []
defined m label body free = ap macros_of (insert_entry-new same_label m label body (found m label ∙ none _ free)) ∙ put_last m.entries label body

pub labels_are : (entries : List (List ℕ × List ℕ)) → keys_of entries ≡ map (λ (m : Macro). m.label) (macros_of entries)
labels_are [] = refl
labels_are (e ∷ es) = ap (λ l. e.0 ∷ l) (labels_are es)

among : (P : List ℕ → Type 0) (entries : List (List ℕ × List ℕ)) (label body : List ℕ) (rest : List (List ℕ × List ℕ)) → AllByRecursion P (keys_of (entries ++ (label, body) ∷ rest)) → P label
among P [] label body rest all = all.0
among P (e ∷ es) label body rest all = among P es label body rest all.1

fresh : (entries : List (List ℕ × List ℕ)) (label body : List ℕ) (rest : List (List ℕ × List ℕ)) → IsDistinct same_label (keys_of (entries ++ (label, body) ∷ rest)) → lookup (same_label label) entries ≡ None
unfolding IsDistinct
fresh [] label body rest distinct = refl
fresh (e ∷ es) label body rest distinct =
    ap (λ b. cond b (Some e.1) (lookup (same_label label) es)) (label_sym label e.0 ∙ among (λ other. same_label e.0 other ≡ false) es label body rest distinct.0) ∙ fresh es label body rest distinct.1

-- the first entry that is not copied is appended to those that are
pub copied : {S : Type 0} (m : IndexMap (List ℕ) (List ℕ) S) (left next all : List (List ℕ × List ℕ)) (label body : List ℕ) (macros : List Macro)
    → IsDistinct same_label (keys_of all) → macros_of all ≡ macros → left ≡ (label, body) ∷ next → macros_of (m.entries ++ left) ≡ macros
    → macros_of (insert_entry same_label m.entries label body ++ next) ≡ macros
copied m left next all label body macros distinct of_all is so_far =
    let so_on : macros_of (m.entries ++ (label, body) ∷ next) ≡ macros = ap (λ l. macros_of (m.entries ++ l)) (sym is) ∙ so_far in
    let keys : keys_of all ≡ keys_of (m.entries ++ (label, body) ∷ next) = labels_are all ∙ ap (map (λ (m : Macro). m.label)) (of_all ∙ sym so_on) ∙ sym (labels_are (m.entries ++ (label, body) ∷ next)) in
    ap (λ l. macros_of (l ++ next)) (insert_entry-new same_label m label body (fresh m.entries label body next (subst (IsDistinct same_label) keys distinct)))
    ∙ ap macros_of (append_assoc m.entries ((label, body) ∷ []) next) ∙ so_on
