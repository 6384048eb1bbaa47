-- Labels: how long they are, and what a lookup with a longer text finds.
use Rattle.std.proofs.Common.{◌≡◌, ℕ, ◌+◌, ◌<◌, ◌≤◌, Bool, true, false, cond, List, [], ◌∷◌, length, Some, None, refl, sym, ◌∙◌, ap, arith}
use Rattle.std.specs.Prelude.{◌&&◌, ◌↔◌, IsTrue, nat_le}
use Rattle.std.specs.Str.{bytes_eq}
use Rattle.std.specs.Char.{to_ascii_lowercase}
use Rattle.std.specs.List.{list_all, AllByRecursion}
use Rattle.std.proofs.lemmas.List.{length-map}
use Rattle.std.proofs.lemmas.Bool.Decides.{nat_tests}
use Rattle.psu_map.proofs.Keys.{same_key, same_true}
use Rattle.psu_lex.specs.Names.{is_label, begins_with_letter}
use Rattle.psu_lex.specs.Syntax.{is_name_byte}
use Rattle.psu_nv.specs.Labels.{lowercase, same_label}
use Rattle.psu_nv.specs.Contents.{Macro, IsMacro, body_at}
use Rattle.psu_nv.specs.Commands.{without_label}
use Rattle.psu_nv.specs.Costs.{size_at}

both : (a b : Bool) → (a && b) ≡ true → (a ≡ true) × (b ≡ true)
both true b e = (refl, e)
both false b e = absurd cc

low_enough : (n : ℕ) → nat_le n 12 ≡ true → n ≤ 12
low_enough n is = grind (arith, nat_tests)

pub label_short : (label : List ℕ) → is_label label ≡ true → length label ≤ 12
label_short label is =
    let short : nat_le (length label) 12 ≡ true = (both (list_all is_name_byte label) (nat_le (length label) 12) (both (begins_with_letter label) (list_all is_name_byte label && nat_le (length label) 12) is).1).1 in
    low_enough (length label) short

-- a test that decides whether two lists are equal is `bytes_eq`
pub is_bytes_eq : (test : Bool) (a b : List ℕ) → IsTrue test ↔ (a ≡ b) → test ≡ bytes_eq a b
is_bytes_eq test a b is = by_test test (bytes_eq a b) refl is
  where
    by_test : (t s : Bool) → bytes_eq a b ≡ s → IsTrue t ↔ (a ≡ b) → t ≡ s
    by_test true true e is = refl
    by_test true false e is = sym (same_true a b (is.0 refl)) ∙ e
    by_test false true e is = is.1 (same_key a b e)
    by_test false false e is = refl

same_length : (a b : List ℕ) → same_label a b ≡ true → length a ≡ length b
same_length a b same = sym (length-map a to_ascii_lowercase) ∙ ap length (same_key (lowercase a) (lowercase b) same) ∙ length-map b to_ascii_lowercase

-- a text that is longer than labels is the label of no macro
pub no_long : (macros : List Macro) (label : List ℕ) → AllByRecursion IsMacro macros → 12 < length label → body_at macros label ≡ None
no_long [] label all long = refl
no_long (m ∷ macros) label all long = by_test (same_label m.label label) refl (no_long macros label all.1 long)
  where
    by_test : (b : Bool) → same_label m.label label ≡ b → body_at macros label ≡ None → cond b (Some m.body) (body_at macros label) ≡ None
    by_test true e rest = absurd (omega (arith, same_length m.label label e, label_short m.label all.0.label, long))
    by_test false e rest = rest

pub none_leaves : (macros : List Macro) (label : List ℕ) → body_at macros label ≡ None → without_label macros label ≡ macros
none_leaves [] label none = refl
none_leaves (m ∷ macros) label none = by_test (same_label m.label label) none (none_leaves macros label)
  where
    by_test : (b : Bool) → cond b (Some m.body) (body_at macros label) ≡ None → (body_at macros label ≡ None → without_label macros label ≡ macros) → cond b macros (m ∷ without_label macros label) ≡ m ∷ macros
    by_test true none rest = absurd cc
    by_test false none rest = ap (λ (l : List Macro). m ∷ l) (rest none)

-- the number of bytes of a macro, by what a lookup finds
pub size_none : (macros : List Macro) (label : List ℕ) → body_at macros label ≡ None → size_at macros label ≡ 0
size_none [] label none = refl
size_none (m ∷ macros) label none = by_test (same_label m.label label) none (size_none macros label)
  where
    by_test : (b : Bool) → cond b (Some m.body) (body_at macros label) ≡ None → (body_at macros label ≡ None → size_at macros label ≡ 0) → cond b (3 + (length m.label + length m.body)) (size_at macros label) ≡ 0
    by_test true none rest = absurd cc
    by_test false none rest = rest none

pub size_some : (macros : List Macro) (label body : List ℕ) → body_at macros label ≡ Some body → size_at macros label ≡ 3 + (length label + length body)
size_some [] label body some = absurd cc
size_some (m ∷ macros) label body some = by_test (same_label m.label label) refl some (size_some macros label body)
  where
    same_some : (x y : List ℕ) → Some x ≡ Some y → x ≡ y
    same_some x y e = cc

    by_test : (b : Bool) → same_label m.label label ≡ b → cond b (Some m.body) (body_at macros label) ≡ Some body → (body_at macros label ≡ Some body → size_at macros label ≡ 3 + (length label + length body))
        → cond b (3 + (length m.label + length m.body)) (size_at macros label) ≡ 3 + (length label + length body)
    by_test true e some rest = omega (arith, same_length m.label label e, ap length (same_some m.body body some))
    by_test false e some rest = rest some
