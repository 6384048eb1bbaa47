-- What lookups in the parts of contents find.
use Rattle.std.proofs.Common.{Bor, ◌≡◌, ℕ, zero, suc, ◌<◌, ◌≤◌, inl, inr, Bool, true, false, cond, List, [], ◌∷◌, length, get_or, drop, Option, Some, None, refl, sym, ◌∙◌, ap, subst, bytes_eq, arith}
use Rattle.std.specs.Prelude.{not, is_some, unwrap_or, option_map, IfSome}
use Rattle.std.specs.List.{AllByRecursion}
use Rattle.psu_lex.specs.declared.scpi_error.ScpiError.{ScpiError}
use Rattle.psu_nv.specs.Commands.{first_of}
use Rattle.std.proofs.lemmas.Bool.{cases_Bool}
use Rattle.std.proofs.lemmas.Bool.Decides.{nat_tests}
use Rattle.psu_map.specs.Map.{Item, get}
use Rattle.psu_nv.specs.Contents.{Macro, body_at, begins_with_kind, IsFile, IsMacro}
use Rattle.psu_nv.specs.Labels.{same_label}
use Rattle.psu_nv.specs.Views.{kind_of}

pub body_next : (macros : List Macro) (i next : ℕ) (d : Macro) (label : List ℕ) → next ≡ suc i → i < length macros
    → body_at (drop i macros) label ≡ cond (let m = get_or macros i d in same_label m.label label) (let m = get_or macros i d in Some m.body) (body_at (drop next macros) label)
body_next [] i next d label is lt = absurd (omega arith)
body_next (m ∷ macros) zero next d label is lt = ap (λ (n : ℕ). cond (same_label m.label label) (Some m.body) (body_at (drop n (m ∷ macros)) label)) (sym is)
body_next (m ∷ macros) (suc i) next d label is lt = body_next macros i (suc i) d label refl (omega arith)
    ∙ ap (λ (n : ℕ). cond (let q = get_or macros i d in same_label q.label label) (let q = get_or macros i d in Some q.body) (body_at (drop n (m ∷ macros)) label)) (sym is)

-- the value found at a name begins with the type of a file
pub got_kind : (files : List Item) (name value : List ℕ) → AllByRecursion IsFile files → get files name ≡ Some value → begins_with_kind value ≡ true
got_kind [] name value all is = absurd cc
got_kind (f ∷ files) name value all is = elim (cases_Bool (bytes_eq f.key name)) [
  | inl here ↦
      let found : f.value ≡ value = some_same (ap (λ (b : Bool). cond b (Some f.value) (get files name)) (sym here) ∙ is) in
      ap begins_with_kind (sym found) ∙ all.0.kind
  | inr other ↦ got_kind files name value all.1 (ap (λ (b : Bool). cond b (Some f.value) (get files name)) (sym other) ∙ is)
]
  where
    some_same : {x y : List ℕ} → Some x ≡ Some y → x ≡ y
    some_same e = cc

pub no_kind : (value : List ℕ) → length value < 1 → begins_with_kind value ≡ true → ⊥
no_kind [] short is = cc
no_kind (k ∷ value) short is = omega (arith, short)

pub kind_known : (code : ℕ) (bytes : List ℕ) → kind_of code ≡ None → begins_with_kind (code ∷ bytes) ≡ true → ⊥
kind_known zero bytes none is = cc
kind_known (suc zero) bytes none is = cc
kind_known (suc (suc zero)) bytes none is = cc
kind_known (suc (suc (suc n))) bytes none is = let low : suc (suc (suc n)) ≤ 2 = grind (arith, nat_tests) in absurd (omega arith)

pub no_known : (value : List ℕ) → 1 ≤ length value → kind_of (get_or value 0 0) ≡ None → begins_with_kind value ≡ true → ⊥
no_known [] some none is = absurd (omega (arith, some))
no_known (code ∷ bytes) some none is = kind_known code bytes none is

-- no value found has more than 32,769 bytes
pub got_most : (files : List Item) (name : List ℕ) → AllByRecursion IsFile files → length (unwrap_or (get files name) []) ≤ 32769
got_most [] name all = omega arith
got_most (f ∷ files) name all = by_test (bytes_eq f.key name) (got_most files name all.1)
  where
    by_test : (b : Bool) → length (unwrap_or (get files name) []) ≤ 32769 → length (unwrap_or (cond b (Some f.value) (get files name)) []) ≤ 32769
    by_test true rest = all.0.most
    by_test false rest = rest

pub body_most : (macros : List Macro) (label : List ℕ) → AllByRecursion IsMacro macros → length (unwrap_or (body_at macros label) []) ≤ 1024
body_most [] label all = omega arith
body_most (m ∷ macros) label all = by_test (same_label m.label label) (body_most macros label all.1)
  where
    by_test : (b : Bool) → length (unwrap_or (body_at macros label) []) ≤ 1024 → length (unwrap_or (cond b (Some m.body) (body_at macros label)) []) ≤ 1024
    by_test true rest = all.0.body
    by_test false rest = rest

pub all_at : {X : Type 0} (P : X → Type 0) (xs : List X) (i : ℕ) (d : X) → AllByRecursion P xs → i < length xs → P (get_or xs i d)
all_at P [] i d all lt = absurd (omega arith)
all_at P (x ∷ xs) zero d all lt = all.0
all_at P (x ∷ xs) (suc i) d all lt = all_at P xs i d all.1 (omega arith)

-- the conditions that hold where a copy is not refused
pub copy_found : (a b c d : Bool) (e f g h : ScpiError) → first_of ((not a, e) ∷ (not b, f) ∷ (not c, g) ∷ (d, h) ∷ []) ≡ None → (a ≡ true) × (b ≡ true) × (c ≡ true) × (d ≡ false)
copy_found false b c d e f g h is = absurd cc
copy_found true false c d e f g h is = absurd cc
copy_found true true false d e f g h is = absurd cc
copy_found true true true true e f g h is = absurd cc
copy_found true true true false e f g h is = (refl, refl, refl, refl)

pub found_value : (o : Option (List ℕ)) → is_some o ≡ true → o ≡ Some (unwrap_or o [])
found_value None is = absurd cc
found_value (Some x) is = refl

pub free_value : (o : Option (List ℕ)) → is_some o ≡ false → o ≡ None
free_value None is = refl
free_value (Some x) is = absurd cc

pub got_length : (files : List Item) (name value : List ℕ) → AllByRecursion IsFile files → get files name ≡ Some value → length value ≤ 32769
got_length files name value all is = subst (λ (l : List ℕ). length l ≤ 32769) (ap (λ (o : Option (List ℕ)). unwrap_or o []) is) (got_most files name all)

pub body_length : (macros : List Macro) (label body : List ℕ) → AllByRecursion IsMacro macros → body_at macros label ≡ Some body → length body ≤ 1024
body_length macros label body all is = subst (λ (l : List ℕ). length l ≤ 1024) (ap (λ (o : Option (List ℕ)). unwrap_or o []) is) (body_most macros label all)

-- the body that a lookup finds has at most 1,024 bytes
pub found_most : (o : Option (Bor (List ℕ))) (macros : List Macro) (label : List ℕ) → AllByRecursion IsMacro macros → option_map (λ body. body.now) o ≡ body_at macros label → IfSome o (λ body. length body.now ≤ 1024)
found_most None macros label all is = tt
found_most (Some body) macros label all is = body_length macros label body.now all (sym is)
