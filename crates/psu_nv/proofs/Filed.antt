-- The files of a map, under their names.
use Rattle.std.proofs.Common.{◌≡◌, ℕ, suc, ◌+◌, ◌<◌, ◌≤◌, Bool, true, false, cond, List, [], ◌∷◌, ◌++◌, length, get_or, take, Option, Some, None, refl, sym, ◌∙◌, ap, subst, bytes_eq, arith, append_assoc}
use Rattle.std.specs.Prelude.{◌&&◌, ◌==◌, nat_le}
use Rattle.std.specs.List.{AllByRecursion}
use Rattle.std.proofs.Math.Seq.{take-suc}
use Rattle.std.proofs.lemmas.Bool.Decides.{nat_tests}
use Rattle.psu_map.specs.Map.{Item, item_of, get, Before, IsSorted}
use Rattle.psu_nv.specs.Contents.{IsFile, begins_with_kind}
use Rattle.psu_nv.specs.Decoding.{is_key, has_keys, name_in, file_at, files_in, fits_file, fit_files}
use Rattle.psu_nv.proofs.Parts.{Below}
use Rattle.psu_nv.proofs.Encoding.{taken_before}

pub five : (kind : ℕ) → (kind == 5) ≡ true → kind ≡ 5
five kind is = grind (arith, nat_tests)

abbrev had : List ℕ → Option (List ℕ)
had v = Some v

same_had : (x y : List ℕ) → had x ≡ had y → x ≡ y
same_had x y e = cc

-- the key of a file
pub name_is : (key name : List ℕ) → name_in key ≡ Some name → key ≡ 5 ∷ name
name_is [] name is = absurd cc
name_is (kind ∷ rest) name is = by_test (kind == 5) refl is
  where
    by_test : (b : Bool) → (kind == 5) ≡ b → cond b (Some rest) None ≡ had name → kind ∷ rest ≡ 5 ∷ name
    by_test true e is = ap (λ (k : ℕ). k ∷ rest) (five kind e) ∙ ap (λ (l : List ℕ). 5 ∷ l) (same_had rest name is)
    by_test false e is = absurd cc

pub files_in-append : (a b : List Item) → files_in (a ++ b) ≡ files_in a ++ files_in b
files_in-append [] b = refl
files_in-append (i ∷ a) b = ap (λ (l : List Item). file_at (name_in i.key) i.value ++ l) (files_in-append a b) ∙ sym (append_assoc (file_at (name_in i.key) i.value) (files_in a) (files_in b))

-- files whose keys come before the key of a name come before the name
pub below_name : (items : List Item) (name : List ℕ) → Below (5 ∷ name) items → Below name (files_in items)
below_name [] name below = tt
below_name (i ∷ items) name below = by_name (name_in i.key) refl (below_name items name below.1)
  where
    by_name : (o : Option (List ℕ)) → name_in i.key ≡ o → Below name (files_in items) → Below name (file_at o i.value ++ files_in items)
    by_name None e rest = rest
    by_name (Some n) e rest = (subst (λ (k : List ℕ). Before k (5 ∷ name)) (name_is i.key n e) below.0, rest)

above_name : (items : List Item) (name : List ℕ) → AllByRecursion (λ (j : Item). Before (5 ∷ name) j.key) items → AllByRecursion (λ (j : Item). Before name j.key) (files_in items)
above_name [] name above = tt
above_name (i ∷ items) name above = by_name (name_in i.key) refl (above_name items name above.1)
  where
    by_name : (o : Option (List ℕ)) → name_in i.key ≡ o → AllByRecursion (λ (j : Item). Before name j.key) (files_in items) → AllByRecursion (λ (j : Item). Before name j.key) (file_at o i.value ++ files_in items)
    by_name None e rest = rest
    by_name (Some n) e rest = (subst (λ (k : List ℕ). Before (5 ∷ name) k) (name_is i.key n e) above.0, rest)

pub sorted_files : (items : List Item) → IsSorted items → IsSorted (files_in items)
sorted_files [] sorted = tt
sorted_files (i ∷ items) sorted = by_name (name_in i.key) refl (sorted_files items sorted.1)
  where
    by_name : (o : Option (List ℕ)) → name_in i.key ≡ o → IsSorted (files_in items) → IsSorted (file_at o i.value ++ files_in items)
    by_name None e rest = rest
    by_name (Some n) e rest = (above_name items n (subst (λ (k : List ℕ). AllByRecursion (λ (j : Item). Before k j.key) items) (name_is i.key n e) sorted.0), rest)

-- a lookup by a file's name finds what the map has at its key
pub get-files_in : (items : List Item) (name : List ℕ) → get (files_in items) name ≡ get items (5 ∷ name)
get-files_in [] name = refl
get-files_in (i ∷ items) name = by_key i.key (get-files_in items name)
  where
    by_kind : (b : Bool) (rest : List ℕ) → get (files_in items) name ≡ get items (5 ∷ name)
        → get (file_at (cond b (Some rest) None) i.value ++ files_in items) name ≡ cond (b && bytes_eq rest name) (Some i.value) (get items (5 ∷ name))
    by_kind true rest is = ap (λ (o : Option (List ℕ)). cond (bytes_eq rest name) (Some i.value) o) is
    by_kind false rest is = is

    by_key : (key : List ℕ) → get (files_in items) name ≡ get items (5 ∷ name) → get (file_at (name_in key) i.value ++ files_in items) name ≡ cond (bytes_eq key (5 ∷ name)) (Some i.value) (get items (5 ∷ name))
    by_key [] is = is
    by_key (kind ∷ rest) is = by_kind (kind == 5) rest is

both : (a b : Bool) → (a && b) ≡ true → (a ≡ true) × (b ≡ true)
both true b e = (refl, e)
both false b e = absurd cc

low_enough : (n most : ℕ) → nat_le n most ≡ true → n ≤ most
low_enough n most is = grind (arith, nat_tests)

-- each file of a valid map is one that contents may have
pub are_files : (items : List Item) → has_keys items ≡ true → fit_files items ≡ true → AllByRecursion IsFile (files_in items)
are_files [] keys fit = tt
are_files (i ∷ items) keys fit =
    let k = both (is_key i.key) (has_keys items) keys in
    let f = both (fits_file (name_in i.key) i.value) (fit_files items) fit in
    by_name (name_in i.key) refl f.0 (are_files items k.1 f.1)
  where
    by_name : (o : Option (List ℕ)) → name_in i.key ≡ o → fits_file o i.value ≡ true → AllByRecursion IsFile (files_in items) → AllByRecursion IsFile (file_at o i.value ++ files_in items)
    by_name None e fits rest = rest
    by_name (Some n) e fits rest =
        let key : is_key i.key ≡ true = (both (is_key i.key) (has_keys items) keys).0 in
        let parts = both (begins_with_kind i.value) (nat_le (length i.value) 32769) fits in
        (record { name = sym (ap is_key (name_is i.key n e)) ∙ key; kind = parts.0; most = low_enough (length i.value) 32769 parts.1 }, rest)

-- # One file after another

module _ (items : List Item) (n : ℕ) (d i : Item) (lt : n < length items) (here : i ≡ get_or items n d) where
  taken : files_in (take (suc n) items) ≡ files_in (take n items) ++ file_at (name_in i.key) i.value
  taken =
      ap files_in (take-suc items n d lt) ∙ files_in-append (take n items) (get_or items n d ∷ []) ∙ ap (λ (f : Item). files_in (take n items) ++ files_in (f ∷ [])) (sym here)
      ∙ ap (λ (l : List Item). files_in (take n items) ++ l) (right_none (file_at (name_in i.key) i.value))
    where
      right_none : (l : List Item) → l ++ [] ≡ l
      right_none [] = refl
      right_none (x ∷ l) = ap (λ (m : List Item). x ∷ m) (right_none l)

  pub passed : (next : ℕ) (files : List Item) → next ≡ n + 1 → files ≡ files_in (take n items) → name_in i.key ≡ None → files ≡ files_in (take next items)
  passed next files next_is is none =
      is ∙ sym (right_none (files_in (take n items))) ∙ ap (λ (o : Option (List ℕ)). files_in (take n items) ++ file_at o i.value) (sym none) ∙ sym taken
      ∙ ap (λ (k : ℕ). files_in (take k items)) (let after : suc n ≡ next = omega (arith, next_is) in after)
    where
      right_none : (l : List Item) → l ++ [] ≡ l
      right_none [] = refl
      right_none (x ∷ l) = ap (λ (m : List Item). x ∷ m) (right_none l)

  pub added : (next : ℕ) (files more : List Item) (name key value : List ℕ) → next ≡ n + 1 → files ≡ files_in (take n items) → name_in i.key ≡ Some name → key ≡ name → value ≡ i.value → more ≡ files ++ item_of key value ∷ [] → more ≡ files_in (take next items)
  added next files more name key value next_is is found key_is value_is pushed =
      pushed ∙ ap (λ (l : List Item). l ++ item_of key value ∷ []) is ∙ ap (λ (k : List ℕ). files_in (take n items) ++ item_of k value ∷ []) key_is ∙ ap (λ (v : List ℕ). files_in (take n items) ++ item_of name v ∷ []) value_is
      ∙ ap (λ (o : Option (List ℕ)). files_in (take n items) ++ file_at o i.value) (sym found) ∙ sym taken
      ∙ ap (λ (k : ℕ). files_in (take k items)) (let after : suc n ≡ next = omega (arith, next_is) in after)

  pub before_name : (files : List Item) (name key : List ℕ) → IsSorted items → files ≡ files_in (take n items) → name_in i.key ≡ Some name → key ≡ name → Below key files
  before_name files name key sorted is found key_is =
      let led : (let f = get_or items n d in f.key ≡ 5 ∷ name) = ap (λ (f : Item). f.key) (sym here) ∙ name_is i.key name found in
      subst (λ (k : List ℕ). Below k files) (sym key_is) (subst (Below name) (sym is) (below_name (take n items) name (subst (λ (k : List ℕ). Below k (take n items)) led (taken_before items n d sorted lt))))
