-- What a batch keeps: the items that no edit changes.
use Rattle.std.proofs.Common.{◌≡◌, ◌⊎◌, inl, inr, ℕ, zero, suc, ◌<◌, Bool, true, false, cond, List, [], ◌∷◌, ◌++◌, length, get_or, set, Option, Some, None, refl, sym, ◌∙◌, ap, subst, arith}
use Rattle.std.specs.List.{insert, remove, AllByRecursion}
use Rattle.std.specs.Str.{bytes_eq}
use Rattle.psu_map.specs.Map.{get, IsSorted}
use Rattle.psu_map.specs.Place.{IsAt, IsGap}
use Rattle.psu_map.specs.Target.{Entry, items_in, standing}
use Rattle.psu_map.proofs.Aiming.{key_there, in_entries}
use Rattle.psu_map.proofs.Keys.{same_key, other_key}
use Rattle.psu_map.proofs.Sorted.{get-gap}

-- the value of an entry, if it is unchanged
abbrev said : Entry → Option (List ℕ)
said e = cond e.stands (Some e.value) None

-- if all entries are unchanged, all items are
pub all_standing : (entries : List Entry) → AllByRecursion (λ (e : Entry). e.stands ≡ true) entries → (key : List ℕ) → standing entries key ≡ get (items_in entries) key
all_standing [] all key = refl
all_standing (e ∷ entries) all key =
    ap (λ (b : Bool). cond (bytes_eq e.key key) (cond b (Some e.value) None) (standing entries key)) all.0 ∙ ap (λ (rest : Option (List ℕ)). cond (bytes_eq e.key key) (Some e.value) rest) (all_standing entries all.1 key)

-- what is unchanged is an item
stands_in : (entries : List Entry) (key value : List ℕ) → standing entries key ≡ Some value → get (items_in entries) key ≡ None → ⊥
stands_in [] key value stands none = cc
stands_in (e ∷ entries) key value stands none = by_test (bytes_eq e.key key) stands none (stands_in entries key value)
  where
    by_test : (b : Bool) → cond b (said e) (standing entries key) ≡ Some value → cond b (Some e.value) (get (items_in entries) key) ≡ None
        → (standing entries key ≡ Some value → get (items_in entries) key ≡ None → ⊥) → ⊥
    by_test true stands none rest = cc
    by_test false stands none rest = rest stands none

-- an entry in place of one with its key
module _ (e : Entry) (other its : List ℕ) (same : e.key ≡ other → e.value ≡ its) where
  replaced : (old : Entry) (b : Bool) (rest : Option (List ℕ)) → bytes_eq e.key other ≡ b → (old.stands ≡ true → old.value ≡ e.value → e.stands ≡ true) → cond b (said old) rest ≡ Some its → cond b (said e) rest ≡ Some its
  replaced old false rest test stays was = was
  replaced old true rest test stays was = by_stands old.stands refl was
    where
      value : e.value ≡ its
      value = same (same_key e.key other test)

      by_stands : (s : Bool) → old.stands ≡ s → cond s (Some old.value) None ≡ Some its → said e ≡ Some its
      by_stands true stands was =
          let old_value : old.value ≡ its = cc in
          ap (λ (s : Bool). cond s (Some e.value) None) (stays stands (old_value ∙ sym value)) ∙ ap (λ (v : List ℕ). Some v) value
      by_stands false stands was = absurd cc

  standing_set : (entries : List Entry) (at : ℕ) (d : Entry) → at < length entries → (let old = get_or entries at d in old.key ≡ e.key) → (let old = get_or entries at d in old.stands ≡ true → old.value ≡ e.value → e.stands ≡ true)
      → standing entries other ≡ Some its → standing (set entries at e) other ≡ Some its
  standing_set [] at d lt key stays was = absurd (omega (arith, lt))
  standing_set (old ∷ entries) zero d lt key stays was =
      replaced old (bytes_eq e.key other) (standing entries other) refl stays (subst (λ (k : List ℕ). cond (bytes_eq k other) (said old) (standing entries other) ≡ Some its) key was)
  standing_set (one ∷ entries) (suc at) d lt key stays was = by_test (bytes_eq one.key other) was (standing_set entries at d (omega (arith, lt)) key stays)
    where
      by_test : (b : Bool) → cond b (said one) (standing entries other) ≡ Some its → (standing entries other ≡ Some its → standing (set entries at e) other ≡ Some its) → cond b (said one) (standing (set entries at e) other) ≡ Some its
      by_test true was rest = was
      by_test false was rest = rest was

-- an entry of another key
standing_insert : (entries : List Entry) (at : ℕ) (e : Entry) (other : List ℕ) → bytes_eq e.key other ≡ false → standing (insert entries at e) other ≡ standing entries other
standing_insert [] zero e other differs = ap (λ (b : Bool). cond b (said e) None) differs
standing_insert [] (suc at) e other differs = ap (λ (b : Bool). cond b (said e) None) differs
standing_insert (one ∷ entries) zero e other differs = ap (λ (b : Bool). cond b (said e) (standing (one ∷ entries) other)) differs
standing_insert (one ∷ entries) (suc at) e other differs = ap (λ (rest : Option (List ℕ)). cond (bytes_eq one.key other) (said one) rest) (standing_insert entries at e other differs)

standing_remove : (entries : List Entry) (at : ℕ) (d : Entry) (other : List ℕ) → at < length entries → (let old = get_or entries at d in bytes_eq old.key other ≡ false) → standing (remove entries at) other ≡ standing entries other
standing_remove [] at d other lt differs = absurd (omega (arith, lt))
standing_remove (one ∷ entries) zero d other lt differs = sym (ap (λ (b : Bool). cond b (said one) (standing entries other)) differs)
standing_remove (one ∷ entries) (suc at) d other lt differs = ap (λ (rest : Option (List ℕ)). cond (bytes_eq one.key other) (said one) rest) (standing_remove entries at d other (omega (arith, lt)) differs)

module _ (entries : List Entry) (key : List ℕ) (at : ℕ) (other its : List ℕ) (stood : standing entries other ≡ Some its) where
  pub stands_set : (value : List ℕ) (old : Entry) (stands : Bool) → IsAt (items_in entries) key at → old ≡ get_or entries at old → ((old.stands ≡ true) × (old.value ≡ value) → stands ≡ true) → (key ≡ other → value ≡ its)
      → standing (set entries at (record { key = key; value = value; stands = stands })) other ≡ Some its
  stands_set value old stands found is stays same =
      let e : Entry = record { key = key; value = value; stands = stands } in
      let within = in_entries entries key at found in
      standing_set e other its same entries at old within (sym (key_there entries at old within) ∙ found.same) (λ stood value_is. stays (ap (λ (x : Entry). x.stands) is ∙ stood, ap (λ (x : Entry). x.value) is ∙ value_is)) stood

  pub stands_insert : (value : List ℕ) (stands : Bool) → IsGap (items_in entries) key at → IsSorted (items_in entries) → standing (insert entries at (record { key = key; value = value; stands = stands })) other ≡ Some its
  stands_insert value stands gap sorted =
      let differs : bytes_eq key other ≡ false = other_key key other (λ same. stands_in entries other its stood (subst (λ (k : List ℕ). get (items_in entries) k ≡ None) same (get-gap (items_in entries) key at sorted gap))) in
      standing_insert entries at (record { key = key; value = value; stands = stands }) other differs ∙ stood

  pub stands_remove : (old : Entry) → IsAt (items_in entries) key at → (key ≡ other → ⊥) → standing (remove entries at) other ≡ Some its
  stands_remove old found differs =
      let within = in_entries entries key at found in
      let there : (let one = get_or entries at old in one.key) ≡ key = sym (key_there entries at old within) ∙ found.same in
      standing_remove entries at old other within (other_key (let one = get_or entries at old in one.key) other (λ same. differs (sym there ∙ same))) ∙ stood

-- what is unchanged once there is one more entry was unchanged before, or is that entry's
abbrev pub IsSaid : Entry → List ℕ → List ℕ → Type 0
IsSaid e key value = (e.stands ≡ true) × (e.key ≡ key) × (e.value ≡ value)

pub standing_last : (entries : List Entry) (e : Entry) (key value : List ℕ) → standing (entries ++ e ∷ []) key ≡ Some value → (standing entries key ≡ Some value) ⊎ IsSaid e key value
standing_last [] e key value stands = by_test (bytes_eq e.key key) refl e.stands refl stands
  where
    by_test : (b : Bool) → bytes_eq e.key key ≡ b → (s : Bool) → e.stands ≡ s → cond b (cond s (Some e.value) None) None ≡ Some value → (standing [] key ≡ Some value) ⊎ IsSaid e key value
    by_test true same true is stands = inr (is, same_key e.key key same, cc)
    by_test true same false is stands = absurd cc
    by_test false same s is stands = absurd cc
standing_last (one ∷ entries) e key value stands = by_test (bytes_eq one.key key) stands (standing_last entries e key value)
  where
    by_test : (b : Bool) → cond b (said one) (standing (entries ++ e ∷ []) key) ≡ Some value → (standing (entries ++ e ∷ []) key ≡ Some value → (standing entries key ≡ Some value) ⊎ IsSaid e key value)
        → (cond b (said one) (standing entries key) ≡ Some value) ⊎ IsSaid e key value
    by_test true stands rest = inl stands
    by_test false stands rest = rest stands
