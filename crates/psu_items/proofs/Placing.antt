-- Heads as slots, where those at some places are new.
use Rattle.std.proofs.Common.{◌≡◌, ◌≢◌, inl, inr, ℕ, zero, suc, ◌+◌, ◌<◌, ◌≤◌, Bool, true, false, ◌||◌, List, [], ◌∷◌, ◌++◌, length, get_or, drop, refl, sym, ◌∙◌, ap, subst, arith, length-append}
use Rattle.std.specs.Prelude.{◌==◌}
use Rattle.std.specs.List.{AllByRecursion, list_any}
use Rattle.std.proofs.lemmas.Bool.{eq-eqb}
use Rattle.std.proofs.lemmas.Bool.Decides.{eqb_tells}
use Rattle.std.proofs.Math.Bool.{or-true}
use Rattle.std.proofs.lemmas.List.{drop_more, get_or_default}
use Rattle.std.proofs.lemmas.List.Folds.{list_any-append, list_any_at}
use Rattle.psu_map.specs.Map.{Item}
use Rattle.psu_pages.specs.Image.{Head, IsInPool, AreApart, AreClear, pages_of, taken}
use Rattle.psu_pages.specs.Writing.{IsWritten}
use Rattle.psu_pages.proofs.Taken.{taken_all}
use Rattle.psu_items.specs.declared.layout.Slot.{Slot}
use Rattle.psu_items.specs.Layout.{heads_of, slots_from, value_at, StandsWritten}
use Rattle.psu_items.proofs.Laying.{two_clear}

-- two numbers that differ
differ : (a b : ℕ) → a ≢ b → (a == b) ≡ false
differ a b apart = elim (eqb_tells a b) [
  | inl same ↦ absurd (apart same.1)
  | inr other ↦ other.0
]

-- whether a place is among the places of new slots
abbrev pub is_there : ℕ → List ℕ → Bool
is_there at places = list_any (λ (place : ℕ). place == at) places

none_there : (at : ℕ) (places : List ℕ) → AllByRecursion (λ (place : ℕ). place < at) places → is_there at places ≡ false
none_there at [] all = refl
none_there at (place ∷ places) all = ap (λ (b : Bool). b || is_there at places) (differ place at (λ same. omega (arith, same, all.0))) ∙ none_there at places all.1

last_there : (at : ℕ) (places : List ℕ) → is_there at (places ++ at ∷ []) ≡ true
last_there at places =
    list_any-append (λ (place : ℕ). place == at) places (at ∷ [])
    ∙ ap (λ (b : Bool). is_there at places || (b || false)) (eq-eqb at at refl) ∙ or-true (is_there at places)

other_there : (at last : ℕ) (places : List ℕ) → last ≢ at → is_there at (places ++ last ∷ []) ≡ is_there at places
other_there at last [] apart = ap (λ (b : Bool). b || false) (differ last at apart)
other_there at last (place ∷ places) apart = ap (λ (b : Bool). (place == at) || b) (other_there at last places apart)

pub all_more : (n : ℕ) (places : List ℕ) → AllByRecursion (λ (place : ℕ). place < n) places → AllByRecursion (λ (place : ℕ). place < n + 1) places
all_more n [] all = tt
all_more n (place ∷ places) all = (omega (arith, all.0), all_more n places all.1)

pub all_last : (n : ℕ) (places : List ℕ) → AllByRecursion (λ (place : ℕ). place < n) places → AllByRecursion (λ (place : ℕ). place < n + 1) (places ++ n ∷ [])
all_last n [] all = (omega arith, tt)
all_last n (place ∷ places) all = (omega (arith, all.0), all_last n places all.1)

-- a head is on its page, and its pages hold the value that the target has
abbrev pub IsIn : List Item → List ℕ → Head → Type 0
IsIn target image head = IsWritten image head (value_at target head.key)

module _ {A : Type 0} where
  abbrev pub slot : Head → Bool → Slot A
  slot head new = record { head = head; is_new = new }

  abbrev pub slots : ℕ → List Head → List ℕ → List (Slot A)
  slots at heads places = slots_from at heads places

  -- one more head
  pub head_more : (at : ℕ) (heads : List Head) (head : Head) (places : List ℕ) → slots at (heads ++ head ∷ []) places ≡ slots at heads places ++ slot head (is_there (at + length heads) places) ∷ []
  head_more at [] head places = let same : at ≡ at + 0 = omega arith in ap (λ (n : ℕ). slot head (is_there n places) ∷ []) same
  head_more at (first ∷ heads) head places =
      let same : (at + 1) + length heads ≡ at + length (first ∷ heads) = omega arith in
      ap (λ (l : List (Slot A)). slot first (is_there at places) ∷ l) (head_more (at + 1) heads head places ∙ ap (λ (n : ℕ). slots (at + 1) heads places ++ slot head (is_there n places) ∷ []) same)

  -- the last head is removed
  pub head_less : (heads rest : List Head) (head : Head) (places : List ℕ) → heads ≡ rest ++ head ∷ [] → slots 0 heads places ≡ slots 0 rest places ++ slot head (is_there (length rest) places) ∷ []
  head_less heads rest head places are =
      let same : 0 + length rest ≡ length rest = omega arith in
      ap (λ (l : List Head). slots 0 l places) are ∙ head_more 0 rest head places ∙ ap (λ (n : ℕ). slots 0 rest places ++ slot head (is_there n places) ∷ []) same

  -- a place after all heads
  place_more : (at : ℕ) (heads : List Head) (place : ℕ) (places : List ℕ) → at + length heads ≤ place → slots at heads (places ++ place ∷ []) ≡ slots at heads places
  place_more at [] place places after = refl
  place_more at (head ∷ heads) place places after =
      ap (λ (b : Bool). slot head b ∷ slots (at + 1) heads (places ++ place ∷ [])) (other_there at place places (λ same. omega (arith, same, after)))
      ∙ ap (λ (l : List (Slot A)). slot head (is_there at places) ∷ l) (place_more (at + 1) heads place places (omega (arith, after)))

  module _ (heads : List Head) (places : List ℕ) (there : AllByRecursion (λ (place : ℕ). place < length heads) places) (s : Slot A) where
    none : 0 + length heads ≡ length heads
    none = omega arith

    pub slot_kept : s.is_new ≡ false → slots 0 (heads ++ s.head ∷ []) places ≡ slots 0 heads places ++ s ∷ []
    slot_kept old =
        head_more 0 heads s.head places
        ∙ ap (λ (b : Bool). slots 0 heads places ++ slot s.head b ∷ []) (ap (λ (n : ℕ). is_there n places) none ∙ none_there (length heads) places there ∙ sym old)

    pub slot_new : s.is_new ≡ true → slots 0 (heads ++ s.head ∷ []) (places ++ length heads ∷ []) ≡ slots 0 heads places ++ s ∷ []
    slot_new new =
        head_more 0 heads s.head (places ++ length heads ∷ [])
        ∙ ap (λ (l : List (Slot A)). l ++ slot s.head (is_there (0 + length heads) (places ++ length heads ∷ [])) ∷ []) (place_more 0 heads (length heads) places (omega arith))
        ∙ ap (λ (b : Bool). slots 0 heads places ++ slot s.head b ∷ []) (ap (λ (n : ℕ). is_there n (places ++ length heads ∷ [])) none ∙ last_there (length heads) places ∙ sym new)

    -- the lists to which a slot is appended
    module _ (heads_after : List Head) (places_after : List ℕ) (more : heads_after ≡ heads ++ s.head ∷ []) where
      count : length heads_after ≡ length heads + 1
      count = ap (λ (l : List Head). length l) more ∙ length-append heads (s.head ∷ [])

      pub added_kept : places_after ≡ places → s.is_new ≡ false → slots 0 heads_after places_after ≡ slots 0 heads places ++ s ∷ []
      added_kept same old = ap (λ (l : List Head). slots 0 l places_after) more ∙ ap (λ (l : List ℕ). slots 0 (heads ++ s.head ∷ []) l) same ∙ slot_kept old

      pub added_new : places_after ≡ places ++ length heads ∷ [] → s.is_new ≡ true → slots 0 heads_after places_after ≡ slots 0 heads places ++ s ∷ []
      added_new last new = ap (λ (l : List Head). slots 0 l places_after) more ∙ ap (λ (l : List ℕ). slots 0 (heads ++ s.head ∷ []) l) last ∙ slot_new new

      pub there_kept : places_after ≡ places → AllByRecursion (λ (place : ℕ). place < length heads_after) places_after
      there_kept same = subst (λ (n : ℕ). AllByRecursion (λ (place : ℕ). place < n) places_after) (sym count) (subst (AllByRecursion (λ (place : ℕ). place < length heads + 1)) (sym same) (all_more (length heads) places there))

      pub there_new : places_after ≡ places ++ length heads ∷ [] → AllByRecursion (λ (place : ℕ). place < length heads_after) places_after
      there_new last = subst (λ (n : ℕ). AllByRecursion (λ (place : ℕ). place < n) places_after) (sym count) (subst (AllByRecursion (λ (place : ℕ). place < length heads + 1)) (sym last) (all_last (length heads) places there))

  -- the slot at a place
  slot_from : (at : ℕ) (heads : List Head) (places : List ℕ) (n : ℕ) (d : Slot A) (e : Head) → n < length heads → get_or (slots at heads places) n d ≡ slot (get_or heads n e) (is_there (at + n) places)
  slot_from at [] places n d e lt = absurd (omega (arith, lt))
  slot_from at (head ∷ heads) places zero d e lt = let same : at ≡ at + 0 = omega arith in ap (λ (n : ℕ). slot head (is_there n places)) same
  slot_from at (head ∷ heads) places (suc n) d e lt =
      let same : (at + 1) + n ≡ at + suc n = omega arith in
      slot_from (at + 1) heads places n d e (omega (arith, lt)) ∙ ap (λ (k : ℕ). slot (get_or heads n e) (is_there k places)) same

module _ (A : Type 0) where
  pub heads_are : (at : ℕ) (heads : List Head) (places : List ℕ) → heads_of (slots {A = A} at heads places) ≡ heads
  heads_are at [] places = refl
  heads_are at (head ∷ heads) places = ap (λ (l : List Head). head ∷ l) (heads_are (at + 1) heads places)

  length-slots : (at : ℕ) (heads : List Head) (places : List ℕ) → length {A = Slot A} (slots {A = A} at heads places) ≡ length heads
  length-slots at [] places = refl
  length-slots at (head ∷ heads) places = ap suc (length-slots (at + 1) heads places)

  -- what holds of all slots holds of the slot at a new place
  pub at_place : (P : Slot A → Type 0) (heads : List Head) (places : List ℕ) (j : ℕ) (place : ℕ) (e : Head) → j < length places → place ≡ get_or places j place → place < length heads
      → ((n : ℕ) (d : Slot A) → n < length (slots {A = A} 0 heads places) → P (get_or (slots {A = A} 0 heads places) n d)) → P (slot (get_or heads place e) true)
  at_place P heads places j place e lt is within all =
      let new : is_there place places ≡ true = list_any_at (λ (p : ℕ). p == place) places j place lt (eq-eqb _ _ (sym is)) in
      let d = slot e true in
      subst P (slot_from 0 heads places place d e within ∙ ap (λ (n : ℕ). slot (get_or heads place e) (is_there n places)) (let same : 0 + place ≡ place = omega arith in same) ∙ ap (λ (b : Bool). slot (get_or heads place e) b) new) (all place d (omega (arith, within, length-slots 0 heads places)))

  -- the pages of one head are written: the other heads and their pages stay unchanged
  module _ (target : List Item) (x y : List ℕ) (written : ℕ) (rest : List ℕ) where
    pub stands_step : (at : ℕ) (heads : List Head) → ((n : ℕ) (d : Head) → n < length heads → at + n ≡ written → IsIn target y (get_or heads n d)) → ((n : ℕ) (d : Head) → n < length heads → at + n ≢ written → IsIn target x (get_or heads n d) → IsIn target y (get_or heads n d))
        → AllByRecursion (StandsWritten x target) (slots {A = A} at heads (written ∷ rest)) → AllByRecursion (StandsWritten y target) (slots {A = A} at heads rest)
    stands_step at [] here others all = tt
    stands_step at (head ∷ heads) here others all = (
      λ old. elim (eqb_tells written at) [
        | inl same ↦ here 0 head (omega arith) (omega (arith, same.1))
        | inr other ↦ others 0 head (omega arith) (λ same. other.1 (omega (arith, same))) (all.0 (ap (λ (b : Bool). b || is_there at rest) other.0 ∙ old))
      ],
      stands_step (at + 1) heads (λ n d lt same. here (suc n) d (omega (arith, lt)) (omega (arith, same))) (λ n d lt apart. others (suc n) d (omega (arith, lt)) (λ same. apart (omega (arith, same)))) all.1,
    )

  -- the head at a new place is written
  pub written_on : (target : List Item) (x y : List ℕ) (limit : ℕ) (heads : List Head) (places : List ℕ) (n place : ℕ) (head : Head) → n < length places → place ≡ get_or places n place → place < length heads → head ≡ get_or heads place head
      → AllByRecursion (IsInPool limit) (taken heads) → AreApart (taken heads)
      → ((o : Head) (its : List ℕ) → IsWritten x o its → AllByRecursion (IsInPool limit) (pages_of o) → AreClear (pages_of head) (pages_of o) → IsWritten y o its) → IsIn target y head
      → AllByRecursion (StandsWritten x target) (slots {A = A} 0 heads (drop n places)) → AllByRecursion (StandsWritten y target) (slots {A = A} 0 heads (drop (n + 1) places))
  written_on target x y limit heads places n place head lt is within head_is pool apart others now all =
      let next : drop n places ≡ place ∷ drop (n + 1) places = drop_more places n place lt ∙ ap (λ (p : ℕ). p ∷ drop (n + 1) places) (sym is) in
      stands_step target x y place (drop (n + 1) places) 0 heads
      (λ k d lt_k same. let at : place ≡ k = omega (arith, same) in subst (IsIn target y) (head_is ∙ get_or_default heads place head d within ∙ ap (λ (m : ℕ). get_or heads m d) at) now)
      (λ k d lt_k beside w.
      let o = get_or heads k d in
      let clear = two_clear heads place k head d within lt_k (λ same. beside (omega (arith, same))) apart in
      others o (value_at target o.key) w (taken_all (IsInPool limit) heads k d lt_k pool) (subst (λ (h : Head). AreClear (pages_of h) (pages_of o)) (sym head_is) clear))
      (subst (λ (ps : List ℕ). AllByRecursion (StandsWritten x target) (slots {A = A} 0 heads ps)) next all)

  -- no new place remains
  pub all_written : (target : List Item) (y : List ℕ) (at : ℕ) (heads : List Head) (places : List ℕ) → AllByRecursion (StandsWritten y target) (slots {A = A} at heads []) → AllByRecursion (λ (o : Slot A). IsWritten y o.head (value_at target o.head.key)) (slots {A = A} at heads places)
  all_written target y at [] places all = tt
  all_written target y at (head ∷ heads) places all = (all.0 refl, all_written target y (at + 1) heads places all.1)
