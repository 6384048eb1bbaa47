-- Pages are claimed and released one by one.
use Rattle.std.proofs.Common.{◌≡◌, ◌≢◌, ◌⊎◌, inl, inr, ℕ, zero, suc, ◌+◌, ◌<◌, ◌≤◌, Bool, true, false, List, [], ◌∷◌, ◌++◌, length, get_or, set, take, refl, sym, ◌∙◌, ap, subst, arith, length-append}
use Rattle.std.specs.Prelude.{slice_set}
use Rattle.std.specs.List.{AllByRecursion}
use Rattle.std.proofs.lemmas.Bool.{cases_eq}
use Rattle.std.proofs.lemmas.List.{get_or-set_other, length-set, take_more}
use Rattle.std.proofs.lemmas.Grind.{get_or-set_at}
use Rattle.psu_pages.specs.Image.{IsNone, AreApart}
use Rattle.psu_pages.specs.Free.{is_free, free_from, free_pages, Marks, AreClaimed, HandsOver}
use Rattle.psu_pages.proofs.Lists.{all_map, all_left, all_right, all_join, all_at, none_before, none_by, apart_more, apart_clear, apart_right, clear_swap}

pub marks_none : (mark : Bool) (free : List Bool) → Marks mark [] free free
marks_none mark free = record { size = refl; marked = tt; others = λ page none. refl }

-- page i is marked too
pub marks_more : (mark : Bool) (pages : List ℕ) (i d page : ℕ) (old mid new : List Bool) → i < length pages → page ≡ get_or pages i d → page < length mid → new ≡ slice_set mid page mark
    → Marks mark (take i pages) old mid → Marks mark (take (i + 1) pages) old new
marks_more mark pages i d page old mid new lt is within next so =
    let more : take i pages ++ page ∷ [] ≡ take (i + 1) pages = ap (λ (p : ℕ). take i pages ++ p ∷ []) is ∙ sym (take_more pages i d lt) in
    subst (λ (ps : List ℕ). Marks mark ps old new) more (subst (λ (m : List Bool). Marks mark (take i pages ++ page ∷ []) old m) (sym next) (record {
      size = length-set mid page mark ∙ so.size;
      marked = all_join (λ (p : ℕ). is_free (set mid page mark) p ≡ mark) (take i pages) (page ∷ [])
          (all_map (λ (p : ℕ). is_free mid p ≡ mark) (λ (p : ℕ). is_free (set mid page mark) p ≡ mark) (λ p was. stays p was (cases_eq p page)) (take i pages) so.marked)
          (get_or-set_at mid page page mark false refl within, tt);
      others = λ p none. get_or-set_other mid page p mark false (last p none) ∙ so.others p (all_left (λ (q : ℕ). p ≢ q) (take i pages) (page ∷ []) none);
    }))
  where
    stays : (p : ℕ) → is_free mid p ≡ mark → (p ≡ page) ⊎ (p ≢ page) → is_free (set mid page mark) p ≡ mark
    stays p was (inl same) = get_or-set_at mid page p mark false same within
    stays p was (inr apart) = get_or-set_other mid page p mark false apart ∙ was

    last : (p : ℕ) → IsNone (take i pages ++ page ∷ []) p → p ≢ page
    last p none = (all_right (λ (q : ℕ). p ≢ q) (take i pages) (page ∷ []) none).0

-- the free pages, with one more mark
pub free_more : (at i : ℕ) (d : Bool) (free : List Bool) → i < length free → get_or free i d ≡ true → free_from at (take (i + 1) free) ≡ free_from at (take i free) ++ (at + i) ∷ []
free_more at i d free lt is = ap (free_from at) (take_more free i d lt) ∙ at_end at (take i free) (get_or free i d) is ∙ ap (λ (n : ℕ). free_from at (take i free) ++ (at + n) ∷ []) (length_take i free lt)
  where
    at_end : (at : ℕ) (free : List Bool) (mark : Bool) → mark ≡ true → free_from at (free ++ mark ∷ []) ≡ free_from at free ++ (at + length free) ∷ []
    at_end at [] false is = absurd (cc)
    at_end at [] true is = ap (λ (n : ℕ). n ∷ []) (let same : at ≡ at + 0 = omega arith in same)
    at_end at (true ∷ free) mark is = ap (λ (l : List ℕ). at ∷ l) (at_end (at + 1) free mark is ∙ ap (λ (n : ℕ). free_from (at + 1) free ++ n ∷ []) (let same : at + 1 + length free ≡ at + suc (length free) = omega arith in same))
    at_end at (false ∷ free) mark is = at_end (at + 1) free mark is ∙ ap (λ (n : ℕ). free_from (at + 1) free ++ n ∷ []) (let same : at + 1 + length free ≡ at + suc (length free) = omega arith in same)

    length_take : (i : ℕ) (free : List Bool) → i < length free → length (take i free) ≡ i
    length_take i [] lt = absurd (omega (arith, lt))
    length_take zero (m ∷ free) lt = refl
    length_take (suc i) (m ∷ free) lt = ap suc (length_take i free (omega (arith, lt)))

pub free_same : (at i : ℕ) (d : Bool) (free : List Bool) → i < length free → get_or free i d ≡ false → free_from at (take (i + 1) free) ≡ free_from at (take i free)
free_same at i d free lt is = ap (free_from at) (take_more free i d lt) ∙ at_end at (take i free) (get_or free i d) is
  where
    at_end : (at : ℕ) (free : List Bool) (mark : Bool) → mark ≡ false → free_from at (free ++ mark ∷ []) ≡ free_from at free
    at_end at [] false is = refl
    at_end at [] true is = absurd (cc)
    at_end at (true ∷ free) mark is = ap (λ (l : List ℕ). at ∷ l) (at_end (at + 1) free mark is)
    at_end at (false ∷ free) mark is = at_end (at + 1) free mark is

-- the first of a list, and one more at its end
pub first_more : (n x : ℕ) (xs : List ℕ) → length (take n xs) < n → take n (xs ++ x ∷ []) ≡ take n xs ++ x ∷ []
first_more zero x [] lt = absurd (omega (arith, lt))
first_more zero x (y ∷ xs) lt = absurd (omega (arith, lt))
first_more (suc zero) x [] lt = refl
first_more (suc (suc n)) x [] lt = refl
first_more (suc n) x (y ∷ xs) lt = ap (λ (l : List ℕ). y ∷ l) (first_more n x xs (omega (arith, lt)))

pub first_same : (n : ℕ) (xs ys : List ℕ) → n ≤ length (take n xs) → take n (xs ++ ys) ≡ take n xs
first_same zero [] [] le = refl
first_same zero [] (y ∷ ys) le = refl
first_same zero (x ∷ xs) ys le = refl
first_same (suc n) [] ys le = absurd (omega (arith, le))
first_same (suc n) (x ∷ xs) ys le = ap (λ (l : List ℕ). x ∷ l) (first_same n xs ys (omega (arith, le)))

-- free pages are free, exist, and are distinct
free_low : (at : ℕ) (free : List Bool) → AllByRecursion (λ (p : ℕ). at ≤ p) (free_from at free)
free_low at [] = tt
free_low at (true ∷ free) = (omega arith, all_map (λ (p : ℕ). at + 1 ≤ p) (λ (p : ℕ). at ≤ p) (λ p le. omega (arith, le)) (free_from (at + 1) free) (free_low (at + 1) free))
free_low at (false ∷ free) = all_map (λ (p : ℕ). at + 1 ≤ p) (λ (p : ℕ). at ≤ p) (λ p le. omega (arith, le)) (free_from (at + 1) free) (free_low (at + 1) free)

pub free_apart : (at : ℕ) (free : List Bool) → AreApart (free_from at free)
free_apart at [] = tt
free_apart at (true ∷ free) = (all_map (λ (p : ℕ). at + 1 ≤ p) (λ (p : ℕ). at ≢ p) (λ p le same. omega (arith, le, same)) (free_from (at + 1) free) (free_low (at + 1) free), free_apart (at + 1) free)
free_apart at (false ∷ free) = free_apart (at + 1) free

-- an index from the start of a list
abbrev HasAt : ℕ → List Bool → ℕ → Type 0
HasAt at free p = (k : ℕ) × (p ≡ at + k) × (k < length free) × (get_or free k false ≡ true)

has_later : (at : ℕ) (mark : Bool) (free : List Bool) (p : ℕ) → HasAt (at + 1) free p → HasAt at (mark ∷ free) p
has_later at mark free p has = (suc has.0, omega (arith, has.1), omega (arith, has.2), has.3)

free_there : (at : ℕ) (free : List Bool) → AllByRecursion (HasAt at free) (free_from at free)
free_there at [] = tt
free_there at (true ∷ free) = ((0, omega arith, omega arith, refl), all_map (HasAt (at + 1) free) (HasAt at (true ∷ free)) (has_later at true free) (free_from (at + 1) free) (free_there (at + 1) free))
free_there at (false ∷ free) = all_map (HasAt (at + 1) free) (HasAt at (false ∷ free)) (has_later at false free) (free_from (at + 1) free) (free_there (at + 1) free)

pub free_are : (free : List Bool) → AllByRecursion (λ (p : ℕ). (is_free free p ≡ true) × (p < length free)) (free_pages free)
free_are free = all_map (HasAt 0 free) (λ (p : ℕ). (is_free free p ≡ true) × (p < length free))
    (λ p has. let same : p ≡ has.0 = omega (arith, has.1) in (ap (is_free free) same ∙ has.3, omega (arith, same, has.2)))
    (free_pages free) (free_there 0 free)

-- a page that is free exists
pub free_within : (free : List Bool) (page : ℕ) → is_free free page ≡ true → page < length free
free_within [] zero is = absurd (cc)
free_within [] (suc page) is = absurd (cc)
free_within (m ∷ free) zero is = omega arith
free_within (m ∷ free) (suc page) is = omega (arith, free_within free page is)

-- the first free pages, when one more mark is looked at
module _ (n i : ℕ) (d : Bool) (free : List Bool) (lt : i < length free) (pages : List ℕ) (so : pages ≡ take n (free_pages (take i free))) where
  pub picked : get_or free i d ≡ true → length pages < n → pages ++ i ∷ [] ≡ take n (free_pages (take (i + 1) free))
  picked is room =
      ap (λ (l : List ℕ). l ++ i ∷ []) so
      ∙ sym (first_more n i (free_pages (take i free)) (subst (λ (l : List ℕ). length l < n) so room))
      ∙ ap (take n) (sym (free_more 0 i d free lt is ∙ ap (λ (m : ℕ). free_pages (take i free) ++ m ∷ []) (let same : 0 + i ≡ i = omega arith in same)))

  pub left_out : get_or free i d ≡ false → pages ≡ take n (free_pages (take (i + 1) free))
  left_out is = so ∙ ap (take n) (sym (free_same 0 i d free lt is))

-- the free pages after the first marks follow those among them
free_after : (at i : ℕ) (free : List Bool) → (rest : List ℕ) × (free_from at free ≡ free_from at (take i free) ++ rest)
free_after at zero [] = ([], refl)
free_after at (suc i) [] = ([], refl)
free_after at zero (m ∷ free) = (free_from at (m ∷ free), refl)
free_after at (suc i) (true ∷ free) = let more = free_after (at + 1) i free in (more.0, ap (λ (l : List ℕ). at ∷ l) more.1)
free_after at (suc i) (false ∷ free) = free_after (at + 1) i free

-- the first free pages, where the first marks have as many as requested
pub enough : (n i : ℕ) (free : List Bool) (pages : List ℕ) → pages ≡ take n (free_pages (take i free)) → n ≤ length pages → pages ≡ take n (free_pages free)
enough n i free pages so full =
    let more = free_after 0 i free in
    so ∙ sym (first_same n (free_pages (take i free)) more.0 (subst (λ (l : List ℕ). n ≤ length l) so full)) ∙ ap (take n) (sym more.1)

-- the first marks have no more free pages than all of them
pub no_more : (i : ℕ) (free : List Bool) → length (free_pages (take i free)) ≤ length (free_pages free)
no_more i free = let more = free_after 0 i free in omega (arith, ap (λ (l : List ℕ). length l) more.1, length-append (free_pages (take i free)) more.0)

-- how many pages are free, when one more mark is looked at
module _ (i : ℕ) (d : Bool) (free : List Bool) (lt : i < length free) where
  pub counted : get_or free i d ≡ true → length (free_pages (take (i + 1) free)) ≡ length (free_pages (take i free)) + 1
  counted is = ap (λ (l : List ℕ). length l) (free_more 0 i d free lt is) ∙ length-append (free_pages (take i free)) ((0 + i) ∷ [])

  pub not_counted : get_or free i d ≡ false → length (free_pages (take (i + 1) free)) ≡ length (free_pages (take i free))
  not_counted is = ap (λ (l : List ℕ). length l) (free_same 0 i d free lt is)

-- the next of the pages is still marked as it was
pub still : (mark other : Bool) (pages : List ℕ) (i d : ℕ) (old mid : List Bool) → i < length pages → AllByRecursion (λ (p : ℕ). is_free old p ≡ mark) pages → AreApart pages → Marks other (take i pages) old mid → is_free mid (get_or pages i d) ≡ mark
still mark other pages i d old mid lt all apart so = so.others (get_or pages i d) (none_before pages i d lt apart) ∙ all_at (λ (p : ℕ). is_free old p ≡ mark) pages i d lt all

-- a number is not in the list, or what holds of all of the list holds of it
pub none_or : (p : ℕ) (ys : List ℕ) → IsNone ys p ⊎ ((P : ℕ → Type 0) → AllByRecursion P ys → P p)
none_or p [] = inl tt
none_or p (y ∷ ys) = elim (cases_eq p y) [
  | inl same ↦ inr (λ P all. subst P (sym same) all.0)
  | inr apart ↦ elim (none_or p ys) [
    | inl none ↦ inl (apart, none)
    | inr holds ↦ inr (λ P all. holds P all.1)
  ]
]

-- marks of some pages, and then of others
pub marks_both : (mark : Bool) (xs ys : List ℕ) (old mid new : List Bool) → Marks mark xs old mid → Marks mark ys mid new → Marks mark (xs ++ ys) old new
marks_both mark xs ys old mid new first second = record {
  size = second.size ∙ first.size;
  marked = all_join (λ (p : ℕ). is_free new p ≡ mark) xs ys (all_map (λ (p : ℕ). is_free mid p ≡ mark) (λ (p : ℕ). is_free new p ≡ mark) (λ p was. kept p was (none_or p ys)) xs first.marked) second.marked;
  others = λ p none. second.others p (all_right (λ (q : ℕ). p ≢ q) xs ys none) ∙ first.others p (all_left (λ (q : ℕ). p ≢ q) xs ys none);
}
  where
    kept : (p : ℕ) → is_free mid p ≡ mark → IsNone ys p ⊎ ((P : ℕ → Type 0) → AllByRecursion P ys → P p) → is_free new p ≡ mark
    kept p was (inl none) = second.others p none ∙ was
    kept p was (inr holds) = holds (λ (q : ℕ). is_free new q ≡ mark) second.marked

-- an older root's pages are released, and then those of the current one are claimed
pub handed_over : (older pages : List ℕ) (old mid new : List Bool) → AreClaimed old pages → Marks true older old mid → Marks false pages mid new → HandsOver older pages old new
handed_over older pages old mid new claimed first second = record {
  size = second.size ∙ first.size;
  kept = second.marked;
  released = all_map (λ (p : ℕ). is_free mid p ≡ true) (λ (p : ℕ). IsNone pages p → is_free new p ≡ true) (λ p is none. second.others p none ∙ is) older first.marked;
  others = λ p none. other p none (none_or p pages);
}
  where
    other : (p : ℕ) → IsNone older p → IsNone pages p ⊎ ((P : ℕ → Type 0) → AllByRecursion P pages → P p) → is_free new p ≡ is_free old p
    other p none (inl apart) = second.others p apart ∙ first.others p none
    other p none (inr holds) = holds (λ (q : ℕ). is_free new q ≡ false) second.marked ∙ sym (holds (λ (q : ℕ). is_free old q ≡ false) claimed)

pub marks_one : (mark : Bool) (page : ℕ) (old new : List Bool) → page < length old → new ≡ slice_set old page mark → Marks mark (page ∷ []) old new
marks_one mark page old new within is = marks_more mark (page ∷ []) 0 page page old old new (omega arith) refl within is (marks_none mark old)

-- pages that aren't those marked stay claimed
pub claimed_still : (mark : Bool) (marked pages : List ℕ) (old new : List Bool) → Marks mark marked old new → AllByRecursion (λ (p : ℕ). is_free old p ≡ false) pages → AllByRecursion (IsNone marked) pages → AllByRecursion (λ (p : ℕ). is_free new p ≡ false) pages
claimed_still mark marked [] old new so claimed clear = tt
claimed_still mark marked (p ∷ pages) old new so claimed clear = (so.others p clear.0 ∙ claimed.0, claimed_still mark marked pages old new so claimed.1 clear.1)

-- a page that is free after others were claimed is not one of them
pub was_free : (pages : List ℕ) (page : ℕ) (old mid : List Bool) → Marks false pages old mid → is_free mid page ≡ true → IsNone pages page
was_free pages page old mid so is = none_by (is_free mid) false true (λ same. cc) pages page so.marked is

-- one more page was free, as those before it were
pub free_one_more : (pages : List ℕ) (i d : ℕ) (old mid : List Bool) → i < length pages → Marks false (take i pages) old mid → is_free mid (get_or pages i d) ≡ true
    → AllByRecursion (λ (p : ℕ). is_free old p ≡ true) (take i pages) → AllByRecursion (λ (p : ℕ). is_free old p ≡ true) (take (i + 1) pages)
free_one_more pages i d old mid lt so is before =
    let page = get_or pages i d in
    subst (AllByRecursion (λ (p : ℕ). is_free old p ≡ true)) (sym (take_more pages i d lt))
    (all_join (λ (p : ℕ). is_free old p ≡ true) (take i pages) (page ∷ []) before (sym (so.others page (was_free (take i pages) page old mid so is)) ∙ is, tt))

pub apart_one_more : (pages : List ℕ) (i d : ℕ) (old mid : List Bool) → i < length pages → Marks false (take i pages) old mid → is_free mid (get_or pages i d) ≡ true → AreApart (take i pages) → AreApart (take (i + 1) pages)
apart_one_more pages i d old mid lt so is before =
    let page = get_or pages i d in
    subst AreApart (sym (take_more pages i d lt)) (apart_more (take i pages) page before (was_free (take i pages) page old mid so is))

-- pages other than those that change stay claimed
pub claimed_beside : (changed pages : List ℕ) (old new : List Bool) → ((page : ℕ) → IsNone changed page → is_free new page ≡ is_free old page) → AreClaimed old pages → AllByRecursion (IsNone changed) pages → AreClaimed new pages
claimed_beside changed [] old new same claimed apart = tt
claimed_beside changed (p ∷ pages) old new same claimed apart = (same p apart.0 ∙ claimed.0, claimed_beside changed pages old new same claimed.1 apart.1)

-- each number of a list is in it
named : (xs : List ℕ) → AllByRecursion (λ (x : ℕ). IsNone xs x → ⊥) xs
named [] = tt
named (x ∷ xs) = (λ none. none.0 refl, all_map (λ (y : ℕ). IsNone xs y → ⊥) (λ (y : ℕ). IsNone (x ∷ xs) y → ⊥) (λ y no none. no none.1) xs (named xs))

-- pages that both roots name stay claimed, before and after those that are handed over
pub handed_between : (first older pages last : List ℕ) (old new : List Bool) → AreClaimed old first → AreClaimed old last → AreApart (first ++ (older ++ last)) → HandsOver older pages old new
    → HandsOver (first ++ (older ++ last)) (first ++ (pages ++ last)) old new
handed_between first older pages last old new claimed claimed_last apart so = record {
  size = so.size;
  kept = all_join (λ (p : ℕ). is_free new p ≡ false) first (pages ++ last) (claimed_beside older first old new so.others claimed before) (all_join (λ (p : ℕ). is_free new p ≡ false) pages last so.kept (claimed_beside older last old new so.others claimed_last after));
  released = all_join Gone first (older ++ last)
      (all_map (λ (p : ℕ). IsNone first p → ⊥) Gone (λ p no none. absurd (no (all_left (λ (q : ℕ). p ≢ q) first (pages ++ last) none))) first (named first))
      (all_join Gone older last
      (all_map (λ (p : ℕ). IsNone pages p → is_free new p ≡ true) Gone (λ p is none. is (all_left (λ (q : ℕ). p ≢ q) pages last (all_right (λ (q : ℕ). p ≢ q) first (pages ++ last) none))) older so.released)
      (all_map (λ (p : ℕ). IsNone last p → ⊥) Gone (λ p no none. absurd (no (all_right (λ (q : ℕ). p ≢ q) pages last (all_right (λ (q : ℕ). p ≢ q) first (pages ++ last) none)))) last (named last)));
  others = λ p none. so.others p (all_left (λ (q : ℕ). p ≢ q) older last (all_right (λ (q : ℕ). p ≢ q) first (older ++ last) none));
}
  where
    Gone : ℕ → Type 0
    Gone p = IsNone (first ++ (pages ++ last)) p → is_free new p ≡ true

    before : AllByRecursion (IsNone older) first
    before = clear_swap first older (all_left (IsNone first) older last (apart_clear first (older ++ last) apart))

    after : AllByRecursion (IsNone older) last
    after = apart_clear older last (apart_right first (older ++ last) apart)
