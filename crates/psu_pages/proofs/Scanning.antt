-- Heads are read one by one.
use Rattle.std.proofs.Common.{◌≡◌, ◌≢◌, ℕ, ◌+◌, ◌<◌, Bool, true, false, List, [], ◌∷◌, ◌++◌, length, get_or, take, map, sym, ◌∙◌, ap, subst, arith}
use Rattle.std.specs.Prelude.{slice_set}
use Rattle.std.specs.List.{AllByRecursion}
use Rattle.std.proofs.lemmas.List.{append-nil, take_more, map-append, get_or-set_other}
use Rattle.psu_pages.specs.Image.{Head, IsHead, IsInPool, IsNone, AreApart, AreClear, pages_of, taken}
use Rattle.psu_pages.specs.Free.{is_free, Marks, AreClaimed, IsPool}
use Rattle.psu_pages.specs.Finding.{IsFit, CanStand, AreFit}
use Rattle.psu_pages.proofs.Lists.{all_map, all_at, all_join, all_left, all_right, apart_join, clear_by, none_by}
use Rattle.psu_pages.proofs.Marking.{marks_one, marks_both, was_free, free_within, claimed_still}
use Rattle.psu_pages.proofs.Planning.{two_least, none_root}
use Rattle.psu_pages.proofs.Taken.{taken_all, taken_apart, taken_clear, taken-append}

-- a head's page is claimed, and then those of its value
module _ (name : ℕ) (pages : List ℕ) (old mid new : List Bool) (is : is_free old name ≡ true) (next : mid ≡ slice_set old name false) (free : AllByRecursion (λ (p : ℕ). is_free mid p ≡ true) pages) where
  first : Marks false (name ∷ []) old mid
  first = marks_one false name old mid (free_within old name is) next

  pub head_were_free : AllByRecursion (λ (p : ℕ). is_free old p ≡ true) (name ∷ pages)
  head_were_free = (is, all_map (λ (p : ℕ). is_free mid p ≡ true) (λ (p : ℕ). is_free old p ≡ true) (λ p was. sym (first.others p (was_free (name ∷ []) p old mid first was)) ∙ was) pages free)

  pub head_apart : AreApart pages → AreApart (name ∷ pages)
  head_apart apart = (none_by (is_free mid) true false (λ same. cc) pages name free first.marked.0, apart)

  pub head_claimed : Marks false pages mid new → Marks false (name ∷ pages) old new
  head_claimed so = marks_both false (name ∷ []) pages old mid new first so

-- the other pages of a head are still free once its own is claimed
pub head_still_free : (name : ℕ) (pages : List ℕ) (old mid : List Bool) → mid ≡ slice_set old name false → IsNone pages name → AllByRecursion (λ (p : ℕ). is_free old p ≡ true) pages → AllByRecursion (λ (p : ℕ). is_free mid p ≡ true) pages
head_still_free name [] old mid next none free = tt
head_still_free name (p ∷ pages) old mid next none free = (ap (λ (marks : List Bool). is_free marks p) next ∙ kept ∙ free.0, head_still_free name pages old mid next none.1 free.1)
  where
    kept : is_free (slice_set old name false) p ≡ is_free old p
    kept = get_or-set_other old name p false false (λ same. none.0 (sym same))

-- no head yet
pub fit_none : (limit : ℕ) (free : List Bool) → IsPool limit free → AreFit limit [] free
fit_none limit free pool = record {
  can_stand = record { each = tt; pool = tt; apart = tt };
  sized = pool.sized;
  first = pool.first;
  second = pool.second;
  claimed = tt;
  rest = λ page within none. pool.rest page within;
}

-- one more head
pub fit_more : (limit : ℕ) (heads : List Head) (head : Head) (free new : List Bool) → AreFit limit heads free → IsFit free head → Marks false (pages_of head) free new → AreFit limit (heads ++ head ∷ []) new
fit_more limit heads head free new so fit marks =
    let whole : taken (heads ++ head ∷ []) ≡ taken heads ++ pages_of head = taken-append heads (head ∷ []) ∙ ap (λ (l : List ℕ). taken heads ++ l) (append-nil (pages_of head)) in
    let pool : AllByRecursion (IsInPool limit) (pages_of head) = all_map (λ (p : ℕ). is_free free p ≡ true) (IsInPool limit) (λ p is. (two_least free so.first so.second p is, omega (arith, free_within free p is, so.sized))) (pages_of head) fit.were_free in
    record {
      can_stand = record {
        each = all_join IsHead heads (head ∷ []) so.can_stand.each (fit.is_head, tt);
        pool = subst (AllByRecursion (IsInPool limit)) (sym whole) (all_join (IsInPool limit) (taken heads) (pages_of head) so.can_stand.pool pool);
        apart = subst AreApart (sym whole) (apart_join (taken heads) (pages_of head) so.can_stand.apart fit.apart (clear_by (is_free free) false true (λ same. cc) (taken heads) (pages_of head) so.claimed fit.were_free));
      };
      sized = marks.size ∙ so.sized;
      first = marks.others 0 (none_root limit (pages_of head) 0 (omega arith) pool) ∙ so.first;
      second = marks.others 1 (none_root limit (pages_of head) 1 (omega arith) pool) ∙ so.second;
      claimed = subst (AreClaimed new) (sym whole) (all_join (λ (p : ℕ). is_free new p ≡ false) (taken heads) (pages_of head)
          (claimed_still false (pages_of head) (taken heads) free new marks so.claimed (clear_by (is_free free) true false (λ same. cc) (pages_of head) (taken heads) fit.were_free so.claimed)) marks.marked);
      rest = λ page within none.
          let apart = subst (λ (ps : List ℕ). IsNone ps page) whole none in
          marks.others page (all_right (λ (q : ℕ). page ≢ q) (taken heads) (pages_of head) apart) ∙ so.rest page within (all_left (λ (q : ℕ). page ≢ q) (taken heads) (pages_of head) apart);
    }

-- the next head is fit, of heads that one image may have together
pub fit_next : (limit : ℕ) (heads : List Head) (i : ℕ) (d : Head) (free : List Bool) → i < length heads → CanStand limit heads → AreFit limit (take i heads) free → IsFit free (get_or heads i d)
fit_next limit heads i d free lt can so = record {
  is_head = all_at IsHead heads i d lt can.each;
  were_free = both (pages_of (get_or heads i d)) (taken_all (IsInPool limit) heads i d lt can.pool) (taken_clear heads i d lt can.apart);
  apart = taken_apart heads i d lt can.apart;
}
  where
    both : (pages : List ℕ) → AllByRecursion (IsInPool limit) pages → AreClear (taken (take i heads)) pages → AllByRecursion (λ (p : ℕ). is_free free p ≡ true) pages
    both [] pool clear = tt
    both (p ∷ pages) pool clear = (so.rest p pool.0 clear.0, both pages pool.1 clear.1)

-- a mapped list, with one more element
pub map_more : {X Y : Type 0} (f : X → Y) (xs : List X) (i : ℕ) (d : X) → i < length xs → map f (take (i + 1) xs) ≡ map f (take i xs) ++ f (get_or xs i d) ∷ []
map_more f xs i d lt = ap (map f) (take_more xs i d lt) ∙ map-append f (take i xs) (get_or xs i d ∷ [])
