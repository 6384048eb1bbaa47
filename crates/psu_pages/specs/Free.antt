-- Which pages are free: a mark for each page, in their order.
use Rattle.std.specs.Prelude.{◌≡◌, ℕ, ◌+◌, ◌*◌, ◌≤◌, Bool, true, false, List, [], ◌∷◌, length, slice_index_or, if◌then◌else◌}
use Rattle.std.specs.List.{AllByRecursion}
use Rattle.psu_pages.specs.Image.{Head, IsHead, taken, keys, IsInPool, IsNone, AreApart}

-- a page is free; a page that doesn't exist is not
abbrev pub is_free : List Bool → ℕ → Bool
is_free free page = slice_index_or free page false

-- the free pages, where the first mark is that of this page
abbrev pub free_from : ℕ → List Bool → List ℕ
free_from page [] = []
free_from page (mark ∷ free) = if mark then page ∷ free_from (page + 1) free else free_from (page + 1) free

abbrev pub free_pages : List Bool → List ℕ
free_pages free = free_from 0 free

-- each of these pages has this mark in new, and every other page the one that it had in old
pub record Marks (mark : Bool) (pages : List ℕ) (old new : List Bool) : Type 0 where
  pub size : length new ≡ length old
  pub marked : AllByRecursion (λ (page : ℕ). is_free new page ≡ mark) pages
  pub others : (page : ℕ) → IsNone pages page → is_free new page ≡ is_free old page

-- each of these pages is claimed
abbrev pub AreClaimed : List Bool → List ℕ → Type 0
AreClaimed free pages = AllByRecursion (λ (page : ℕ). is_free free page ≡ false) pages

-- the pages of the pool are free, and no others
pub record IsPool (limit : ℕ) (free : List Bool) : Type 0 where
  pub sized : length free ≡ 2 + 2 * limit
  pub first : is_free free 0 ≡ false
  pub second : is_free free 1 ≡ false
  pub rest : (page : ℕ) → IsInPool limit page → is_free free page ≡ true

-- the pages of an older root that another root doesn't name become free; every other page stays as it was
pub record HandsOver (older pages : List ℕ) (old new : List Bool) : Type 0 where
  pub size : length new ≡ length old
  pub kept : AreClaimed new pages
  pub released : AllByRecursion (λ (page : ℕ). IsNone pages page → is_free new page ≡ true) older
  pub others : (page : ℕ) → IsNone older page → is_free new page ≡ is_free old page

-- heads that one root may name: each with pages of its own, within the pool, and with a key of its own
pub record IsRoster (limit : ℕ) (heads : List Head) : Type 0 where
  pub each : AllByRecursion IsHead heads
  pub pool : AllByRecursion (IsInPool limit) (taken heads)
  pub apart : AreApart (taken heads)
  pub count : length heads ≤ 240
  pub cost : length (taken heads) ≤ limit
  pub distinct : AreApart (keys heads)
