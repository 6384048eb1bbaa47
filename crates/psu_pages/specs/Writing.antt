-- The effect of writing pages on a disk.
use Rattle.std.specs.Prelude.{◌≡◌, ℕ, ◌+◌, ◌*◌, ◌<◌, ◌≤◌, ◌⊎◌, List, length, slice_index, map}
use Rattle.std.specs.List.{AllByRecursion}
use Rattle.psu_pages.specs.Image.{page_in, Head, head_at}
use Rattle.psu_pages.specs.Shown.{item_in, item_of}

-- a page with the bytes that it is to have
pub record Draft : Type 0 where
  pub page : ℕ
  pub bytes : List ℕ

-- a byte in none of these pages
abbrev pub IsOutside : List ℕ → ℕ → Type 0
IsOutside pages k = AllByRecursion (λ (page : ℕ). (k < 512 * page) ⊎ (512 * page + 512 ≤ k)) pages

-- new is old outside of these pages
pub record Misses (pages : List ℕ) (old new : List ℕ) : Type 0 where
  pub size : length new ≡ length old
  pub same : (k : ℕ) → IsOutside pages k → slice_index new k ≡ slice_index old k

-- this step leads from an earlier image to x
abbrev pub Reaches : (List ℕ → List ℕ → Type 0) → (List ℕ → Type 0) → List ℕ → Type 0
Reaches step old x = (y : List ℕ) × old y × step y x

-- the pages of drafts
abbrev pub draft_pages : List Draft → List ℕ
draft_pages drafts = map (λ (draft : Draft). draft.page) drafts

-- each page has its bytes
abbrev pub AreWritten : List Draft → List ℕ → Type 0
AreWritten drafts image = AllByRecursion (λ (draft : Draft). page_in draft.page image ≡ draft.bytes) drafts

-- a head is on its page, and its pages hold this value
pub record IsWritten (image : List ℕ) (head : Head) (value : List ℕ) : Type 0 where
  pub head_is : head_at image head.at ≡ head
  pub item_is : item_in image head ≡ item_of head.key value
