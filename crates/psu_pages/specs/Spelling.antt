-- The bytes that are written for roots and heads.
use Rattle.std.specs.Prelude.{◌≡◌, ℕ, ◌+◌, ◌-◌, ◌<◌, ◌^◌, List, [], ◌∷◌, ◌++◌, length, take, drop, replicate, map}
use Rattle.std.specs.Int.{w16, w32, w64, to_be_bytes}
use Rattle.std.specs.List.{AllByRecursion}
use Rattle.psu_disk.specs.Disk.{DiskState}
use Rattle.psu_pages.specs.declared.root.Root.{Root}
use Rattle.psu_pages.specs.Image.{mark, other, Head, head_at}
use Rattle.psu_pages.specs.Shown.{Item, EachEncodes, EachShut}
use Rattle.psu_pages.specs.Free.{IsRoster}
use Rattle.psu_pages.specs.Writing.{Draft}

-- numbers of two bytes each
abbrev pub spelled_words : List ℕ → List ℕ
spelled_words [] = []
spelled_words (n ∷ ns) = to_be_bytes w16 n ++ spelled_words ns

-- bytes, and zeros after them up to this length
abbrev pub filled : ℕ → List ℕ → List ℕ
filled n bytes = bytes ++ replicate (n - length bytes) 0

-- the pages of the heads that a root names
abbrev pub names : List Head → List ℕ
names heads = map (λ (head : Head). head.at) heads

-- the contents of a root after its gate; version 2 is written
abbrev pub root_contents : ℕ → ℕ → List ℕ → List ℕ
root_contents limit number pages = mark ++ (to_be_bytes w16 2 ++ (to_be_bytes w16 limit ++ (to_be_bytes w64 number ++ (to_be_bytes w16 (length pages) ++ spelled_words pages))))

-- the encoding of a head
abbrev pub spelled : Head → List ℕ
spelled head = length head.key ∷ (head.key ++ (to_be_bytes w32 head.size ++ (to_be_bytes w16 (length head.pages) ++ spelled_words head.pages)))

-- the page of a root whose gate is open and that names these heads, with zeros after its contents
abbrev pub open_root : ℕ → ℕ → List Head → List ℕ
open_root limit number heads = 165 ∷ filled 511 (root_contents limit number (names heads))

-- a page with these bytes, and zeros after them
abbrev pub draft_of : ℕ → List ℕ → Draft
draft_of page bytes = record { page = page; bytes = filled 512 bytes }

-- a value's pages: 512 bytes on each but the last
abbrev pub value_drafts : List ℕ → List ℕ → List Draft
value_drafts [] value = []
value_drafts (page ∷ pages) value = draft_of page (take 512 value) ∷ value_drafts pages (drop 512 value)

-- the pages of a head and of its value
abbrev pub head_drafts : Head → List ℕ → List Draft
head_drafts head value = draft_of head.at (spelled head) ∷ value_drafts head.pages value

-- the contents to be written after a root's gate name these heads, which are on their pages
pub record AreRootContents (limit number : ℕ) (heads : List Head) (contents image : List ℕ) : Type 0 where
  pub contents_are : contents ≡ filled 511 (root_contents limit number (names heads))
  pub number_fits : number < 2 ^ 64
  pub roster : IsRoster limit heads
  pub there : AllByRecursion (λ (head : Head). head_at image head.at ≡ head) heads

-- before a switch: the other root is the current one and encodes this, the next one's gate is closed, and the contents
-- to be written name the heads
pub record IsReady (disk : DiskState) (next : Root) (version limit number : ℕ) (before heads : List Head) (items : List Item) (contents : List ℕ) : Type 0 where
  pub encodes : EachEncodes disk (other next) version limit number before items
  pub shut : EachShut disk next
  pub are_contents : AreRootContents limit (number + 1) heads contents disk.bytes
