-- The format of an image, of version 1 or of version 2, which differ in the maximum length of a key. Pages have 512
-- bytes: pages 0 and 1 are the roots, and the pool of twice the limit comes after them. A root names the pages with the
-- heads (header pages) of items, and a head names the pages of its value.
use Rattle.std.specs.Prelude.{◌≡◌, ◌≢◌, ℕ, zero, suc, ◌+◌, ◌*◌, ◌/◌, ◌<◌, ◌≤◌, ◌==◌, ◌&&◌, ◌||◌, not, nat_lt, List, [], ◌∷◌, ◌++◌, length, take, drop, map, slice_index, if◌then◌else◌, ⊤}
use Rattle.std.specs.List.{AllByRecursion}
use Rattle.std.specs.Int.{w16, w32, w64, from_be_bytes}
use Rattle.psu_disk.specs.Disk.{Range}
use Rattle.psu_pages.specs.declared.root.Root.{Root}
use Rattle.psu_pages.specs.declared.root.Root.TheVariants.{First, Second}

abbrev pub other : Root → Root
other First = Second
other Second = First

-- the first byte of a root's page, which is its gate
abbrev pub gate_at : Root → ℕ
gate_at First = 0
gate_at Second = 512

-- the byte of a root's gate; the gate is open only if it is a5
abbrev pub gate : Root → List ℕ → ℕ
gate root image = slice_index image (gate_at root)

-- after the gate come `PSU`, the version, the limit, the number, the number of items, and the page of each item's head
abbrev pub mark_in : Root → List ℕ → List ℕ
mark_in root image = Range (gate_at root + 1) 3 image

abbrev pub version_in : Root → List ℕ → ℕ
version_in root image = from_be_bytes w16 (Range (gate_at root + 4) 2 image)

abbrev pub limit_in : Root → List ℕ → ℕ
limit_in root image = from_be_bytes w16 (Range (gate_at root + 6) 2 image)

abbrev pub number_in : Root → List ℕ → ℕ
number_in root image = from_be_bytes w64 (Range (gate_at root + 8) 8 image)

abbrev pub count_in : Root → List ℕ → ℕ
count_in root image = from_be_bytes w16 (Range (gate_at root + 16) 2 image)

-- n numbers of two bytes each
abbrev pub words : ℕ → List ℕ → List ℕ
words zero bytes = []
words (suc n) bytes = from_be_bytes w16 (take 2 bytes) ∷ words n (drop 2 bytes)

abbrev pub names_in : Root → List ℕ → List ℕ
names_in root image = words (count_in root image) (Range (gate_at root + 18) 480 image)

-- the root is the current one: its gate is open, and the other's is not open with a number as high. Of two open roots
-- the one with the higher number is the current one.
pub record IsCurrent (root : Root) (image : List ℕ) : Type 0 where
  pub open_gate : gate root image ≡ 165
  pub highest : gate (other root) image ≡ 165 → number_in (other root) image < number_in root image

-- the current root, if there is one
abbrev pub current_root : List ℕ → Root
current_root image = if gate Second image == 165 && (not (gate First image == 165) || nat_lt (number_in First image) (number_in Second image)) then Second else First

-- `PSU`
abbrev pub mark : List ℕ
mark = 80 ∷ 83 ∷ 85 ∷ []

-- a page's bytes
abbrev pub page_in : ℕ → List ℕ → List ℕ
page_in page image = Range (512 * page) 512 image

-- the contents of a head: the page that it is on, the item's key, the number of bytes of its value, and the pages that
-- hold them
pub record Head : Type 0 where
  pub at : ℕ
  pub key : List ℕ
  pub size : ℕ
  pub pages : List ℕ

abbrev pub head_of : ℕ → List ℕ → ℕ → List ℕ → Head
head_of at key size pages = record { at = at; key = key; size = size; pages = pages }

-- the head with this key, decoded from the bytes after it
abbrev pub head_after : ℕ → List ℕ → List ℕ → Head
head_after at key bytes =
    let more = drop 4 bytes in
    head_of at key (from_be_bytes w32 (take 4 bytes)) (words (from_be_bytes w16 (take 2 more)) (drop 2 more))

-- the head on a page with these bytes: key length (1), key, value length (4), page count (2), page numbers (2 each)
abbrev pub head_on : ℕ → List ℕ → Head
head_on at [] = head_of at [] 0 []
head_on at (n ∷ bytes) = head_after at (take n bytes) (drop n bytes)

abbrev pub head_at : List ℕ → ℕ → Head
head_at image page = head_on page (page_in page image)

-- the heads that a root names
abbrev pub heads_in : Root → List ℕ → List Head
heads_in root image = map (head_at image) (names_in root image)

-- the bytes of pages, in their order
abbrev pub bytes_in : List ℕ → List ℕ → List ℕ
bytes_in image [] = []
bytes_in image (page ∷ pages) = page_in page image ++ bytes_in image pages

-- the value of a head; the bytes after it on its last page are ignored
abbrev pub value_in : List ℕ → Head → List ℕ
value_in image head = take head.size (bytes_in image head.pages)

-- what holds for a valid head by itself, whatever the version
pub record IsHead (head : Head) : Type 0 where
  pub key_least : 1 ≤ length head.key
  pub key_most : length head.key ≤ 65
  pub size_least : 1 ≤ head.size
  pub size_most : head.size ≤ 33280
  pub count : length head.pages ≡ (head.size + 511) / 512

-- the supported versions
abbrev pub IsKnown : ℕ → Type 0
IsKnown version = (1 ≤ version) × (version ≤ 2)

-- the maximum number of bytes of a key in an image of this version
abbrev pub key_most : ℕ → ℕ
key_most version = if version == 1 then 33 else 65

-- no head has a longer key than that
abbrev pub AreShort : ℕ → List Head → Type 0
AreShort version heads = AllByRecursion (λ (head : Head). length head.key ≤ key_most version) heads

-- the pages of a head and its value
abbrev pub pages_of : Head → List ℕ
pages_of head = head.at ∷ head.pages

-- the pages of heads and their values
abbrev pub taken : List Head → List ℕ
taken [] = []
taken (head ∷ heads) = pages_of head ++ taken heads

abbrev pub keys : List Head → List (List ℕ)
keys heads = map (λ (head : Head). head.key) heads

-- a page after those of the roots, and within the pool
abbrev pub IsInPool : ℕ → ℕ → Type 0
IsInPool limit page = (2 ≤ page) × (page < 2 + 2 * limit)

-- x is not in the list
abbrev pub IsNone : {X : Type 0} → List X → X → Type 0
IsNone {X} xs x = AllByRecursion (λ (y : X). x ≢ y) xs

-- no element occurs twice
abbrev pub AreApart : {X : Type 0} → List X → Type 0
AreApart [] = ⊤
AreApart (x ∷ xs) = IsNone xs x × AreApart xs

-- the two lists have no element in common
abbrev pub AreClear : List ℕ → List ℕ → Type 0
AreClear pages others = AllByRecursion (λ (other : ℕ). IsNone pages other) others
