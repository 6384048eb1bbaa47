-- Pages read one by one.
use Rattle.std.proofs.Common.{◌≡◌, ℕ, zero, suc, ◌+◌, ◌<◌, List, [], ◌∷◌, ◌++◌, length, get_or, take, refl, sym, ◌∙◌, ap, append_assoc, arith}
use Rattle.std.proofs.lemmas.List.{append-nil, take_more}
use Rattle.psu_disk.specs.Disk.{LeavesOnly}
use Rattle.psu_disk.specs.Moments.{started, and_then}
use Rattle.psu_pages.specs.Image.{page_in, bytes_in, Head}
use Rattle.psu_pages.specs.Spelling.{names}

bytes-append : (image pages : List ℕ) (page : ℕ) → bytes_in image (pages ++ page ∷ []) ≡ bytes_in image pages ++ page_in page image
bytes-append image [] page = append-nil (page_in page image)
bytes-append image (p ∷ pages) page = ap (λ (b : List ℕ). page_in p image ++ b) (bytes-append image pages page) ∙ sym (append_assoc (page_in p image) (bytes_in image pages) (page_in page image))

-- one more page is read
pub bytes_more : (image pages : List ℕ) (i d : ℕ) → i < length pages → bytes_in image (take (i + 1) pages) ≡ bytes_in image (take i pages) ++ page_in (get_or pages i d) image
bytes_more image pages i d lt = ap (bytes_in image) (take_more pages i d lt) ∙ bytes-append image (take i pages) (get_or pages i d)

-- a run of no calls, and one run after another
pub quiet_none : {D : Type 0} {moment : D → ℕ} {left_since : D → ℕ → List ℕ → Type 0} {old : D} {now : List ℕ → Type 0} → ((x : List ℕ) → left_since old (moment old) x → now x) → LeavesOnly moment left_since old old now
quiet_none {D} {moment} {left_since} {old} {now} = started moment left_since old now

pub quiet_runs : {D : Type 0} {moment : D → ℕ} {left_since : D → ℕ → List ℕ → Type 0} {old mid new : D} {first second : List ℕ → Type 0}
    → LeavesOnly moment left_since old mid first → ((x : List ℕ) → second x → first x) → LeavesOnly moment left_since mid new second → LeavesOnly moment left_since old new first
quiet_runs {D} {moment} {left_since} {old} {mid} {new} {first} {second} run fewer more = and_then moment left_since old mid new first second run more fewer

-- the names of heads: their number, and each by its index
pub length-names : (heads : List Head) → length (names heads) ≡ length heads
length-names [] = refl
length-names (head ∷ heads) = ap suc (length-names heads)

pub name_at : (heads : List Head) (i d : ℕ) (e : Head) → i < length heads → get_or (names heads) i d ≡ (let head = get_or heads i e in head.at)
name_at [] i d e lt = absurd (omega (arith, lt))
name_at (h ∷ heads) zero d e lt = refl
name_at (h ∷ heads) (suc i) d e lt = name_at heads i d e (omega (arith, lt))
