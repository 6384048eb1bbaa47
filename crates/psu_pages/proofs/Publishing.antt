-- What is on pages stays, or is replaced by what is published.
use Rattle.std.proofs.Common.{◌≡◌, ℕ, suc, ◌+◌, ◌-◌, ◌*◌, ◌^◌, ◌<◌, ◌≤◌, List, [], ◌∷◌, ◌++◌, length, take, drop, replicate, sym, ◌∙◌, ap, subst, arith}
use Rattle.std.specs.List.{AllByRecursion}
use Rattle.psu_disk.specs.Disk.{DiskState, IsCrashImage, SameBut, Only, Follows, LeavesOnly}
use Rattle.psu_disk.specs.Moments.{weaken}
use Rattle.psu_disk.specs.Ranges.{reads_left}
use Rattle.psu_pages.specs.declared.root.Root.{Root}
use Rattle.psu_pages.specs.Image.{other, gate_at, gate, number_in, Head, head_on, taken, pages_of, IsInPool, AreClear}
use Rattle.psu_pages.specs.Shown.{Item, item_of, items_in, Encodes, EachEncodes, EachShut, EachLower}
use Rattle.psu_pages.specs.Spelling.{filled}
use Rattle.psu_pages.specs.Writing.{Misses, Reaches, IsWritten}
use Rattle.psu_pages.proofs.Places.{other_other}
use Rattle.psu_pages.proofs.Keeping.{on_disk, bytes_same, gate_missed, pages_missed}
use Rattle.psu_pages.proofs.Encoding.{room, encodes_missed, number_missed, number_gate, encodes_lower}

-- pages of the pool are not among the first two
pub pool_low : (limit : ℕ) (pages : List ℕ) → AllByRecursion (IsInPool limit) pages → AllByRecursion (λ (page : ℕ). 2 ≤ page) pages
pool_low limit [] pool = tt
pool_low limit (page ∷ pages) pool = (pool.0.0, pool_low limit pages pool.1)

-- their numbers fit into two bytes
pub pool_words : (limit : ℕ) (pages : List ℕ) → limit ≤ 480 → AllByRecursion (IsInPool limit) pages → AllByRecursion (λ (page : ℕ). page < 2 ^ 16) pages
pool_words limit [] most pool = tt
pool_words limit (page ∷ pages) most pool = (omega (arith, pool.0.1, most), pool_words limit pages most pool.1)

pub pool_room : (limit size : ℕ) (pages : List ℕ) → 512 * (2 + 2 * limit) ≤ size → AllByRecursion (IsInPool limit) pages → AllByRecursion (λ (page : ℕ). 512 * page + 512 ≤ size) pages
pool_room limit size [] fits pool = tt
pool_room limit size (page ∷ pages) fits pool = (omega (arith, pool.0.1, fits), pool_room limit size pages fits pool.1)

-- what was written stays while other pages are written
pub written_still : (limit : ℕ) (pages x y : List ℕ) (head : Head) (value : List ℕ) → 512 * (2 + 2 * limit) ≤ length x → AllByRecursion (IsInPool limit) pages → AllByRecursion (IsInPool limit) (pages_of head) → AreClear pages (pages_of head) → Misses pages x y
    → IsWritten x head value → IsWritten y head value
written_still limit pages x y head value fits pool its clear misses written =
    let same = pages_missed pages x y (pool_low limit pages pool) misses (pages_of head) (on_disk limit (length x) (pages_of head) fits its) clear in
    record {
      head_is = ap (head_on head.at) same.0 ∙ written.head_is;
      item_is = ap (λ (b : List ℕ). item_of head.key (take head.size b)) (bytes_same x y head.pages same.1) ∙ written.item_is;
    }

-- each possible crash image of a call shows the items from before it
pub record Keeps {D : Type 0} (state : D → DiskState) (root : Root) (version limit number : ℕ) (heads : List Head) (change : List ℕ → List ℕ → Type 0) (old new : D) : Type 0 where
  pub each : (x y : List ℕ) → IsCrashImage (state old) x → change x y → Encodes root version limit number heads (items_in root (state old).bytes) y
  pub step : Follows change (IsCrashImage (state old)) (IsCrashImage (state new))
  pub seen : change (state old).bytes (state new).bytes

module _ {D : Type 0} {state : D → DiskState} {root : Root} {version limit number : ℕ} {heads : List Head} {change : List ℕ → List ℕ → Type 0} {old new : D} (keeps : Keeps state root version limit number heads change old new) where
  pub still_left : (x : List ℕ) → IsCrashImage (state new) x → Encodes root version limit number heads (items_in root (state old).bytes) x
  still_left x l = let from = keeps.step x l in keeps.each from.0 x from.1 from.2

  pub still_run : {moment : D → ℕ} {left_since : D → ℕ → List ℕ → Type 0} → LeavesOnly moment left_since old new (Reaches change (IsCrashImage (state old)))
      → LeavesOnly moment left_since old new (Encodes root version limit number heads (items_in root (state old).bytes))
  still_run {moment} {left_since} run = weaken moment left_since old new (Reaches change (IsCrashImage (state old))) (Encodes root version limit number heads (items_in root (state old).bytes)) run (λ x reach. keeps.each reach.0 x reach.1 reach.2)

  pub still_shown : items_in root (state new).bytes ≡ items_in root (state old).bytes
  still_shown = (keeps.each (state old).bytes (state new).bytes (reads_left (state old)) keeps.seen).has_contents.items_are

  pub still_encodes : EachEncodes (state new) root version limit number heads (items_in root (state new).bytes)
  still_encodes x l = subst (λ (items : List Item). Encodes root version limit number heads items x) (sym still_shown) (still_left x l)

-- pages are written that the current root doesn't name
module _ {D : Type 0} (state : D → DiskState) (root : Root) (version limit number : ℕ) (heads : List Head) (pages : List ℕ) (old : D) (pool : AllByRecursion (IsInPool limit) pages) (clear : AreClear pages (taken heads))
    (encodes : EachEncodes (state old) root version limit number heads (items_in root (state old).bytes)) where
  pub missed : (x y : List ℕ) → IsCrashImage (state old) x → Misses pages x y → Encodes root version limit number heads (items_in root (state old).bytes) y
  missed x y l misses = encodes_missed root version limit number heads (items_in root (state old).bytes) pages x y (pool_low limit pages pool) clear misses (encodes x l)

  pub lower_missed : (new : D) → Follows (Misses pages) (IsCrashImage (state old)) (IsCrashImage (state new)) → (r : Root) (n : ℕ) → EachLower (state old) r n → EachLower (state new) r n
  lower_missed new step r n lower x l =
      let from = step x l in
      let items = items_in root (state old).bytes in
      omega (arith, lower from.0 from.1, number_missed root version limit number heads items pages from.0 x (pool_low limit pages pool) clear from.2 (room root version limit number heads items from.0 (encodes from.0 from.1).has_contents) r)

pub shut_missed : (limit : ℕ) (pages : List ℕ) (old new : DiskState) → AllByRecursion (IsInPool limit) pages → Follows (Misses pages) (IsCrashImage old) (IsCrashImage new) → (r : Root) → EachShut old r → EachShut new r
shut_missed limit pages old new pool step r shut x l is = let from = step x l in shut from.0 from.1 (sym (gate_missed pages from.0 x (pool_low limit pages pool) from.2 r) ∙ is)

-- the contents to be written begin after the gate
pub contents_filled : (bytes : List ℕ) → drop 1 (filled 512 (0 ∷ bytes)) ≡ filled 511 bytes
contents_filled bytes = ap (λ (n : ℕ). bytes ++ replicate n 0) (let same : 512 - suc (length bytes) ≡ 511 - length bytes = omega arith in same)

-- the older gate closes
pub closing : (state : DiskState) (root : Root) (version limit number : ℕ) (heads : List Head) (items : List Item) → EachEncodes state root version limit number heads items → EachLower state (other root) number
    → (x y : List ℕ) → IsCrashImage state x → SameBut (gate_at (other root)) 1 x y → Encodes root version limit number heads items y
closing state root version limit number heads items encodes lower x y l but =
    let was = encodes x l in
    let less : number_in (other root) y < number = omega (arith, lower x l, number_gate (other root) x y but (room root version limit number heads items x was.has_contents)) in
    subst (λ (r : Root). Encodes r version limit number heads items y) (other_other root)
    (encodes_lower (other root) version limit number heads items (gate_at (other root)) 1 (omega arith) (omega arith) x y but less
    (subst (λ (r : Root). Encodes r version limit number heads items x) (sym (other_other root)) was))

pub shut_zero : (state : DiskState) (root : Root) → Only state → gate root state.bytes ≡ 0 → EachShut state root
shut_zero state root only zero x l is = absurd (omega (arith, subst (λ (y : List ℕ). gate root y ≡ 0) (sym (only x l)) zero, is))
