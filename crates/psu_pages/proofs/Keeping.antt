-- The contents of a root, and the items that it shows, stay the same while its own pages do.
use Rattle.std.proofs.Common.{◌≡◌, inl, ⊎_elim, ℕ, ◌+◌, ◌*◌, ◌<◌, ◌≤◌, List, [], ◌∷◌, ◌++◌, length, get_or, take, map, refl, sym, ◌∙◌, ap, subst, arith}
use Rattle.std.specs.List.{AllByRecursion}
use Rattle.std.specs.Int.{w16, w64, from_be_bytes}
use Rattle.psu_disk.specs.Disk.{Range, SameBut}
use Rattle.psu_disk.specs.Ranges.{range_same}
use Rattle.psu_pages.specs.declared.root.Root.{Root}
use Rattle.psu_pages.specs.Image.{other, gate_at, gate, version_in, number_in, count_in, names_in, words, page_in, Head, head_on, head_at, heads_in, bytes_in, value_in, IsHead, IsKnown, AreShort, taken, keys, IsInPool, AreApart, AreClear}
use Rattle.psu_pages.specs.Shown.{Item, item_in, items_in, Shows, HasContents}
use Rattle.psu_pages.specs.Writing.{IsOutside, Misses}
use Rattle.psu_pages.proofs.Lists.{all_left, all_right}
use Rattle.psu_pages.proofs.Places.{gate_low, gates_apart}
use Rattle.psu_pages.proofs.Steps.{page_stays}

-- y is x in the contents of a root after its gate, and on these pages
pub record Agrees (root : Root) (kept : List ℕ) (x y : List ℕ) : Type 0 where
  pub size : length y ≡ length x
  pub contents : (k : ℕ) → gate_at root + 1 ≤ k → k < gate_at root + 512 → get_or y k 0 ≡ get_or x k 0
  pub pages : AllByRecursion (λ (page : ℕ). page_in page y ≡ page_in page x) kept

pub at_is : (page : ℕ) (bytes : List ℕ) → (let head = head_on page bytes in head.at) ≡ page
at_is page [] = refl
at_is page (n ∷ bytes) = refl

pub bytes_same : (x y pages : List ℕ) → AllByRecursion (λ (page : ℕ). page_in page y ≡ page_in page x) pages → bytes_in y pages ≡ bytes_in x pages
bytes_same x y [] same = refl
bytes_same x y (page ∷ pages) same = ap (λ (b : List ℕ). b ++ bytes_in y pages) same.0 ∙ ap (λ (b : List ℕ). page_in page x ++ b) (bytes_same x y pages same.1)

-- the heads that are named, and their items
heads_same : (x y names : List ℕ) → AllByRecursion (λ (page : ℕ). page_in page y ≡ page_in page x) (taken (map (head_at x) names)) → map (head_at y) names ≡ map (head_at x) names
heads_same x y [] same = refl
heads_same x y (name ∷ names) same =
    let head = head_at x name in
    let here : page_in name y ≡ page_in name x = subst (λ (p : ℕ). page_in p y ≡ page_in p x) (at_is name (page_in name x)) same.0 in
    ap (λ (h : Head). h ∷ map (head_at y) names) (ap (head_on name) here)
    ∙ ap (λ (hs : List Head). head_at x name ∷ hs) (heads_same x y names (all_right (λ (page : ℕ). page_in page y ≡ page_in page x) head.pages (taken (map (head_at x) names)) same.1))

pub shown_same : (x y : List ℕ) (heads : List Head) → AllByRecursion (λ (page : ℕ). page_in page y ≡ page_in page x) (taken heads) → map (item_in y) heads ≡ map (item_in x) heads
shown_same x y [] same = refl
shown_same x y (head ∷ heads) same =
    let P : ℕ → Type 0 = λ (page : ℕ). page_in page y ≡ page_in page x in
    let bytes = bytes_same x y head.pages (all_left P head.pages (taken heads) same.1) in
    let value : value_in y head ≡ value_in x head = ap (take head.size) bytes in
    let first : item_in y head ≡ item_in x head = ap (λ (v : List ℕ). record { key = head.key; value = v }) value in
    ap (λ (i : Item). i ∷ map (item_in y) heads) first
    ∙ ap (λ (is : List Item). item_in x head ∷ is) (shown_same x y heads (all_right P head.pages (taken heads) same.1))

module _ (root : Root) (x y : List ℕ) (room : 1024 ≤ length x) (kept : List ℕ) (agrees : Agrees root kept x y) where
  words_same : (from n : ℕ) → 1 ≤ from → from + n ≤ 512 → Range (gate_at root + from) n y ≡ Range (gate_at root + from) n x
  words_same from n low high = range_same (gate_at root + from) n x y agrees.size (omega (arith, gate_low root, room, high)) (λ k ge lt. agrees.contents k (omega (arith, ge, low)) (omega (arith, lt, high)))

  pub number_same : number_in root y ≡ number_in root x
  number_same = ap (from_be_bytes w64) (words_same 8 8 (omega arith) (omega arith))

  count_same : count_in root y ≡ count_in root x
  count_same = ap (from_be_bytes w16) (words_same 16 2 (omega arith) (omega arith))

  names_same : names_in root y ≡ names_in root x
  names_same = ap (λ (n : ℕ). words n (Range (gate_at root + 18) 480 y)) count_same ∙ ap (words (count_in root x)) (words_same 18 480 (omega arith) (omega arith))

module _ (root : Root) (x y : List ℕ) (room : 1024 ≤ length x) (agrees : Agrees root (taken (heads_in root x)) x y) where
  its_contents : (from n : ℕ) → 1 ≤ from → from + n ≤ 512 → Range (gate_at root + from) n y ≡ Range (gate_at root + from) n x
  its_contents = words_same root x y room (taken (heads_in root x)) agrees

  pub its_heads : heads_in root y ≡ heads_in root x
  its_heads = ap (map (head_at y)) (names_same root x y room (taken (heads_in root x)) agrees) ∙ heads_same x y (names_in root x) agrees.pages

  pub its_items : items_in root y ≡ items_in root x
  its_items = ap (map (item_in y)) its_heads ∙ shown_same x y (heads_in root x) agrees.pages

  version_same : version_in root y ≡ version_in root x
  version_same = ap (from_be_bytes w16) (its_contents 4 2 (omega arith) (omega arith))

  pub shows_same : (limit : ℕ) → Shows root x limit → Shows root y limit
  shows_same limit shows = record {
    marked = its_contents 1 3 (omega arith) (omega arith) ∙ shows.marked;
    version = subst IsKnown (sym version_same) shows.version;
    limit_is = ap (from_be_bytes w16) (its_contents 6 2 (omega arith) (omega arith)) ∙ shows.limit_is;
    limit_least = shows.limit_least;
    limit_most = shows.limit_most;
    room = omega (arith, shows.room, agrees.size);
    count = omega (arith, shows.count, count_same root x y room (taken (heads_in root x)) agrees);
    heads = subst (AllByRecursion IsHead) (sym its_heads) shows.heads;
    short = subst (λ (v : ℕ). AreShort v (heads_in root y)) (sym version_same) (subst (AreShort (version_in root x)) (sym its_heads) shows.short);
    pool = subst (λ (hs : List Head). AllByRecursion (IsInPool limit) (taken hs)) (sym its_heads) shows.pool;
    apart = subst (λ (hs : List Head). AreApart (taken hs)) (sym its_heads) shows.apart;
    cost = subst (λ (hs : List Head). length (taken hs) ≤ limit) (sym its_heads) shows.cost;
    distinct = subst (λ (hs : List Head). AreApart (keys hs)) (sym its_heads) shows.distinct;
  }

  pub contents_same : (version limit number : ℕ) (heads : List Head) (items : List Item) → HasContents root version limit number heads items x → HasContents root version limit number heads items y
  contents_same version limit number heads items contents = record {
    version_is = version_same ∙ contents.version_is;
    number_is = number_same root x y room (taken (heads_in root x)) agrees ∙ contents.number_is;
    shows = shows_same limit contents.shows;
    heads_are = its_heads ∙ contents.heads_are;
    items_are = its_items ∙ contents.items_are;
  }

-- pages on a disk
abbrev pub AreOn : ℕ → List ℕ → Type 0
AreOn size pages = AllByRecursion (λ (page : ℕ). (2 ≤ page) × (512 * page + 512 ≤ size)) pages

-- the pages of the pool lie on the disk
pub on_disk : (limit size : ℕ) (pages : List ℕ) → 512 * (2 + 2 * limit) ≤ size → AllByRecursion (IsInPool limit) pages → AreOn size pages
on_disk limit size [] room pool = tt
on_disk limit size (page ∷ pages) room pool = ((pool.0.0, omega (arith, pool.0.1, room)), on_disk limit size pages room pool.1)

-- a byte of a root's page lies in no page of the pool
root_outside : (pages : List ℕ) (k : ℕ) → AllByRecursion (λ (page : ℕ). 2 ≤ page) pages → k < 1024 → IsOutside pages k
root_outside [] k pool lt = tt
root_outside (page ∷ pages) k pool lt = (inl (omega (arith, pool.0, lt)), root_outside pages k pool.1 lt)

-- pages are written that aren't kept
module _ (written x y : List ℕ) (pool : AllByRecursion (λ (page : ℕ). 2 ≤ page) written) (misses : Misses written x y) where
  pub gate_missed : (root : Root) → gate root y ≡ gate root x
  gate_missed root = misses.same (gate_at root) (root_outside written (gate_at root) pool (omega (arith, gate_low root)))

  pub pages_missed : (kept : List ℕ) → AreOn (length x) kept → AreClear written kept → AllByRecursion (λ (page : ℕ). page_in page y ≡ page_in page x) kept
  pages_missed [] fits clear = tt
  pages_missed (page ∷ kept) fits clear = (page_stays written page x y fits.0.1 clear.0 misses, pages_missed kept fits.1 clear.1)

  pub agrees_missed : (root : Root) (kept : List ℕ) → AreOn (length x) kept → AreClear written kept → Agrees root kept x y
  agrees_missed root kept fits clear = record {
    size = misses.size;
    contents = λ k ge lt. misses.same k (root_outside written k pool (omega (arith, lt, gate_low root)));
    pages = pages_missed kept fits clear;
  }

-- a range of one root's page is written, which has no byte of the other's
module _ (touched : Root) (at n : ℕ) (low : gate_at touched ≤ at) (high : at + n ≤ gate_at touched + 512) (x y : List ℕ) (but : SameBut at n x y) where
  pub pages_touched : (kept : List ℕ) → AreOn (length x) kept → AllByRecursion (λ (page : ℕ). page_in page y ≡ page_in page x) kept
  pages_touched [] fits = tt
  pages_touched (page ∷ kept) fits = (range_same (512 * page) 512 x y but.size fits.0.1 (λ k ge lt. but.above k (omega (arith, gate_low touched, high, fits.0.0, ge))), pages_touched kept fits.1)

  pub gate_touched : gate (other touched) y ≡ gate (other touched) x
  gate_touched = ⊎_elim (λ before. but.above (gate_at (other touched)) (omega (arith, before, high))) (λ after. but.below (gate_at (other touched)) (omega (arith, after, low))) (gates_apart touched)

  pub agrees_touched : (kept : List ℕ) → AreOn (length x) kept → Agrees (other touched) kept x y
  agrees_touched kept fits = record {
    size = but.size;
    contents = λ k ge lt. ⊎_elim (λ before. but.above k (omega (arith, before, high, ge))) (λ after. but.below k (omega (arith, after, low, lt))) (gates_apart touched);
    pages = pages_touched kept fits;
  }

  -- where it is only the gate, the contents of its own root stay too
  pub agrees_gate : at + n ≤ gate_at touched + 1 → (kept : List ℕ) → AreOn (length x) kept → Agrees touched kept x y
  agrees_gate gate_only kept fits = record {
    size = but.size;
    contents = λ k ge lt. but.above k (omega (arith, gate_only, ge));
    pages = pages_touched kept fits;
  }
