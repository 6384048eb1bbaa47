-- The possible crash images at each moment of a switch.
use Rattle.std.proofs.Common.{◌≡◌, inl, ℕ, suc, ◌+◌, ◌*◌, ◌^◌, ◌<◌, ◌≤◌, List, [], ◌∷◌, length, map, refl, sym, ◌∙◌, ap, subst, arith}
use Rattle.std.specs.List.{AllByRecursion}
use Rattle.psu_disk.specs.Disk.{DiskState, IsCrashImage, Range, SameBut, Only, Follows, LeavesOnly}
use Rattle.psu_disk.specs.Moments.{and_then, weaken}
use Rattle.psu_disk.specs.Ranges.{reads_left}
use Rattle.psu_pages.specs.declared.root.Root.{Root}
use Rattle.psu_pages.specs.Image.{other, gate_at, gate, number_in, page_in, Head, head_on, head_at, taken, pages_of, IsInPool}
use Rattle.psu_pages.specs.Shown.{Item, item_in, HasContents, Encodes, EachEncodes, EachLower, EncodesEither}
use Rattle.psu_pages.specs.Spelling.{names, IsReady}
use Rattle.psu_pages.specs.Writing.{Reaches}
use Rattle.psu_pages.proofs.Lists.{all_right}
use Rattle.psu_pages.proofs.Keeping.{on_disk, pages_touched, shown_same}
use Rattle.psu_pages.proofs.Making.{ready as root_has_contents}
use Rattle.psu_pages.proofs.Encoding.{encodes_shut, encodes_opened, lower_opened, opens}

-- heads that are on their pages, decoded from the pages that are named
there_by_name : (x y : List ℕ) (heads : List Head) → AllByRecursion (λ (page : ℕ). page_in page y ≡ page_in page x) (taken heads) → AllByRecursion (λ (head : Head). head_at x head.at ≡ head) heads → map (head_at y) (names heads) ≡ heads
there_by_name x y [] same there = refl
there_by_name x y (head ∷ heads) same there =
    ap (λ (h : Head). h ∷ map (head_at y) (names heads)) (ap (head_on head.at) same.0 ∙ there.0)
    ∙ ap (λ (hs : List Head). head ∷ hs) (there_by_name x y heads (all_right (λ (page : ℕ). page_in page y ≡ page_in page x) (pages_of head) (taken heads) same) there.1)

length-names : (heads : List Head) → length (names heads) ≡ length heads
length-names [] = refl
length-names (head ∷ heads) = ap suc (length-names heads)

names_low : (limit : ℕ) (heads : List Head) → limit ≤ 480 → AllByRecursion (IsInPool limit) (taken heads) → AllByRecursion (λ (n : ℕ). n < 2 ^ 16) (names heads)
names_low limit [] most pool = tt
names_low limit (h ∷ heads) most pool = (omega (arith, pool.0.1, most), names_low limit heads most (all_right (IsInPool limit) (pages_of h) (taken heads) pool))

-- what changes in a range changes in a larger one
wider : (at from n m : ℕ) (x y : List ℕ) → at ≤ from → from + n ≤ at + m → SameBut from n x y → SameBut at m x y
wider at from n m x y low high but = record { size = but.size; below = λ k lt. but.below k (omega (arith, lt, low)); above = λ k le. but.above k (omega (arith, le, high)) }

page_trans : (at n : ℕ) (x y z : List ℕ) → SameBut at n x y → SameBut at n y z → SameBut at n x z
page_trans at n x y z first second = record { size = second.size ∙ first.size; below = λ k lt. second.below k lt ∙ first.below k lt; above = λ k le. second.above k le ∙ first.above k le }

-- a root's contents were written and made durable, and then its gate
pub record HasWrittenContents (next : Root) (contents : List ℕ) (start one : DiskState) : Type 0 where
  pub but : SameBut (gate_at next + 1) 511 start.bytes one.bytes
  pub has_contents : Range (gate_at next + 1) 511 one.bytes ≡ contents
  pub only : Only one

pub record HasOpened (next : Root) (one two : DiskState) : Type 0 where
  pub but : SameBut (gate_at next) 1 one.bytes two.bytes
  pub is_open : gate next two.bytes ≡ 165
  pub only : Only two

-- no page but the next root's is written
module _ (next : Root) {old : List ℕ → Type 0} where
  pub touched_written : {new : List ℕ → Type 0} → Follows (SameBut (gate_at next + 1) 511) old new → Follows (SameBut (gate_at next) 512) old new
  touched_written step x l = let from = step x l in (from.0, from.1, wider (gate_at next) (gate_at next + 1) 511 512 from.0 x (omega arith) (omega arith) from.2)

  also : {mid : List ℕ → Type 0} → Follows (SameBut (gate_at next + 1) 511) old mid → (x : List ℕ) → Reaches (SameBut (gate_at next) 1) mid x → Reaches (SameBut (gate_at next) 512) old x
  also step x reach =
      let begin = touched_written step reach.0 reach.1 in
      (begin.0, begin.1, page_trans (gate_at next) 512 begin.0 reach.0 x begin.2 (wider (gate_at next) (gate_at next) 1 512 reach.0 x (omega arith) (omega arith) reach.2))

  pub touched_opened : {mid new : List ℕ → Type 0} → Follows (SameBut (gate_at next + 1) 511) old mid → Follows (SameBut (gate_at next) 1) mid new → Follows (SameBut (gate_at next) 512) old new
  touched_opened first second x l = also first x (second x l)

  module _ {D : Type 0} {moment : D → ℕ} {left_since : D → ℕ → List ℕ → Type 0} {start one : D} (first : LeavesOnly moment left_since start one (Reaches (SameBut (gate_at next + 1) 511) old)) where
    pub run_touched : LeavesOnly moment left_since start one (Reaches (SameBut (gate_at next) 512) old)
    run_touched = weaken moment left_since start one (Reaches (SameBut (gate_at next + 1) 511) old) (Reaches (SameBut (gate_at next) 512) old) first
        (λ x reach. (reach.0, reach.1, wider (gate_at next) (gate_at next + 1) 511 512 reach.0 x (omega arith) (omega arith) reach.2))

    pub run_touched_opened : {mid : List ℕ → Type 0} {two : D} → Follows (SameBut (gate_at next + 1) 511) old mid → LeavesOnly moment left_since one two (Reaches (SameBut (gate_at next) 1) mid)
        → LeavesOnly moment left_since start two (Reaches (SameBut (gate_at next) 512) old)
    run_touched_opened {mid} {two} step second = and_then moment left_since start one two (Reaches (SameBut (gate_at next) 512) old) (Reaches (SameBut (gate_at next) 1) mid) run_touched second (also step)

module _ {start : DiskState} {next : Root} {version limit n : ℕ} {before heads : List Head} {items : List Item} {contents : List ℕ} (ready : IsReady start next version limit n before heads items contents) where
  -- what holds of each possible crash image of a switch
  abbrev pub IsEach : List ℕ → Type 0
  IsEach = EncodesEither next version limit n before items heads (map (item_in start.bytes) heads)

  -- while the next root's contents are written
  still : (y x : List ℕ) → IsCrashImage start y → SameBut (gate_at next + 1) 511 y x → Encodes (other next) version limit n before items x
  still y x l but = encodes_shut next version limit n before items (gate_at next + 1) 511 (omega arith) (omega arith) y x but (λ is. ready.shut y l (sym (but.below (gate_at next) (omega arith)) ∙ is)) (ready.encodes y l)

  pub left_written : {new : List ℕ → Type 0} → Follows (SameBut (gate_at next + 1) 511) (IsCrashImage start) new → (x : List ℕ) → new x → IsEach x
  left_written step x l = let from = step x l in inl (still from.0 x from.1 from.2)

  pub run_written : {D : Type 0} {moment : D → ℕ} {left_since : D → ℕ → List ℕ → Type 0} {old one : D} → LeavesOnly moment left_since old one (Reaches (SameBut (gate_at next + 1) 511) (IsCrashImage start)) → LeavesOnly moment left_since old one IsEach
  run_written {D} {moment} {left_since} {old} {one} run = weaken moment left_since old one (Reaches (SameBut (gate_at next + 1) 511) (IsCrashImage start)) IsEach run (λ x reach. inl (still reach.0 x reach.1 reach.2))

  -- once they are durable
  module _ {one : DiskState} (written : HasWrittenContents next contents start one) where
    at_start : Encodes (other next) version limit n before items start.bytes
    at_start = ready.encodes start.bytes (reads_left start)

    room : 512 * (2 + 2 * limit) ≤ length start.bytes
    room = at_start.has_contents.shows.room

    same : AllByRecursion (λ (page : ℕ). page_in page one.bytes ≡ page_in page start.bytes) (taken heads)
    same = pages_touched next (gate_at next + 1) 511 (omega arith) (omega arith) start.bytes one.bytes written.but (taken heads) (on_disk limit (length start.bytes) (taken heads) room ready.are_contents.roster.pool)

    contents_one : HasContents next 2 limit (n + 1) heads (map (item_in start.bytes) heads) one.bytes
    contents_one =
        let shows = at_start.has_contents.shows in
        let contents = ready.are_contents in
        let roster = contents.roster in
        root_has_contents next limit (n + 1) heads (map (item_in start.bytes) heads) one.bytes shows.limit_least shows.limit_most contents.number_fits (omega (arith, room, written.but.size))
        (omega (arith, length-names heads, roster.count)) (names_low limit heads shows.limit_most roster.pool) roster.each roster.pool roster.apart roster.cost roster.distinct
        (written.has_contents ∙ contents.contents_are) (there_by_name start.bytes one.bytes heads same contents.there) (shown_same start.bytes one.bytes heads same)

    encodes_one : Encodes (other next) version limit n before items one.bytes
    encodes_one = still start.bytes one.bytes (reads_left start) written.but

    opening : (x : List ℕ) → Reaches (SameBut (gate_at next) 1) (IsCrashImage one) x → IsEach x
    opening x reach = opens next version limit n before heads items (map (item_in start.bytes) heads) one.bytes x encodes_one contents_one (subst (λ (z : List ℕ). SameBut (gate_at next) 1 z x) (written.only reach.0 reach.1) reach.2)

    pub left_opened : {new : List ℕ → Type 0} → Follows (SameBut (gate_at next) 1) (IsCrashImage one) new → (x : List ℕ) → new x → IsEach x
    left_opened step x l = opening x (step x l)

    pub run_opened : {D : Type 0} {moment : D → ℕ} {left_since : D → ℕ → List ℕ → Type 0} {old mid two : D} → LeavesOnly moment left_since old mid (Reaches (SameBut (gate_at next + 1) 511) (IsCrashImage start))
        → LeavesOnly moment left_since mid two (Reaches (SameBut (gate_at next) 1) (IsCrashImage one)) → LeavesOnly moment left_since old two IsEach
    run_opened {D} {moment} {left_since} {old} {mid} {two} first second = and_then moment left_since old mid two IsEach (Reaches (SameBut (gate_at next) 1) (IsCrashImage one)) (run_written first) second opening

    module _ {two : DiskState} (opened : HasOpened next one two) where
      pub encoded : EachEncodes two next 2 limit (n + 1) heads (map (item_in start.bytes) heads)
      encoded x l = subst (Encodes next 2 limit (n + 1) heads (map (item_in start.bytes) heads)) (sym (opened.only x l))
          (encodes_opened next version limit n before heads items (map (item_in start.bytes) heads) one.bytes two.bytes encodes_one contents_one opened.but opened.is_open)

      pub lower : EachLower two (other next) (n + 1)
      lower x l = subst (λ (z : List ℕ). number_in (other next) z < n + 1) (sym (opened.only x l)) (lower_opened next version limit n before heads items (map (item_in start.bytes) heads) one.bytes two.bytes encodes_one contents_one opened.but)
