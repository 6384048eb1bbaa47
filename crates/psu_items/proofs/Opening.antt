-- The root that an opening finds, and the images that are possible after it.
use Rattle.std.proofs.Common.{◌≡◌, inl, inr, ⊎_elim, ℕ, List, Result, Ok, Err, IfErr, map, refl, sym, ◌∙◌, ap, subst, arith}
use Rattle.psu_disk.specs.Disk.{DiskState, IsCrashImage, Only, SameBut, LeavesOnly}
use Rattle.psu_disk.specs.Moments.{and_then, weaken}
use Rattle.psu_disk.specs.Ranges.{reads_left}
use Rattle.psu_disk.specs.declared.disk.Disk.{Ghosts}
use Rattle.psu_map.specs.Map.{Item, IsSorted}
use Rattle.psu_map.specs.Capacity.{IsMapOf}
use Rattle.psu_pages.specs.declared.faults.BadImage.TheVariants.{NoRoot, BadRoot, BadVersion}
use Rattle.psu_pages.specs.declared.faults.OpenCause.{OpenCause}
use Rattle.psu_pages.specs.declared.faults.OpenCause.TheVariants.{Device, Image, Memory}
use Rattle.psu_pages.specs.declared.pages.Pages.{Pages}
use Rattle.psu_pages.specs.declared.root.Root.{Root}
use Rattle.psu_pages.specs.Image.{Head, other, gate_at, number_in, version_in, IsCurrent}
use Rattle.psu_pages.specs.Outcome.{Closes, EncodesPages}
use Rattle.psu_pages.specs.Shown.{items_in, Shows, Encodes}
use Rattle.psu_pages.specs.Shown as shown
use Rattle.psu_pages.specs.Finding as finding
use Rattle.psu_pages.proofs.Encoding.{current_root_is}
use Rattle.psu_items.specs.Image.{as_item, listed, current_root, RootHolds, Represents, EachRepresents, IsEither, EachIsEither, IsRefusal, HasReadableRoot}
use Rattle.psu_items.specs.Finding.{SameRoots, IsOldOrSame}
use Rattle.psu_items.proofs.Standing.{represents_at}

pub err_any : {T E : Type 0} (r : Result T E) (P : E → Type 0) → ((e : E) → P e) → IfErr r P
err_any (Ok x) P f = tt
err_any (Err e) P f = f e

-- if P holds at each moment, and Q does, both do
pub both_runs : {D : Type 0} (moment : D → ℕ) (left_since : D → ℕ → List ℕ → Type 0) (old new : D) (P Q : List ℕ → Type 0) → LeavesOnly moment left_since old new P → LeavesOnly moment left_since old new Q → LeavesOnly moment left_since old new (λ x. P x × Q x)
both_runs moment left_since old new P Q a b = record {
  later = a.later;
  each = λ x since. (a.each x since, b.each x since);
  before = λ t x le since. ⊎_elim inl (λ p. ⊎_elim inl (λ q. inr (p, q)) (b.before t x le since)) (a.before t x le since);
}

-- a map that y represents is represented by x
same_represents : (y x : List ℕ) (limit : ℕ) (m : List Item) → SameRoots y x → Represents y limit m → Represents x limit m
same_represents y x limit m same st = represents_at (current_root y) limit m x (same.current (current_root y) st.current) (same.holds (current_root y) st.current limit m st.holds)

pub still_represents : (disk : DiskState) (limit : ℕ) (m : List Item) → EachRepresents disk limit m → (x : List ℕ) → IsOldOrSame disk x → Represents x limit m
still_represents disk limit m all x (inl left) = all x left
still_represents disk limit m all x (inr same) = same_represents disk.bytes x limit m same (all disk.bytes (reads_left disk))

pub still_either : (disk : DiskState) (limit : ℕ) (before target : List Item) → EachIsEither disk limit before target → (x : List ℕ) → IsOldOrSame disk x → IsEither limit before target x
still_either disk limit before target all x (inl left) = all x left
still_either disk limit before target all x (inr same) = ⊎_elim (λ st. inl (same_represents disk.bytes x limit before same st)) (λ st. inr (same_represents disk.bytes x limit target same st)) (all disk.bytes (reads_left disk))

-- the cause for which pages are not opened, as the cause for which the store is not
pub pages_refused : (image : List ℕ) (cause : OpenCause) → finding.IfImage cause (finding.IsRefusal image) → finding.IfImage cause (IsRefusal image)
pages_refused image Device why = tt
pages_refused image (Image NoRoot) why = why
pages_refused image (Image BadRoot) why = record {
  some_root = why.some_root;
  same_version = why.same_version;
  represents_none = λ limit m st. why.represents_none limit (items_in (current_root image) image) (record { current = st.current; shows = st.holds.shows; items_are = refl });
}
pages_refused image (Image BadVersion) why = why
pages_refused image Memory why = tt

-- a root is current in s
module _ (root : Root) (version limit number : ℕ) (heads : List Head) (s : List ℕ) (encodes : Encodes root version limit number heads (items_in root s) s) where
  pub represented : (m : List Item) → IsSorted m → IsMapOf m (listed s heads) → Represents s limit m
  represented m sorted of = represents_at root limit m s encodes.current (record { shows = encodes.has_contents.shows; items = subst (λ (hs : List Head). IsMapOf m (listed s hs)) (sym encodes.has_contents.heads_are) of; sorted = sorted })

  pub numbered : number_in (current_root s) s ≡ number
  numbered = ap (λ (r : Root). number_in r s) (current_root_is root s encodes.current) ∙ encodes.has_contents.number_is

  pub versioned : version_in (current_root s) s ≡ version
  versioned = ap (λ (r : Root). version_in r s) (current_root_is root s encodes.current) ∙ encodes.has_contents.version_is

  pub readable : HasReadableRoot s
  readable =
      let is = sym (current_root_is root s encodes.current) in
      let shows = encodes.has_contents.shows in
      record {
        current = subst (λ (r : Root). IsCurrent r s) is encodes.current;
        words = subst (λ (r : Root). finding.HasGoodWords r s) is (record {
          marked = shows.marked;
          version = shows.version;
          limit_least = omega (arith, shows.limit_least, shows.limit_is);
          limit_most = omega (arith, shows.limit_most, shows.limit_is);
          room = omega (arith, shows.room, shows.limit_is);
          count = shows.count;
        });
      }

  -- and it has the same contents in x
  pub same_roots : (x : List ℕ) → Encodes root version limit number heads (items_in root s) x → SameBut (gate_at (other root)) 1 s x → SameRoots s x
  same_roots x now but = record {
    current = λ r c. subst (λ (q : Root). IsCurrent q x) (is_root r c) now.current;
    numbers = λ r c. subst (λ (q : Root). number_in q x ≡ number_in q s) (is_root r c) (now.has_contents.number_is ∙ sym encodes.has_contents.number_is);
    holds = λ r c l m holds. subst (λ (q : Root). RootHolds q x l m) (is_root r c) (kept l m (subst (λ (q : Root). RootHolds q s l m) (sym (is_root r c)) holds));
    but = subst (λ (r : Root). SameBut (gate_at (other r)) 1 s x) (sym (current_root_is root s encodes.current)) but;
  }
    where
      is_root : (r : Root) → IsCurrent r s → root ≡ r
      is_root r c = sym (current_root_is root s encodes.current) ∙ current_root_is r s c

      kept : (l : ℕ) (m : List Item) → RootHolds root s l m → RootHolds root x l m
      kept l m holds = record {
        shows = subst (Shows root x) (sym encodes.has_contents.shows.limit_is ∙ holds.shows.limit_is) now.has_contents.shows;
        items = subst (λ (is : List shown.Item). IsMapOf m (map as_item is)) (sym now.has_contents.items_are) holds.items;
        sorted = holds.sorted;
      }

-- pages were opened on a disk whose bytes are s, and the gate of the older root may be closed after that
module _ {D A : Type 0} {G : Ghosts D} (pages : Pages D A G) (s : List ℕ) (encodes : Encodes pages.root pages.version pages.limit pages.number pages.heads.items (items_in pages.root s) s) (seen : (Ghosts.state G pages.disk).bytes ≡ s) (only : Only (Ghosts.state G pages.disk)) where
  pub closed : (x : List ℕ) → EncodesPages pages x → Closes pages x → SameRoots s x
  closed x now reaches =
      let at : reaches.0 ≡ s = only reaches.0 reaches.1 ∙ seen in
      same_roots pages.root pages.version pages.limit pages.number pages.heads.items s encodes x
      (subst (λ (y : List ℕ). Encodes pages.root pages.version pages.limit pages.number pages.heads.items (items_in pages.root y) x) seen now)
      (subst (λ (y : List ℕ). SameBut (gate_at (other pages.root)) 1 y x) at reaches.2)

  pub closed_run : (old : DiskState) (before new : D) → old.bytes ≡ s → LeavesOnly (Ghosts.moment G) (Ghosts.left_since G) before pages.disk (IsCrashImage old)
      → LeavesOnly (Ghosts.moment G) (Ghosts.left_since G) pages.disk new (EncodesPages pages) → LeavesOnly (Ghosts.moment G) (Ghosts.left_since G) pages.disk new (Closes pages)
      → LeavesOnly (Ghosts.moment G) (Ghosts.left_since G) before new (IsOldOrSame old)
  closed_run old before new is first encoding closing =
      and_then (Ghosts.moment G) (Ghosts.left_since G) before pages.disk new (IsOldOrSame old) (λ x. EncodesPages pages x × Closes pages x)
      (weaken (Ghosts.moment G) (Ghosts.left_since G) before pages.disk (IsCrashImage old) (IsOldOrSame old) first (λ x l. inl l))
      (both_runs (Ghosts.moment G) (Ghosts.left_since G) pages.disk new (EncodesPages pages) (Closes pages) encoding closing)
      (λ x both. inr (subst (λ (y : List ℕ). SameRoots y x) (sym is) (closed x both.0 both.1)))
