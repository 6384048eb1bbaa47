-- A commit, as its callers see it.
use Rattle.std.proofs.Common.{◌≡◌, inl, inr, true, false, ℕ, List, sym, ◌∙◌, ap, subst}
use Rattle.psu_disk.specs.Disk.{IsCrashImage, Follows, LeavesOnly, HasFailed}
use Rattle.psu_disk.specs.Moments.{started, weaken}
use Rattle.psu_disk.specs.declared.disk.Disk.{Ghosts}
use Rattle.psu_map.specs.Map.{Item}
use Rattle.psu_map.specs.Capacity.{IsMapOf}
use Rattle.psu_pages.specs.declared.pages.Pages.{Pages}
use Rattle.psu_pages.specs.declared.root.Root.{Root}
use Rattle.psu_pages.specs.Outcome.{HasSameRoots}
use Rattle.psu_pages.specs.Writing.{Reaches}
use Rattle.psu_items.specs.Writing.{SameAfterPool}
use Rattle.psu_items.specs.Image.{shown_in, IsEither, IsEitherRoot}
use Rattle.psu_items.specs.Standing.{MapOn, ShowsMap, on_pages}
use Rattle.psu_items.proofs.Standing.{pages_as}

pub not_true : false ≡ true → ⊥
not_true e = cc

-- no call of the disk is made
pub none_run : {D A : Type 0} {G : Ghosts D} (pages : Pages D A G) (m target : List Item) → ShowsMap pages m → Ghosts.honest G → ((x : List ℕ) → Ghosts.left_since G pages.disk (Ghosts.moment G pages.disk) x → IsCrashImage (Ghosts.state G pages.disk) x)
    → LeavesOnly (Ghosts.moment G) (Ghosts.left_since G) pages.disk pages.disk (IsEitherRoot pages.version pages.number pages.limit m target)
none_run {D} {A} {G} pages m target shows h only_now = started (Ghosts.moment G) (Ghosts.left_since G) pages.disk (IsEitherRoot pages.version pages.number pages.limit m target) (λ x s. inl (pages_as pages m shows h x (only_now x s)))

-- without the version and the number
pub to_either : (version number limit : ℕ) (before target : List Item) (x : List ℕ) → IsEitherRoot version number limit before target x → IsEither limit before target x
to_either version number limit before target x (inl was) = inl was.represents
to_either version number limit before target x (inr is) = inr is.represents

pub either_run : {D : Type 0} (G : Ghosts D) (version number limit : ℕ) (before target : List Item) (old last : D) → LeavesOnly (Ghosts.moment G) (Ghosts.left_since G) old last (IsEitherRoot version number limit before target)
    → LeavesOnly (Ghosts.moment G) (Ghosts.left_since G) old last (IsEither limit before target)
either_run G version number limit before target old last run = weaken (Ghosts.moment G) (Ghosts.left_since G) old last (IsEitherRoot version number limit before target) (IsEither limit before target) run (to_either version number limit before target)

pub number_back : {D A : Type 0} {G : Ghosts D} (pages : Pages D A G) (m : List Item) (seen : MapOn D) → on_pages pages m ≡ seen → pages.number ≡ seen.number
number_back {D} pages m seen is = ap (λ (s : MapOn D). s.number) is

pub items_back : {D A : Type 0} {G : Ghosts D} (pages : Pages D A G) (m : List Item) (seen : MapOn D) → on_pages pages m ≡ seen → m ≡ seen.items
items_back {D} pages m seen is = ap (λ (s : MapOn D). s.items) is

pub limit_back : {D A : Type 0} {G : Ghosts D} (pages : Pages D A G) (m : List Item) (seen : MapOn D) → on_pages pages m ≡ seen → pages.limit ≡ seen.limit
limit_back {D} pages m seen is = ap (λ (s : MapOn D). s.limit) is

-- a call has failed since the start of the commit
pub failed_back : {D A : Type 0} {G : Ghosts D} (pages : Pages D A G) (m : List Item) (seen : MapOn D) (mid last out : D) → on_pages pages m ≡ seen → mid ≡ pages.disk → out ≡ last → HasFailed (Ghosts.failures G mid) (Ghosts.failures G last) → HasFailed (Ghosts.failures G seen.disk) (Ghosts.failures G out)
failed_back {D} {A} {G} pages m seen mid last out is first second failed =
    subst (λ (d : D). HasFailed (Ghosts.failures G d) (Ghosts.failures G out)) (first ∙ ap (λ (s : MapOn D). s.disk) is) (subst (λ (d : D). HasFailed (Ghosts.failures G mid) (Ghosts.failures G d)) (sym second) failed)

-- a disk that is returned
pub left_out : {D : Type 0} (G : Ghosts D) (last out : D) (x : List ℕ) → out ≡ last → IsCrashImage (Ghosts.state G out) x → IsCrashImage (Ghosts.state G last) x
left_out {D} G last out x is left = subst (λ (d : D). IsCrashImage (Ghosts.state G d) x) is left

module _ {D A : Type 0} {G : Ghosts D} (old new : Pages D A G) (roots : HasSameRoots old new) where
  pub still_shows : (m : List Item) → ShowsMap old m → ShowsMap new m
  still_shows m shows = record {
    one = roots.standing ∙ shows.one;
    sorted = shows.sorted;
    holds = λ h. subst (λ (r : Root). IsMapOf m (shown_in r (Ghosts.state G new.disk).bytes)) (sym roots.root) (subst (λ (d : D). IsMapOf m (shown_in old.root (Ghosts.state G d).bytes)) (sym roots.disk) (shows.holds h));
  }

  pub same_view : (m : List Item) → on_pages new m ≡ on_pages old m
  same_view m = ap (λ (d : D). seen d new.version new.limit new.number) roots.disk ∙ ap (λ (n : ℕ). seen old.disk n new.limit new.number) roots.version ∙ ap (λ (n : ℕ). seen old.disk old.version n new.number) roots.limit ∙ ap (λ (n : ℕ). seen old.disk old.version old.limit n) roots.number
    where
      seen : D → ℕ → ℕ → ℕ → MapOn D
      seen d version limit number = record { disk = d; limit = limit; version = version; number = number; items = m }

  -- nothing after the pool changes, compared with the pages before
  pub after_pool_back : (last : D) → Follows (SameAfterPool new.limit) (IsCrashImage (Ghosts.state G new.disk)) (IsCrashImage (Ghosts.state G last)) → Follows (SameAfterPool old.limit) (IsCrashImage (Ghosts.state G old.disk)) (IsCrashImage (Ghosts.state G last))
  after_pool_back last follows = subst (λ (d : D). Follows (SameAfterPool old.limit) (IsCrashImage (Ghosts.state G d)) (IsCrashImage (Ghosts.state G last))) roots.disk (subst (λ (n : ℕ). Follows (SameAfterPool n) (IsCrashImage (Ghosts.state G new.disk)) (IsCrashImage (Ghosts.state G last))) roots.limit follows)

  pub after_pool_time_back : (last : D) → LeavesOnly (Ghosts.moment G) (Ghosts.left_since G) new.disk last (Reaches (SameAfterPool new.limit) (IsCrashImage (Ghosts.state G new.disk))) → LeavesOnly (Ghosts.moment G) (Ghosts.left_since G) old.disk last (Reaches (SameAfterPool old.limit) (IsCrashImage (Ghosts.state G old.disk)))
  after_pool_time_back last run = subst (λ (d : D). LeavesOnly (Ghosts.moment G) (Ghosts.left_since G) d last (Reaches (SameAfterPool old.limit) (IsCrashImage (Ghosts.state G d)))) roots.disk (subst (λ (n : ℕ). LeavesOnly (Ghosts.moment G) (Ghosts.left_since G) new.disk last (Reaches (SameAfterPool n) (IsCrashImage (Ghosts.state G new.disk)))) roots.limit run)

  module _ (m made target : List Item) (is : made ≡ target) where
    abbrev Renews : Pages D A G → List Item → List ℕ → Type 0
    Renews pages map = IsEitherRoot pages.version pages.number pages.limit m map

    rooted : (x : List ℕ) → Renews new made x → Renews old made x
    rooted x e =
        subst (λ (n : ℕ). IsEitherRoot n old.number old.limit m made x) roots.version
        (subst (λ (n : ℕ). IsEitherRoot new.version n old.limit m made x) roots.number
        (subst (λ (n : ℕ). IsEitherRoot new.version new.number n m made x) roots.limit e))

    pub either_back : (x : List ℕ) → Renews new made x → Renews old target x
    either_back x e = subst (λ (l : List Item). Renews old l x) is (rooted x e)

    pub time_back : (last : D) → LeavesOnly (Ghosts.moment G) (Ghosts.left_since G) new.disk last (Renews new made) → LeavesOnly (Ghosts.moment G) (Ghosts.left_since G) old.disk last (Renews old target)
    time_back last run =
        subst (λ (d : D). LeavesOnly (Ghosts.moment G) (Ghosts.left_since G) d last (Renews old target)) roots.disk
        (weaken (Ghosts.moment G) (Ghosts.left_since G) new.disk last (Renews new made) (Renews old target) run either_back)
