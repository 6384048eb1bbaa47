-- Nothing is written after the roots and the pool.
use Rattle.std.proofs.Common.{inr, ℕ, ◌+◌, ◌*◌, ◌<◌, ◌≤◌, List, [], ◌∷◌, refl, ◌∙◌, arith}
use Rattle.std.specs.List.{AllByRecursion}
use Rattle.psu_disk.specs.Disk.{IsCrashImage, SameBut, Follows, LeavesOnly}
use Rattle.psu_disk.specs.Moments.{started, and_then, weaken}
use Rattle.psu_disk.specs.declared.disk.Disk.{Ghosts}
use Rattle.psu_pages.specs.declared.root.Root.{Root}
use Rattle.psu_pages.specs.declared.root.Root.TheVariants.{First, Second}
use Rattle.psu_pages.specs.Image.{gate_at, IsInPool}
use Rattle.psu_pages.specs.Writing.{IsOutside, Misses, Reaches}
use Rattle.psu_items.specs.Writing.{SameAfterPool}

after_pool_refl : (limit : ℕ) (x : List ℕ) → SameAfterPool limit x x
after_pool_refl limit x = record { size = refl; same = λ k le. refl }

after_pool_trans : (limit : ℕ) (x y z : List ℕ) → SameAfterPool limit x y → SameAfterPool limit y z → SameAfterPool limit x z
after_pool_trans limit x y z a b = record { size = b.size ∙ a.size; same = λ k le. b.same k le ∙ a.same k le }

outside : (limit : ℕ) (pages : List ℕ) (k : ℕ) → 512 * (2 + 2 * limit) ≤ k → AllByRecursion (IsInPool limit) pages → IsOutside pages k
outside limit [] k le all = tt
outside limit (page ∷ pages) k le all = (inr (let high : page < 2 + 2 * limit = all.0.1 in omega (arith, le, high)), outside limit pages k le all.1)

-- a write of pages of the pool, or of a root, changes nothing after the pool
pub misses_after_pool : (limit : ℕ) (pages x y : List ℕ) → AllByRecursion (IsInPool limit) pages → Misses pages x y → SameAfterPool limit x y
misses_after_pool limit pages x y pool misses = record { size = misses.size; same = λ k le. misses.same k (outside limit pages k le pool) }

pub but_after_pool : (limit : ℕ) (root : Root) (n : ℕ) (x y : List ℕ) → n ≤ 512 → SameBut (gate_at root) n x y → SameAfterPool limit x y
but_after_pool limit First n x y most but = record { size = but.size; same = λ k le. but.above k (omega (arith, le, most)) }
but_after_pool limit Second n x y most but = record { size = but.size; same = λ k le. but.above k (omega (arith, le, most)) }

module _ {D : Type 0} (G : Ghosts D) (limit : ℕ) (old : D) where
  abbrev From : List ℕ → Type 0
  From = Reaches (SameAfterPool limit) (IsCrashImage (Ghosts.state G old))

  pub after_pool_none : Follows (SameAfterPool limit) (IsCrashImage (Ghosts.state G old)) (IsCrashImage (Ghosts.state G old))
  after_pool_none x l = (x, l, after_pool_refl limit x)

  pub after_pool_still : ((x : List ℕ) → Ghosts.left_since G old (Ghosts.moment G old) x → IsCrashImage (Ghosts.state G old) x) → LeavesOnly (Ghosts.moment G) (Ghosts.left_since G) old old From
  after_pool_still only_now = started (Ghosts.moment G) (Ghosts.left_since G) old From (λ x l. after_pool_none x (only_now x l))

  -- another kind of step that changes nothing after the pool
  module _ (Step : List ℕ → List ℕ → Type 0) (keeps : (x y : List ℕ) → Step x y → SameAfterPool limit x y) (new : D) where
    pub after_pool_step : Follows Step (IsCrashImage (Ghosts.state G old)) (IsCrashImage (Ghosts.state G new)) → Follows (SameAfterPool limit) (IsCrashImage (Ghosts.state G old)) (IsCrashImage (Ghosts.state G new))
    after_pool_step follows x l = let r = follows x l in (r.0, r.1, keeps r.0 x r.2)

    pub after_pool_step_run : LeavesOnly (Ghosts.moment G) (Ghosts.left_since G) old new (Reaches Step (IsCrashImage (Ghosts.state G old))) → LeavesOnly (Ghosts.moment G) (Ghosts.left_since G) old new From
    after_pool_step_run run = weaken (Ghosts.moment G) (Ghosts.left_since G) old new (Reaches Step (IsCrashImage (Ghosts.state G old))) From run (λ x r. (r.0, r.1, keeps r.0 x r.2))

  -- one run, then another
  module _ (mid : D) (so_far : Follows (SameAfterPool limit) (IsCrashImage (Ghosts.state G old)) (IsCrashImage (Ghosts.state G mid))) where
    on : (x : List ℕ) → Reaches (SameAfterPool limit) (IsCrashImage (Ghosts.state G mid)) x → From x
    on x r = let f = so_far r.0 r.1 in (f.0, f.1, after_pool_trans limit f.0 r.0 x f.2 r.2)

    pub after_pool_on : (new : D) → Follows (SameAfterPool limit) (IsCrashImage (Ghosts.state G mid)) (IsCrashImage (Ghosts.state G new)) → Follows (SameAfterPool limit) (IsCrashImage (Ghosts.state G old)) (IsCrashImage (Ghosts.state G new))
    after_pool_on new follows x l = on x (follows x l)

    pub after_pool_run : (new : D) → LeavesOnly (Ghosts.moment G) (Ghosts.left_since G) old mid From → LeavesOnly (Ghosts.moment G) (Ghosts.left_since G) mid new (Reaches (SameAfterPool limit) (IsCrashImage (Ghosts.state G mid))) → LeavesOnly (Ghosts.moment G) (Ghosts.left_since G) old new From
    after_pool_run new first second = and_then (Ghosts.moment G) (Ghosts.left_since G) old mid new From (Reaches (SameAfterPool limit) (IsCrashImage (Ghosts.state G mid))) first second on
