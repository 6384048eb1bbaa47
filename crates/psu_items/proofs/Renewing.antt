-- The images of a commit, in terms of the map and the batch that it was called with.
use Rattle.std.proofs.Common.{◌≡◌, ℕ, List, sym, ◌∙◌, ap, subst}
use Rattle.psu_disk.specs.Disk.{LeavesOnly}
use Rattle.psu_disk.specs.Moments.{weaken}
use Rattle.psu_disk.specs.declared.disk.Disk.{Ghosts}
use Rattle.psu_map.specs.Map.{Item}
use Rattle.psu_map.specs.Batch.{Edit, changed}
use Rattle.psu_items.specs.Image.{IsEither, IsEitherRoot}
use Rattle.psu_map.specs.Plan.{Planned}
use Rattle.psu_items.specs.Standing.{KeepsMap, MapOn, on_pages}
use Rattle.psu_pages.specs.Outcome.{HasSameRoots}
use Rattle.psu_pages.specs.declared.pages.Pages.{Pages}
use Rattle.psu_items.proofs.Committing.{same_view}

-- the plan has the map and the batch of the call
module _ (m found : List Item) (batch edits : List Edit) (plan : Planned) (planned : plan ≡ record { map = m; edits = batch }) (found_is : found ≡ plan.map) (edits_is : edits ≡ plan.edits) where
  pub map_called : found ≡ m
  map_called = found_is ∙ ap (λ (p : Planned). p.map) planned

  pub edits_called : edits ≡ batch
  edits_called = edits_is ∙ ap (λ (p : Planned). p.edits) planned

module _ (m found : List Item) (batch edits : List Edit) (map_is : found ≡ m) (edits_are : edits ≡ batch) where
  pub either_called : (version number limit : ℕ) (x : List ℕ) → IsEitherRoot version number limit found (changed found edits) x → IsEitherRoot version number limit m (changed m batch) x
  either_called version number limit x e = subst (λ (es : List Edit). IsEitherRoot version number limit m (changed m es) x) edits_are (subst (λ (f : List Item). IsEitherRoot version number limit f (changed f edits) x) map_is e)

  pub time_called : {D : Type 0} (G : Ghosts D) (version number limit : ℕ) (old last : D) → LeavesOnly (Ghosts.moment G) (Ghosts.left_since G) old last (IsEitherRoot version number limit found (changed found edits))
      → LeavesOnly (Ghosts.moment G) (Ghosts.left_since G) old last (IsEitherRoot version number limit m (changed m batch))
  time_called G version number limit old last run = weaken (Ghosts.moment G) (Ghosts.left_since G) old last (IsEitherRoot version number limit found (changed found edits)) (IsEitherRoot version number limit m (changed m batch)) run (either_called version number limit)

  pub weakly_called : (limit : ℕ) (x : List ℕ) → IsEither limit found (changed found edits) x → IsEither limit m (changed m batch) x
  weakly_called limit x e = subst (λ (es : List Edit). IsEither limit m (changed m es) x) edits_are (subst (λ (f : List Item). IsEither limit f (changed f edits) x) map_is e)

  pub target_called : changed found edits ≡ changed m batch
  target_called = ap (λ (f : List Item). changed f edits) map_is ∙ ap (changed m) edits_are

-- an unchanged store
pub view_again : {D A : Type 0} {G : Ghosts D} (old new : Pages D A G) → HasSameRoots old new → (m items : List Item) (seen : MapOn D) → items ≡ m → on_pages old m ≡ seen → on_pages new items ≡ seen
view_again {D} {A} {G} old new roots m items seen same is = same_view old new roots items ∙ ap (on_pages old) same ∙ is

pub keeps_called : {D A : Type 0} {G : Ghosts D} (pages : Pages D A G) (m found : List Item) → KeepsMap pages found → m ≡ found → KeepsMap pages m
keeps_called pages m found keeps is = subst (KeepsMap pages) (sym is) keeps
