-- The possible crash images of the disk that an end carries, and of the disk at a moment of a job.
use Rattle.std.proofs.Common.{◌≡◌, ℕ, ◌≤◌, List, take, sym, ap, subst, ◌∙◌}
use Rattle.psu_disk.specs.Disk.{IsCrashImage, LeavesOnly}
use Rattle.psu_disk.specs.declared.disk.Disk.{Ghosts}
use Rattle.psu_map.specs.Map.{Item, IsSorted}
use Rattle.psu_map.specs.Batch.{Edit, changed}
use Rattle.psu_items.specs.Image.{EachIsEither, IsEither}
use Rattle.psu_nv.specs.Commands.{applied}
use Rattle.psu_nv.proofs.Parts.{items_sorted}
use Rattle.psu_exec.specs.Batch.{batch}
use Rattle.psu_exec.specs.Consistent.{IsConsistent}
use Rattle.psu_exec.specs.Device.{Flush, count_held, target}
use Rattle.psu_exec.specs.Calls.{IsExpected}
use Rattle.psu_exec.specs.Jobs.{EndStands, finished_disk, finished_of}
use Rattle.psu_exec.specs.AcceptedEnd.{IsTrueOf}
use Rattle.psu_exec.specs.declared.job.End.{End as EndOf}
use Rattle.psu_exec.specs.declared.job.End.TheVariants as finished
use Rattle.psu_exec.proofs.Batches.{changed-batch}
use Rattle.psu_exec.proofs.Changes.{sound_after, sound_first, sound_front}

-- the batch leads from the map before to the target
batch_leads : (f : Flush) → IsConsistent f → changed f.before (batch f.before (target f)) ≡ target f
batch_leads f k =
    let first = sound_first f.limit k.first k.rest k.sound in
    let held = sound_after f.limit k.first (take (count_held f.held) k.rest) (sound_front f.limit k.first k.rest (count_held f.held) k.sound) in
    let old : IsSorted f.before = subst (λ (m : List Item). IsSorted m) (sym k.first_map) (items_sorted k.first first.sound.sorted) in
    let new : IsSorted (target f) = subst (λ (m : List Item). IsSorted m) (sym k.aim) (items_sorted (applied k.first (take (count_held f.held) k.rest)) held.sound.sorted) in
    changed-batch f.before (target f) old new

-- an expected end is true of its own disk
pub true_of : {D A : Type 0} {G : Ghosts D} (f : Flush) (end : EndOf D A G) → IsConsistent f → IsExpected f (finished_of end) → EndStands end → IsTrueOf (target f) (finished_of end) (Ghosts.state G (finished_disk end))
true_of f (finished.Stored store) k expected stands = stands.represents
true_of f (finished.Unstarted store edits cause) k expected stands = stands.represents
true_of {D} {A} {G} f (finished.Broken broken) k expected stands =
    let leads : changed broken.before broken.batch ≡ target f = ap (λ (m : List Item). changed m broken.batch) expected.1 ∙ (ap (λ (edits : List Edit). changed f.before edits) expected.2 ∙ batch_leads f k) in
    subst (λ (m : List Item). EachIsEither (Ghosts.state G broken.disk) broken.limit broken.before m) leads stands
true_of f (finished.Reopened store) k expected stands = stands.represents

-- each possible crash image at a moment of a job represents the map before or the target, under the state's names
pub still_either : {D : Type 0} (G : Ghosts D) → ((d : D) (t : ℕ) (x : List ℕ) → t ≤ Ghosts.moment G d → IsCrashImage (Ghosts.state G d) x → Ghosts.left_since G d t x)
    → (first mid last : D) (limit limit' : ℕ) (before before' goal goal' : List Item) → LeavesOnly (Ghosts.moment G) (Ghosts.left_since G) first last (IsEither limit before goal) → Ghosts.moment G first ≤ Ghosts.moment G mid
    → ((x : List ℕ) → Ghosts.left_since G mid (Ghosts.moment G first) x → Ghosts.left_since G last (Ghosts.moment G first) x) → limit' ≡ limit → before' ≡ before → goal' ≡ goal
    → EachIsEither (Ghosts.state G mid) limit' before' goal'
still_either G counts first mid last limit limit' before before' goal goal' whole later keeps l b t =
    let each : EachIsEither (Ghosts.state G mid) limit before goal = λ image left. whole.each image (keeps image (counts mid (Ghosts.moment G first) image later left)) in
    rw (l, b, t) each
