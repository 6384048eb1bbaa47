use Rattle.std.proofs.Common.{ℕ, inl, inr, ⊎_elim, List, sym, ◌∙◌, subst}
use Rattle.psu_disk.specs.Moments.{started, weaken}
use Rattle.psu_map.specs.Map.{Item}
use Rattle.psu_map.specs.Batch.{changed}
use Rattle.psu_items.specs.Image.{IsEither, EachIsEither}
use Rattle.psu_items.specs.Finding.{IsOldOrSame}
use Rattle.psu_items.proofs.Opening.{still_either}
use Rattle.psu_items.proofs.Recovering.{each_either}
use Rattle.psu_items.proofs.broken.Broken.reopen.Given.{Over}
use Rattle.psu_items.proofs.broken.Broken.reopen.Goals.{Start}
use Rattle.psu_items.proofs.broken.Broken.reopen.Goals as goal

each : (g : Over) (c : Start g) → g.D.Disk.honest → let s = c.args.self in EachIsEither (g.D.Disk.state s.disk) s.limit s.before (changed s.before s.batch)
each g c h = let s = c.args.self in each_either (g.D.Disk.state s.disk) s.limit s.before (changed s.before s.batch) (s.either h)

still : (g : Over) (c : Start g) → g.D.Disk.honest → (x : List ℕ) → let s = c.args.self in IsOldOrSame (g.D.Disk.state s.disk) x → IsEither s.limit s.before (changed s.before s.batch) x
still g c h = let s = c.args.self in still_either (g.D.Disk.state s.disk) s.limit s.before (changed s.before s.batch) (each g c h)

pub returns-in_default-clause-time : goal.returns-in_default-clause-time
returns-in_default-clause-time g c = λ h t.
    let d = g.D.Disk in
    let s = c.args.self in
    started d.moment d.left_since s.disk (IsEither s.limit s.before (changed s.before s.batch)) (λ x l. each g (goal.at.returns-in_default-clause-time g c).Start h x (g.met.D.Disk.only_now t s.disk x l))

pub returns-in_default-clause-images : goal.returns-in_default-clause-images
returns-in_default-clause-images g c = record {
  left = λ h x l. inl l;
  time = λ h t.
      let d = g.D.Disk in
      let s = c.args.self in
      started d.moment d.left_since s.disk (IsOldOrSame (d.state s.disk)) (λ x l. inl (g.met.D.Disk.only_now t s.disk x l));
}

pub invariant_of-result-in-Err : goal.invariant_of-result-in-Err
invariant_of-result-in-Err g c = record { either = λ h x l. ∣ still g (goal.at.invariant_of-result-in-Err g c).Start h x (c.in-Err.ensures.images.left h x l) ∣₁ }

pub returns-in-Ok-recover-clause-found : goal.returns-in-Ok-recover-clause-found
returns-in-Ok-recover-clause-found g c = (⊎_elim (λ e. inl e) (λ e. inr (e ∙ c.in-Ok.ensures.value)) c.in-Ok-recover.ensures.found, c.in-Ok-recover.ensures.limit)

pub returns-in-Ok-recover-clause-time : goal.returns-in-Ok-recover-clause-time
returns-in-Ok-recover-clause-time g c = λ h t.
    let d = g.D.Disk in
    let s = c.args.self in
    weaken d.moment d.left_since s.disk (let n = c.in-Ok-recover.store in n.disk) (IsOldOrSame (d.state s.disk)) (IsEither s.limit s.before (changed s.before s.batch)) (c.in-Ok-recover.ensures.images.time h t) (still g (goal.at.returns-in-Ok-recover-clause-time g c).Start h)

pub returns-in-Err-clause-strange : goal.returns-in-Err-clause-strange
returns-in-Err-clause-strange g c = λ h.
    let s = c.args.self in
    c.in-Err.ensures.strange h (subst (λ (m : List Item). EachIsEither (g.D.Disk.state s.disk) s.limit s.before m) (sym c.in-Ok.ensures.value) (each g (goal.at.returns-in-Err-clause-strange g c).Start h))

pub returns-in-Err-clause-time : goal.returns-in-Err-clause-time
returns-in-Err-clause-time g c = λ h t.
    let d = g.D.Disk in
    let s = c.args.self in
    weaken d.moment d.left_since s.disk (let n = c.in-Err.unfound in n.disk) (IsOldOrSame (d.state s.disk)) (IsEither s.limit s.before (changed s.before s.batch)) (c.in-Err.ensures.images.time h t) (still g (goal.at.returns-in-Err-clause-time g c).Start h)

pub returns-in_default-clause-left : goal.returns-in_default-clause-left
returns-in_default-clause-left g c = each g (goal.at.returns-in_default-clause-left g c).Start

pub returns-in-Err-clause-left : goal.returns-in-Err-clause-left
returns-in-Err-clause-left g c = λ h x l. still g (goal.at.returns-in-Err-clause-left g c).Start h x (c.in-Err.ensures.images.left h x l)
