use Rattle.std.proofs.Common.{◌≡◌, ◌+◌, ◌∷◌, [], ℕ, Bool, List, length, take, ◌∙◌, ap, arith}
use Rattle.std.proofs.lemmas.List.{length-append}
use Rattle.psu_pages.specs.Free.{free_pages}
use Rattle.psu_pages.proofs.Marking.{picked, left_out, enough}
use Rattle.psu_pages.proofs.free_map.FreeMap.first_free.Goals as goal
use Rattle.psu_pages.proofs.free_map.FreeMap.first_free.Goals.{then-free+in_ok-push+else-len-count, else-free}

pub returns-then-len-count : goal.returns-then-len-count
returns-then-len-count g c =
    let l = c.loop-page in
    let free = c.deref-free-items.result.now in
    let is : free ≡ c.args.self.now = c.deref-free-items.ensures.value ∙ c.self.view_is in
    let next = c.in_ok-push.ensures.items ∙ picked c.args.count l.page _ free c.loop-page-test.true l.pages.items l.invariant.first c.if-free.true l.invariant.few in
    enough c.args.count (l.page + 1) free _ next (omega (arith, c.if-len-count.true, c.len.ensures)) ∙ ap (λ (f : List Bool). take c.args.count (free_pages f)) is

pub loop-page-preserved : goal.loop-page-preserved
loop-page-preserved g c =
    let l = c.loop-page in
    let free = c.deref-free-items.result.now in
    elim c.if-free.branch [
      | then-free+in_ok-push+else-len-count w ↦ record {
        first = ap (λ v. v.items) w.pages-is ∙ w.in_ok-push.ensures.items ∙ picked c.args.count l.page _ free c.loop-page-test.true l.pages.items l.invariant.first w.if-free.true l.invariant.few;
        few = omega (arith, ap (λ v. length v.items) w.pages-is, ap (λ (xs : List ℕ). length xs) w.in_ok-push.ensures.items, length-append l.pages.items (l.page ∷ []), w.if-len-count.false, w.len.ensures, l.invariant.few);
      }
      | else-free w ↦ record {
        first = ap (λ v. v.items) w.pages-is ∙ left_out c.args.count l.page _ free c.loop-page-test.true l.pages.items l.invariant.first w.if-free.false;
        few = omega (arith, ap (λ v. length v.items) w.pages-is, l.invariant.few);
      }
    ]
