use Rattle.std.proofs.Common.{◌≡◌, ◌≤◌, IsTrue, Bool, true, List, length, refl, ◌∙◌, ap, arith}
use Rattle.psu_pages.specs.Free.{free_pages}
use Rattle.psu_pages.proofs.Marking.{counted, not_counted, no_more}
use Rattle.psu_pages.proofs.free_map.FreeMap.has_free.Goals as goal
use Rattle.psu_pages.proofs.free_map.FreeMap.has_free.Goals.{then-free, else-free}

pub returns-then-wanted-eq0 : goal.returns-then-wanted-eq0
returns-then-wanted-eq0 g c =
    let l = c.loop-free in
    let free = c.deref-free-items.result.now in
    let is : free ≡ c.args.self.now = c.deref-free-items.ensures.value ∙ c.self.view_is in
    let enough : c.args.count ≤ length (free_pages c.args.self.now) = omega (arith, l.invariant, c.if-wanted-eq0.true, no_more l.free-index free, ap (λ (f : List Bool). length (free_pages f)) is) in
    let yes : IsTrue true = refl in
    (λ _. enough, λ _. yes)

pub loop-free-preserved : goal.loop-free-preserved
loop-free-preserved g c =
    let l = c.loop-free in
    let free = c.deref-free-items.result.now in
    elim c.if-free.branch [
      | then-free w ↦ omega (arith, w.wanted-is, l.invariant, c.if-wanted-eq0.false, counted l.free-index _ free c.loop-free-test.true w.if-free.true)
      | else-free w ↦ omega (arith, w.wanted-is, l.invariant, not_counted l.free-index _ free c.loop-free-test.true w.if-free.false)
    ]
