use Rattle.std.proofs.Common.{◌<◌, length, ⊎_elim, arith}
use Rattle.psu_disk.proofs.Covered.{covered_still, covered_new, covered_only, covered_at}
use Rattle.psu_disk.proofs.touched.Touched.add.Goals as goal

pub returns-clause-own : goal.returns-clause-own
returns-clause-own c = λ k was.
    let s = c.args.self.now in
    covered_still s.spans s.next _ c.joined.result k (omega (arith, s.next_in, s.long)) (c.joined.ensures.own k) was

pub returns-clause-others : goal.returns-clause-others
returns-clause-others c = λ k ge lt.
    let s = c.args.self.now in
    covered_new s.spans s.next c.joined.result k (omega (arith, s.next_in, s.long)) (c.joined.ensures.others k ge lt)

pub returns-clause-within : goal.returns-clause-within
returns-clause-within c = λ size fits own k is.
    let s = c.args.self.now in
    let lt : s.next < length s.spans = omega (arith, s.next_in, s.long) in
    ⊎_elim (own k) (c.joined.ensures.within size fits (λ j here. own j (covered_at s.spans s.next _ j lt here)) k) (covered_only s.spans s.next c.joined.result k is)
