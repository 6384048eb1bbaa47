use Rattle.std.proofs.Common.{◌∙◌, ap, arith}
use Rattle.psu_disk.specs.Disk.{DiskState, is_unsynced}
use Rattle.psu_disk.proofs.Covered.{covered_at}
use Rattle.psu_disk.proofs.Rewriting.{ends_inside}
use Rattle.psu_disk.proofs.kept_disk.write_again.Goals as goal

pub write_span-requires-clause-within : goal.write_span-requires-clause-within
write_span-requires-clause-within g c = λ some.
    let l = c.loop-span in
    omega (arith, l.invariant.extent, ends_inside c.args.spans.now l.span-index _ _ c.requires.within c.loop-span-test.true some)

pub write_span-requires-clause-flagged : goal.write_span-requires-clause-flagged
write_span-requires-clause-flagged g c = λ h k is.
    let l = c.loop-span in
    ap (λ (state : DiskState). is_unsynced state k) (l.invariant.state h) ∙ c.requires.flagged h k (covered_at c.args.spans.now l.span-index _ k c.loop-span-test.true is)
