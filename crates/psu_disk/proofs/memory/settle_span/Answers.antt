use Rattle.std.proofs.Common.{◌≡◌, ◌-◌, length, arith, refl}
use Rattle.psu_disk.specs.Disk.{Range}
use Rattle.psu_disk.specs.Ranges.{length-range}
use Rattle.psu_disk.proofs.Keeping.{kept_out}
use Rattle.psu_disk.proofs.memory.settle_span.Goals as goal

pub returns-then-span-clause-synced_out : goal.returns-then-span-clause-synced_out
returns-then-span-clause-synced_out c = λ k out.
    let span = c.args.span in
    let bytes = c.args.bytes.now in
    let fits = c.requires.fits c.if-span.true in
    let long : length (Range span.low (span.high - span.low) bytes) ≡ span.high - span.low = length-range span.low (span.high - span.low) bytes (omega (arith, fits)) in
    kept_out span.low (Range span.low (span.high - span.low) bytes) c.args.synced.now c.put.new.all span k c.put.ensures (omega (arith, long, fits, c.requires.synced)) refl (omega (arith, long, c.if-span.true)) out
