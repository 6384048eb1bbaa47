use Rattle.std.proofs.Common.{◌≤◌, length, subst, arith, add-one}
use Rattle.std.proofs.lemmas.List.{drop_all}
use Rattle.psu_disk.specs.Touched.{IsKeptUp}
use Rattle.psu_disk.proofs.Keeping.{ends_within, kept_next, all_synced}
use Rattle.psu_disk.proofs.memory.settle.Goals as goal

pub settle_span-requires-clause-fits : goal.settle_span-requires-clause-fits
settle_span-requires-clause-fits c =
    let l = c.loop-span in
    ends_within c.args.bytes.now l.synced l.unsynced c.args.spans.now l.span-index _ l.invariant.kept_up c.loop-span-test.true

pub loop-span-preserved : goal.loop-span-preserved
loop-span-preserved c =
    let l = c.loop-span in
    let s = c.settle_span in
    record {
      synced = omega (arith, s.auto.synced, l.invariant.synced);
      unsynced = omega (arith, s.auto.unsynced, l.invariant.unsynced);
      kept_up = kept_next c.args.bytes.now l.synced s.new.synced l.unsynced s.new.unsynced c.args.spans.now l.span-index _ _ l.invariant.kept_up (add-one l.span-index) c.loop-span-test.true s.ensures.synced_in s.ensures.synced_out s.ensures.unsynced_in s.ensures.unsynced_out;
    }

pub returns-clause-synced : goal.returns-clause-synced
returns-clause-synced c =
    let l = c.loop-span in
    let size : length c.args.spans.now ≤ l.span-index = c.loop-span-test.false in
    all_synced c.args.bytes.now l.synced l.unsynced l.invariant.synced
    (subst (IsKeptUp c.args.bytes.now l.synced l.unsynced) (drop_all l.span-index c.args.spans.now size) l.invariant.kept_up)
