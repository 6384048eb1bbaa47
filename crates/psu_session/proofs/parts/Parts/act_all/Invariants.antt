use Rattle.std.specs.Prelude.{flat_map, length}
use Rattle.psu_hislip.specs.Action.{acts}
use Rattle.psu_session.specs.Step.{Each, release_in, works_in}
use Rattle.psu_session.specs.Room.{KeepsCapacity}
use Rattle.psu_session.specs.Shown.{state_of}
use Rattle.psu_session.proofs.Serving.{DoneSoFar}
use Rattle.psu_session.proofs.parts.Parts.act_all.Given as goal

abbrev pub invariant-loop-action : goal.invariant-loop-action
invariant-loop-action g l =
    let all = acts l.fn.actions.items in
    let left = acts l.rest in
    record {
      done : DoneSoFar g.D.Device.does (Each (state_of l.initial.self).lock_waits all) (Each (state_of l.self).lock_waits left) (flat_map works_in all) (flat_map works_in left) (flat_map (release_in l.fn.now l.fn.number) all) (flat_map (release_in l.fn.now l.fn.number) left) (state_of l.initial.self) l.initial.device
          (state_of l.self) l.device;
      capacity : KeepsCapacity l.initial.self l.self;
    }

abbrev pub decreases-loop-action : goal.decreases-loop-action
decreases-loop-action g l = length l.rest
