use Rattle.std.proofs.Common.{◌≢◌, rules, sym, subst, ◌∙◌}
use mathlib.Core.Option.{none}
use Rattle.atomic_table.specs.Table.{step}
use Rattle.psu_turn.specs.Seats.{Sight, Joins}
use Rattle.psu_turn.proofs.Seating.{joins_on, looks_on}
use Rattle.psu_turn.proofs.Walks.{joined_same, join_looks, look_ready, look_sees, look_tells, join_tells, still_of}
use Rattle.psu_turn.proofs.turn.Turn.join.Goals as goal

pub join_seat-requires : goal.join_seat-requires
join_seat-requires g c = let idle = c.rise-place.ensures.ready.0 in let theirs = c.rise.ensures.ready in
    (search rules, search rules, theirs.1, search rules, joins_on g.T.Machine.state g.T.Machine.allows _ _ _ _ _ _ _ idle.named theirs.0.named theirs.0.idle)

pub load-requires : goal.load-requires
load-requires g c = let idle = c.rise-place.ensures.ready.0 in let same = joined_same c.rise-place.result.me c.join_seat.new.seat.me c.rise.result.me.0 c.join_seat.ensures.2 in
    (search rules, search rules, looks_on g.T.Machine.state g.T.Machine.allows _ _ _ _ _ idle.opening (same.0 ∙ idle.opened) (same.1 ∙ idle.named))

pub rest-requires : goal.rest-requires
rest-requires g c = let ready = c.rise-place.ensures.ready in
    let looked = join_looks g.T.Machine.allows (step c.args.self.now.slots 0 0 0 none) c.rise-place.result.me c.rise.result.me.0 c.join_seat.new.seat.me c.load.new.seat.me c.load.result c.join_seat.ensures.2 c.load.ensures.2 in
    record { ready = look_ready g.T.Machine.allows (step c.args.self.now.slots 0 0 0 none) c.rise-place.result.me.0 _ _ c.load.new.seat.me _ ready.0 ready.1 looked }

pub returns-clause-join : goal.returns-clause-join
returns-clause-join g c = let ready = c.rise-place.ensures.ready in let theirs = c.rise.ensures in
    let looked = join_looks g.T.Machine.allows (step c.args.self.now.slots 0 0 0 none) c.rise-place.result.me c.rise.result.me.0 c.join_seat.new.seat.me c.load.new.seat.me c.load.result c.join_seat.ensures.2 c.load.ensures.2 in
    let tells = join_tells _ _ c.rise.result.me.0 c.load.new.seat.me.0 c.args.other theirs.ready.0 theirs.same (look_tells g.T.Machine.allows (step c.args.self.now.slots 0 0 0 none) c.rise-place.result.me.0 _ _ c.load.new.seat.me _ ready.0 ready.1 looked) in
    subst (λ (y : Sight g.row.T-State.Denot g.row.T-Entry.Denot). Joins g.T.Machine.allows c.args.seat.now c.args.other y) (sym c.rest.ensures.same) (record {
      sees = look_sees g.T.Machine.allows (step c.args.self.now.slots 0 0 0 none) c.rise-place.result.me.0 _ _ c.load.new.seat.me _ ready.0 ready.1 looked c.rise-place.result.table_id c.load.new.seat.table_id c.args.seat.now c.rise-place.ensures.same (search rules);
      seen = tells.0;
      own = tells.1;
      apart = subst (λ (y : Sight g.row.T-State.Denot g.row.T-Entry.Denot). c.args.other.number ≢ y.number) c.rise-place.ensures.same tells.2;
    })

pub returns-clause-own : goal.returns-clause-own
returns-clause-own g c = still_of _ _ _ c.requires.own.0 (returns-clause-join g c).sees.same
