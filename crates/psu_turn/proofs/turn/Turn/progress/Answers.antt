use Rattle.std.proofs.Common.{rules, ap, sym, subst, ◌∙◌, length}
use mathlib.Core.Option.{none}
use Rattle.atomic_table.specs.Table.{step}
use Rattle.psu_turn.specs.Seats.{Sight, Sees}
use Rattle.psu_turn.proofs.Keeping.{looks_on}
use Rattle.psu_turn.proofs.Walks.{look_ready, look_sees, look_counts, still_of}
use Rattle.psu_turn.proofs.turn.Turn.progress.Goals as goal

pub load-calls-requires : goal.load-calls-requires
load-calls-requires g c = let idle = c.rise-place.ensures.ready.0 in (search rules, search rules, looks_on g.T.Machine.state g.T.Machine.allows _ _ _ _ _ idle.opening idle.opened idle.named)

pub rest-requires : goal.rest-requires
rest-requires g c = let ready = c.rise-place.ensures.ready in record { ready = look_ready g.T.Machine.allows (step c.args.self.now.slots 0 0 0 none) c.rise-place.result.me.0 _ _ c.load-calls.new.seat.me _ ready.0 ready.1 c.load-calls.ensures.2 }

pub returns-clause-look : goal.returns-clause-look
returns-clause-look g c = let ready = c.rise-place.ensures.ready in
    subst (λ (y : Sight g.row.T-State.Denot g.row.T-Entry.Denot). Sees g.T.Machine.allows c.args.seat.now y) (sym c.rest.ensures.same)
    (look_sees g.T.Machine.allows (step c.args.self.now.slots 0 0 0 none) c.rise-place.result.me.0 _ _ c.load-calls.new.seat.me _ ready.0 ready.1 c.load-calls.ensures.2 _ _ c.args.seat.now c.rise-place.ensures.same c.load-calls.ensures.0)

pub returns-clause-length : goal.returns-clause-length
returns-clause-length g c = let ready = c.rise-place.ensures.ready in
    sym (look_counts g.T.Machine.allows (step c.args.self.now.slots 0 0 0 none) c.rise-place.result.me.0 _ _ c.load-calls.new.seat.me _ ready.0 ready.1 c.load-calls.ensures.2) ∙ ap (λ (y : Sight g.row.T-State.Denot g.row.T-Entry.Denot). length y.seen) (sym c.rest.ensures.same)

pub returns-clause-own : goal.returns-clause-own
returns-clause-own g c = still_of _ _ _ c.requires.own (returns-clause-look g c).same
