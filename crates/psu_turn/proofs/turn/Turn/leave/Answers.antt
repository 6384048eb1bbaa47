use Rattle.std.proofs.Common.{rules, refl, sym, subst, ◌+◌, ◌∙◌}
use Rattle.psu_turn.specs.Seats.{Sight, SeatCalls}
use Rattle.psu_turn.specs.Sights.{number_of, sight}
use Rattle.psu_turn.proofs.Keeping.{adds_on, leaves_on, same_name, same_at, same_opening, same_slots}
use Rattle.psu_turn.proofs.Outs.{held, outs, was_state}
use Rattle.psu_turn.proofs.Walks.{filled, left_ready, left_calls, still_of}
use Rattle.psu_turn.proofs.turn.Turn.leave.Goals as goal

pub store-requires : goal.store-requires
store-requires g c = let m = c.args.taken.place.me in let before = c.exchange-before.new.seat.me in let h = held c.args.taken.object (c.args.taken.count + 1) in
    let out = outs c.args.taken.ticket c.args.taken.count m c.args.taken.out in let allowed = c.requires.allowed in let was = filled m before h c.exchange-before.ensures.3 out.empty in
    let led = subst (λ (x : g.row.T-State.Denot). g.T.Machine.allows x allowed.1 (g.T.Machine.state c.args.taken.object)) (was_state m.0.stage c.args.taken.ticket out.state allowed.0 c.args.taken.count out.stage allowed.2) allowed.4 in (
      search rules,
      search rules,
      adds_on g.T.Machine.state g.T.Machine.allows _ _ _ before c.args.taken.ticket (c.args.taken.count + 1) (number_of m.0.name) out.opening out.state c.args.taken.count h g.J.Naming.entry allowed.1
          (same_opening _ _ _ was out.opened) (same_name _ _ _ was out.named) (same_at _ _ _ was out.stage) (same_slots _ _ _ was refl) allowed.3 refl refl led,
    )

pub store-requires-2 : goal.store-requires-2
store-requires-2 g c = let m = c.args.taken.place.me in let before = c.exchange-before.new.seat.me in let h = held c.args.taken.object (c.args.taken.count + 1) in
    let out = outs c.args.taken.ticket c.args.taken.count m c.args.taken.out in let allowed = c.requires.allowed in let was = filled m before h c.exchange-before.ensures.3 out.empty in
    let t = c.store.ensures.2 out.opening (number_of m.0.name) c.args.taken.ticket out.state c.args.taken.count h allowed.1
    (same_opening _ _ _ was out.opened) (same_name _ _ _ was out.named) (same_at _ _ _ was out.stage) (same_slots _ _ _ was refl) allowed.3 in (
      search rules,
      search rules,
      leaves_on g.T.Machine.state g.T.Machine.allows _ _ _ c.store.new.seat.me c.args.taken.ticket _ _ h t.4 (t.0 ∙ same_slots _ _ _ was refl) refl (t.1 ∙ same_name _ _ _ was out.named),
    )

pub rest-requires : goal.rest-requires
rest-requires g c = let m = c.args.taken.place.me in let before = c.exchange-before.new.seat.me in let h = held c.args.taken.object (c.args.taken.count + 1) in
    let out = outs c.args.taken.ticket c.args.taken.count m c.args.taken.out in let allowed = c.requires.allowed in let was = filled m before h c.exchange-before.ensures.3 out.empty in
    let t = c.store.ensures.2 out.opening (number_of m.0.name) c.args.taken.ticket out.state c.args.taken.count h allowed.1
    (same_opening _ _ _ was out.opened) (same_name _ _ _ was out.named) (same_at _ _ _ was out.stage) (same_slots _ _ _ was refl) allowed.3 in
    record { ready = left_ready g.T.Machine.allows m before c.store.new.seat.me c.store-2.new.seat.me c.args.taken.ticket c.args.taken.count _ out was t.1 t.2 t.3 c.store-2.ensures.2 }

pub returns-clause-call : goal.returns-clause-call
returns-clause-call g c = λ e is. let m = c.args.taken.place.me in let before = c.exchange-before.new.seat.me in let h = held c.args.taken.object (c.args.taken.count + 1) in
    let out = outs c.args.taken.ticket c.args.taken.count m c.args.taken.out in let was = filled m before h c.exchange-before.ensures.3 out.empty in
    let t = c.store.ensures.2 out.opening (number_of m.0.name) c.args.taken.ticket out.state c.args.taken.count h e
    (same_opening _ _ _ was out.opened) (same_name _ _ _ was out.named) (same_at _ _ _ was out.stage) (same_slots _ _ _ was refl) is in
    subst (λ (y : Sight g.row.T-State.Denot g.row.T-Entry.Denot). SeatCalls g.T.Machine.allows (sight c.args.taken.place.table_id m.0) e y) (sym c.rest.ensures.same)
    (left_calls g.T.Machine.allows m before c.store.new.seat.me c.store-2.new.seat.me c.args.taken.ticket c.args.taken.count _ out was t.1 t.2 t.3 c.store-2.ensures.2 c.args.taken.place.table_id c.store-2.new.seat.table_id e (search rules) t.5)

pub returns-clause-own : goal.returns-clause-own
returns-clause-own g c = let out = outs c.args.taken.ticket c.args.taken.count c.args.taken.place.me c.args.taken.out in let allowed = c.requires.allowed in
    still_of c.args.self.now (sight c.args.taken.place.table_id c.args.taken.place.me.0) c.rest.result (c.requires.own, (out.opening, out.opened)) (returns-clause-call g c allowed.1 allowed.3).same
