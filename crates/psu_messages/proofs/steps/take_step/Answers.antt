use Rattle.std.proofs.Common.{Some, is_some, refl}
use Rattle.psu_replies.specs.Reply.{outcome_of}
use Rattle.psu_messages.proofs.Going.{broken_off, next_within, passed_on, added_within, not_buffered, waits}
use Rattle.psu_messages.proofs.steps.take_step.Goals as goal

pub returns-in_err-need-clause-stops : goal.returns-in_err-need-clause-stops
returns-in_err-need-clause-stops g c =
    passed_on c.from_residual.result c.in_err-need.field-0.0 _ c.from_residual.ensures.1
    (λ source units body done unit. broken_off c.args.request.now (next_within source units body done (is_some c.args.parked.now) c.args.gathered.now c.args.request.now unit) c.in_err-need.ensures.stopped refl)

pub returns-in_err-add_response-in-Ended-clause-stops : goal.returns-in_err-add_response-in-Ended-clause-stops
returns-in_err-add_response-in-Ended-clause-stops g c =
    let t = rw c.in-Ended.is at c.in_ok-need.ensures.tried in
    passed_on c.from_residual-in_err-add_response-in-Ended.result c.in_err-add_response-in-Ended.field-0.0 _ c.from_residual-in_err-add_response-in-Ended.ensures.1
    (λ source units body done unit. not_buffered (next_within source units body done (is_some c.args.parked.now) c.args.gathered.now c.args.request.now unit) t.0 c.in_err-add_response-in-Ended.ensures.stopped c.in_err-add_response-in-Ended.ensures.left c.in_err-add_response-in-Ended.ensures.response)

pub returns-in-Waits-clause-advances : goal.returns-in-Waits-clause-advances
returns-in-Waits-clause-advances g c = λ source units body done unit.
    let t = rw c.in-Waits.is at c.in_ok-need.ensures.tried in
    waits g.F.Executor.relations.does source c.args.executor.now c.take_try.new.executor (record { units = units; inside = Some done; parked = (is_some c.args.parked.now) }) (is_some c.take_try.new.parked) (Some body) c.args.gathered.now c.args.request.now t.0 c.in-Waits.need
    (next_within source units body done (is_some c.args.parked.now) c.args.gathered.now c.args.request.now unit) t.1 t.2 t.3

pub returns-in_ok-add_response-in-Ended-clause-advances : goal.returns-in_ok-add_response-in-Ended-clause-advances
returns-in_ok-add_response-in-Ended-clause-advances g c = λ source units body done unit.
    let t = rw c.in-Ended.is at c.in_ok-need.ensures.tried in
    added_within g.F.Executor.relations.does source c.args.executor.now c.take_try.new.executor c.add_response.new.executor units body done (is_some c.args.parked.now) (is_some c.take_try.new.parked) c.args.gathered.now c.add_response.new.gathered c.args.request.now (outcome_of c.in-Ended.outcome) unit t.0 t.1 t.2
    c.in_ok-add_response-in-Ended.ensures.adds
