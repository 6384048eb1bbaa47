use Rattle.std.proofs.Common.{None, is_some, refl}
use Rattle.std.proofs.lemmas.Result.{IfErr-weaker, IfOk-weaker}
use Rattle.psu_replies.specs.Reply.{outcome_of}
use Rattle.psu_messages.proofs.Going.{behind, broken_off, passed_on, replaced, stops_on, added_plain, not_buffered, waits}
use Rattle.psu_messages.proofs.Outside.{adds_plain, to_plain}
use Rattle.psu_messages.proofs.messages.begin.Goals as goal

pub returns-in_err-need-clause-stops : goal.returns-in_err-need-clause-stops
returns-in_err-need-clause-stops g c =
    passed_on c.from_residual.result c.in_err-need.field-0.0 _ c.from_residual.ensures.1 (λ source next. broken_off c.args.request.now next c.in_err-need.ensures.stopped refl)

pub returns-in-Waits-clause-advances : goal.returns-in-Waits-clause-advances
returns-in-Waits-clause-advances g c = λ source next.
    let t = rw c.in-Waits.is at c.in_ok-need.ensures.tried in
    to_plain g.F.Executor.relations.does source c.args.executor.now c.take_try.new.executor _ c.args.progress.now.units c.args.progress.now.expansion (is_some c.take_try.new.parked) c.args.progress.now.gathered c.requires.none
    (waits g.F.Executor.relations.does source c.args.executor.now c.take_try.new.executor (record { units = c.args.progress.now.units; inside = None; parked = (is_some c.args.progress.now.parked) }) (is_some c.take_try.new.parked) None c.args.progress.now.gathered c.args.request.now t.0 c.in-Waits.need next t.1 t.2 t.3)

pub returns-in-Expand-clause-advances : goal.returns-in-Expand-clause-advances
returns-in-Expand-clause-advances g c =
    let t = rw c.in-Ended.is at c.in_ok-need.ensures.tried in
    let u = rw c.in-Expand.is at t in
    IfOk-weaker c.continue_expansion.result _ _
    (λ need advances source next. behind g.F.Executor.relations.does source c.args.executor.now c.take_try.new.executor c.continue_expansion.new.executor _ _ _
    (replaced g.F.Executor.relations.does source c.args.executor.now c.take_try.new.executor c.args.progress.now.units (is_some c.args.progress.now.parked) (is_some c.take_try.new.parked) c.args.progress.now.gathered c.args.request.now c.in-Expand.body next u.0 u.2) (advances source))
    c.continue_expansion.ensures.advances

pub returns-in-Expand-clause-stops : goal.returns-in-Expand-clause-stops
returns-in-Expand-clause-stops g c =
    let t = rw c.in-Ended.is at c.in_ok-need.ensures.tried in
    let u = rw c.in-Expand.is at t in
    IfErr-weaker c.continue_expansion.result _ _
    (λ stop stops source next. stops_on
    (replaced g.F.Executor.relations.does source c.args.executor.now c.take_try.new.executor c.args.progress.now.units (is_some c.args.progress.now.parked) (is_some c.take_try.new.parked) c.args.progress.now.gathered c.args.request.now c.in-Expand.body next u.0 u.2) (stops source))
    c.continue_expansion.ensures.stops

pub returns-in_err-add_response-in_default-clause-stops : goal.returns-in_err-add_response-in_default-clause-stops
returns-in_err-add_response-in_default-clause-stops g c =
    let t = rw c.in-Ended.is at c.in_ok-need.ensures.tried in
    passed_on c.from_residual-in_err-add_response-in_default.result c.in_err-add_response-in_default.field-0.0 _ c.from_residual-in_err-add_response-in_default.ensures.1
    (λ source next. not_buffered next t.0 c.in_err-add_response-in_default.ensures.stopped c.in_err-add_response-in_default.ensures.left c.in_err-add_response-in_default.ensures.response)

pub returns-in_ok-add_response-in_default-clause-advances : goal.returns-in_ok-add_response-in_default-clause-advances
returns-in_ok-add_response-in_default-clause-advances g c = λ source next.
    let t = rw c.in-Ended.is at c.in_ok-need.ensures.tried in
    let went = added_plain g.F.Executor.relations.does source c.args.executor.now c.take_try.new.executor c.add_response.new.executor c.args.progress.now.units (is_some c.args.progress.now.parked) (is_some c.take_try.new.parked) c.args.progress.now.gathered c.add_response.new.gathered c.args.request.now
    (outcome_of c.in-Ended.outcome) next t.0 t.1 t.2 (adds_plain c.in-Ended.outcome c.in_default.not-Expand) c.in_ok-add_response-in_default.ensures.adds in
    to_plain g.F.Executor.relations.does source c.args.executor.now c.add_response.new.executor _ _ c.args.progress.now.expansion (is_some c.take_try.new.parked) c.add_response.new.gathered c.requires.none went
