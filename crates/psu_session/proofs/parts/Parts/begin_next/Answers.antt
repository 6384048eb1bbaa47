use Rattle.std.proofs.Common.{◌∙◌, ◌∷◌, ap, refl, sym}
use Rattle.psu_session.specs.Shown.{order_of, state_of, works_of}
use Rattle.psu_session.specs.declared.queue.Work.{Work}
use Rattle.psu_session.proofs.Stepping.{next_begins, next_running, none_running, some_running}
use Rattle.psu_session.proofs.parts.Parts.begin_next.Goals as goal

pub returns-then-is_some-clause-next : goal.returns-then-is_some-clause-next
returns-then-is_some-clause-next c =
    let s = state_of c.args.self.now in
    let some = some_running c.args.self.now.running (sym c.is_some.ensures ∙ c.if-is_some.true) in
    (some.0, next_running s some.0 s some.1 refl)

pub returns-in-Some-Execute-clause-next : goal.returns-in-Some-Execute-clause-next
returns-in-Some-Execute-clause-next c =
    let s = state_of c.args.self.now in
    let rest = c.pop_front.new.self.items in (
      _,
      next_begins s (order_of c.in-Some-Execute.order) (works_of rest) _ (none_running c.args.self.now.running (sym c.is_some.ensures ∙ c.if-is_some.false))
          (ap works_of (c.in-Some-Execute.ensures.items ∙ ap (λ (w : Work). w ∷ rest) c.in-Some-Execute.field-0-is)) c.begin.ensures.begun,
    )
