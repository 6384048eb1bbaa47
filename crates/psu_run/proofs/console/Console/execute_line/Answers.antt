use Rattle.psu_messages.proofs.Going.{kept_advances, kept_interrupted}
use Rattle.psu_messages.specs.Shown.{progress_of}
use Rattle.psu_run.proofs.Common.{held, source_of}
use Rattle.psu_run.proofs.Cuts.{told_alone}
use Rattle.psu_run.proofs.Feeding.{broken, whole}
use Rattle.psu_run.proofs.console.Console.execute_line.Goals as goal

pub returns-clause-breaks : goal.returns-clause-breaks
returns-clause-breaks g c =
    let before = c.args.self.now.responder.now in
    let s = broken (λ x. x.responder.now.powered.exec) (λ x. held (g.W.Sink.written x.writer.now) x.responder.now.output.items) _ (source_of c.args.line.now)
    (λ x y effect d. d.2) (λ x y request cause f. (f.2, f.3, f.4)) (λ x y cause s. (s.2, s.3, s.4)) _ c.proceed-done.new.executor c.in-Err.cause c.proceed-done.new.progress.gathered _ c.new-progress.ensures c.in-Err.ensures.stops in
    rw (told_alone before.output.items before.gathered c.requires.fresh) (s.0, s.2, s.1)

pub returns-clause-responder : goal.returns-clause-responder
returns-clause-responder g c = kept_interrupted c.in-Err.ensures.stops (λ x. x.responder.ghost_name) (λ x y effect d. d.0) (λ x y request stop d. d.0) (λ x y stop d. d.0)

pub returns-clause-writer : goal.returns-clause-writer
returns-clause-writer g c = kept_interrupted c.in-Err.ensures.stops (λ x. x.writer.ghost_name) (λ x y effect d. d.1) (λ x y request stop d. d.1) (λ x y stop d. d.1)

pub returns-in-None-clause-runs : goal.returns-in-None-clause-runs
returns-in-None-clause-runs g c =
    let before = c.args.self.now.responder.now in
    rw (told_alone before.output.items before.gathered c.requires.fresh, told_alone c.proceed-done.new.executor.responder.now.output.items c.restart.new.self c.restart.ensures)
    (whole (λ x. x.responder.now.powered.exec) (λ x. held (g.W.Sink.written x.writer.now) x.responder.now.output.items) _ (λ x y effect d. d.2)
    (source_of c.args.line.now) _ c.proceed-done.new.executor _ (progress_of c.proceed-done.new.progress) c.new-progress.ensures c.in-Ok.ensures.goes (c.in-Ok.ensures.over c.in-None.is))

pub returns-in-None-clause-responder : goal.returns-in-None-clause-responder
returns-in-None-clause-responder g c = kept_advances c.in-Ok.ensures.goes (λ x. x.responder.ghost_name) (λ x y effect d. d.0)

pub returns-in-None-clause-writer : goal.returns-in-None-clause-writer
returns-in-None-clause-writer g c = kept_advances c.in-Ok.ensures.goes (λ x. x.writer.ghost_name) (λ x y effect d. d.1)
