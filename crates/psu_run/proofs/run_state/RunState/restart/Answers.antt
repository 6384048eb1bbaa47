use Rattle.psu_run.proofs.Common.{◌++◌, ◌∷◌, Message, held}
use Rattle.psu_run.proofs.run_state.RunState.restart.Goals as goal

pub returns-in-Err-clause-stops : goal.returns-in-Err-clause-stops
returns-in-Err-clause-stops g c = λ rest.
    let before = c.args.self.responder in let output = held (g.W.Sink.written c.args.writer.now) (before.output.items ++ before.gathered.rest) in
    (rw c.as_slice.ensures.value at c.write_before.ensures.ends) before.powered.exec (Message.Power ∷ rest) output (c.in-Err.ensures.stops rest output)
