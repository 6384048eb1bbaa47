use Rattle.psu_run.proofs.run_state.RunState.end_early.Goals as goal

pub returns-clause-ends : goal.returns-clause-ends
returns-clause-ends g c = (c.fault.result, c.fault.ensures, rw c.as_slice.ensures.value at c.write_before.ensures.ends)
