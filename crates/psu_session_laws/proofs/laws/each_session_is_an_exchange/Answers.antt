use Rattle.psu_session_laws.proofs.laws.each_session_is_an_exchange.Goals as goal

pub returns : goal.returns
returns c = λ s reached. (reached.0, reached.1, reached.2, reached.3, c.histories_are_exchanges.ensures reached.0 reached.1 s reached.3)
