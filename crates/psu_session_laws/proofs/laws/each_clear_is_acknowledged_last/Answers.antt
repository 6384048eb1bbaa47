use Rattle.psu_hislip.specs.declared.side.Side.TheVariants.{Sync}
use Rattle.psu_session_laws.proofs.Cleared.{acknowledged_last}
use Rattle.psu_session_laws.proofs.laws.each_clear_is_acknowledged_last.Goals as goal

pub returns : goal.returns
returns c = λ start opening first history s on_sync on_async is_history few before between after clear reply is begins.
    let served = c.each_session_answers_in_order.ensures start opening first history s on_sync on_async is_history in
    let x = c.histories_are_exchanges.ensures start history s is_history in
    acknowledged_last start.session before between clear reply after history s is
    (λ middle later origin effect frames at. served.cleared few before middle later clear origin effect frames at begins) (x.outputs Sync)
