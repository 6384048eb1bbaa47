use Rattle.std.proofs.Common.{◌≡◌, ℕ, false, ◌++◌, ◌∷◌, List, ap, ◌∙◌, subst}
use Rattle.psu_hislip.specs.Core.{Core}
use Rattle.psu_hislip.specs.declared.side.Side.TheVariants.{Sync, Async}
use Rattle.psu_session_laws.specs.Answered.{Weaves, pieces}
use Rattle.psu_session_laws.specs.Exchanged as exchange
use Rattle.psu_session_laws.specs.Exchanged.{replied}
use Rattle.psu_session.specs.Events.{Came, Did}
use Rattle.psu_session_laws.specs.Views.{bytes_received, exchange_history}
use Rattle.psu_session_laws.proofs.ExchangeEvents.{exchange_history-append}
use Rattle.psu_session_laws.proofs.laws.each_session_answers_in_order.Goals as goal

pub returns : goal.returns
returns c = λ start opening first history s on_sync on_async is_history.
    let h = c.histories_are_exchanges.ensures start history s is_history in
    let x = h.exchange opening first on_sync on_async in
    let sync = opening ++ bytes_received Sync history in
    let async = bytes_received Async history in
    let l = exchange_history history in
    let laws = c.from_bytes_to_bytes.ensures in
    record {
      turns = h.turns;
      streams = laws.messages start.session sync async l h.turns x;
      transmissions = λ stretches last whole rest are each none more goes_on.
          laws.transmissions start.session sync async l h.turns x stretches last whole rest are each none more (subst (λ (z : Core). z.failed ≡ false) h.core goes_on);
      answered = λ greatest most. laws.answers start.session greatest sync async l h.turns x most;
      cleared = λ few before between after clear origin effect frames is begins.
          laws.cleared start.session sync async l h.turns x few (exchange_history before) (exchange_history between) (exchange_history after) clear origin effect frames
          (ap exchange_history is ∙ exchange_history-append before (Came Async clear ∷ (between ++ Did origin effect frames ∷ after))
          ∙ ap (λ (z : List exchange.ExchangeEvent). exchange_history before ++ exchange.Came Async clear ∷ z) (exchange_history-append between (Did origin effect frames ∷ after))) begins;
      sent = subst (λ (z : List ℕ). Weaves (replied l) (pieces h.turns) z) h.sent (laws.nothing_else start.session sync async l h.turns x);
    }
