use Rattle.std.proofs.Common.{⊎_elim, inl, inr, refl}
use Rattle.std.proofs.lemmas.Result.{IfErr-weaker, IfOk-weaker}
use Rattle.psu_nv.specs.Contents.{items_of}
use Rattle.psu_durability.proofs.Found.{finds_all, finds_of_run, finds_old}
use Rattle.psu_durability.proofs.runs.run_and_open.Goals as goal

pub returns-clause-whole : goal.returns-clause-whole
returns-clause-whole g c =
    let read = c.open.ensures.represented tt in
    IfOk-weaker c.run-ended.result _ _ (λ to ran. record {
      written = ran.0;
      moment = finds_of_run _ c.open.result read _ _ ran.0.run.last ((ran.1 tt (tt, tt)).each);
      ended = finds_all _ c.open.result read _ ran.0.run.last.world.limit (items_of ran.0.run.last.world.state.flush.contents) (ran.0.all tt refl);
    }) c.run-ended.ensures.whole

pub returns-clause-early : goal.returns-clause-early
returns-clause-early g c =
    let read = c.open.ensures.represented tt in
    IfErr-weaker c.run-ended.result _ _ (λ fault early. ⊎_elim
    (λ none. inl (finds_old _ c.open.result read _ _ ((none.1 tt (tt, tt)).each)))
    (λ ran. inr (record { written = ran.0; moment = finds_of_run _ c.open.result read _ _ ran.0.run.last ((ran.1 tt (tt, tt)).each) })) early)
    c.run-ended.ensures.early
