use Rattle.std.proofs.Common.{ℕ, ap, sym, ◌∙◌, refl}
use Rattle.psu_nv.specs.Contents.{fits}
use Rattle.psu_nv.proofs.Determining.{same_contents}
use Rattle.psu_status.proofs.FirstRequest.{request_at_power_on}
use Rattle.psu_outputs.specs.Outputs.{conditions}
use Rattle.psu_instrument.specs.Instrument.{outputs_at_power_on}
use Rattle.psu_exec.proofs.Starting.{kept_start, no_start}
use Rattle.psu_exec.proofs.exec.Exec+D+A.power_on.Goals as goal

pub returns-in-Err-clause-bad : goal.returns-in-Err-clause-bad
returns-in-Err-clause-bad g c cause n is fits same = no_start c.items.result.now c.in-Err.fault c.in-Err.ensures.fault (sym c.cause_of.ensures ∙ cause) n is (same ∙ sym c.items.ensures.value)

pub returns-in-Err-clause-memory : goal.returns-in-Err-clause-memory
returns-in-Err-clause-memory g c is = kept_start c.items.result.now c.args.store.items c.in-Err.fault c.in-Err.ensures.fault (sym c.cause_of.ensures ∙ is) c.items.ensures.value

pub returns-in-Ok-parts_at_rest : goal.returns-in-Ok-parts_at_rest
returns-in-Ok-parts_at_rest g c =
    let contents = c.in-Ok.contents in
    let found = c.in-Ok.ensures.items ∙ c.items.ensures.value in
    rw c.at_power_on.ensures (record {
      state = refl;
      found = found;
      only = λ n is e. same_contents n contents is c.in-Ok.ensures.are (e ∙ sym found);
      sound = c.in-Ok.ensures.are;
      fitting = ap (λ (limit : ℕ). fits limit contents) (sym c.limit.ensures.value) ∙ (sym c.fits.ensures ∙ c.if-not-fits.false);
      request = request_at_power_on contents.enables (conditions (outputs_at_power_on contents));
      idle_store = refl;
      back = tt;
      bad = tt;
      memory = tt;
    })
