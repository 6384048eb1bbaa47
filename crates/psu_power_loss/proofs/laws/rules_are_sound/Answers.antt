use Rattle.std.proofs.Common.{inl, inr}
use Rattle.psu_power_loss.proofs.Histories.{answered_greatest, answered_is}
use Rattle.psu_power_loss.proofs.Life.{broken_off_restart, some_life}
use Rattle.psu_power_loss.proofs.BrokenLife.{breaks_and_mends}
use Rattle.psu_power_loss.proofs.laws.rules_are_sound.Goals as goal

pub returns-clause-answered : goal.returns-clause-answered
returns-clause-answered c = λ units. record {
  greatest = answered_greatest units;
  own = elim (answered_is units) [ inl none ↦ inl none | inr last ↦ inr (last.unit, last.at, last.is) ];
}

pub returns-clause-some_life : goal.returns-clause-some_life
returns-clause-some_life c = some_life

pub returns-clause-broken_life : goal.returns-clause-broken_life
returns-clause-broken_life c = breaks_and_mends

pub returns-clause-broken_off : goal.returns-clause-broken_off
returns-clause-broken_off c = broken_off_restart
