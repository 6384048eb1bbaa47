use Rattle.std.proofs.Common.{ap, sym, ◌∙◌, Some}
use Rattle.psu_exec.specs.Device.{State}
use Rattle.psu_exec.specs.declared.idle_store.IdleStore.TheVariants.{Whole, Failed}
use Rattle.psu_exec.proofs.Seen.{device_is, store_is}
use Rattle.psu_exec.proofs.exec.Exec+D+A.end.Goals as goal

pub returns-in-Some-Whole : goal.returns-in-Some-Whole
returns-in-Some-Whole g c =
    let here = c.in-Some-Whole.is ∙ ap Some c.in-Some-Whole.field-0-is in
    let own = c.self.invariant.3 (Whole c.in-Some-Whole.store) here in
    let is = device_is c.self.view_is in
    (sym (store_is c.self.view_is) ∙ here, own.0 ∙ ap (λ (s : State). s.flush.before) is, own.1 ∙ ap (λ (s : State). s.flush.limit) is)

pub returns-in-Some-Failed : goal.returns-in-Some-Failed
returns-in-Some-Failed g c =
    let here = c.in-Some-Failed.is ∙ ap Some c.in-Some-Failed.field-0-is in
    let own = c.self.invariant.3 (Failed c.in-Some-Failed.broken) here in
    let is = device_is c.self.view_is in
    (sym (store_is c.self.view_is) ∙ here, own.0 ∙ ap (λ (s : State). s.flush.before) is, own.1 ∙ ap (λ (s : State). s.flush.limit) is, sym (ap (λ (s : State). s.flush.store) is) ∙ own.2)
