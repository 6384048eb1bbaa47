use Rattle.std.proofs.Common.{◌≡◌, ℕ, List, Some, Result, Ok, Err, refl, sym, ap, subst}
use Rattle.psu_lex.specs.declared.scpi_error.ScpiError.{ScpiError}
use Rattle.psu_instrument.specs.Macros.{UnitGives, written}
use Rattle.psu_exec.specs.Device.{State, called}
use Rattle.psu_exec.specs.Shown.{outcome_of}
use Rattle.psu_exec.proofs.Seen.{device_is, seen}
use Rattle.psu_exec.proofs.Calling.{calls}
use Rattle.psu_exec.proofs.exec.ExecOf.expand.Goals as goal

pub returns-in-Some-Ok-clause-some : goal.returns-in-Some-Ok-clause-some
returns-in-Some-Ok-clause-some g c =
    let body = called ((seen c.self.view_is).device) c.args.request.now in
    let same : body ≡ called c.args.self.now.device c.args.request.now = ap (λ (s : State). called s c.args.request.now) (device_is c.self.view_is) in
    calls c.args.self.now.device c.args.request.now body (Ok c.in-Some-Ok.text) _ (sym same) (λ none. let bad = c.in-Some-Ok.ensures.called.1 none in cc) refl
    (λ list holds. subst (λ (r : Result (List ℕ) ScpiError). UnitGives body c.args.request.now.inside (written list) (Some r)) c.in-Some-Ok.field-0-is (c.in-Some-Ok.ensures.gives list holds))

pub returns-in-Some-Err-clause-some : goal.returns-in-Some-Err-clause-some
returns-in-Some-Err-clause-some g c =
    let body = called ((seen c.self.view_is).device) c.args.request.now in
    let same : body ≡ called c.args.self.now.device c.args.request.now = ap (λ (s : State). called s c.args.request.now) (device_is c.self.view_is) in
    calls c.args.self.now.device c.args.request.now body (Err c.in-Some-Err.error) (outcome_of c.refuse.result) (sym same) (λ none. let bad = c.in-Some-Err.ensures.called.1 none in cc) (ap outcome_of c.refuse.ensures.value)
    (λ list holds. subst (λ (r : Result (List ℕ) ScpiError). UnitGives body c.args.request.now.inside (written list) (Some r)) c.in-Some-Err.field-0-is (c.in-Some-Err.ensures.gives list holds))
