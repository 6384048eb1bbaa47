use Rattle.std.proofs.Common.{◌≡◌, ◌∙◌, Option, Some, None, is_none, is_some, true, false, refl, sym, IsTrue}
use Rattle.psu_exec.specs.Device.{State, target}
use Rattle.psu_exec.proofs.Plans.{aimed_now}
use Rattle.psu_exec.proofs.Seen.{so_seen}
use Rattle.psu_exec.proofs.exec.ExecOf.is_target.Goals as goal

none_there : {X : Type 0} (place : Option X) → is_some place ≡ false → is_none place ≡ true
none_there None is = refl
none_there (Some x) is = cc

pub returns : goal.returns
returns g c =
    let is = c.leads_to.ensures.is in
    let out = none_there c.self.inside.idle_store (sym c.is_some.ensures ∙ c.if-is_some.false) in
    let ends = aimed_now _ c.self.inside.held c.self.inside.map c.args.map.now c.self.invariant.0 c.self.invariant.1 refl out (λ b. c.leads_to.ensures.leads (is.1 b)) in
    let IsSo : State → Type 0 = λ s. (s.flush.out ≡ true) × (c.args.limit ≡ s.flush.limit) × (c.args.map.now ≡ target s.flush) in
    so_seen (λ (s : State). (IsTrue c.leads_to.result → IsSo s) × (IsSo s → IsTrue c.leads_to.result)) c.self.view_is (λ t. (out, c.if-limit-self.false, ends.0 (is.0 t)), λ all. is.1 (ends.1 all.2))
