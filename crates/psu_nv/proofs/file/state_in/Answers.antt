use Rattle.std.proofs.Common.{refl, inl, inr}
use Rattle.std.proofs.lemmas.Bool.{cases_Bool}
use Rattle.psu_nv.specs.Commands.{is_state, settings_in}
use Rattle.psu_nv.proofs.States.{state_true, state_bytes}
use Rattle.psu_nv.proofs.file.state_in.Goals as goal

pub returns-in-Some : goal.returns-in-Some
returns-in-Some c =
    let s = state_true c.in-Some.settings c.args.bytes.now c.in-Some.ensures.allowed c.in-Some.ensures.found in
    rw (s.1, s.0) refl

pub returns-in-None : goal.returns-in-None
returns-in-None c = elim (cases_Bool (is_state c.args.bytes.now)) [
  | inl is ↦ let s = state_bytes c.args.bytes.now is in absurd (c.in-None.ensures.none (settings_in c.args.bytes.now) s.0 s.1)
  | inr other ↦ rw other refl
]
