use Rattle.std.proofs.Common.{◌≡◌, ◌+◌, ◌<◌, ◌++◌, List, ap, arith, false, get_or, length, length-append, refl, sym, take, ◌∙◌}
use Rattle.std.specs.Prelude.{◌&&◌}
use Rattle.psu_exec.specs.declared.service_states.ServiceState.{ServiceState}
use Rattle.psu_exec.specs.ServiceStates.{initial_service_state, named, reported, unreported_from}
use Rattle.psu_exec.proofs.Mapped.{mapped_more, mapped_next}
use Rattle.psu_exec.proofs.Unreported.{length-named, none_reported, none_unreported, unreported_more}
use Rattle.psu_exec.proofs.service_states.take_unreported.Goals as goal

pub returns-then-not-some_unreported-clause-requesting : goal.returns-then-not-some_unreported-clause-requesting
returns-then-not-some_unreported-clause-requesting c =
    c.new-requesting.ensures ∙ sym (none_unreported 1 c.args.open_now.now c.args.service_states.now (λ i lt. c.some_unreported.ensures (cc) i (omega arith)))

pub returns-then-not-some_unreported-clause-reported : goal.returns-then-not-some_unreported-clause-reported
returns-then-not-some_unreported-clause-reported c = sym (none_reported c.args.service_states.now (λ i lt. c.some_unreported.ensures (cc) i (omega arith)))

pub loop-i-preserved : goal.loop-i-preserved
loop-i-preserved c =
    let before = c.args.service_states.now in
    let opened = c.args.open_now.now in
    let i = c.loop-i.i in
    let within : i < length before = omega arith in
    let state = get_or c.loop-i.service_states i initial_service_state in
    let same : state ≡ get_or before i initial_service_state = ap (λ (ms : List ServiceState). get_or ms i initial_service_state) c.loop-i.invariant.reported ∙ mapped_next reported before i initial_service_state within in
    let one = named (i + 1) (get_or opened i false && state.unreported) in
    let size : length c.push_unreported.new.sessions ≡ length c.loop-i.requesting + length one = ap length c.push_unreported.ensures ∙ length-append c.loop-i.requesting one in
    let most = length-named (i + 1) (get_or opened i false && state.unreported) in
    let room = c.loop-i.invariant.room in
    record {
      requesting = c.push_unreported.ensures ∙ ap (λ front. front ++ one) c.loop-i.invariant.requesting
          ∙ ap (λ (m : ServiceState). unreported_from 1 (take i opened) (take i before) ++ named (i + 1) (get_or opened i false && m.unreported)) same
          ∙ sym (unreported_more opened before i false initial_service_state (omega arith) within);
      room = omega arith;
      reported = mapped_more reported before c.loop-i.service_states i _ initial_service_state within c.loop-i.invariant.reported refl;
    }
