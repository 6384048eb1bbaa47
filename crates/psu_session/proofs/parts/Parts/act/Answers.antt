use Rattle.std.proofs.Common.{ℕ, List, [], ◌∷◌, ap, refl, sym}
use Rattle.psu_session.specs.Events.{DeviceCalled, Put, Delivered, Cleared}
use Rattle.psu_session.specs.Shown.{state_of}
use Rattle.psu_session.proofs.Serving.{none_added, on_ok}
use Rattle.psu_session.proofs.parts.Parts.act.Goals as goal

pub returns-in-Send-clause-done : goal.returns-in-Send-clause-done
returns-in-Send-clause-done g c = on_ok c.put.result (λ did. record {
  done = Put c.in-Send.side c.as_slice.result.now ∷ [];
  are = rw c.in-Send.is (ap (λ (bytes : List ℕ). Put c.in-Send.side bytes ∷ []) c.as_slice.ensures.value);
  runs = refl;
  then = rw c.in-Send.is did;
}) c.put.ensures.done

pub returns-in-Delivered-clause-done : goal.returns-in-Delivered-clause-done
returns-in-Delivered-clause-done g c = record {
  done = DeviceCalled Delivered ∷ [];
  are = rw c.in-Delivered.is refl;
  runs = (c.mark_delivered.new.self, c.mark_delivered.ensures, refl);
  then = rw c.in-Delivered.is (sym (none_added (state_of c.args.self.now)));
}

pub returns-in-Clear-clause-done : goal.returns-in-Clear-clause-done
returns-in-Clear-clause-done g c = record {
  done = DeviceCalled Cleared ∷ [];
  are = rw c.in-Clear.is refl;
  runs = (c.clear.new.self, c.clear.ensures, refl);
  then = rw c.in-Clear.is (sym (none_added (state_of c.args.self.now)));
}
