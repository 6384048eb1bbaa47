use Rattle.std.proofs.Common.{◌≡◌, ◌≤◌, ◌-◌, ◌∙◌, ap, arith, length, length-drop, take, drop}
use Rattle.std.proofs.lemmas.List.{take_all}
use Rattle.psu_session_io.proofs.Reading.{first_read}
use Rattle.psu_session_io.proofs.connection.Connection.read_before.Goals as goal

pub returns-clause-first : goal.returns-clause-first
returns-clause-first g c =
    let n = c.min-count.result in
    let k = c.self.inside.received in
    let all = c.self.inside.before.items in
    let seen = c.deref.result.now in
    let left : take (length seen - k) (drop k seen) ≡ drop k all = take_all (length seen - k) (drop k seen) (omega (arith, length-drop k seen)) ∙ ap (drop k) c.deref.ensures.value in
    let copied : c.copy_from_slice.new.self ≡ take n (drop k all) = c.copy_from_slice.ensures.after ∙ ap (take n) left in
    let size : length (take (length seen - k) (drop k seen)) ≡ length (drop k all) = ap length left in
    let within : n ≤ length (drop k all) = omega (arith, c.min-count.ensures, size) in
    first_read n k all c.args.space.now c.copy_from_slice.new.self copied within ∙ c.self.view_is
