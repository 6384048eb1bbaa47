use Rattle.std.proofs.Common.{◌≡◌, ◌++◌, take}
use Rattle.psu_session_io.proofs.first_message.FirstMessage.add.Given as goal

abbrev pub invariant-loop-place : goal.invariant-loop-place
invariant-loop-place l = l.first ≡ l.initial.first ++ take l.place l.bytes
