-- Room that a session has before a step, so that the step itself cannot fail.
use Rattle.std.specs.Prelude.{◌+◌, ◌<◌, ◌≤◌}
use Rattle.std.specs.Vec.{vec_capacity, vec_len}
use Rattle.std.specs.VecDeque.{deque_capacity, deque_len}
use Rattle.psu_session.specs.declared.parts.Parts.{Parts}

-- A message without payload, of 16 bytes, fits in the output of the asynchronous connection without an allocation.
abbrev pub HasReplyRoom : Parts → Type 0
HasReplyRoom parts = vec_len parts.async_output + 16 ≤ vec_capacity parts.async_output

-- So does it, an item in the queue, and a release among those that wait.
abbrev pub HasRoom : Parts → Type 0
HasRoom parts =
    HasReplyRoom parts
    × (deque_len parts.waiting < deque_capacity parts.waiting)
    × (deque_len parts.releases < deque_capacity parts.releases)

-- The output of the asynchronous connection has at least the capacity that it had.
abbrev pub KeepsCapacity : Parts → Parts → Type 0
KeepsCapacity old new = vec_capacity old.async_output ≤ vec_capacity new.async_output
