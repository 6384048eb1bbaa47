-- The calls of a session's worker.
use Rattle.std.specs.Prelude.{◌≡◌, ℕ, ◌+◌, ◌≤◌, Bool, true, false}
use Rattle.psu_tree.specs.declared.command.Request.{Request}
use Rattle.psu_turn.specs.Seats.{Sight, SeatCalls}
use Rattle.psu_exec.specs.Device.{State, Reply, Parked, Held, Later}
use Rattle.psu_exec.specs.Calls.{Entry}
use Rattle.psu_exec.specs.Calls.Entry.{Executed, Settled}
use Rattle.psu_bench.specs.Calls.{AllowsOn}
use Rattle.psu_bench.specs.declared.operations.Try.{Try}
use Rattle.psu_bench.specs.declared.operations.Try.TheVariants as how

-- the call that a try of a unit is
abbrev pub tried : ℕ → Try → Reply → Entry
tried session (how.Execute request) reply = Executed session request.now reply
tried session how.Settle reply = Settled session reply

-- whether the unit is to be tried again
abbrev pub is_put_off : Reply → Bool
is_put_off Parked = true
is_put_off Held = true
is_put_off Later = true
is_put_off _ = false

-- the next try, by the reply to the one before it: a parked unit is settled, otherwise the unit is executed
abbrev pub try_after : ℕ → Request → Reply → Reply → Entry
try_after session request Parked reply = Settled session reply
try_after session request _ reply = Executed session request reply

-- So many tries, one after another, with this last reply. After each reply before it the unit is to be tried again.
pub data AreTries (honest : Type 0) (session : ℕ) (request : Request) (old : Sight State Entry) : ℕ → Reply → Sight State Entry → Type 0 where
  First : (reply : Reply) (new : Sight State Entry) → SeatCalls (AllowsOn honest) old (Executed session request reply) new → AreTries honest session request old 1 reply new
  Next : (count : ℕ) (before reply : Reply) (mid new : Sight State Entry) → AreTries honest session request old count before mid → is_put_off before ≡ true
      → SeatCalls (AllowsOn honest) mid (try_after session request before reply) new → AreTries honest session request old (count + 1) reply new

-- At least one try and at most this number. The last reply is the outcome, and after it the unit is to be tried again only
-- if no try is left.
abbrev pub MakesTries : Type 0 → ℕ → ℕ → Request → Sight State Entry → Reply → Sight State Entry → Type 0
MakesTries honest session tries request old outcome new =
    (count : ℕ) × AreTries honest session request old count outcome new × (count ≤ tries) × (is_put_off outcome ≡ true → count ≡ tries)
