-- A call is none for a session that isn't open if its session is open, or if it is for no session.
use Rattle.std.proofs.Common.{◌≡◌, inl, inr, ℕ, true, List, Option, Some, refl, sym, ◌∙◌}
use Rattle.psu_tree.specs.declared.command.Request.{Request}
use Rattle.psu_exec.specs.Device.{Reply, State, is_open}
use Rattle.psu_exec.specs.Calls.{Allows, Entry, IsIgnored, JobEnd, Serves, Taken}

pub serves_executed : (s new : State) (session : ℕ) (request : Request) (reply : Reply) → is_open s session ≡ true → Allows s (Entry.Executed session request reply) new → Serves s (Entry.Executed session request reply) new
serves_executed s new session request reply here (inl a) = a
serves_executed s new session request reply here (inr none) = absurd (let bad = sym here ∙ none.0.0 in cc)

pub serves_took : (s new : State) (taken : Taken) → Allows s (Entry.Took taken) new → Serves s (Entry.Took taken) new
serves_took s new taken (inl a) = a
serves_took s new taken (inr none) = absurd none.0

pub serves_gave_back : (s new : State) (finished : JobEnd) (over : Option (List ℕ)) → Allows s (Entry.GaveBack finished over) new → Serves s (Entry.GaveBack finished over) new
serves_gave_back s new finished over (inl a) = a
serves_gave_back s new finished over (inr none) = absurd none.0

pub serves_opened : (s new : State) (session : Option ℕ) → Allows s (Entry.Opened session) new → Serves s (Entry.Opened session) new
serves_opened s new session (inl a) = a
serves_opened s new session (inr none) = absurd none.0
