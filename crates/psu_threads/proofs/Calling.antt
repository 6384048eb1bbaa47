-- The calls of a session on the shared device, in the history.
use Rattle.std.proofs.Common.{◌≡◌, ◌≢◌, ◌⊎◌, ◌∙◌, ap, inl, inr, refl, List, [], ◌∷◌, ◌++◌, append_assoc, ℕ, Option, Some, None, subst, sym}
use Rattle.std.proofs.lemmas.List.{append-nil}
use Rattle.psu_turn.specs.declared.numbered.Numbered.{Numbered}
use Rattle.psu_turn.specs.History.{numbered}
use Rattle.psu_turn.specs.Seats.{SeatCalls, Sight}
use Rattle.psu_bench.specs.Opened.{HasHistory}
use Rattle.psu_threads.specs.Called.{Adds, AreAllEntries, AreCalls, AreEntries, CallsUnder, IsCalled, MayNotify, SessionSeat}
use Rattle.psu_exec.specs.Device.{State}
use Rattle.psu_exec.specs.Calls.{Entry}
use Rattle.psu_bench.specs.Calls.{AllowsOn}
use Rattle.psu_session.specs.Events.{Call, Executed, Settled, Sent, Delivered, Queried, Fetched, Locked, Released, Informed, Cleared}
use Rattle.psu_session.specs.Serving.{Runs}
use Rattle.psu_bench.specs.Callers.{Causes, freed_to}
use Rattle.psu_bench.specs.declared.caused.Caused.{Caused}

module _ {S E : Type 0} {allows : S → E → S → Type 0} where
  pub adds_none : (v w : Sight S E) → w ≡ v → Adds allows v [] w
  adds_none v w now = record {
    same = record { turn = ap (λ (x : Sight S E). x.turn) now; number = ap (λ (x : Sight S E). x.number) now; opening = ap (λ (x : Sight S E). x.opening) now };
    seen = ([], rw now (simp append-nil));
    mine = rw now (simp append-nil);
    history = λ known. elim known [ inl h ↦ rw now h | inr some ↦ absurd (some refl) ];
  }

  pub adds_one : (v w : Sight S E) (entry : E) → SeatCalls allows v entry w → Adds allows v (entry ∷ []) w
  adds_one v w entry call = record {
    same = call.same;
    seen = (call.seen.0 ++ numbered v.number entry ∷ [], call.seen.1 ∙ simp append_assoc);
    mine = call.mine;
    history = λ known. record { legal = call.legal; own = call.own };
  }

  -- if it was known before, or there is an entry of the first calls or of the later ones
  known_both : (u v w : Sight S E) (first later : List E) → (HasHistory allows u ⊎ (first ≢ []) → HasHistory allows v) → (HasHistory allows v ⊎ (later ≢ []) → HasHistory allows w) → HasHistory allows u ⊎ (first ++ later ≢ []) → HasHistory allows w
  known_both u v w first later one two (inl h) = two (inl (one (inl h)))
  known_both u v w [] later one two (inr some) = two (inr some)
  known_both u v w (entry ∷ first) later one two (inr some) = two (inl (one (inr (λ none. absurd (cc (none))))))

  pub adds_both : (u v w : Sight S E) (first later : List E) → Adds allows u first v → Adds allows v later w → Adds allows u (first ++ later) w
  adds_both u v w first later one two = record {
    same = record { turn = two.same.turn ∙ one.same.turn; number = two.same.number ∙ one.same.number; opening = two.same.opening ∙ one.same.opening };
    seen = (one.seen.0 ++ two.seen.0, two.seen.1 ∙ ap (λ (seen : List (Numbered E)). seen ++ two.seen.0) one.seen.1 ∙ simp append_assoc);
    mine = two.mine ∙ ap (λ (mine : List E). mine ++ later) one.mine ∙ simp append_assoc;
    history = known_both u v w first later one.history two.history;
  }

module _ {honest : Type 0} where
  made : (old new : Sight State Entry) (entry : Entry) → (caused : Option Caused) × Causes honest old entry caused new → (entries : List Entry) × MayNotify entry entries × Adds (AllowsOn honest) old entries new
  made old new entry (None, (mid, call, (same, quiet))) = (entry ∷ [], inl refl, adds_both old mid new (entry ∷ []) [] (adds_one old mid entry call) (adds_none mid new same))
  made old new entry (Some caused, (mid, call, notified)) = (
    entry ∷ Entry.Notified caused.requesting caused.wakes_flusher ∷ [],
    inr (caused.requesting, caused.wakes_flusher, refl),
    adds_both old mid new (entry ∷ []) (Entry.Notified caused.requesting caused.wakes_flusher ∷ []) (adds_one old mid entry call)
        (adds_one mid new (Entry.Notified caused.requesting caused.wakes_flusher) notified),
  )

  called : (session : ℕ) (old new : Sight State Entry) (call : Call) → IsCalled honest session old call new → (entries : List Entry) × AreEntries session call entries × Adds (AllowsOn honest) old entries new
  called session old new (Executed request reply) is = made old new (Entry.Executed session request reply) is
  called session old new (Settled reply) is = made old new (Entry.Settled session reply) is
  called session old new Sent (requesting, work, is) = (Entry.Sent session requesting work ∷ [], (requesting, work, refl), adds_one old new (Entry.Sent session requesting work) is)
  called session old new Delivered is = (Entry.Delivered session ∷ [], refl, adds_one old new (Entry.Delivered session) is)
  called session old new (Queried byte) is = (Entry.Queried session byte ∷ [], refl, adds_one old new (Entry.Queried session byte) is)
  called session old new (Fetched request) is = (Entry.Fetched session request ∷ [], refl, adds_one old new (Entry.Fetched session request) is)
  called session old new (Locked kind timeout reply) (now, is) = (Entry.Locked session kind now timeout reply ∷ [], (now, refl), adds_one old new (Entry.Locked session kind now timeout reply) is)
  called session old new (Released reply) (granted, is) = (Entry.Released session (freed_to granted reply) ∷ [], (granted, refl), adds_one old new (Entry.Released session (freed_to granted reply)) is)
  called session old new (Informed info) is = (Entry.Informed info ∷ [], refl, adds_one old new (Entry.Informed info) is)
  called session old new Cleared is = (Entry.Cleared session ∷ [], refl, adds_one old new (Entry.Cleared session) is)

  pub all_called : (x y : SessionSeat) (calls : List Call) → Runs (CallsUnder honest) x calls y → AreCalls honest x.session x.seat calls y.seat
  all_called x y [] now = record { entries = []; are = refl; adds = adds_none x.seat y.seat (ap (λ (z : SessionSeat). z.seat) now) }
  all_called x y (call ∷ calls) (mid, (same, is), runs) =
      let first = called x.session x.seat mid.seat call is in
      let later = subst (λ (n : ℕ). AreCalls honest n mid.seat calls y.seat) same (all_called mid y calls runs) in
      record {
        entries = first.0 ++ later.entries;
        are = (first.0, later.entries, refl, first.1, later.are);
        adds = adds_both x.seat mid.seat y.seat first.0 later.entries first.2 later.adds;
      }

-- the entries of both are the entries of the whole
pub both_are : (session : ℕ) (first later : List Call) (of_first of_later : List Entry) → AreAllEntries session first of_first → AreAllEntries session later of_later → AreAllEntries session (first ++ later) (of_first ++ of_later)
both_are session [] later of_first of_later none are = subst (λ (z : List Entry). AreAllEntries session later (z ++ of_later)) (sym none) are
both_are session (call ∷ first) later of_first of_later (one, more, is, are, others) more_are =
    (one, more ++ of_later, ap (λ (z : List Entry). z ++ of_later) is ∙ append_assoc one more of_later, are, both_are session first later more of_later others more_are)
