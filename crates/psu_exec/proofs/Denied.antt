-- The reply to a unit is Held exactly if a lock denies its session.
use Rattle.std.proofs.Common.{◌≡◌, inl, inr, ℕ, Bool, true, false, cond, Option, Some, None, Result, Ok, Err, List, refl, sym, ap, subst, ◌∙◌}
use Rattle.psu_lex.specs.declared.scpi_error.ScpiError.{ScpiError}
use Rattle.psu_lex.specs.declared.scpi_error.ScpiError.TheVariants.{StorageFault}
use Rattle.psu_tree.specs.declared.command.Request.{Request}
use Rattle.psu_instrument.specs.Meaning.{Meaning, Refuses, Does, Keeps, Completes}
use Rattle.psu_instrument.specs.declared.act.Completion.{Completion}
use Rattle.psu_instrument.specs.declared.act.Completion.TheVariants as completion
use Rattle.psu_exec.specs.Calls.{Allows, Executed}
use Rattle.psu_exec.specs.Device.{Reply, Error, Parked, Held, Later, State, Flush, MayAnswer, Step, LockedOut, TooEarly, Runs, Expands, Means, after_unit, answer_call, answer_complete, answer_meant, here, is_denied, kept_unless, meant}
use Rattle.psu_exec.proofs.RqsUpdates.{followed_same}

not_kept : (o : Option ScpiError) (whole fitting : Bool) → Held ≡ kept_unless o whole fitting → ⊥
not_kept (Some e) whole fitting h = cc
not_kept None false fitting h = cc
not_kept None true false h = cc
not_kept None true true h = cc

not_complete : (c : Completion) → Held ≡ answer_complete c → ⊥
not_complete completion.Query h = cc
not_complete other h = cc

not_completing : (c : Completion) (broken waits : Bool) → Held ≡ cond broken (Error StorageFault) (cond waits Parked (answer_complete c)) → ⊥
not_completing c false false h = not_complete c h
not_completing c other another h = cc

never_meant : (f : Flush) (m : Meaning) → Held ≡ answer_meant f m → ⊥
never_meant f (Refuses e) h = cc
never_meant f (Does None new) h = cc
never_meant f (Does (Some text) new) h = cc
never_meant f (Keeps change) h = not_kept _ _ _ h
never_meant f (Completes c) h = not_completing c _ _ h

not_call : (given : Result (List ℕ) ScpiError) → Held ≡ answer_call given → ⊥
not_call (Ok text) h = cc
not_call (Err e) h = cc

denied_for : (s : State) (session : ℕ) (request : Request) → MayAnswer s session request Held → is_denied s session ≡ true
denied_for s session request (LockedOut denied) = denied
denied_for s session request (Runs run (Expands body is call)) = absurd (not_call call.given call.is)
denied_for s session request (Runs run (Means none (inl e))) = absurd (never_meant s.flush (meant (here s session) request.reading) e)
denied_for s session request (Runs run (Means none (inr short))) = let bad = short.0 in cc

held_for : (s : State) (session : ℕ) (request : Request) (reply : Reply) → MayAnswer s session request reply → is_denied s session ≡ true → reply ≡ Held
held_for s session request reply (LockedOut denied) is = refl
held_for s session request reply (TooEarly free late) is = let bad = sym free ∙ is in cc
held_for s session request reply (Runs run gives) is = let bad = sym run.free ∙ is in cc

pub held_is_denied : (s new : State) (session : ℕ) (request : Request) (reply : Reply) → Step s session request reply new → reply ≡ Held → is_denied s session ≡ true
held_is_denied s new session request reply step is = denied_for s session request (subst (MayAnswer s session request) is step.may)

pub denied_is_held : (s new : State) (session : ℕ) (request : Request) (reply : Reply) → Step s session request reply new → is_denied s session ≡ true → reply ≡ Held
denied_is_held s new session request reply step denied = held_for s session request reply step.may denied

-- a unit that is not executed leaves the state unchanged
pub held_leaves : (s new : State) (session : ℕ) (request : Request) (reply : Reply) → Step s session request reply new → reply ≡ Held → new ≡ s
held_leaves s new session request reply step is = step.is ∙ ap (after_unit s session request) is ∙ followed_same s

pub later_leaves : (s new : State) (session : ℕ) (request : Request) (reply : Reply) → Step s session request reply new → reply ≡ Later → new ≡ s
later_leaves s new session request reply step is = step.is ∙ ap (after_unit s session request) is ∙ followed_same s

-- of a session that is open or not
pub held_changes_nothing : (s new : State) (session : ℕ) (request : Request) (reply : Reply) → Allows s (Executed session request reply) new → reply ≡ Held → new ≡ s
held_changes_nothing s new session request reply (inl a) is = held_leaves s new session request reply a.1 is
held_changes_nothing s new session request reply (inr none) is = none.1

pub later_changes_nothing : (s new : State) (session : ℕ) (request : Request) (reply : Reply) → Allows s (Executed session request reply) new → reply ≡ Later → new ≡ s
later_changes_nothing s new session request reply (inl a) is = later_leaves s new session request reply a.1 is
later_changes_nothing s new session request reply (inr none) is = none.1
