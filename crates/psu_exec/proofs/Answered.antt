-- No unit and no ended wait has an empty response.
use Rattle.std.proofs.Common.{◌≡◌, ◌≢◌, inl, inr, ℕ, Bool, true, false, ◌==◌, ◌&&◌, not, if◌then◌else◌, Option, Some, None, Result, Ok, Err, List, [], decimal, refl, sym, ◌∙◌, subst}
use Rattle.psu_lex.specs.declared.scpi_error.ScpiError.{ScpiError}
use Rattle.psu_lex.specs.declared.scpi_error.ScpiError.TheVariants.{StorageFault}
use Rattle.psu_nv.specs.Commands as nv
use Rattle.psu_nv.specs.Contents.{fits}
use Rattle.psu_tree.specs.declared.command.Command.{Command}
use Rattle.psu_tree.specs.declared.command.Request.{Request}
use Rattle.psu_instrument.specs.Instrument.{Instrument}
use Rattle.psu_instrument.specs.Meaning.{Situation, Meaning, Refuses, Does, Keeps, Completes}
use Rattle.psu_instrument.specs.declared.act.Completion.{Completion}
use Rattle.psu_instrument.specs.declared.act.Completion.TheVariants as completion
use Rattle.psu_instrument.proofs.Speaking.{each_answer_is_quiet, some_digit}
use Rattle.psu_exec.specs.Calls.{Allows, Executed, settle_answer}
use Rattle.psu_exec.specs.Device.{Reply, Answer, Error, Parked, Later, Flush, State, MayAnswer, MayMean, LockedOut, TooEarly, Runs, Expands, Means, answer_complete, answer_meant, here, is_whole, kept_unless, meant, parks, wait_of}
use Rattle.psu_exec.specs.declared.waits.Wait.{Wait}
use Rattle.psu_exec.specs.declared.waits.Wait.TheVariants.{Until, CutOff}
use Rattle.psu_exec.proofs.Answering.{answer_is_no_call}

abbrev HasText : Reply → Type 0
HasText reply = (text : List ℕ) → reply ≡ Answer text → text ≢ []

-- ---- meanings

complete_told : (c : Completion) → HasText (answer_complete c)
complete_told completion.Query text is = subst (λ (z : List ℕ). z ≢ []) (let same : decimal 1 ≡ text = cc in same) (some_digit 1)
complete_told other text is = cc

completing_told : (broken waits : Bool) (c : Completion) → HasText (if broken then Error StorageFault else (if waits then Parked else answer_complete c))
completing_told false false c text is = complete_told c text is
completing_told other another c text is = cc

kept_silent : (found : Option ScpiError) (whole fitting : Bool) → HasText (kept_unless found whole fitting)
kept_silent (Some e) whole fitting text is = cc
kept_silent None false fitting text is = cc
kept_silent None true false text is = cc
kept_silent None true true text is = cc

-- the response of a meaning is not empty
abbrev Says : Meaning → Type 0
Says m = (text : List ℕ) (new : Instrument) → m ≡ Does (Some text) new → text ≢ []

meaning_told : (f : Flush) (m : Meaning) → Says m → HasText (answer_meant f m)
meaning_told f (Does (Some given) new) some text is = subst (λ (z : List ℕ). z ≢ []) (let same : given ≡ text = cc in same) (some given new refl)
meaning_told f (Keeps change) some text is = kept_silent (nv.refused f.contents change) (is_whole f.store) (fits f.limit (nv.apply f.contents change)) text is
meaning_told f (Completes c) some text is = completing_told (not (is_whole f.store)) (parks c && not (f.unflushed == 0)) c text is
meaning_told f other some text is = cc

meant_says : (s : Situation) (reading : Result Command ScpiError) → Says (meant s reading)
meant_says s (Err e) text new is = cc
meant_says s (Ok command) text new is = (each_answer_is_quiet s command text new is).0

may_told : (s : State) (session : ℕ) (request : Request) (reply : Reply) → MayMean s.flush (meant (here s session) request.reading) reply → HasText reply
may_told s session request reply (inl e) text is = meaning_told s.flush (meant (here s session) request.reading) (meant_says (here s session) request.reading) text (sym e ∙ is)
may_told s session request reply (inr (e, wanted)) text is = let bad = sym e ∙ is in cc

-- ---- units, and the ends of waits

unit_told : (s : State) (session : ℕ) (request : Request) (reply : Reply) → MayAnswer s session request reply → HasText reply
unit_told s session request reply (Runs run (Expands body calls call)) text is = absurd (answer_is_no_call text call.given (sym is ∙ call.is))
unit_told s session request reply (Runs run (Means none may)) text is = may_told s session request reply may text is
unit_told s session request reply other text is = cc

until_told : (flushed : Bool) (c : Completion) → HasText (if flushed then answer_complete c else Parked)
until_told true c text is = complete_told c text is
until_told false c text is = cc

wait_told : (w : Option Wait) → HasText (settle_answer w)
wait_told (Some (Until c n)) text is = until_told (n == 0) c text is
wait_told other text is = cc

pub settle_told : (s : State) (session : ℕ) (reply : Reply) → reply ≡ settle_answer (wait_of s.flush session) → HasText reply
settle_told s session reply e text is = wait_told (wait_of s.flush session) text (sym e ∙ is)

later_told : HasText Later
later_told text is = cc

pub unit_has_text : (s new : State) (session : ℕ) (request : Request) (reply : Reply) → Allows s (Executed session request reply) new → HasText reply
unit_has_text s new session request reply (inl a) = unit_told s session request reply a.1.may
unit_has_text s new session request reply (inr none) = subst HasText (sym none.0.1) later_told
