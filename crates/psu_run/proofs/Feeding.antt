-- The lines of a piece, one after another, and the pieces of an input.
use Rattle.memchr.specs.Find.{IsFirstByte, is_byte}
use Rattle.psu_run.proofs.Common.{arith, ◌≡◌, ◌≢◌, ℕ, ◌+◌, ◌-◌, Bool, true, false, List, [], ◌∷◌, ◌++◌, length, take, drop, refl, sym, ap, ◌∙◌, subst, inr, append_assoc, Some, ◌⊎◌, inl, append-nil, bytes_eq, codes, Option, Answer, Answers, DeviceStops, Does, Effect, Ends, EndsEarly, Exec, FaultOf, Ghosts, IsDone, IsTry, Leads, Memory, Message, OutputState, Request, RunCause, RunFault, RunPoint, Says, SaysUntil, Sent, Source, Text, Write, has, held, message_of, messages, source_of, text_sent, same_Some, Device, Halts, IsMemory, IsUnit, Reply, fault_disk, here, response}
use Rattle.psu_run.proofs.Cuts.{found_parts, line_end, whole_tail, says_join, says_none, until_after, until_none, until_rest}
use Rattle.psu_run.proofs.Going.{device_stops_then, steps_as, steps_none, steps_then}
use Rattle.psu_run.proofs.Stopping.{BeginsText, IsOther, other_fails, runs_join, stops_now, stops_then}
use Rattle.psu_messages.specs.Effects as effects
use Rattle.psu_messages.specs.Effects.{Executed, Settled}
use Rattle.psu_messages.specs.Executions.{Progress, Interruption, Advances, IsNext, IsOver, StopsAt, beginning}
use Rattle.psu_messages.specs.Executions.Interruption.{Failed, Stopped as StoppedBetween, NotBuffered}
use Rattle.psu_messages.specs.Relations.{Relations}
use Rattle.psu_run.specs.declared.memory.OutOfMemory.{OutOfMemory}
use Rattle.psu_run.proofs.Walking.{begins_keep, effects_keep, unit_begins}

-- ---- messages, one after another

pub answers_none : {D A : Type 0} {G : Ghosts D} (exec : Exec D A G) (t : OutputState) → Answers [] exec exec t t
answers_none exec t = ([], says_none t, steps_none exec (λ text. text) _ (λ p. (refl, sym (append-nil p.text))))

pub answers_then : {D A : Type 0} {G : Ghosts D} (xs ys : List Message) {s s1 s2 : Exec D A G} (t0 t1 t2 : OutputState) → Answers xs s s1 t0 t1 → Answers ys s1 s2 t1 t2 → Answers (xs ++ ys) s s2 t0 t2
answers_then {G = G} xs ys t0 t1 t2 p q =
    (p.0 ++ q.0, says_join t0 t1 t2 p.0 q.0 p.1 q.1, steps_then _ p.2 q.2 (λ a b c x y. (runs_join (Ghosts.honest G) a b c xs ys x.0 y.0, y.1 ∙ ap (λ (z : List ℕ). z ++ q.0) x.1 ∙ append_assoc a.text p.0 q.0)))

pub ends_then : {D A : Type 0} {G : Ghosts D} (end : Option RunCause) (disk : D) (done due : List Message) {s s1 : Exec D A G} (t0 t1 t2 : OutputState) → Answers done s s1 t0 t1 → Ends s1 end disk due t1 t2 → Ends s end disk (done ++ due) t0 t2
ends_then end disk done due t0 t1 t2 p q = (p.0 ++ q.0, until_after end t0 t1 t2 p.0 q.0 p.1 q.1, stops_then end disk done due p.0 q.0 p.2 q.2)

pub early_then : {D A : Type 0} {G : Ghosts D} (fault : RunFault D A G) (done due : List Message) {s s1 : Exec D A G} (t0 t1 t2 : OutputState) → Answers done s s1 t0 t1 → EndsEarly s1 fault due t1 t2 → EndsEarly s fault (done ++ due) t0 t2
early_then fault done due t0 t1 t2 p (ends, counted) = (ends_then (Some fault.cause) (fault_disk fault) done due t0 t1 t2 p ends, λ before t. counted before (p.2.tied before t))

-- a stop before anything of these messages is executed, of which the device is not the cause
pub early_now : {D A : Type 0} {G : Ghosts D} {s : Exec D A G} (cause : RunCause) (fault : RunFault D A G) (due : List Message) (t : OutputState) → FaultOf s cause fault → IsOther cause → cause ≢ Write → EndsEarly s fault due t t
early_now cause fault due t at other own = (([], until_none (Some fault.cause) t (λ e. own (sym at.cause_is ∙ same_Some fault.cause Write e)), stops_now cause fault due at other), λ before t. other_fails cause fault at other before)

pub power_message : (line : List ℕ) → bytes_eq line (codes "!POWER") ≡ true → message_of line ≡ Message.Power
power_message line is = rw is refl

pub plain_message : (line : List ℕ) → bytes_eq line (codes "!POWER") ≡ false → message_of line ≡ Message.Line (source_of line)
plain_message line is = rw is refl

-- ---- pieces, one after another

-- However the input continues: the messages due before this piece, of which `line` has begun, are those that end in it,
-- which were executed, and those due after it, of which `next` has begun.
abbrev pub Fed : {D A : Type 0} {G : Ghosts D} → List ℕ → List ℕ → List ℕ → Exec D A G → Exec D A G → OutputState → OutputState → Type 0
Fed line piece next old new output now =
    (done : List Message) × ((input : List ℕ) → messages (line ++ (piece ++ input)) ≡ done ++ messages (next ++ input)) × Answers done old new output now

-- a run ended early in this piece, of whose lines `line` had begun, however the input continues
abbrev pub EndsIn : {D A : Type 0} {G : Ghosts D} → List ℕ → List ℕ → Exec D A G → RunFault D A G → OutputState → OutputState → Type 0
EndsIn line piece old fault output now = (input : List ℕ) → EndsEarly old fault (messages (line ++ (piece ++ input))) output now

pub fed_none : {D A : Type 0} {G : Ghosts D} (line : List ℕ) (exec : Exec D A G) (t : OutputState) → Fed line [] line exec exec t t
fed_none line exec t = ([], (λ input. refl), answers_none exec t)

pub fed_then : {D A : Type 0} {G : Ghosts D} (line mid next a b : List ℕ) {s s1 s2 : Exec D A G} (t0 t1 t2 : OutputState) → Fed line a mid s s1 t0 t1 → Fed mid b next s1 s2 t1 t2 → Fed line (a ++ b) next s s2 t0 t2
fed_then line mid next a b t0 t1 t2 p q = (
  p.0 ++ q.0,
  λ input. ap (λ (z : List ℕ). messages (line ++ z)) (append_assoc a b input) ∙ p.1 (b ++ input) ∙ ap (λ (z : List Message). p.0 ++ z) (q.1 input) ∙ sym (append_assoc p.0 q.0 (messages (next ++ input))),
  answers_then p.0 q.0 t0 t1 t2 p.2 q.2,
)

pub stopped_then : {D A : Type 0} {G : Ghosts D} (line mid a b : List ℕ) {s s1 : Exec D A G} (fault : RunFault D A G) (t0 t1 t2 : OutputState) → Fed line a mid s s1 t0 t1 → EndsIn mid b s1 fault t1 t2 → EndsIn line (a ++ b) s fault t0 t2
stopped_then line mid a b {s} fault t0 t1 t2 p q = λ input.
    subst (λ (due : List Message). EndsEarly s fault due t0 t2) (sym (ap (λ (z : List ℕ). messages (line ++ z)) (append_assoc a b input) ∙ p.1 (b ++ input))) (early_then fault p.0 (messages (mid ++ (b ++ input))) t0 t1 t2 p.2 (q input))

-- ---- the loop over the lines of a piece

-- the state of a piece of which this is the rest
abbrev pub FedSo : {D A : Type 0} {G : Ghosts D} → List ℕ → List ℕ → List ℕ → List ℕ → Exec D A G → Exec D A G → OutputState → OutputState → Type 0
FedSo line piece rest mid s s1 t0 t1 = (front : List ℕ) × (piece ≡ front ++ rest) × Fed line front mid s s1 t0 t1

-- a line that has ended
pub feed_step : {D A : Type 0} {G : Ghosts D} (line mid piece rest : List ℕ) (at : ℕ) (begun next : List ℕ) {s s1 s2 : Exec D A G} (t0 t1 t2 : OutputState)
    → IsFirstByte (is_byte 10) rest (Some at) → FedSo line piece rest mid s s1 t0 t1 → ((input : List ℕ) → messages (mid ++ (take at rest ++ input)) ≡ messages (begun ++ input)) → has 10 begun ≡ false
    → Answers (message_of begun ∷ []) s1 s2 t1 t2 → next ≡ [] → FedSo line piece (take (length rest - (at + 1)) (drop (at + 1) rest)) next s s2 t0 t2
feed_step line mid piece rest at begun next {s} {s1} {s2} t0 t1 t2 found f shifted free output none =
    let part = take at rest ++ 10 ∷ [] in
    let ends : (input : List ℕ) → messages (mid ++ (part ++ input)) ≡ message_of begun ∷ messages input
    = λ input. ap (λ (z : List ℕ). messages (mid ++ z)) (append_assoc (take at rest) (10 ∷ []) input) ∙ shifted (10 ∷ input) ∙ line_end begun input free in (
      f.0 ++ part,
      f.1 ∙ ap (λ (z : List ℕ). f.0 ++ z) (found_parts 10 rest at found ∙ ap (λ (z : List ℕ). take at rest ++ 10 ∷ z) (sym (whole_tail rest (at + 1))) ∙ sym (append_assoc (take at rest) (10 ∷ []) _)) ∙ sym (append_assoc f.0 part _),
      subst (λ (l : List ℕ). Fed line (f.0 ++ part) l s s2 t0 t2) (sym none) (fed_then line mid [] f.0 part t0 t1 t2 f.2 (message_of begun ∷ [], ends, output)),
    )

-- the rest of the piece has no line feed
pub feed_end : {D A : Type 0} {G : Ghosts D} (line mid next piece rest : List ℕ) {s s1 : Exec D A G} (t0 t1 : OutputState)
    → FedSo line piece rest mid s s1 t0 t1 → ((input : List ℕ) → messages (mid ++ (rest ++ input)) ≡ messages (next ++ input)) → Fed line piece next s s1 t0 t1
feed_end line mid next piece rest {s} {s1} t0 t1 f shifted =
    let g = f.2 in
    subst (λ (z : List ℕ). Fed line z next s s1 t0 t1) (sym f.1)
    (g.0, (λ input. ap (λ (z : List ℕ). messages (line ++ z)) (append_assoc f.0 rest input) ∙ g.1 (rest ++ input) ∙ ap (λ (z : List Message). g.0 ++ z) (shifted input)), g.2)

-- a fault after these lines
pub feed_stops : {D A : Type 0} {G : Ghosts D} (line mid piece rest : List ℕ) {s s1 : Exec D A G} (fault : RunFault D A G) (t0 t1 t2 : OutputState) → FedSo line piece rest mid s s1 t0 t1 → EndsIn mid rest s1 fault t1 t2 → EndsIn line piece s fault t0 t2
feed_stops line mid piece rest {s} fault t0 t1 t2 f stopped = subst (λ (z : List ℕ). EndsIn line z s fault t0 t2) (sym f.1) (stopped_then line mid f.0 rest fault t0 t1 t2 f.2 stopped)

-- memory is refused for the line
pub feed_refused : {D A : Type 0} {G : Ghosts D} (line mid piece rest : List ℕ) {s s1 : Exec D A G} (sign : OutOfMemory) (fault : RunFault D A G) (t0 t1 : OutputState) → FedSo line piece rest mid s s1 t0 t1 → FaultOf s1 (Memory sign) fault → EndsIn line piece s fault t0 t1
feed_refused line mid piece rest sign fault t0 t1 f at = feed_stops line mid piece rest fault t0 t1 t1 f (λ input. early_now (Memory sign) fault (messages (mid ++ (rest ++ input))) t1 at tt (λ e. cc))

-- a fault in the line that has ended, which comes first in the rest
pub line_stops : {D A : Type 0} {G : Ghosts D} (mid rest : List ℕ) (at : ℕ) (begun : List ℕ) {s1 : Exec D A G} (fault : RunFault D A G) (t1 t2 : OutputState) → IsFirstByte (is_byte 10) rest (Some at)
    → ((more : List ℕ) → messages (mid ++ (take at rest ++ more)) ≡ messages (begun ++ more)) → has 10 begun ≡ false
    → ((later : List Message) → EndsEarly s1 fault (message_of begun ∷ later) t1 t2) → EndsIn mid rest s1 fault t1 t2
line_stops mid rest at begun {s1} fault t1 t2 found shifted free stops = λ input.
    let tail = drop (at + 1) rest ++ input in
    let first : messages (mid ++ (rest ++ input)) ≡ message_of begun ∷ messages tail
    = ap (λ (z : List ℕ). messages (mid ++ (z ++ input))) (found_parts 10 rest at found) ∙ ap (λ (z : List ℕ). messages (mid ++ z)) (append_assoc (take at rest) (10 ∷ drop (at + 1) rest) input) ∙ shifted (10 ∷ tail) ∙ line_end begun tail free in
    subst (λ (due : List Message). EndsEarly s1 fault due t1 t2) (sym first) (stops (messages tail))

-- ---- a line that is executed on a device and its output is executed in steps of the device

-- The effects, faults and stops of an executor are those of a device and its output.

module _ {D A : Type 0} {G : Ghosts D} {X : Type 0} (exec : X → Exec D A G) (output : X → OutputState) (does : X → Effect → X → Type 0)
    (on : (x y : X) (effect : Effect) → does x effect y → IsDone (exec x) (output x) effect (exec y) (output y)) where
  follow : (added : List Effect) (x y : X) → effects.Runs does x added y → Leads (exec x) (exec y) (λ p q. effects.Runs (Does (Ghosts.honest G)) p added q) × Says (output x) (output y) (text_sent added)
  follow [] x y same = subst (λ (z : X). Leads (exec x) (exec z) (λ p q. q ≡ p) × Says (output x) (output z) []) (sym same) (steps_none (exec x) (λ text. text) (λ p q. q ≡ p) (λ p. refl), says_none (output x))
  follow (Executed request reply ∷ added) x y (mid, d, runs) =
      let unit = on x mid (Executed request reply) d in
      let rest = follow added mid y runs in (
        steps_then _ unit.2 rest.0 (λ p m q u r. (m, u, r)),
        subst (λ (t : OutputState). Says t (output y) (text_sent added)) unit.0 rest.1,
      )
  follow (Settled reply ∷ added) x y (mid, d, runs) = absurd (on x mid (Settled reply) d)
  follow (Sent said last ∷ added) x y (mid, d, runs) =
      let sent = on x mid (Sent said last) d in
      let rest = follow added mid y runs in (
        steps_then _ (steps_none (exec x) (λ text. text ++ said) (λ p m. Does (Ghosts.honest G) p (Sent said last) m) (λ p. refl)) (subst (λ (z : Exec D A G). Leads z (exec y) (λ p q. effects.Runs (Does (Ghosts.honest G)) p added q)) sent.0 rest.0) (λ p m q d r. (m, d, r)),
        says_join (output x) (output mid) (output y) said (text_sent added) sent.1 rest.1,
      )

  -- a complete line
  pub whole : (source : Source) (x y : X) (from c : Progress) → from ≡ beginning → Advances does source x from y c → IsOver source c → Answers (Message.Line source ∷ []) (exec x) (exec y) (output x) (output y)
  whole source x y from c fresh went over =
      let a = subst (λ (z : Progress). Advances does source x z y c) fresh went in let f = follow a.added x y a.runs in
      (text_sent a.added, f.1, steps_as _ f.0 (λ p q r. ((q, c, record { added = a.added; runs = r; reaches = a.reaches }, over, refl), (effects_keep (Ghosts.honest G) p q a.added r).0)))

-- ---- a line that stopped early

-- a stop that is not of the device
not_device : (cause : RunCause) → IsMemory cause ⊎ (cause ≡ Write) → cause ≡ Device → ⊥
not_device cause (inl memory) is = subst IsMemory is memory
not_device cause (inr write) is = let bad = sym write ∙ is in cc

-- a unit that gave a response was executed
responded : {D A : Type 0} {G : Ghosts D} (mid here : Exec D A G) (now then : OutputState) (parked : Bool) (request : Request) (effect : Effect) (response : List ℕ) → IsTry parked request effect (Answer response) → IsDone mid now effect here then
    → (then ≡ now) × Leads mid here (λ p q. (reply : Reply) × IsUnit (Ghosts.honest G) request reply p q)
responded {G = G} mid here now then false request (Executed other reply) response (same, is) d =
    (d.0, steps_as (λ p q. (reply : Reply) × IsUnit (Ghosts.honest G) request reply p q) d.2 (λ p q u. (reply, subst (λ (z : Request). IsUnit (Ghosts.honest G) z reply p q) same u)))
responded mid here now then parked request effect response never d = grind arith

module _ {D A : Type 0} {G : Ghosts D} {X : Type 0} (exec : X → Exec D A G) (output : X → OutputState) (r : Relations X RunCause) (source : Source)
    (on : (x y : X) (effect : Effect) → r.does x effect y → IsDone (exec x) (output x) effect (exec y) (output y))
    (fail : (x y : X) (request : Request) (cause : RunCause) → r.fails x request cause y → (output y ≡ output x) × DeviceStops (exec x) (exec y) (Halts (Ghosts.honest G) (Some cause) (request ∷ [])) cause × (cause ≢ Write))
    (stop : (x y : X) (cause : RunCause) → r.stops x cause y → (exec y ≡ exec x) × (IsMemory cause ⊎ (cause ≡ Write)) × SaysUntil (Some cause) (output x) (output y) []) where
  -- the line up to a stop, and its output with what is in the response buffer
  abbrev Broken : X → X → RunCause → Text → Type 0
  Broken x y cause left = (part : List ℕ) × DeviceStops (exec x) (exec y) (BeginsText (Ghosts.honest G) (Some cause) (Message.Line source ∷ []) part) cause × SaysUntil (Some cause) (output x) (held (output y).written ((output y).gathered ++ left.rest)) part

  -- what is not sent is appended to the text of these effects
  abbrev WithRest : List Effect → List ℕ → RunPoint → RunPoint → Type 0
  WithRest added rest p s = (m : RunPoint) × effects.Runs (Does (Ghosts.honest G)) p added m × (s ≡ record m { text = m.text ++ rest })

  with_rest : (x mid : X) (c : Progress) (a : Advances r.does source x beginning mid c) → Leads (exec x) (exec mid) (WithRest a.added c.text.rest)
  with_rest x mid c a =
      let f = follow exec output r.does on a.added x mid a.runs in
      steps_then (WithRest a.added c.text.rest) f.0 (steps_none (exec mid) (λ text. text ++ c.text.rest) (λ m s. s ≡ record m { text = m.text ++ c.text.rest }) (λ p. refl)) (λ p m s runs is. (m, runs, is))

  -- and then the next unit may have begun, or been executed
  abbrev NextUnit : RunCause → Progress → RunPoint → RunPoint → Type 0
  NextUnit cause c s q = (q ≡ s) ⊎ ((request : Request) × IsNext source c request × (((reply : Reply) × IsUnit (Ghosts.honest G) request reply s q) ⊎ Halts (Ghosts.honest G) (Some cause) (request ∷ []) s q))

  same_text : (cause : RunCause) (c : Progress) (s q : RunPoint) → NextUnit cause c s q → q.text ≡ s.text
  same_text cause c s q (inl same) = ap (λ (z : RunPoint). z.text) same
  same_text cause c s q (inr (request, next, inl (reply, unit))) = (begins_keep (request ∷ []) (unit_begins request reply unit)).0 ∙ append-nil s.text
  same_text cause c s q (inr (request, next, inr halts)) = (begins_keep (request ∷ []) halts.0).0 ∙ append-nil s.text

  line : (cause : RunCause) (x mid : X) (c : Progress) (a : Advances r.does source x beginning mid c) {p s q : RunPoint} → WithRest a.added c.text.rest p s → NextUnit cause c s q
      → BeginsText (Ghosts.honest G) (Some cause) (Message.Line source ∷ []) (text_sent a.added ++ c.text.rest) p q
  line cause x mid c a {p} {s} {q} (m, runs, is) begun =
      let said : RunPoint = record m { text = m.text ++ c.text.rest } in
      let text : said.text ≡ p.text ++ (text_sent a.added ++ c.text.rest) = ap (λ (z : List ℕ). z ++ c.text.rest) (effects_keep (Ghosts.honest G) p m a.added runs).0 ∙ append_assoc p.text (text_sent a.added) c.text.rest in
      let from : NextUnit cause c said q = subst (λ (z : RunPoint). NextUnit cause c z q) is begun in
      ((m, c, record { added = a.added; runs = runs; reaches = a.reaches }, from), same_text cause c said q from ∙ text)

  broken_at : (x mid y : X) (cause : RunCause) (c : Progress) → Advances r.does source x beginning mid c → Interruption r source mid c cause y → Broken x y cause c.text
  broken_at x mid y cause c a (Failed request next parked fails) =
      let f = follow exec output r.does on a.added x mid a.runs in
      let d = fail mid y request cause fails in (
        text_sent a.added ++ c.text.rest,
        device_stops_then _ (with_rest x mid c a) d.1 (λ p s q t b. line cause x mid c a t (inr (request, next, inr b))),
        until_rest (Some cause) (output x) (output mid) (output y) (text_sent a.added) c.text.rest f.1
            (subst (λ (t : OutputState). SaysUntil (Some cause) (output mid) t []) (sym d.0) (until_none (Some cause) (output mid) (λ e. d.2 (same_Some cause Write e)))),
      )
  broken_at x mid y cause c a (StoppedBetween unended stops) =
      let f = follow exec output r.does on a.added x mid a.runs in let d = stop mid y cause stops in
      let text = text_sent a.added ++ c.text.rest in (
        text,
        subst (λ (z : Exec D A G). DeviceStops (exec x) z (BeginsText (Ghosts.honest G) (Some cause) (Message.Line source ∷ []) text) cause) (sym d.0) (record {
          leads = steps_as _ (with_rest x mid c a) (λ p q t. line cause x mid c a t (inl refl));
          own = inr d.1;
          why = λ e. absurd (not_device cause d.1 e);
        }),
        until_rest (Some cause) (output x) (output mid) (output y) (text_sent a.added) c.text.rest f.1 d.2,
      )
  broken_at x mid y cause c a (NotBuffered here request next effect response try does stops) =
      let f = follow exec output r.does on a.added x mid a.runs in
      let d = responded (exec mid) (exec here) (output mid) (output here) c.standing.parked request effect response try (on mid here effect does) in let s = stop here y cause stops in
      let text = text_sent a.added ++ c.text.rest in (
        text,
        subst (λ (z : Exec D A G). DeviceStops (exec x) z (BeginsText (Ghosts.honest G) (Some cause) (Message.Line source ∷ []) text) cause) (sym s.0) (record {
          leads = steps_then _ (with_rest x mid c a) d.1 (λ p s q t b. line cause x mid c a t (inr (request, next, inl b)));
          own = inr s.1;
          why = λ e. absurd (not_device cause s.1 e);
        }),
        until_rest (Some cause) (output x) (output mid) (output y) (text_sent a.added) c.text.rest f.1 (subst (λ (t : OutputState). SaysUntil (Some cause) t (output y) []) d.0 s.2),
      )

  pub broken : (x y : X) (cause : RunCause) (left : Text) (from : Progress) → from ≡ beginning → StopsAt r source x from cause y left → Broken x y cause left
  broken x y cause left from fresh stopped =
      let s = subst (λ (z : Progress). StopsAt r source x z cause y left) fresh stopped in
      subst (λ (t : Text). Broken x y cause t) (sym s.text) (broken_at x s.mid y cause s.new s.advances s.interruption)
