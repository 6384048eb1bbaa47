-- Where nothing goes wrong, the messages of an input have one text, the script's.
use Rattle.psu_lex.specs.Bytes.{all_white, is_closed}
use Rattle.psu_run.proofs.Common.{◌≡◌, ℕ, zero, suc, ◌||◌, ◌&&◌, Bool, true, false, List, [], ◌∷◌, ◌++◌, ◌+◌, drop, refl, sym, ap, subst, append-nil, if◌then◌else◌, None, Some, ◌⊎◌, ◌==◌, ◌∙◌, subst₂, inl, inr, arith, append_assoc, map, AskedBy, Contents, Does, Effect, Executes, ExecutesInside, Expand, Fault, HasOutcome, IsAnswered, IsJob, IsScript, IsSilent, IsTry, Message, Part, Point, PowersOn, Reopen, Reply, Request, RunPoint, Runs, ScriptAlone, Scripted, Sent, Source, State, Steps, World, answer_in, answers, at_power_on, at_start, first_onto, has, items_of, message_of, messages, nat_tests, opened, parts_of, reads_left, represents_one, response, text_sent, ⊤}
use Rattle.psu_lex.specs.Message.{Reads, Token, Separator, Faulty, ended, fault_of, next_first, text_of, units_of}
use Rattle.psu_run.proofs.Cuts.{has_none}
use Rattle.psu_messages.specs.Effects.{Executed, Settled, needs}
use Rattle.psu_messages.specs.Executions.{Advances, IsOver, Progress, beginning}
use Rattle.psu_messages.specs.Executions.Reaches.{Begins}
use Rattle.psu_messages.specs.Messages.{NoMessage, OneMore, AreMessages, IsAskedIn, OverIsMessages}
use Rattle.psu_messages.specs.Turns.{NoneInside, OneInside, Untried, Again, NoUnit, Plain, Expanded, Ended, InsideDone, Tried, UnitsDone, acts}
use Rattle.psu_messages.specs.Units.{Text}
use Rattle.psu_messages.proofs.Answering.{answers_append, try_gives}
use Rattle.psu_run.proofs.Alone.{Still, UnitTells, still_on, take_alone, unit_alone}
use Rattle.psu_run.proofs.Readings.{AreLeft, AskedFrom, Holds, Ones, SomeUnits, asked_all, asked_next, asked_none, held_by, left_all, left_next, left_none}
use Rattle.psu_run.proofs.Walking.{begins_keep, calm_step, effects_keep, reopening}
use Rattle.std.proofs.lemmas.Bool.{cases_Bool}
use Rattle.psu_nv.proofs.Determining.{same_contents}
use Rattle.psu_messages.specs.Effects as effects
use Rattle.psu_messages.specs.Units as units

-- of these units at most the first is the first of a message, and none where `first` is false
abbrev OneBegins : Bool → List Part → Type 0
OneBegins first units = (place : ℕ) (p : Part) (after : List Part) → drop place units ≡ p ∷ after → p.first ≡ true → (place ≡ 0) × (first ≡ true)

none_begins : (first : Bool) → OneBegins first []
none_begins first zero p after here is = cc
none_begins first (suc n) p after here is = cc

begins_one : (p : Part) (units : List Part) → OneBegins false units → OneBegins p.first (p ∷ units)
begins_one p units later zero other after here is = (refl, cc (here, is))
begins_one p units later (suc n) other after here is = let never = (later n other after here is).1 in cc

-- a text that is no unit where it is white space alone, and the units after it
text_begins : (first white : Bool) (text : List ℕ) (units : Bool → List Part) → ((b : Bool) → OneBegins b (units b))
    → OneBegins first ((let l : List Part = if white then [] else record { text = text; first = first; fault = None } ∷ [] in l) ++ units (first && white))
text_begins true true text units rest = rest true
text_begins false true text units rest = rest false
text_begins true false text units rest = begins_one (record { text = text; first = true; fault = None }) (units false) (rest false)
text_begins false false text units rest = begins_one (record { text = text; first = false; fault = None }) (units false) (rest false)

has_not_behind : (e : ℕ) (a b : List ℕ) → has e (a ++ b) ≡ false → has e b ≡ false
has_not_behind e [] b h = h
has_not_behind e (x ∷ a) b h = has_not_behind e a b (has_none e x (a ++ b) h).1

units_begin : (first : Bool) (text bytes : List ℕ) (tokens : List Token) → Reads is_closed bytes tokens → has 10 bytes ≡ false → OneBegins first (units_of first text tokens)
units_begin first text bytes [] reads free = subst (OneBegins first) (append-nil (ended first text)) (text_begins first (all_white text) text (λ b. []) none_begins)
units_begin first text bytes (Faulty rest ∷ tokens) reads free = begins_one (record { text = text ++ rest; first = first; fault = Some (fault_of rest) }) [] (none_begins false)
units_begin first text bytes (Separator b ∷ tokens) (more, is, stands, reads) free =
    let plain : has 10 (b ∷ more) ≡ false = subst (λ (z : List ℕ). has 10 z ≡ false) is free in
    let next : next_first first text b ≡ (first && all_white text) = ap (λ (x : Bool). x || (first && all_white text)) (has_none 10 b more plain).0 in
    rw next (text_begins first (all_white text) text (λ b. units_of b [] tokens) (λ first. units_begin first [] more tokens reads (has_none 10 b more plain).1))
units_begin first text bytes (token ∷ tokens) (more, is, stands, reads) free = units_begin first _ more tokens reads (has_not_behind 10 (text_of token) more (subst (λ (z : List ℕ). has 10 z ≡ false) is free))

-- ---- a line is one message

-- a line has no line feed
abbrev pub IsLine : Source → Type 0
IsLine (units.Text bytes) = has 10 bytes ≡ false
IsLine (Fault error) = ⊤

begins_line : (source : Source) (place : ℕ) (request : Request) → IsLine source → units.Asks source place request true → place ≡ 0
begins_line (units.Text bytes) place request line (part, unit, first) =
    (units_begin true [] bytes unit.are.0 unit.are.1 line place part unit.after (subst (λ (z : List Part). drop place z ≡ part ∷ unit.after) unit.are.2 unit.here) first).0
begins_line (Fault error) place request line (at, is, first) = at

-- no unit is done from a place where none is asked
none_done : {Asked : ℕ → Request → Type 0} {from to : ℕ} {list : List Effect} → ((request : Request) → Asked from request → ⊥) → UnitsDone Asked from to list → from ≡ to
none_done never NoUnit = refl
none_done never (Plain u unit reply ended plain) = absurd (never ended.request (rw (none_done never u) ended.is))
none_done never (Expanded u unit body ended inner count inside over) = absurd (never ended.request (rw (none_done never u) ended.is))

message_sends : (list : List Effect) → IsAnswered list ⊎ IsSilent list → text_sent list ≡ response (answers list)
message_sends list (inl a) =
    let append = answers_append a.before (Sent a.piece true ∷ []) in let none = append-nil (answers a.before) in grind arith
message_sends list (inr s) = grind arith

-- the units of a line were executed, and what was sent for it is their response message
line_is : (source : Source) (count : ℕ) (list : List Effect) → IsLine source → AreMessages source count list → UnitsDone (IsAskedIn source 0) 0 count (acts list) × (text_sent list ≡ response (answers list))
line_is source count list line NoMessage = (NoUnit, refl)
line_is source count list line (OneMore NoMessage to message is) = (is.units, message_sends message is.text)
line_is source count list line (OneMore (OneMore m from earlier was) to message is) = let some = is.some in let same = none_done never is.units in absurd (omega (arith, some, same)) where
  never : (request : Request) → IsAskedIn source from from request → ⊥
  never request first =
      let here : (from == from) ≡ true = grind (arith, nat_tests) in
      let begins = begins_line source from request line (subst (units.Asks source from request) here first) in
      let some = was.some in omega (arith, some, begins)

-- ---- the units of a line, one after another

-- a unit is executed as the script says, and nothing else
abbrev Tells : World → Effect → World → Type 0
Tells w (Executed request reply) new = (needs reply ≡ None) × ((at : Point) → Still at w → Holds request → UnitTells at request reply new)
Tells w effect new = ⊥

line_tells : {H : Type 0} → H → (p q : RunPoint) (list : List Effect) → effects.Runs (Does H) p list q → q.calm ≡ true → effects.Runs Tells p.world (acts list) q.world
line_tells {H} h p q [] none calm = ap (λ (z : RunPoint). z.world) none
line_tells {H} h p q (Executed request reply ∷ list) (mid, unit, rest) calm = (mid.world, (grind arith, λ at still holds. unit_alone h still holds unit ((effects_keep H mid q list rest).1 calm)), line_tells h mid q list rest calm)
line_tells {H} h p q (Settled reply ∷ list) (mid, never, rest) calm = absurd never
line_tells {H} h p q (Sent text end ∷ list) (mid, is, rest) calm = subst (λ (z : RunPoint). effects.Runs Tells z.world (acts list) q.world) is (line_tells h mid q list rest calm)

split : (xs ys : List Effect) (w new : World) → effects.Runs Tells w (xs ++ ys) new → (mid : World) × effects.Runs Tells w xs mid × effects.Runs Tells mid ys new
split [] ys w new runs = (w, refl, runs)
split (effect ∷ xs) ys w new (next, tells, runs) = let a = split xs ys next new runs in (a.0, (next, tells, a.1), a.2)

acts_say : (list : List Effect) → answers (acts list) ≡ answers list
acts_say [] = refl
acts_say (Executed request reply ∷ list) = ap (λ (l : List (List ℕ)). answer_in reply ++ l) (acts_say list)
acts_say (Settled reply ∷ list) = ap (λ (l : List (List ℕ)). answer_in reply ++ l) (acts_say list)
acts_say (Sent text end ∷ list) = acts_say list

then_say : (a : List (List ℕ)) {b c : List (List ℕ)} (xs ys : List Effect) → b ≡ a ++ answers xs → c ≡ b ++ answers ys → c ≡ a ++ answers (xs ++ ys)
then_say a xs ys p q = let append = answers_append xs ys in let all = append_assoc a (answers xs) (answers ys) in grind arith

-- ---- a unit

-- the data of a call exist
unit_holds : {inside : Bool} {bytes : List ℕ} {place : ℕ} {part : Part} {request : Request} → units.IsUnit inside bytes place part request → Holds request
unit_holds {request = request} unit = held_by unit.reads.call.0 request.call unit.reads.call.2

asked_holds : (source : Source) (place : ℕ) (request : Request) (first : Bool) → units.Asks source place request first → Holds request
asked_holds (units.Text bytes) place request first (part, unit, e) = unit_holds unit
asked_holds (Fault error) place request first (none, is, e) = subst Holds (sym is) ([], refl)

-- a unit that was executed to its end, by the script
abbrev Reported : Point → Request → Reply → List Effect → World → Type 0
Reported at request reply unit new = (rest : Point) × HasOutcome at request reply rest × Still rest new × (rest.answers ≡ at.answers ++ answers unit)

-- it was tried once, since each reply is final
ended_told : {Is : Request → Type 0} {unit : List Effect} {at : Point} {reply : Reply} {w new : World} (e : Ended Is unit reply) → Holds e.request → Still at w → effects.Runs Tells w unit new → Reported at e.request reply unit new
ended_told {Is} {unit} {at} {reply} {w} {new} e holds still runs =
    subst (λ (z : List Effect). Reported at e.request reply z new) (sym e.all) (by e.tries e.parked e.effect e.tried e.last (subst (λ (z : List Effect). effects.Runs Tells w z new) e.all runs)) where
      by : (tries : List Effect) (parked : Bool) (effect : Effect) → Tried Is tries parked → IsTry parked e.request effect reply → effects.Runs Tells w (tries ++ effect ∷ []) new → Reported at e.request reply (tries ++ effect ∷ []) new
      by tries parked (Executed other answer) Untried (same, was) (mid, tells, here) =
          let u = subst₂ (λ (c : Request) (o : Reply). UnitTells at c o mid) same was (tells.1 at still (subst Holds (sym same) holds)) in
          let said = ap (λ (l : List (List ℕ)). at.answers ++ l) (sym (try_gives false e.request (Executed other answer) reply (same, was))) in
          (u.0, u.1, subst (Still u.0) (sym here) u.2, u.3 ∙ said)
      by tries parked effect Untried try (mid, never, here) = absurd never
      by tries parked effect (Again {effects = before} {parked = was} t other is tried answer need try wants) last runs =
          let a = split (before ++ tried ∷ []) (effect ∷ []) w new runs in let b = split before (tried ∷ []) w a.0 a.1 in
          let tells = b.2.1 in grind arith

-- ---- units, one after another

-- The device after these units, which are those before a place, is in the script's state. Requests that are left at the
-- place, with a result by the script, continue those before them to all requests, with that result.
record Follows (Left : ℕ → List Request → Type 0) (Leads : Point → List Request → Point → Type 0) (at : Point) (place : ℕ) (list : List Effect) (new : World) : Type 0 where
  rest : Point
  still : Still rest new
  said : rest.answers ≡ at.answers ++ answers list
  all : (more : List Request) (end : Point) → Left place more → Leads rest more end → (all : List Request) × Left 0 all × Leads at all end

no_units : {Left : ℕ → List Request → Type 0} {Leads : Point → List Request → Point → Type 0} {at : Point} {w new : World} → Still at w → new ≡ w → Follows Left Leads at 0 [] new
no_units {at = at} still none = record { rest = at; still = subst (Still at) (sym none) still; said = sym (append-nil at.answers); all = λ more end left leads. (more, left, leads) }

-- a unit more, whose request is put before those that are left after it
one_more : {Left : ℕ → List Request → Type 0} {Leads : Point → List Request → Point → Type 0} {at : Point} {place : ℕ} {before : List Effect} {w : World} (f : Follows Left Leads at place before w)
    → (unit : List Effect) (request : Request) (rest : Point) (new : World) → Still rest new → rest.answers ≡ f.rest.answers ++ answers unit
    → ((more : List Request) (end : Point) → Left (place + 1) more → Leads rest more end → Left place (request ∷ more) × Leads f.rest (request ∷ more) end) → Follows Left Leads at (place + 1) (before ++ unit) new
one_more {at = at} {before = before} f unit request rest new still said on =
    record { rest = rest; still = still; said = then_say at.answers before unit f.said said; all = λ more end left leads. let next = on more end left leads in f.all (request ∷ more) end next.0 next.1 }

-- ---- power

-- a device that has just been powered on
start_still : {image : List ℕ} {new : World} {H : Type 0} → H → (on : PowersOn H image new) → Still (at_start on.on.limit on.on.start) new
start_still h on =
    let state = on.opens.1.2.1 ∙ ap (λ (s : State). opened s (Some 1)) on.state in
    let sound = on.sound in
    subst (Still (at_start on.on.limit on.on.start)) (sym on.opens.1.4) (record { state = state; whole = refl; kept = sound; sound = sound; disk = rw on.opens.1.3 (on.disk h) })

-- or powered on again
restart_alone : {at : Point} {p q : RunPoint} {H : Type 0} → H → Still at p.world → Steps H p None q → Still (at_start at.state.flush.limit at.stored) q.world
restart_alone {at} {p} {q} h still restart =
    let on = restart.leads.1 in
    let same = represents_one on.on.limit at.state.flush.limit (items_of on.on.start) (items_of at.stored) p.world.disk.bytes (on.found h) (still.disk p.world.disk.bytes (reads_left p.world.disk)) in
    subst₂ (λ (n : ℕ) (c : Contents). Still (at_start n c) q.world) same.0 (same_contents on.on.start at.stored on.sound still.kept same.1) (start_still h on)

-- the store is not broken, so it is not reopened
reopened_alone : {at : Point} {p q : RunPoint} {H : Type 0} → H → Still at p.world → (q ≡ p) ⊎ IsJob H Reopen p q → q ≡ p
reopened_alone h still (inl none) = none
reopened_alone h still (inr (job, finished, over, out, take, give, is, own, long)) = let commit = (take_alone h still take).1 in cc

-- ---- lines without a line feed

-- no message has a line feed
abbrev AreWhole : List Message → Type 0
AreWhole [] = ⊤
AreWhole (Message.Power ∷ ms) = AreWhole ms
AreWhole (Message.Line source ∷ ms) = IsLine source × AreWhole ms

abbrev AreFree : List (List ℕ) → Type 0
AreFree [] = ⊤
AreFree (part ∷ parts) = (has 10 part ≡ false) × AreFree parts

free_onto : (x : ℕ) (parts : List (List ℕ)) → (x == 10) ≡ false → AreFree parts → AreFree (first_onto x parts)
free_onto x parts other free = grind arith

parts_free : (input : List ℕ) → AreFree (parts_of 10 input)
parts_free [] = tt
parts_free (x ∷ xs) = elim (cases_Bool (x == 10)) [
  | inl end ↦ rw end (refl, parts_free xs)
  | inr other ↦ rw other (free_onto x (parts_of 10 xs) other (parts_free xs))
]

parts_whole : (parts : List (List ℕ)) → AreFree parts → AreWhole (map message_of parts)
parts_whole [] free = tt
parts_whole (part ∷ parts) (free, more) = let rest = parts_whole parts more in grind arith

-- ---- lines and messages

-- where all is calm at the end of messages, it was at their start
runs_calm : (H : Type 0) (p q : RunPoint) (ms : List Message) → Runs H ms p q → q.calm ≡ true → p.calm ≡ true
runs_calm H p q [] none calm = ap (λ (z : RunPoint). z.calm) (sym none) ∙ calm
runs_calm H p q (Message.Power ∷ ms) (mid, on, reopens, restart, rest) calm = (begins_keep [] (reopening reopens)).1 (calm_step restart (runs_calm H on q ms rest calm)).0
runs_calm H p q (Message.Line source ∷ ms) (mid, end, line, over, rest) calm = (effects_keep H p mid line.added line.runs).1 (runs_calm H mid q ms rest calm)

module _ (ones : Ones) (some : SomeUnits) (over_is_messages : OverIsMessages) where
  inside_leads : (at : Point) (body : List ℕ) (place : ℕ) (list : List Effect) (w new : World) → InsideDone body place list → Still at w → effects.Runs Tells w list new
      → Follows (AreLeft true body) ExecutesInside at place list new
  inside_leads at body place list w new NoneInside still none = no_units still none
  inside_leads at body place list w new (OneInside {place = last} {effects = before} i unit reply ended) still runs =
      let s = split before unit w new runs in let f = inside_leads at body last before w s.0 i still s.1 in
      let one = ended_told ended (unit_holds ended.is.1) f.still s.2 in
      one_more f unit ended.request one.0 new one.2 one.3 (λ more end left leads. (left_next more ones ended.is.1 left, (reply, one.0, one.1, leads)))

  units_lead : (at : Point) (source : Source) (place : ℕ) (list : List Effect) (w new : World) → UnitsDone (IsAskedIn source 0) 0 place list → Still at w → effects.Runs Tells w list new
      → Follows (AskedFrom source) Executes at place list new
  units_lead at source place list w new NoUnit still none = no_units still none
  units_lead at source place list w new (Plain {place = last} {effects = before} u unit reply ended plain) still runs =
      let s = split before unit w new runs in let f = units_lead at source last before w s.0 u still s.1 in
      let one = ended_told ended (asked_holds source last ended.request (last == 0) ended.is) f.still s.2 in
      one_more f unit ended.request one.0 new one.2 one.3
      (λ more end left leads. (asked_next ones source last ended.request (last == 0) more ended.is left, (reply, one.0, one.0, one.1, grind arith, leads)))
  units_lead at source place list w new (Expanded {place = last} {effects = before} u unit body ended inner count inside over) still runs =
      let s = split before (unit ++ inner) w new runs in let f = units_lead at source last before w s.0 u still s.1 in let e = split unit inner s.0 new s.2 in
      let one = ended_told ended (asked_holds source last ended.request (last == 0) ended.is) f.still e.1 in
      let i = inside_leads one.0 body count inner e.0 new inside one.2 e.2 in let all = i.all [] i.rest (left_none ones over) refl in
      one_more f (unit ++ inner) ended.request i.rest new i.still (then_say f.rest.answers unit inner one.3 i.said)
      (λ more end left leads. (asked_next ones source last ended.request (last == 0) more ended.is left, (Expand body, one.0, i.rest, one.1, (all.0, left_all some all.1, all.2), leads)))

  -- the requests of a line, and the script's result of it
  line_alone : {at : Point} {p q : RunPoint} {H : Type 0} (h : H) (source : Source) (end : Progress) → IsLine source → Still at p.world → Advances (Does H) source p beginning q end → IsOver source end → q.calm ≡ true
      → (requests : List Request) × (rest : Point) × AskedBy source requests × Executes (record at { answers = [] }) requests rest × (q.text ≡ p.text ++ response rest.answers) × Still rest q.world
  line_alone {at} {p} {q} {H} h source end line still a over calm =
      let count = end.standing.units in
      let m = line_is source count a.added line (over_is_messages source a.added end (a.reaches [] Begins) over) in
      let new = still_on still [] at.state still.state refl refl refl still.sound in
      let f = units_lead (record at { answers = [] }) source count (acts a.added) p.world q.world m.0 new (line_tells h p q a.added a.runs calm) in
      let all = f.all [] f.rest (asked_none ones source count over.units) refl in
      let sent = m.1 ∙ ap response (sym (f.said ∙ acts_say a.added)) in
      (all.0, f.rest, asked_all some source all.0 all.1, all.2, (effects_keep H p q a.added a.runs).0 ∙ ap (λ (z : List ℕ). p.text ++ z) sent, f.still)

  messages_alone : {H : Type 0} → H → (p q : RunPoint) (ms : List Message) (at : Point) → AreWhole ms → Still at p.world → Runs H ms p q → q.calm ≡ true → (more : List ℕ) × Scripted at ms more × (q.text ≡ p.text ++ more)
  messages_alone h p q [] at whole still none calm = ([], refl, ap (λ (z : RunPoint). z.text) none ∙ sym (append-nil p.text))
  messages_alone {H} h p q (Message.Power ∷ ms) at whole still (mid, on, reopens, restart, rest) calm =
      let same = reopened_alone h still reopens in
      let t = messages_alone h on q ms (at_start at.state.flush.limit at.stored) whole (restart_alone h (subst (λ (z : RunPoint). Still at z.world) (sym same) still) restart) rest calm in
      (t.0, t.1, t.2 ∙ ap (λ (z : List ℕ). z ++ t.0) (ap (λ (z : RunPoint). z.text) restart.is ∙ ap (λ (z : RunPoint). z.text) same))
  messages_alone {H} h p q (Message.Line source ∷ ms) at whole still (mid, end, line, over, rest) calm =
      let s = line_alone h source end whole.0 still line over (runs_calm H mid q ms rest calm) in let t = messages_alone h mid q ms s.1 whole.1 s.5 rest calm in
      (response s.1.answers ++ t.0, (s.0, s.1, t.0, s.2, s.3, t.1, refl), t.2 ∙ ap (λ (z : List ℕ). z ++ t.0) s.4 ∙ append_assoc p.text (response s.1.answers) t.0)

  pub script_is_alone : (H : Type 0) → ScriptAlone H
  script_is_alone H h image input power failures last on runs calm =
      let whole = parts_whole (parts_of 10 input) (parts_free input) in
      let t = messages_alone h (at_power_on power failures) last (messages input) (at_start on.on.limit on.on.start) whole (start_still h on) runs calm in
      subst₂ (λ (w : World) (text : List ℕ). IsScript w.start w.limit input text) (sym on.opens.1.4) (sym t.2) t.1
