-- The output of a piece is written, one piece after another, up to the end of the input; and the result of a whole run.
use Rattle.std.specs.Io.KnownBytes.{Consumes, IsAtEnd}
use Rattle.psu_power_loss.proofs.Moments.{keeps_map}
use Rattle.psu_run.proofs.Common.{◌≡◌, ◌≢◌, ℕ, ◌+◌, ◌-◌, ◌≤◌, true, false, List, [], ◌∷◌, ◌++◌, length, take, drop, refl, sym, ap, ◌∙◌, subst, inr, arith, append_assoc, Some, None, Option, length-append, IfSome, IsErrAnd, Result, inl, Answers, Brings, DiskState, EachRepresents, Ends, EndsEarly, Exec, FaultOf, ForSome, Ghosts, IsAlong, IsAt, IsByFailure, IsCrashImage, IsOfRun, IsOldOrSame, IsScript, IsTied, LeavesOnly, Message, OutputState, PowersOn, Ran, RunCause, RunFault, RunPoint, RunTo, Runs, Says, SaysUntil, ScriptAlone, StopsFor, World, Write, WritesShort, WritesTo, and_then, at_power_on, common_steps, disk_in, failures_of, has, held, is_broken, items_of, message_of, messages, take-add, weaken, append-nil, nil_from_length, same_Some, Consumes-trans, Consumes-nil, Writes, Written, after, fault_disk, disk_of}
use Rattle.psu_run.proofs.Cuts.{line_end, line_last, short_after, until_none, writes_then}
use Rattle.psu_run.proofs.Feeding.{EndsIn, Fed, early_now, early_then, ends_then, stopped_then}
use Rattle.psu_run.proofs.Stopping.{IsOther, RunStops, RunsTo, other_fails, stops_now, stops_then, stops_writing}
use Rattle.psu_run.proofs.OneList.{Reached, flushed_stands, leads_then, leaves_prefix, left_leads, power_leads, reached_on, reached_power}
use Rattle.psu_run.proofs.Walking.{begins_keep, flush_begins, flush_running}

-- ---- the output of a piece is written

-- a text that is buffered is written
said : (a b : OutputState) (text : List ℕ) (v : Written) → Says a b text → Writes b.written v b.gathered → Says a (held v []) text
said a b text v says w = (says.0 ++ b.gathered, writes_then a.written b.written v says.0 b.gathered says.1 w, append-nil (says.0 ++ b.gathered) ∙ says.2)

-- a proper prefix of the text is written where the writer fails
said_short : (a b : OutputState) (text : List ℕ) (v : Written) → Says a b text → WritesShort b.written v b.gathered → WritesShort a.written v (a.gathered ++ text)
said_short a b text v says w =
    subst (λ (z : List ℕ). WritesShort a.written v (a.gathered ++ z)) (append-nil text) (short_after a b (held v []) text [] says (subst (WritesShort b.written v) (sym (append-nil b.gathered)) w))

fails : (end : Option RunCause) (a b : OutputState) (text : List ℕ) → end ≡ Some Write → WritesShort a.written b.written (a.gathered ++ text) → SaysUntil end a b text
fails end a b text is w = grind arith

module _ {D A : Type 0} {G : Ghosts D} (line piece next : List ℕ) {s s1 : Exec D A G} (a b : OutputState) (v : Written) (fed : Fed line piece next s s1 a b) where
  pub fed_written : Writes b.written v b.gathered → Fed line piece next s s1 a (held v [])
  fed_written w = (fed.0, fed.1, (fed.2.0, said a b fed.2.0 v fed.2.1 w, fed.2.2))

  pub fed_short : (fault : RunFault D A G) → WritesShort b.written v b.gathered → FaultOf s1 Write fault → EndsIn line piece s fault a (held v [])
  fed_short fault w at = λ input.
      let text = fed.2.0 in let due = messages (next ++ input) in
      subst (λ (d : List Message). EndsEarly s fault d a (held v [])) (sym (fed.1 input)) (
        (
          text,
          fails (Some fault.cause) a (held v []) text (ap Some at.cause_is) (said_short a b text v fed.2.1 w),
          subst (RunStops s (Some fault.cause) (fault_disk fault) (fed.0 ++ due)) (append-nil text) (stops_then (Some fault.cause) (fault_disk fault) fed.0 due text [] fed.2.2 (stops_now Write fault due at tt)),
        ),
        λ before t. other_fails Write fault at tt before,
      )

-- A run that ended by this fault, with its output up to it.
module _ {D A : Type 0} {G : Ghosts D} (old : Exec D A G) (fault : RunFault D A G) (due : List Message) (a b : OutputState) (v : Written) (ended : EndsEarly old fault due a b) where
  -- the writer failed
  pub none_before : fault.cause ≡ Write → b.written ≡ v → EndsEarly old fault due a (held v [])
  none_before is same =
      let ends = ended.0 in
      ((ends.0, fails (Some fault.cause) a (held v []) ends.0 (ap Some is) (subst (λ (w : Written). WritesShort a.written w (a.gathered ++ ends.0)) same (ends.1.missing (ap Some is))), ends.2), ended.1)

  pub written_before : fault.cause ≢ Write → Writes b.written v b.gathered → EndsEarly old fault due a (held v [])
  written_before own w =
      let ends = ended.0 in let other : Some fault.cause ≢ Some Write = λ e. own (same_Some fault.cause Write e) in
      ((ends.0, record { whole = λ e. said a b ends.0 v (ends.1.whole other) w; missing = λ e. absurd (other e) }, ends.2), ended.1)

  -- the writer fails
  pub short_before : fault.cause ≢ Write → WritesShort b.written v b.gathered → EndsEarly old (record fault { cause = Write }) due a (held v [])
  short_before own w =
      let ends = ended.0 in let other : Some fault.cause ≢ Some Write = λ e. own (same_Some fault.cause Write e) in (
        (ends.0, fails (Some Write) a (held v []) ends.0 refl (said_short a b ends.0 v (ends.1.whole other) w), stops_writing (Some fault.cause) (fault_disk fault) due ends.0 ends.2),
        λ before t. let by = ended.1 before t in record { opening = λ e. cc; device = λ e. cc; worn = by.worn },
      )

-- ---- the last line of the input

-- it is all that is due
last_done : (line next : List ℕ) (done : List Message) → (line ≡ [] → ⊥) → has 10 line ≡ false → has 10 next ≡ false → ((input : List ℕ) → messages (line ++ 10 ∷ input) ≡ done ++ messages (next ++ input)) → messages line ≡ done
last_done line next done begun free none is =
    let two : message_of line ∷ messages (10 ∷ []) ≡ done ++ (message_of next ∷ messages []) = sym (line_end line (10 ∷ []) free) ∙ is (10 ∷ []) ∙ ap (λ (z : List Message). done ++ z) (line_end next [] none) in
    let one : message_of line ∷ [] ≡ done ++ messages (next ++ []) = sym (line_end line [] free) ∙ is [] in
    let many : 2 ≡ length done + 1 = ap length two ∙ length-append done (message_of next ∷ []) in
    let few : 1 ≡ length done + length (messages (next ++ [])) = ap length one ∙ length-append done (messages (next ++ [])) in
    line_last line begun free ∙ one ∙ ap (λ (z : List Message). done ++ z) (nil_from_length (messages (next ++ [])) (omega (arith, many, few))) ∙ append-nil done

pub last_answered : {D A : Type 0} {G : Ghosts D} (line next : List ℕ) {s s1 : Exec D A G} (a b : OutputState) → (line ≡ [] → ⊥) → has 10 line ≡ false → has 10 next ≡ false → Fed line (10 ∷ []) next s s1 a b → Answers (messages line) s s1 a b
last_answered line next {s} {s1} a b begun free none p = subst (λ (m : List Message). Answers m s s1 a b) (sym (last_done line next p.0 begun free none p.1)) p.2

pub last_early : {D A : Type 0} {G : Ghosts D} (line : List ℕ) {s : Exec D A G} (fault : RunFault D A G) (a b : OutputState) → (line ≡ [] → ⊥) → has 10 line ≡ false → EndsIn line (10 ∷ []) s fault a b → EndsEarly s fault (messages line) a b
last_early line {s} fault a b begun free q = subst (λ (m : List Message). EndsEarly s fault m a b) (line_end line [] free ∙ sym (line_last line begun free)) (q [])

-- ---- after the last line

-- a fault
pub answers_stop : {D A : Type 0} {G : Ghosts D} (due : List Message) {s s1 : Exec D A G} (fault : RunFault D A G) (a b : OutputState) → Answers due s s1 a b → fault.cause ≢ Write → RunStops s1 (Some fault.cause) (fault_disk fault) [] []
    → ((before : ℕ) → IsTied before s1 → IsByFailure G before fault) → EndsEarly s fault due a b
answers_stop due {s} fault a b p other stop counted =
    subst (λ (m : List Message). EndsEarly s fault m a b) (append-nil due) (early_then fault due [] a b b p (([], until_none (Some fault.cause) b (λ e. other (same_Some fault.cause Write e)), stop), counted))

-- a flush that leaves nothing unflushed
pub answers_flushed : {D A : Type 0} {G : Ghosts D} (due : List Message) {s s1 : Exec D A G} (disk : D) (a b : OutputState) → Answers due s s1 a b → RunStops s1 None disk [] [] → Ends s None disk due a b
answers_flushed due {s} disk a b p stop = subst (λ (m : List Message). Ends s None disk m a b) (append-nil due) (ends_then None disk due [] a b b p ([], until_none None b (λ e. cc), stop))

-- ---- the input that was read

-- the rest of an input, where it is known
abbrev left_of : Option (List ℕ) → List ℕ
left_of None = []
left_of (Some rest) = rest

-- an input brings the messages of what was read and of the rest
brought : (from to : Option (List ℕ)) (seen : List ℕ) → Consumes from to seen → Brings from (messages (seen ++ left_of to))
brought x0 to seen p = grind arith

-- at its end, an input brings the messages of what was read
brought_all : (from to next : Option (List ℕ)) (seen : List ℕ) → Consumes from to seen → Consumes to next [] → IsAtEnd next → Brings from (messages (seen ++ []))
brought_all x0 to next seen p q e = grind arith

-- a run of the messages that the input brings ended early, or ran them all
abbrev pub Early : {D A : Type 0} {G : Ghosts D} → Exec D A G → RunFault D A G → Option (List ℕ) → Written → Written → Type 0
Early s fault from u w = (due : List Message) × Brings from due × EndsEarly s fault due (held u []) (held w [])

abbrev pub Whole : {D A : Type 0} {G : Ghosts D} → Exec D A G → D → Option (List ℕ) → Written → Written → Type 0
Whole s disk from u w = (due : List Message) × Brings from due × Ends s None disk due (held u []) (held w [])

module _ {D A : Type 0} {G : Ghosts D} (line seen : List ℕ) {s s1 : Exec D A G} (from to : Option (List ℕ)) (u v : Written) (took : Consumes from to seen) (fed : Fed [] seen line s s1 (held u []) (held v [])) where
  -- a stop in the next piece
  read_stop : (piece : List ℕ) (fault : RunFault D A G) (next : Option (List ℕ)) (w : Written) → Consumes to next piece → EndsIn line piece s1 fault (held v []) (held w []) → Early s fault from u w
  read_stop piece fault next w p q = (
    messages ((seen ++ piece) ++ left_of next),
    brought from next (seen ++ piece) (Consumes-trans from to next seen piece took p),
    stopped_then [] line seen piece fault (held u []) (held v []) (held w []) fed q (left_of next),
  )

  -- before it
  pub read_front : (cause : RunCause) (fault : RunFault D A G) → FaultOf s1 cause fault → IsOther cause → cause ≢ Write → Early s fault from u v
  read_front cause fault at plain other = read_stop [] fault to v (Consumes-nil to) (λ input. early_now cause fault (messages (line ++ input)) (held v []) at plain other)

  -- in a piece of which only a part is taken, or after that part
  cut_stop : (n count : ℕ) (buf : List ℕ) (fault : RunFault D A G) (next : Option (List ℕ)) (w : Written) → n ≤ count → Consumes to next (take count buf)
      → EndsIn line (take n buf ++ take (count - n) (drop n buf)) s1 fault (held v []) (held w []) → Early s fault from u w
  cut_stop n count buf fault next w le p q =
      let sum : count ≡ n + (count - n) = omega (arith, le) in
      read_stop (take count buf) fault next w p (subst (λ (z : List ℕ). EndsIn line z s1 fault (held v []) (held w [])) (sym (ap (λ (k : ℕ). take k buf) sum ∙ take-add n (count - n) buf)) q)

  pub cut_front : (n count : ℕ) (buf : List ℕ) (fault : RunFault D A G) (next : Option (List ℕ)) (w : Written) → n ≤ count → Consumes to next (take count buf) → EndsIn line (take n buf) s1 fault (held v []) (held w []) → Early s fault from u w
  cut_front n count buf fault next w le p q =
      let more = take (count - n) (drop n buf) in
      cut_stop n count buf fault next w le p (λ input. subst (λ (z : List ℕ). EndsEarly s1 fault (messages (line ++ z)) (held v []) (held w [])) (sym (append_assoc (take n buf) more input)) (q (more ++ input)))

  pub cut_after : (after : List ℕ) (n count : ℕ) (buf : List ℕ) {s2 : Exec D A G} (cause : RunCause) (fault : RunFault D A G) (next : Option (List ℕ)) (w : Written) → n ≤ count → Consumes to next (take count buf)
      → Fed line (take n buf) after s1 s2 (held v []) (held w []) → FaultOf s2 cause fault → IsOther cause → cause ≢ Write → Early s fault from u w
  cut_after after n count buf cause fault next w le p q at plain other =
      let more = take (count - n) (drop n buf) in
      cut_stop n count buf fault next w le p (stopped_then line after (take n buf) more fault (held v []) (held w []) (held w []) q (λ input. early_now cause fault (messages (after ++ (more ++ input))) (held w []) at plain other))

  -- the end of the input
  end_messages : messages (seen ++ []) ≡ fed.0 ++ messages line
  end_messages = fed.1 [] ∙ ap (λ (z : List ℕ). fed.0 ++ messages z) (append-nil line)

  pub read_end : (disk : D) (next : Option (List ℕ)) (w : Written) → Consumes to next [] → IsAtEnd next → Ends s1 None disk (messages line) (held v []) (held w []) → Whole s disk from u w
  read_end disk next w p e q = (
    messages (seen ++ []),
    brought_all from to next seen took p e,
    subst (λ (m : List Message). Ends s None disk m (held u []) (held w [])) (sym end_messages) (ends_then None disk fed.0 (messages line) (held u []) (held v []) (held w []) fed.2 q),
  )

  -- a fault there
  pub end_stop : (fault : RunFault D A G) (next : Option (List ℕ)) (w : Written) → Consumes to next [] → IsAtEnd next → EndsEarly s1 fault (messages line) (held v []) (held w []) → Early s fault from u w
  end_stop fault next w p e q = (
    messages (seen ++ []),
    brought_all from to next seen took p e,
    subst (λ (m : List Message). EndsEarly s fault m (held u []) (held w [])) (sym end_messages) (early_then fault fed.0 (messages line) (held u []) (held v []) (held w []) fed.2 q),
  )

-- all of the input was taken
pub read_all : (most : ℕ) (seen : List ℕ) (from to next : Option (List ℕ)) → Consumes from to seen → Consumes to next [] → IsAtEnd next → length seen ≤ most → IfSome from (λ input. length input ≤ most)
read_all most seen x0 to next p q e le = let all = append-nil seen in grind arith

pub taken_more : (seen buf : List ℕ) (count a b c : ℕ) → length seen ≡ a → count ≤ length buf → b ≡ a → c ≡ b + count → length (seen ++ take count buf) ≡ c
taken_more seen buf count a b c taken bound same more = grind (arith, common_steps, taken, bound, same, more)

-- ---- the result of a whole run, stated on the image that it began on

-- the disk of a fault that is propagated
pub passed_disk : {D A : Type 0} {G : Ghosts D} (r : Result D (RunFault D A G)) (fault : RunFault D A G) (P : D → Type 0) → IsErrAnd r (λ reported. reported ≡ fault) → P (fault_disk fault) → P (disk_of r)
passed_disk x0 fault x2 is x4 = grind arith

-- a store that was whole is broken only by a failure since
pub early_counted : {D A : Type 0} {G : Ghosts D} (s : Exec D A G) (before : ℕ) (fault : RunFault D A G) (from : Option (List ℕ)) (u v : Written) → is_broken s.device.flush.store ≡ false → failures_of s ≡ before → Early s fault from u v → IsByFailure G before fault
early_counted s before fault from u v whole same (due, brought, (ends, counted)) = counted before (omega (arith, same), inr (λ broke. let bad = sym whole ∙ broke in cc))

-- the disk that a device was powered on from, and its own
abbrev pub PoweredFrom : {D A : Type 0} {G : Ghosts D} → Exec D A G → D → Type 0
PoweredFrom {D} {A} {G} s given = (d : D) × (disk_in s ≡ Some d) × (Ghosts.failures G d ≡ Ghosts.failures G given) × (Ghosts.extent G d ≡ Ghosts.extent G given)

module _ {D A : Type 0} {G : Ghosts D} (s : Exec D A G) (given : D) (on : PoweredFrom s given) (from : Option (List ℕ)) (end : Option RunCause) (disk : D) (u v : Written) (due : List Message) (brought : Brings from due)
    (ends : Ends s end disk due (held u []) (held v [])) where
  ran : Ran s on.0 disk (RunsTo G end disk due ends.0)
  ran = ends.2 on.0 on.1

  pub keeps_size : Ghosts.extent G disk ≡ Ghosts.extent G given
  keeps_size = ran.extent ∙ on.3

  pub keeps_count : Ghosts.failures G given ≤ Ghosts.failures G disk
  keeps_count = let rose = ran.later in let same = on.2 in omega (arith, rose, same)

  module _ (starts : (power : World) × PowersOn (Ghosts.honest G) (Ghosts.state G given).bytes power × ForSome (disk_in s) (λ d. IsAt s d (at_power_on power (Ghosts.failures G d)))) where
    -- from the power-on
    abbrev first : RunPoint
    first = at_power_on starts.0 (Ghosts.failures G given)

    at_first : IsAt s on.0 first
    at_first = let at = starts.2 on.0 on.1 in (at.0, at.1, at.2, sym on.2)

    abbrev last : RunPoint
    last = (ran.leads first at_first).0

    went : RunsTo G end disk due ends.0 first last
    went = (ran.leads first at_first).1

    reached : Ghosts.honest G → Reached last.world
    reached h = reached_on first.world last.world ((ran.leads first at_first).2 h).0.0 (reached_power h (Ghosts.state G given).bytes starts.0 starts.1)

    abbrev run_to : RunTo (Ghosts.honest G) end (Ghosts.state G given).bytes from (Ghosts.failures G given)
    run_to = record {
      power = starts.0;
      starts = starts.1;
      due = due;
      brought = brought;
      last = last;
      runs = went.0;
      since = λ h w is. leads_then w starts.0 last.world (power_leads h (Ghosts.state G given).bytes starts.0 w starts.1 is) ((ran.leads first at_first).2 h).0.0;
    }

    -- the script, where nothing goes wrong
    script_of : ScriptAlone (Ghosts.honest G) → Ghosts.honest G → end ≡ None → last.calm ≡ true → (input : Option (List ℕ)) → Brings input due → IfSome input (λ bytes. IsScript starts.0.start starts.0.limit bytes last.text)
    script_of alone h none calm None brings = tt
    script_of alone h none calm (Some input) brings =
        let r = went.0 in let stops = subst (StopsFor (Ghosts.honest G) r.rest r.at last (Ghosts.failures G disk) (Ghosts.state G disk)) none went.1.1 in let keeps = begins_keep [] (flush_begins stops.1) in
        let all : due ≡ r.done = r.is ∙ ap (λ (z : List Message). r.done ++ z) stops.0 ∙ append-nil r.done in
        let runs : Runs (Ghosts.honest G) (messages input) first r.at = subst (λ (m : List Message). Runs (Ghosts.honest G) m first r.at) (sym all ∙ brings) r.runs in
        subst (IsScript starts.0.start starts.0.limit input) (sym (append-nil r.at.text) ∙ sym keeps.0) (alone h (Ghosts.state G given).bytes input starts.0 (Ghosts.failures G given) r.at starts.1 runs (keeps.1 calm))

    run_ends : ScriptAlone (Ghosts.honest G) → WritesTo (Ghosts.honest G) end (Ghosts.state G given).bytes from (Ghosts.failures G given) (Ghosts.failures G disk) u v (Ghosts.state G disk)
    run_ends alone =
        record {
          run = run_to;
          later = went.1.0;
          stops = went.1.1;
          left = went.1.2;
          whole = λ e. let says = ends.1.whole e in subst (Writes u v) (sym (append-nil says.0) ∙ says.2 ∙ sym went.2) says.1;
          missing = λ e. subst (WritesShort u v) (sym went.2) (ends.1.missing e);
          calm = λ h none calm. script_of alone h none calm from brought;
          kept = λ h. leaves_prefix last.world (Ghosts.state G disk) (reached h) (went.1.2 h);
          all = λ h none.
              let r = went.0 in let stops = subst (StopsFor (Ghosts.honest G) r.rest r.at last (Ghosts.failures G disk) (Ghosts.state G disk)) none went.1.1 in
              subst (λ (d : DiskState). EachRepresents d last.world.limit (items_of last.world.state.flush.contents)) stops.3 (flushed_stands last.world (reached h) (flush_running stops.1) stops.2);
          behind = λ h. left_leads last.world (Ghosts.state G disk) (went.1.2 h);
        }

    -- the images at each moment
    moments : Ghosts.honest G → Ghosts.records G → ((d : D) (image : List ℕ) → Ghosts.left_since G d (Ghosts.moment G d) image → IsCrashImage (Ghosts.state G d) image) → ForSome (disk_in s) (λ d. LeavesOnly (Ghosts.moment G) (Ghosts.left_since G) given d (IsOldOrSame (Ghosts.state G given)))
        → LeavesOnly (Ghosts.moment G) (Ghosts.left_since G) given disk (IsOfRun (Ghosts.state G given) last)
    moments h t now opens =
        let moment = Ghosts.moment G in let left = Ghosts.left_since G in let P = IsOfRun (Ghosts.state G given) last in
        and_then moment left given on.0 disk P (IsAlong last) (weaken moment left given on.0 (IsOldOrSame (Ghosts.state G given)) P (opens on.0 on.1) (λ x kept. inl (keeps_map (Ghosts.state G given) x kept)))
        (((ran.leads first at_first).2 h).1 t now (reached_power h (Ghosts.state G given).bytes starts.0 starts.1)) (λ x along. inr along)

    -- the run, and each moment of it
    pub run_with_moments : ScriptAlone (Ghosts.honest G) → (Ghosts.honest G → Ghosts.records G → ((d : D) (image : List ℕ) → Ghosts.left_since G d (Ghosts.moment G d) image → IsCrashImage (Ghosts.state G d) image) × ForSome (disk_in s) (λ d. LeavesOnly (Ghosts.moment G) (Ghosts.left_since G) given d (IsOldOrSame (Ghosts.state G given))))
        → (written : WritesTo (Ghosts.honest G) end (Ghosts.state G given).bytes from (Ghosts.failures G given) (Ghosts.failures G disk) u v (Ghosts.state G disk)) × (Ghosts.honest G → Ghosts.records G → LeavesOnly (Ghosts.moment G) (Ghosts.left_since G) given disk (IsOfRun (Ghosts.state G given) written.run.last))
    unfolding run_ends ran
    run_with_moments alone time = (run_ends alone, λ h t. moments h t (time h t).0 (time h t).1)
