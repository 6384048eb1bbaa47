-- Every input has a script, and only one.
use Rattle.psu_lex.specs.Macros.{ExpandsTo}
use Rattle.psu_run.proofs.Common.{arith, ◌≡◌, ℕ, Bool, true, false, List, [], ◌∷◌, ◌++◌, refl, subst, if◌then◌else◌, Option, None, Some, Result, Ok, Err, is_ok, sym, ap, ◌∙◌, AreAsked, AreRequests, AskedBy, Command, Datum, Executes, ExecutesInside, ExecutesReply, Expand, Fault, HasOutcome, HoldsParameters, IsRequest, MacroCall, Message, Parked, Part, Point, Reads, Replies, Reply, Request, ScpiError, Scripted, Source, State, Syntax, SyntaxCalls, SyntaxGives, SyntaxMoves, after_unit, answer_call, answer_meant, at_start, called, faulty, finished, flushed, here, is_later, meant, path_at, replied, response, waited, ⊤}
use Rattle.psu_tree.specs.Reading.{SyntaxReads}
use Rattle.psu_lex.specs.Names.{is_label}
use Rattle.psu_lex.specs.Shown.{HoldsData, TailLists}
use Rattle.psu_lex.specs.Syntax.{IsBefore, Lists, UnitReads}
use Rattle.psu_lex.specs.declared.data.Data.{Data}
use Rattle.psu_lex.specs.declared.scpi_error.ScpiError.TheVariants.{MacroRecursionError}
use Rattle.psu_tree.specs.Path.{path_after}
use Rattle.psu_instrument.specs.Macros.{ExpandsAt, written, label_in}
use Rattle.psu_messages.specs.Units as units
use Rattle.psu_run.proofs.Alone.{OutcomeAt}
use Rattle.psu_run.proofs.Readings.{Holds, SomeUnits, held_by, Ones, one_next}
use Rattle.psu_lex.proofs.DataLists.{one_list}

-- Bytes have units, a unit reads in some way at a path, and a body has an expansion, or an error in its place.
pub record Somes : Type 0 where
  pub units : SomeUnits
  pub reading : (path : List (List ℕ)) (unit : Part) → (result : Result Command ScpiError) × Reads path unit result
  pub expansion : (body : List ℕ) (args : List (List ℕ)) → (result : Result (List ℕ) ScpiError) × ExpandsTo body args result

-- ---- the reading of a unit

some_next : (path : List (List ℕ)) (given : Result Syntax ScpiError) (reading : Result Command ScpiError) → SyntaxReads path given reading → (next : List (List ℕ)) × SyntaxMoves path given reading next
some_next path (Err e) reading r = (path, refl)
some_next path (Ok syntax) reading (h, is, text, form) = (path_after (is_ok reading) path h, (h, is, text, refl))

some_tail : (next rest : List ℕ) (list : List Datum) → IsBefore next rest list → Lists rest list → (tail : List ℕ) × TailLists tail list
some_tail next rest [] before lists = ([], refl)
some_tail next rest (d ∷ list) before lists = (44 ∷ rest, (rest, refl, lists))

-- data that contain a list, at any place
some_data : (list : List Datum) (text : List ℕ) → Lists text list → (held : Data) × HoldsData held list
some_data [] text lists = (record { found = None }, refl)
some_data (d ∷ list) text (space, next, rest, white, is, datum, before, lists) =
    let tail = some_tail next rest list before lists in (
      record { found = Some (record { datum = record { class = d.class; text = record { ref_ptr = (0, 0); now = d.text } }; tail = record { ref_ptr = (0, 0); now = tail.0 } }) },
      (list, refl, (next, datum), tail.1),
    )

some_call : (unit : Part) (given : Result Syntax ScpiError) → SyntaxGives unit given → (call : Option MacroCall) × SyntaxCalls given call
some_call unit (Err e) gives = (None, refl)
some_call unit (Ok s) gives = by (is_label s.header) refl where
  by : (label : Bool) → is_label s.header ≡ label → (call : Option MacroCall) × SyntaxCalls (Ok s) call
  by false is = (None, is)
  by true is =
      let u : UnitReads unit.text s = grind arith in let held = some_data s.parameters u.1 u.6 in
      (Some (record { label = record { ref_ptr = (0, 0); now = s.header }; args = held.0 }), (is, refl, held.1))

-- ---- the requests of a message

abbrev AllHold : List Request → Type 0
AllHold [] = ⊤
AllHold (request ∷ requests) = Holds request × AllHold requests

module _ (some : Somes) where
  some_requests : (inside : Bool) (units : List Part) (path : List (List ℕ)) → (requests : List Request) × AllHold requests × AreRequests inside path units requests
  some_requests inside [] path = ([], tt, refl)
  some_requests inside (part ∷ units) path =
      let from = path_at path part in let reads = some.reading from part in let next = some_next from reads.1.0 reads.0 reads.1.2 in
      let call = some_call part reads.1.0 reads.1.1 in let rest = some_requests inside units next.0 in
      let request : Request = record { call = call.0; reading = reads.0; inside = inside } in
      let is : IsRequest inside from part request next.0 = record { reading = reads.1; moves = (reads.1.0, reads.1.1, next.1); call = (reads.1.0, reads.1.1, call.1); place = refl } in
      (request ∷ rest.0, (held_by reads.1.0 call.0 call.1, rest.1), (request, rest.0, next.0, is, rest.2, refl))

  some_asked : (inside : Bool) (bytes : List ℕ) → (requests : List Request) × AllHold requests × AreAsked inside bytes requests
  some_asked inside bytes = let units = some.units bytes in let requested = some_requests inside units.0 [] in (requested.0, requested.1, (units.0, units.1, requested.2))

  some_asking : (source : Source) → (requests : List Request) × AllHold requests × AskedBy source requests
  some_asking (Fault error) = (faulty error ∷ [], (([], refl), tt), refl)
  some_asking (units.Text bytes) = some_asked false bytes

  -- ---- units

  some_given : (inside : Bool) (body : List ℕ) (args : List (List ℕ)) → (given : Result (List ℕ) ScpiError) × ExpandsAt inside body args given
  some_given true body args = (Err MacroRecursionError, refl)
  some_given false body args = some.expansion body args

  some_reply : (s : State) (request : Request) → Holds request → (body : Option (List ℕ)) → (reply : Reply) × Replies s request body reply
  some_reply s request holds None = (answer_meant s.flush (meant (here s 1) request.reading), refl)
  some_reply s request holds (Some body) = let given = some_given request.inside body (written holds.0) in (answer_call given.0, (holds.0, given.0, holds.1, given.1, refl))

  some_unit : (r : Point) (request : Request) → Holds request → (reply : Reply) × (new : Point) × HasOutcome r request reply new
  some_unit r request holds =
      let now : Point = if is_later r.state 1 request then flushed r else r in let first = some_reply now.state request holds (called now.state request) in
      let end = finished now request first.0 in (end.0, end.1, (first.0, first.1, refl))

  some_inside : (requests : List Request) (r : Point) → AllHold requests → (new : Point) × ExecutesInside r requests new
  some_inside [] r hold = (r, refl)
  some_inside (request ∷ requests) r (holds, hold) =
      let one = some_unit r request holds in let rest = some_inside requests one.1 hold in (rest.0, (one.0, one.1, one.2, rest.1))

  some_expansion : (reply : Reply) (r : Point) → (new : Point) × ExecutesReply r reply new
  some_expansion (Expand bytes) r = let requests = some_asked true bytes in let new = some_inside requests.0 r requests.1 in (new.0, (requests.0, requests.2, new.1))
  some_expansion reply r = (r, refl)

  some_line : (requests : List Request) (r : Point) → AllHold requests → (new : Point) × Executes r requests new
  some_line [] r hold = (r, refl)
  some_line (request ∷ requests) r (holds, hold) =
      let one = some_unit r request holds in let mid = some_expansion one.0 one.1 in
      let rest = some_line requests mid.0 hold in (rest.0, (one.0, one.1, mid.0, one.2, mid.1, rest.1))

  -- ---- messages

  pub some_script : (ms : List Message) (r : Point) → (text : List ℕ) × Scripted r ms text
  some_script [] r = ([], refl)
  some_script (Message.Power ∷ ms) r = some_script ms (at_start r.state.flush.limit r.stored)
  some_script (Message.Line source ∷ ms) r =
      let requests = some_asking source in let end = some_line requests.0 (record r { answers = [] }) requests.1 in let rest = some_script ms end.0 in
      (response end.0.answers ++ rest.0, (requests.0, end.0, rest.0, requests.2, end.1, rest.1, refl))

-- ---- the data of calls

one_tail : (list others : List Datum) (tail : List ℕ) → TailLists tail list → TailLists tail others → list ≡ others
one_tail [] [] tail l k = refl
one_tail (d ∷ list) (e ∷ more) tail (rest, is, l) (text, is_too, k) = let same : text ≡ rest = cc in one_list (d ∷ list) (e ∷ more) rest l (subst (λ (z : List ℕ). Lists z (e ∷ more)) same k)
one_tail list others tail l k = cc

same_data : (given : Result Syntax ScpiError) (a b : Option MacroCall) → SyntaxCalls given a → SyntaxCalls given b → label_in a ≡ label_in b → (list others : List Datum) → HoldsParameters a list → HoldsParameters b others
    → list ≡ others
same_data given a b c d label list others l k = grind (arith, one_tail)

-- ---- requests that read alike

-- Requests of one unit: the places of their texts may differ.
record Same (a b : Request) : Type 0 where
  reading : a.reading ≡ b.reading
  place : a.inside ≡ b.inside
  label : label_in a.call ≡ label_in b.call
  parameters : (list others : List Datum) → HoldsParameters a.call list → HoldsParameters b.call others → list ≡ others

-- lists of requests that are alike, one by one
abbrev Alike : List Request → List Request → Type 0
Alike [] [] = ⊤
Alike (a ∷ more) (b ∷ rest) = Same a b × Alike more rest
Alike requests others = ⊥

one_requests : Ones → (inside : Bool) (units : List Part) (path : List (List ℕ)) (requests others : List Request) → AreRequests inside path units requests → AreRequests inside path units others
    → Alike requests others
one_requests o inside [] path requests others a b = rw (a, b) tt
one_requests o inside (part ∷ units) path requests others (r, more, next, here, asks, is) (s, rest, next_too, here_too, asks_too, is_too) =
    let one = one_next o here here_too in
    let calls : SyntaxCalls here.call.0 s.call = rw (o.syntax part here.call.0 here_too.call.0 here.call.1 here_too.call.1) here_too.call.2 in
    let calls_too = here.call.2 in let label : label_in r.call ≡ label_in s.call = grind arith in
    let same : Same r s = record { reading = one.0; place = here.place ∙ sym here_too.place; label = label; parameters = same_data here.call.0 r.call s.call here.call.2 calls label } in
    rw (is, is_too) (same, one_requests o inside units next more rest asks (rw (← one.1) asks_too))

one_asked : Ones → (inside : Bool) (bytes : List ℕ) (requests others : List Request) → AreAsked inside bytes requests → AreAsked inside bytes others → Alike requests others
one_asked o inside bytes requests others (units, is, asks) (list, is_too, asks_too) = one_requests o inside units [] requests others asks (rw (o.units bytes units list is is_too) asks_too)

one_asking : Ones → (source : Source) (requests others : List Request) → AskedBy source requests → AskedBy source others → Alike requests others
one_asking o (Fault error) requests others a b = rw (a, b) (record { reading = refl; place = refl; label = refl; parameters = λ list others l k. l ∙ sym k }, tt)
one_asking o (units.Text bytes) requests others a b = one_asked o false bytes requests others a b

-- ---- replies

asked_same : {a b : Request} (s : State) → Same a b → (called s a ≡ called s b) × (is_later s 1 a ≡ is_later s 1 b)
asked_same s same = (grind arith, grind arith)

-- the result of a unit depends only on its reading and its reply
unit_alike : {a b : Request} (s : State) (reply : Reply) → Same a b → after_unit s 1 a reply ≡ after_unit s 1 b reply
unit_alike s reply same = grind arith

finished_alike : {a b : Request} (r : Point) (reply : Reply) → Same a b → finished r a reply ≡ finished r b reply
finished_alike r Parked same = ap (λ (s : State). waited (flushed (replied r Parked s))) (unit_alike r.state Parked same)
finished_alike r reply same = ap {B = Reply × Point} (λ (s : State). (reply, replied r reply s)) (unit_alike r.state reply same)

-- `one`: no body has two expansions
module _ (o : Ones) (one : (body : List ℕ) (args : List (List ℕ)) (result other : Result (List ℕ) ScpiError) → ExpandsTo body args result → ExpandsTo body args other → result ≡ other) where
  one_given : (inside : Bool) (body : List ℕ) (args : List (List ℕ)) (given other : Result (List ℕ) ScpiError) → ExpandsAt inside body args given → ExpandsAt inside body args other → given ≡ other
  one_given true body args given other g h = g ∙ sym h
  one_given false body args given other g h = one body args given other g h

  one_reply : (s : State) {a b : Request} {x y : Reply} → Same a b → (body : Option (List ℕ)) → Replies s a body x → Replies s b body y → x ≡ y
  one_reply s same None p q = p ∙ ap (λ (z : Result Command ScpiError). answer_meant s.flush (meant (here s 1) z)) same.reading ∙ sym q
  one_reply s {a} {b} same (Some body) (list, given, holds, gives, is) (others, other, holds_too, gives_too, is_too) =
      let data_same = same.parameters list others holds holds_too in
      let gives_same : ExpandsAt a.inside body (written list) other = rw (same.place, data_same) gives_too in
      is ∙ ap answer_call (one_given a.inside body (written list) given other gives gives_same) ∙ sym is_too

  -- ---- units

  one_unit : (r : Point) {a b : Request} → Same a b → {reply other : Reply} {x y : Point} → HasOutcome r a reply x → HasOutcome r b other y → (reply ≡ other) × (x ≡ y)
  one_unit r {a} {b} same {reply} {other} {x} {y} (first, replies, is) q =
      let now : Point = if is_later r.state 1 a then flushed r else r in
      let too : OutcomeAt now b other y = subst (λ (late : Bool). OutcomeAt (if late then flushed r else r) b other y) (sym (asked_same r.state same).1) q in
      let one = one_reply now.state same (called now.state a) replies (subst (λ (body : Option (List ℕ)). Replies now.state b body too.0) (sym (asked_same now.state same).0) too.1) in
      let all = sym is ∙ ap (finished now a) one ∙ finished_alike now too.0 same ∙ too.2 in (ap (λ (z : Reply × Point). z.0) all, ap (λ (z : Reply × Point). z.1) all)

  one_inside : (requests others : List Request) (r x y : Point) → Alike requests others → ExecutesInside r requests x → ExecutesInside r others y → x ≡ y
  one_inside [] [] r x y alike p q = p ∙ sym q
  one_inside (a ∷ more) (b ∷ rest) r x y (same, alike) (reply, mid, goes, tells) (other, there, goes_too, tells_too) =
      let one = one_unit r same goes goes_too in one_inside more rest mid x y alike tells (rw one.1 tells_too)
  one_inside requests others r x y alike p q = absurd alike

  one_expansion : (reply : Reply) (r x y : Point) → ExecutesReply r reply x → ExecutesReply r reply y → x ≡ y
  one_expansion (Expand bytes) r x y (requests, asks, p) (others, asks_too, q) = one_inside requests others r x y (one_asked o true bytes requests others asks asks_too) p q
  one_expansion reply r x y p q = p ∙ sym q

  one_line : (requests others : List Request) (r x y : Point) → Alike requests others → Executes r requests x → Executes r others y → x ≡ y
  one_line [] [] r x y alike p q = p ∙ sym q
  one_line (a ∷ more) (b ∷ rest) r x y (same, alike) (reply, mid, next, goes, puts, tells) (other, there, later, goes_too, puts_too, tells_too) =
      let one = one_unit r same goes goes_too in let is : next ≡ later = one_expansion reply mid next later puts (rw (one.0, one.1) puts_too) in
      one_line more rest next x y alike tells (rw is tells_too)
  one_line requests others r x y alike p q = absurd alike

  -- ---- messages

  pub one_script : (ms : List Message) (r : Point) (text other : List ℕ) → Scripted r ms text → Scripted r ms other → text ≡ other
  one_script [] r text other a b = a ∙ sym b
  one_script (Message.Power ∷ ms) r text other a b = one_script ms (at_start r.state.flush.limit r.stored) text other a b
  one_script (Message.Line source ∷ ms) r text other (requests, all, more, asks, tells, script, is) (others, every, rest, asks_too, tells_too, script_too, is_too) =
      let same : all ≡ every = one_line requests others (record r { answers = [] }) all every (one_asking o source requests others asks asks_too) tells tells_too in
      let after = one_script ms all more rest script (rw same script_too) in grind arith
