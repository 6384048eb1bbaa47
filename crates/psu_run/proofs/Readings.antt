-- The readings of units, and the requests of what is executed, from a place on.
use Rattle.psu_run.proofs.Common.{◌≡◌, ℕ, Bool, List, [], refl, sym, ap, ◌∙◌, Option, None, Some, Result, Ok, Err, ◌+◌, false, ◌∷◌, ◌++◌, take, drop, subst, arith, AreAsked, AreRequests, AskedBy, Command, Datum, Fault, HeaderParts, HoldsParameters, IsHeader, IsMessage, IsRequest, MacroCall, Part, Reads, Request, ScpiError, Source, Syntax, SyntaxCalls, SyntaxGives, SyntaxMoves, drop-drop, drop_all, header_text, path_at, take-add}
use Rattle.psu_messages.specs.Units.{Root, Behind, Asks, HasNone, IsBehind, IsUnit, LeadsToPath, faulty}
use Rattle.psu_messages.specs.Units as units

-- every list of bytes has units
abbrev pub SomeUnits : Type 0
SomeUnits = (bytes : List ℕ) → (list : List Part) × IsMessage bytes list

-- Bytes have one list of units. A unit has one syntax, a text is that of one header, and a unit reads in one way.
pub record Ones : Type 0 where
  pub units : (bytes : List ℕ) (list others : List Part) → IsMessage bytes list → IsMessage bytes others → list ≡ others
  pub syntax : (unit : Part) (result other : Result Syntax ScpiError) → SyntaxGives unit result → SyntaxGives unit other → result ≡ other
  pub header : (one other : HeaderParts) → IsHeader one → IsHeader other → header_text one ≡ header_text other → one ≡ other
  pub reading : (path : List (List ℕ)) (unit : Part) (result other : Result Command ScpiError) → Reads path unit result → Reads path unit other → result ≡ other

one_moved : Ones → (path : List (List ℕ)) (given : Result Syntax ScpiError) (reading : Result Command ScpiError) (next other : List (List ℕ)) → SyntaxMoves path given reading next → SyntaxMoves path given reading other
    → next ≡ other
one_moved o path (Err e) reading next other a b = a ∙ sym b
one_moved o path (Ok syntax) reading next other (h, is, text, moves) (k, is_too, text_too, moves_too) = let same = o.header h k is is_too (sym text ∙ text_too) in grind arith

-- a unit has one reading, and the path after it is unique
pub one_next : {inside : Bool} {from : List (List ℕ)} {part : Part} {request other : Request} {next late : List (List ℕ)} → Ones → IsRequest inside from part request next → IsRequest inside from part other late
    → (request.reading ≡ other.reading) × (late ≡ next)
one_next {from = from} {part = part} {request = request} {other = other} {next = next} {late = late} o here too =
    let same = o.reading from part request.reading other.reading here.reading too.reading in
    let syntax = o.syntax part too.moves.0 here.moves.0 too.moves.1 here.moves.1 in
    (same, one_moved o from here.moves.0 request.reading late next (rw (← syntax, same) too.moves.2) here.moves.2)

-- the data written for a call exist
abbrev pub Holds : Request → Type 0
Holds request = (list : List Datum) × HoldsParameters request.call list

pub held_by : (given : Result Syntax ScpiError) (call : Option MacroCall) → SyntaxCalls given call → (list : List Datum) × HoldsParameters call list
held_by given None c = ([], refl)
held_by (Ok syntax) (Some call) c = (syntax.parameters, c.2)
held_by given call c = cc

-- ---- the path after units

-- units are read one after another, the first from this path, and lead to the other
abbrev Passes : Bool → List (List ℕ) → List Part → List (List ℕ) → Type 0
Passes inside path [] end = end ≡ path
Passes inside path (part ∷ parts) end = (request : Request) × (next : List (List ℕ)) × IsRequest inside (path_at path part) part request next × Passes inside next parts end

passes_more : {inside : Bool} {part : Part} {request : Request} {next : List (List ℕ)} (parts : List Part) (path end : List (List ℕ)) → Passes inside path parts end → IsRequest inside (path_at end part) part request next
    → Passes inside path (parts ++ part ∷ []) next
passes_more {inside} {part} {request} {next} [] path end here is = (request, next, rw (← here) is, refl)
passes_more (p ∷ parts) path end (first, mid, reads, on) is = (first, mid, reads, passes_more parts mid end on is)

passes : {inside : Bool} {parts : List Part} {path : List (List ℕ)} → LeadsToPath inside parts path → Passes inside [] parts path
passes Root = refl
passes (Behind {parts = before} {path = from} l part request next is) = passes_more before [] from (passes l) is

one_end : Ones → (inside : Bool) (parts : List Part) (path end late : List (List ℕ)) → Passes inside path parts end → Passes inside path parts late → end ≡ late
one_end o inside [] path end late a b = a ∙ sym b
one_end o inside (p ∷ parts) path end late (first, mid, is, on) (second, there, is_too, on_too) = one_end o inside parts mid end late on (rw (← (one_next o is is_too).1) on_too)

-- ---- the requests of some bytes

-- those of the units from a place on, whichever path the units before it lead to
abbrev pub AreLeft : Bool → List ℕ → ℕ → List Request → Type 0
AreLeft inside bytes place requests = (parts : List Part) → IsMessage bytes parts → (path : List (List ℕ)) → LeadsToPath inside (take place parts) path → AreRequests inside path (drop place parts) requests

pub left_next : {inside : Bool} {bytes : List ℕ} {place : ℕ} {part : Part} {request : Request} (more : List Request) → Ones → IsUnit inside bytes place part request → AreLeft inside bytes (place + 1) more
    → AreLeft inside bytes place (request ∷ more)
left_next {inside} {bytes} {place} {part} {request} more o u left = λ parts are. rw (← o.units bytes u.units parts u.are are) (λ path leads.
    let at : u.path ≡ path = one_end o inside (take place u.units) [] u.path path (passes u.leads) (passes leads) in
    let is : IsRequest inside (path_at path part) part request u.next = rw (← at) u.reads in
    let front : take place u.units ++ part ∷ [] ≡ take (place + 1) u.units = sym (take-add place 1 u.units ∙ ap (λ (l : List Part). take place u.units ++ take 1 l) u.here) in
    let behind : drop (place + 1) u.units ≡ u.after = sym (drop-drop 1 place u.units) ∙ ap (drop 1) u.here in
    rw u.here (request, more, u.next, is, rw (← behind) (left u.units u.are u.next (rw (← front) (Behind leads part request u.next is))), refl))

pub left_none : {inside : Bool} {bytes : List ℕ} {place : ℕ} → Ones → IsBehind bytes place → AreLeft inside bytes place []
left_none {inside} {bytes} {place} o (units, are, short) = λ parts are_too path leads.
    let none : drop place parts ≡ [] = drop_all place parts (rw (← o.units bytes units parts are are_too) short) in rw none refl

pub left_all : {inside : Bool} {bytes : List ℕ} {requests : List Request} → SomeUnits → AreLeft inside bytes 0 requests → AreAsked inside bytes requests
left_all {bytes = bytes} some left = let parts = some bytes in (parts.0, parts.1, left parts.0 parts.1 [] Root)

-- ---- what is executed

-- the requests from a place on
abbrev pub AskedFrom : Source → ℕ → List Request → Type 0
AskedFrom (units.Text bytes) place requests = AreLeft false bytes place requests
AskedFrom (Fault error) place requests = requests ≡ drop place (faulty error ∷ [])

pub asked_next : Ones → (source : Source) (place : ℕ) (request : Request) (first : Bool) (more : List Request) → Asks source place request first → AskedFrom source (place + 1) more → AskedFrom source place (request ∷ more)
asked_next o (units.Text bytes) place request first more (part, u, e) left = left_next more o u left
asked_next o (Fault error) place request first more (none, is, e) left =
    subst (λ (n : ℕ). request ∷ more ≡ drop n (faulty error ∷ [])) (sym none) (cc (is, left ∙ ap (λ (n : ℕ). drop (n + 1) (faulty error ∷ [])) none))

pub asked_none : Ones → (source : Source) (place : ℕ) → HasNone source place → AskedFrom source place []
asked_none o (units.Text bytes) place over = left_none o over
asked_none o (Fault error) place over = sym (drop_all place (faulty error ∷ []) (omega (arith, over)))

pub asked_all : SomeUnits → (source : Source) (requests : List Request) → AskedFrom source 0 requests → AskedBy source requests
asked_all some source requests left = grind (arith, left_all)
