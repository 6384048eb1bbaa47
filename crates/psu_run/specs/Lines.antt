-- The input of a run: what is read of it, its lines, and the requests of a line.
use Rattle.std.specs.Prelude.{◌≡◌, ◌⊎◌, ℕ, ◌+◌, ◌-◌, ◌^◌, ◌*◌, ◌<◌, ◌≤◌, ◌==◌, nat_lt, Bool, false, List, [], ◌∷◌, length, Option, Some, None, Result, IfSome, MatchResult, if◌then◌else◌, codes, map, ⊤}
use Rattle.std.specs.Io.KnownBytes.{Consumes, IsAtEnd}
use Rattle.std.specs.List.{list_any}
use Rattle.std.specs.Str.{bytes_eq}
use Rattle.psu_lex.specs.Message.{Part, IsMessage}
use Rattle.psu_lex.specs.declared.scpi_error.ScpiError.TheVariants.{TooMuchData}
use Rattle.psu_tree.specs.declared.command.Request.{Request}
use Rattle.psu_messages.specs.Units.{Fault, IsRequest, Source, Text, faulty, path_at}

-- ---- counts

-- The count grew by `n`. A count saturates at 2 ^ 64 - 1, and is exact below it.
abbrev pub GrewBy : ℕ → ℕ → ℕ → Type 0
GrewBy n old new = (new ≤ old + n) × (new < 2 ^ 64 - 1 → new ≡ old + n)

-- ---- reads

-- What is counted of a reader: the reads made, those that returned bytes and those that failed, and how many bytes they
-- asked for in all.
pub record Reads : Type 0 where
  pub made : ℕ
  pub filled : ℕ
  pub failed : ℕ
  pub asked : ℕ

-- these reads were made, by the counts of a reader that counts them
abbrev pub Counts : Reads → Option Reads → Option Reads → Type 0
Counts more None new = ⊤
Counts more (Some old) None = ⊥
Counts more (Some old) (Some new) = GrewBy more.made old.made new.made × GrewBy more.filled old.filled new.filled
    × GrewBy more.failed old.failed new.failed × GrewBy more.asked old.asked new.asked

-- reads of a run: each asks for the 65,536 bytes that its buffer has room for
abbrev pub reads_of : ℕ → ℕ → ℕ → Reads
reads_of made filled failed = record { made = made; filled = filled; failed = failed; asked = made * 65536 }

-- One read was made, which asked for `room` bytes. It returned bytes where its result is a number other than 0, and failed
-- where it is an error.
abbrev pub CountsRead : {E : Type 0} → ℕ → Option Reads → Option Reads → Result ℕ E → Type 0
CountsRead room old new result = let one : ℕ → ℕ → Reads = λ filled failed. record { made = 1; filled = filled; failed = failed; asked = room } in
    MatchResult result (λ n. (n ≡ 0 → Counts (one 0 0) old new) × (1 ≤ n → Counts (one 1 0) old new)) (λ _. Counts (one 0 1) old new)

-- What was read of an input: `made` reads were made, `filled` of them returned bytes, at least one each, `failed` of them
-- failed, and `bytes` are these bytes. The bytes are constrained where the reader's bytes are known, and the reads where
-- they are counted.
pub record HasRead (made filled failed : ℕ) (bytes : List ℕ) (old_rest new_rest : Option (List ℕ)) (old_reads new_reads : Option Reads) : Type 0 where
  pub taken : Consumes old_rest new_rest bytes
  pub counted : Counts (reads_of made filled failed) old_reads new_reads
  pub each : filled ≤ length bytes

-- Too long: more than 16,777,216 bytes were read, or 1,048,576 reads were made, and each read returned bytes.
abbrev pub IsTooLong : Option (List ℕ) → Option (List ℕ) → Option Reads → Option Reads → Type 0
IsTooLong old_rest new_rest old_reads new_reads = (made : ℕ) × (bytes : List ℕ)
    × HasRead made made 0 bytes old_rest new_rest old_reads new_reads
    × ((16777216 < length bytes) ⊎ (made ≡ 1048576))

-- The input was read to its end, and is not too long: it has at most 16,777,216 bytes, and of at most 1,048,576 reads
-- the last found the end, and each of the others returned bytes.
abbrev pub IsReadToEnd : Option (List ℕ) → Option (List ℕ) → Option Reads → Option Reads → Type 0
IsReadToEnd old_rest new_rest old_reads new_reads = (filled : ℕ) × (bytes : List ℕ)
    × HasRead (filled + 1) filled 0 bytes old_rest new_rest old_reads new_reads
    × (filled + 1 ≤ 1048576) × (length bytes ≤ 16777216) × IsAtEnd new_rest

-- The last read failed, each before it returned bytes, and what was read is not too long.
abbrev pub IsReadUpToFault : Option (List ℕ) → Option (List ℕ) → Option Reads → Option Reads → Type 0
IsReadUpToFault old_rest new_rest old_reads new_reads = (filled : ℕ) × (bytes : List ℕ)
    × HasRead (filled + 1) filled 1 bytes old_rest new_rest old_reads new_reads
    × (filled + 1 ≤ 1048576) × (length bytes ≤ 16777216)

-- At most 1,048,576 reads were made, `failed` of which failed, and what was read exceeds 16,777,216 bytes by at most one
-- read of 65,536 bytes. So once the input is too long, no further read is made.
abbrev pub ReadsNoFurther : ℕ → Option (List ℕ) → Option (List ℕ) → Option Reads → Option Reads → Type 0
ReadsNoFurther failed old_rest new_rest old_reads new_reads = (made : ℕ) × (filled : ℕ) × (bytes : List ℕ)
    × HasRead made filled failed bytes old_rest new_rest old_reads new_reads
    × (made ≤ 1048576) × (length bytes ≤ 16777216 + 65536)

-- ---- lines

-- the parts of a text, each ended by a byte; the last may lack it
abbrev pub first_onto : ℕ → List (List ℕ) → List (List ℕ)
first_onto x [] = (x ∷ []) ∷ []
first_onto x (part ∷ parts) = (x ∷ part) ∷ parts

abbrev pub parts_of : ℕ → List ℕ → List (List ℕ)
parts_of end [] = []
parts_of end (x ∷ xs) = if x == end then [] ∷ parts_of end xs else first_onto x (parts_of end xs)

abbrev pub has : ℕ → List ℕ → Bool
has end xs = list_any (λ x. x == end) xs

-- A line of the input, without its line feed: a power loss at rest, or what is executed.
pub data Message : Type 0 where
  Power : Message
  Line : (source : Source) → Message

-- what is executed of a line: its bytes, or the error that they are more than 65,536
abbrev pub source_of : List ℕ → Source
source_of line = if nat_lt 65536 (length line) then Fault TooMuchData else Text line

abbrev pub message_of : List ℕ → Message
message_of line = if bytes_eq line (codes "!POWER") then Message.Power else Message.Line (source_of line)

-- the messages of an input; the last may lack its line feed
abbrev pub messages : List ℕ → List Message
messages input = map message_of (parts_of 10 input)

-- the messages that an input brings: those of its bytes where they are known, otherwise any
abbrev pub Brings : Option (List ℕ) → List Message → Type 0
Brings input due = IfSome input (λ bytes. due ≡ messages bytes)

-- ---- requests

-- the requests of units, read one after another from a path, in an expansion or outside
abbrev pub AreRequests : Bool → List (List ℕ) → List Part → List Request → Type 0
AreRequests inside path [] requests = requests ≡ []
AreRequests inside path (part ∷ parts) requests =
    (request : Request) × (more : List Request) × (next : List (List ℕ))
    × IsRequest inside (path_at path part) part request next × AreRequests inside next parts more × (requests ≡ request ∷ more)

-- the requests of some bytes, read from the root of the tree
abbrev pub AreAsked : Bool → List ℕ → List Request → Type 0
AreAsked inside bytes requests = (units : List Part) × IsMessage bytes units × AreRequests inside [] units requests

-- the requests of what is executed of a line
abbrev pub AskedBy : Source → List Request → Type 0
AskedBy (Text bytes) requests = AreAsked false bytes requests
AskedBy (Fault error) requests = requests ≡ faulty error ∷ []
