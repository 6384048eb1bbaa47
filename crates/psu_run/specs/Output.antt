-- The output of a run: what is written, what is buffered, and which writes failed.
use Rattle.std.specs.Prelude.{◌≡◌, ◌≢◌, ℕ, ◌+◌, ◌<◌, ◌≤◌, Option, Some, None, List, ◌++◌, length, Result, ⊤, MatchResult}
use Rattle.std.specs.Io.{StartsWith}
use Rattle.std.specs.Io.KnownBytes.{Appends}
use Rattle.psu_run.specs.declared.run_cause.RunCause.{RunCause}
use Rattle.psu_run.specs.declared.run_cause.RunCause.TheVariants.{Write}
use Rattle.psu_run.specs.Lines.{GrewBy}

-- ---- writes

-- What a writer holds: the bytes that were written, where they are known, and how many writes failed, where that is counted.
pub record Written : Type 0 where
  pub bytes : Option (List ℕ)
  pub failed : Option ℕ

-- so many more writes failed, by the count of a writer that counts them
abbrev pub Fails : ℕ → Option ℕ → Option ℕ → Type 0
Fails n None new = ⊤
Fails n (Some old) None = ⊥
Fails n (Some old) (Some new) = GrewBy n old new

-- One write. It failed where its result is an error, or 0: then the writer takes no more.
abbrev pub CountsWrite : {E : Type 0} → Option ℕ → Option ℕ → Result ℕ E → Type 0
CountsWrite old new result = MatchResult result (λ n. (n ≡ 0 → Fails 1 old new) × (1 ≤ n → Fails 0 old new)) (λ _. Fails 1 old new)

-- the text was written, and no write failed
pub record Writes (old new : Written) (text : List ℕ) : Type 0 where
  pub bytes : Appends old.bytes new.bytes text
  pub failed : Fails 0 old.failed new.failed

-- A proper prefix of the text was written, and one write failed.
pub record WritesShort (old new : Written) (text : List ℕ) : Type 0 where
  pub front : List ℕ
  pub bytes : Appends old.bytes new.bytes front
  pub failed : Fails 1 old.failed new.failed
  pub starts : StartsWith text front
  pub short : length front < length text

-- ---- the output

-- What the writer holds, and the text that is buffered after it.
pub record OutputState : Type 0 where
  pub written : Written
  pub gathered : List ℕ

abbrev pub held : Written → List ℕ → OutputState
held written text = record { written = written; gathered = text }

-- the output grew by `more`, whether written or buffered
abbrev pub Says : OutputState → OutputState → List ℕ → Type 0
Says old new more = (front : List ℕ) × Writes old.written new.written front × (front ++ new.gathered ≡ old.gathered ++ more)

-- what is buffered is one text that was sent, after at most 65,536 bytes
abbrev pub HoldsLittle : OutputState → List ℕ → Type 0
HoldsLittle output sent = length output.gathered ≤ 65536 + length sent

-- At an end, `more` was still to be output. It is output, except where the writer failed: then some of it is missing.
pub record SaysUntil (end : Option RunCause) (old new : OutputState) (more : List ℕ) : Type 0 where
  pub whole : end ≢ Some Write → Says old new more
  pub missing : end ≡ Some Write → WritesShort old.written new.written (old.gathered ++ more)
