-- What a thread's calls of the device cause for other threads, as it is reported to them.
use Rattle.std.specs.Prelude.{◌≡◌, ℕ, Bool, true, false, List, [], ◌∷◌, ◌++◌}
use Rattle.psu_locks.specs.declared.results.Grant.{Grant}
use Rattle.psu_bench.specs.declared.caused.Caused.{Caused}
use Rattle.psu_bench.specs.declared.caused.CausedByJob.{CausedByJob}

-- a report to the other threads
pub data Report : Type 0 where
  -- these sessions request service
  ServiceRequested : (sessions : List ℕ) → Report
  -- the flusher has something to do
  FlusherWoken : Report
  -- a job has ended, and with it the waits of these sessions
  JobEnded : (over : List ℕ) → Report

-- a result that is passed on to sessions
pub record Passed : Type 0 where
  pub sessions : List ℕ
  pub grant : Grant

-- Exactly these reports are made, one after another, each leading from one state of the other threads to the next.
abbrev pub Reports : {X : Type 0} → (X → Report → X → Type 0) → X → List Report → X → Type 0
Reports tells old [] new = new ≡ old
Reports {X} tells old (report ∷ more) new = (mid : X) × tells old report mid × Reports tells mid more new

-- one report that these sessions request service, if there are any
abbrev pub service_reports : List ℕ → List Report
service_reports [] = []
service_reports (session ∷ more) = ServiceRequested (session ∷ more) ∷ []

-- one report to the flusher, if it is to be woken
abbrev pub flusher_reports : Bool → List Report
flusher_reports true = FlusherWoken ∷ []
flusher_reports false = []

-- the reports of what a call has caused
abbrev pub reports_of : Caused → List Report
reports_of caused = service_reports caused.requesting ++ flusher_reports caused.wakes_flusher

-- the reports of what the end of a job has caused
abbrev pub reports_of_job : CausedByJob → List Report
reports_of_job caused = JobEnded caused.over ∷ service_reports caused.requesting
