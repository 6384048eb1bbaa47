-- Sequential histories: the calls of all seats, in the order in which the object answered them.
use Rattle.std.specs.Prelude.{◌≡◌, ℕ, List, [], ◌∷◌, ◌++◌, ◌==◌, if◌then◌else◌}
use Rattle.psu_turn.specs.declared.numbered.Numbered.{Numbered}

-- the entry of the seat of this number
abbrev pub numbered : {E : Type 0} → ℕ → E → Numbered E
numbered k e = record { seat = k; entry = e }

-- the calls of one seat
abbrev pub calls_by : {E : Type 0} → ℕ → List (Numbered E) → List E
calls_by k [] = []
calls_by k (x ∷ xs) = if x.seat == k then x.entry ∷ calls_by k xs else calls_by k xs

-- what was seen is a prefix of the history
abbrev pub StartsWith : {X : Type 0} → List X → List X → Type 0
StartsWith {X} history seen = (rest : List X) × (history ≡ seen ++ rest)

module _ {S E : Type 0} (allows : S → E → S → Type 0) where
  -- there are states in between, from the first to the last, such that each call may have its reply
  abbrev pub HistoryLeads : S → List (Numbered E) → S → Type 0
  HistoryLeads first [] last = first ≡ last
  HistoryLeads first (x ∷ xs) last = (next : S) × allows first x.entry next × HistoryLeads next xs last

  -- the history is legal: it leads to some state
  abbrev pub IsLegal : S → List (Numbered E) → Type 0
  IsLegal first history = (last : S) × HistoryLeads first history last
