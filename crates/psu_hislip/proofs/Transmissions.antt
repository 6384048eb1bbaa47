-- A transmission is the payloads of its frames.
use Rattle.std.proofs.Common.{◌≡◌, ℕ, Option, Some, None, List, [], ◌∷◌, ◌++◌, length, sym, ap, ◌∙◌, arith, inl, inr, append_assoc, length-append, if◌then◌else◌, nat_lt}
use Rattle.std.proofs.lemmas.Bool.{cases_lt, lt-ltb, le-ltb}
use Rattle.std.proofs.lemmas.List.{append-nil}
use Rattle.psu_hislip.specs.Action.{Act}
use Rattle.psu_hislip.specs.declared.action.Origin.{Origin}
use Rattle.psu_hislip.specs.Answer.{joined}
use Rattle.psu_hislip.specs.PartialTransmission.{added, all_added, executed}

-- these bytes, or none where they are too many
abbrev kept : List ℕ → Option (List ℕ)
kept text = if nat_lt 65536 (length text) then None else Some text

added-kept : (text more : List ℕ) → added (kept text) more ≡ kept (text ++ more)
added-kept text more =
    elim (cases_lt 65536 (length text)) [
      | inl long ↦ rw (lt-ltb 65536 (length text) long, lt-ltb 65536 (length (text ++ more)) (omega (arith, long, length-append text more)))
      | inr short ↦ rw (le-ltb 65536 (length text) short, length-append text more)
    ]

all_added-kept : (text : List ℕ) (payloads : List (List ℕ)) → all_added (kept text) payloads ≡ kept (text ++ joined payloads)
all_added-kept text [] = ap kept (sym (append-nil text))
all_added-kept text (p ∷ ps) =
    ap (λ z. all_added z ps) (added-kept text p) ∙ all_added-kept (text ++ p) ps ∙ ap kept (append_assoc text p (joined ps))

executed-kept : (origin : Origin) (text : List ℕ) → executed origin (kept text) ≡ (if nat_lt 65536 (length text) then Act.TooMuch origin else Act.Execute origin text)
executed-kept origin text =
    elim (cases_lt 65536 (length text)) [
      | inl long ↦ rw (lt-ltb 65536 (length text) long)
      | inr short ↦ rw (le-ltb 65536 (length text) short)
    ]

pub whole_transmission : (origin : Origin) (payloads : List (List ℕ)) (last : List ℕ) → executed origin (added (all_added (Some []) payloads) last)
    ≡ (if nat_lt 65536 (length (joined payloads ++ last)) then Act.TooMuch origin else Act.Execute origin (joined payloads ++ last))
whole_transmission origin payloads last =
    ap (λ z. executed origin (added z last)) (all_added-kept [] payloads) ∙ ap (executed origin) (added-kept (joined payloads) last) ∙ executed-kept origin (joined payloads ++ last)
