use Rattle.std.proofs.Common.{◌≡◌, take}
use Rattle.std.specs.List.{list_any}
use Rattle.psu_locks.proofs.holders.Holders.is_shared.Given as goal

abbrev pub invariant-loop-place : goal.invariant-loop-place
invariant-loop-place l = l.some ≡ list_any (λ flag. flag) (take l.place l.self.sharers)
