use Rattle.std.proofs.Common.{◌≡◌, ◌++◌, ◌-◌, ◌+◌, ◌≤◌, ℕ, List, length, take, drop, subst, Result, Ok, Err, IfOk, rules}
use Rattle.psu_hislip.specs.Channel.{Moves}
use Rattle.psu_hislip.specs.Channel.Awaited.{Partial}
use Rattle.psu_hislip.specs.Rest.{awaited, given}
use Rattle.psu_hislip.proofs.Channels.{moves_headed}
use Rattle.psu_hislip.proofs.step.header.Goals as goal

if_both : {X Y : Type 0} (r : Result X Y) (P Q R : X → Type 0) → ((x : X) → P x → Q x → R x) → IfOk r P → IfOk r Q → IfOk r R
if_both (Ok x) P Q R f p q = f x p q
if_both (Err e) P Q R f p q = p

pub returns-in-Ok-clause-moves : goal.returns-in-Ok-clause-moves
returns-in-Ok-clause-moves g c =
    let head = c.args.head.items in
    let piece = c.args.piece.now in
    let bytes = c.in-Ok.bytes in
    let after = c.split_at.result.1.now in
    let n = c.min-used.result in
    let is : bytes ≡ head ++ take n piece = search rules in
    if_both c.headed.result
    (λ step. (n ≤ step.used) × (step.used ≤ n + length after))
    (λ step. Moves (Partial bytes) (take (step.used - n) after) (given step.message) (awaited step.rest))
    (λ step. Moves (Partial head) (take step.used piece) (given step.message) (awaited step.rest))
    (λ step used moves. moves_headed head bytes piece n step.used (given step.message) (awaited step.rest) is used.0
    (subst (λ (z : List ℕ). Moves (Partial bytes) (take (step.used - n) z) (given step.message) (awaited step.rest)) {y = drop n piece} c.split_at.ensures.back moves))
    c.headed.ensures.used c.headed.ensures.moves
