use Rattle.std.proofs.Common.{◌≡◌, ◌-◌, ◌≤◌, ℕ, List, [], ◌∷◌, length, take, drop, get_or, ◌∙◌, ap, arith}
use Rattle.std.proofs.lemmas.List.{take_all}
use Rattle.psu_pages.specs.Image.{head_on, head_after}
use Rattle.psu_pages.proofs.head.Head.on.Given.{Over}
use Rattle.psu_pages.proofs.head.Head.on.Goals.{After-after}
use Rattle.psu_pages.proofs.head.Head.on.Goals as goal

parts : (at : ℕ) (page key rest : List ℕ) → 1 ≤ length page → key ≡ take (get_or page 0 0) (take (length page - 1) (drop 1 page)) → rest ≡ drop (get_or page 0 0) (take (length page - 1) (drop 1 page)) → head_after at key rest ≡ head_on at page
parts at [] key rest some front back = absurd (omega arith)
parts at (n ∷ bytes) key rest some front back =
    let all = take_all (length (n ∷ bytes) - 1) bytes (omega arith) in
    ap (λ (k : List ℕ). head_after at k rest) (front ∙ ap (take n) all) ∙ ap (head_after at (take n bytes)) (back ∙ ap (drop n) all)

is : (g : Over) (c : After-after g) → head_after c.args.at c.split_at.result.0.now c.split_at.result.1.now ≡ head_on c.args.at c.args.page.now
is g c = parts c.args.at c.args.page.now c.split_at.result.0.now c.split_at.result.1.now c.in-len1-up.len_at_least c.split_at.ensures.front c.split_at.ensures.back

pub returns-else-n-gt65-clause-found : goal.returns-else-n-gt65-clause-found
returns-else-n-gt65-clause-found g c = rw (← is g c) c.after.ensures.found

pub returns-else-n-gt65-clause-none : goal.returns-else-n-gt65-clause-none
returns-else-n-gt65-clause-none g c = rw (← is g c) c.after.ensures.none

pub returns-else-n-gt65-clause-memory : goal.returns-else-n-gt65-clause-memory
returns-else-n-gt65-clause-memory g c = rw (← is g c) c.after.ensures.memory
