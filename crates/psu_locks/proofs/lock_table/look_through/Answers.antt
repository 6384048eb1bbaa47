use Rattle.std.proofs.Common.{◌≡◌, ◌<◌, ◌∙◌, List, true, length, get_or, sym, ap, subst, arith, rules}
use Rattle.std.proofs.lemmas.List.{get_or_default}
use Rattle.psu_locks.specs.declared.requests.LockRequest.{LockRequest}
use Rattle.psu_locks.specs.Locks.{can_grant}
use Rattle.psu_locks.proofs.Looking.{left}
use Rattle.psu_locks.proofs.lock_table.look_through.Goals as goal

pub loop-turn-preserved-then-can_grant : goal.loop-turn-preserved-then-can_grant
loop-turn-preserved-then-can_grant c =
    let waiting : List LockRequest = c.loop-turn.waiting.items in
    let before : c.loop-turn.at < length waiting = let so_far = c.loop-turn.invariant.left in omega arith in
    let is : (d : LockRequest) → c.remove-request.result ≡ get_or waiting c.loop-turn.at d =
    λ d. c.remove-request.ensures.value ∙ get_or_default waiting c.loop-turn.at _ d before in
    let same : c.index-deref-at.result ≡ c.remove-request.result =
    c.index-deref-at.is ∙ ap (λ (l : List LockRequest). get_or l c.loop-turn.at c.index-deref-at.result) (search rules) ∙ sym (is c.index-deref-at.result) in
    let grant : can_grant c.loop-turn.holders c.remove-request.result.session c.remove-request.result.kind ≡ true =
    subst (λ (r : LockRequest). can_grant c.loop-turn.holders r.session r.kind ≡ true) same (sym c.can_grant.ensures ∙ c.if-can_grant.true) in
    record {
      looked = rw (c.put.ensures, c.remove-request.ensures.items, c.push.ensures)
          (left _ c.loop-turn.holders _ waiting c.loop-turn.sessions c.loop-turn.at c.loop-turn.invariant.looked before c.remove-request.result is grant);
      left = let so_far = c.loop-turn.invariant.left in omega (arith, c.remove-request.ensures.len);
    }
