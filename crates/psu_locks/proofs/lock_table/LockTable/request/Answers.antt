use Rattle.std.proofs.Common.{rules, ◌≡◌, true, false, arith}
use Rattle.psu_locks.specs.Locks.{can_grant, waits}
use Rattle.psu_locks.proofs.WaitingRequests.{room}
use Rattle.psu_locks.proofs.Settled.{granted_one, queued_one}
use Rattle.psu_locks.proofs.lock_table.LockTable.request.Goals as goal

pub push-requires : goal.push-requires
push-requires c =
    let alone : waits c.self.inside.waiting.items c.args.session ≡ false = search rules in
    let fits = room c.self.inside.waiting.items c.args.session c.self.invariant.one_each alone c.waits.ensures.in_range.0 c.waits.ensures.in_range.1 in
    omega (arith, fits)

pub invariant_of-self : goal.invariant_of-self
invariant_of-self c =
    let alone : waits c.self.inside.waiting.items c.args.session ≡ false = search rules in
    let grant : can_grant c.self.inside.holders c.args.session c.args.kind ≡ true = search rules in
    rw c.put.ensures (granted_one c.self.inside.holders c.self.inside.waiting.items c.self.inside.latest _ _ _ c.self.invariant alone c.waits.ensures.in_range.0 grant)

pub invariant_of-self-2 : goal.invariant_of-self-2
invariant_of-self-2 c =
    let alone : waits c.self.inside.waiting.items c.args.session ≡ false = search rules in
    let none : can_grant c.self.inside.holders c.args.session c.args.kind ≡ false = search rules in
    rw c.push.ensures.items (queued_one c.self.inside.holders c.self.inside.waiting.items c.self.inside.latest _ _ c.self.invariant alone c.waits.ensures.in_range.0 c.waits.ensures.in_range.1 none)

pub returns-clause-settled : goal.returns-clause-settled
returns-clause-settled c = invariant_of-self-2 c

pub returns-then-can_grant-clause-settled : goal.returns-then-can_grant-clause-settled
returns-then-can_grant-clause-settled c = invariant_of-self c
