use Rattle.std.proofs.Common.{◌∙◌, List, ap, subst, false}
use Rattle.psu_map.specs.Map.{put}
use Rattle.psu_map.specs.Place.{IsAt, IsGap}
use Rattle.psu_map.specs.Target.{Aim, Entry, aimed, items_in, standing}
use Rattle.psu_map.proofs.Aiming.{insert_holds, put_at, put_in, set_holds}
use Rattle.psu_map.proofs.Keeping.{stands_set, stands_insert}
use Rattle.psu_map.proofs.target.Target.put.Goals as goal

pub invariant_of-self : goal.invariant_of-self
invariant_of-self g c =
    let s = c.self.inside in
    let found = subst (λ (entries : List Entry). IsAt (items_in entries) c.args.key.now c.in-Ok.at) c.deref.ensures.value c.in-Ok.ensures.found in
    set_holds s.before.now s.entries.items c.self.invariant.0 c.self.invariant.1 c.args.key.now c.in-Ok.at c.args.value.now c.index.result.now c.stands_with-stands.result found c.index.ensures c.stands_with-stands.ensures.0

pub returns-in-Ok-clause-aimed : goal.returns-in-Ok-clause-aimed
returns-in-Ok-clause-aimed g c =
    let s = c.self.inside in
    let found = subst (λ (entries : List Entry). IsAt (items_in entries) c.args.key.now c.in-Ok.at) c.deref.ensures.value c.in-Ok.ensures.found in
    put_at s.before.now s.entries.items c.self.invariant.0 c.self.invariant.1 c.args.key.now c.in-Ok.at (record { key = c.args.key.now; value = c.args.value.now; stands = c.stands_with-stands.result }) found
    ∙ ap (λ (aim : Aim). put (aimed aim) c.args.key.now c.args.value.now) c.self.view_is

pub invariant_of-self-in-Err : goal.invariant_of-self-in-Err
invariant_of-self-in-Err g c =
    let s = c.self.inside in
    let gap = subst (λ (entries : List Entry). IsGap (items_in entries) c.args.key.now c.in-Err.at) c.deref.ensures.value c.in-Err.ensures.absent in
    insert_holds s.before.now s.entries.items c.self.invariant.0 c.self.invariant.1 c.args.key.now c.in-Err.at c.args.value.now c.insert.new.self.items gap c.in_ok-insert-in-Err.ensures.items

pub returns-in_ok-insert-in-Err-clause-aimed : goal.returns-in_ok-insert-in-Err-clause-aimed
returns-in_ok-insert-in-Err-clause-aimed g c =
    let s = c.self.inside in
    let gap = subst (λ (entries : List Entry). IsGap (items_in entries) c.args.key.now c.in-Err.at) c.deref.ensures.value c.in-Err.ensures.absent in
    ap items_in c.in_ok-insert-in-Err.ensures.items
    ∙ put_in s.before.now s.entries.items c.self.invariant.0 c.self.invariant.1 c.args.key.now c.in-Err.at (record { key = c.args.key.now; value = c.args.value.now; stands = false }) gap
    ∙ ap (λ (aim : Aim). put (aimed aim) c.args.key.now c.args.value.now) c.self.view_is

pub returns-in-Ok-clause-standing : goal.returns-in-Ok-clause-standing
returns-in-Ok-clause-standing g c = λ other its stood same.
    let s = c.self.inside in
    let found = subst (λ (entries : List Entry). IsAt (items_in entries) c.args.key.now c.in-Ok.at) c.deref.ensures.value c.in-Ok.ensures.found in
    let before = ap (λ (aim : Aim). standing aim.entries other) c.self.view_is ∙ stood in
    stands_set s.entries.items c.args.key.now c.in-Ok.at other its before c.args.value.now c.index.result.now c.stands_with-stands.result found c.index.ensures c.stands_with-stands.ensures.1 same

pub returns-in_ok-insert-in-Err-clause-standing : goal.returns-in_ok-insert-in-Err-clause-standing
returns-in_ok-insert-in-Err-clause-standing g c = λ other its stood same.
    let s = c.self.inside in
    let gap = subst (λ (entries : List Entry). IsGap (items_in entries) c.args.key.now c.in-Err.at) c.deref.ensures.value c.in-Err.ensures.absent in
    let before = ap (λ (aim : Aim). standing aim.entries other) c.self.view_is ∙ stood in
    ap (λ (entries : List Entry). standing entries other) c.in_ok-insert-in-Err.ensures.items ∙ stands_insert s.entries.items c.args.key.now c.in-Err.at other its before c.args.value.now false gap c.self.invariant.0
