use Rattle.std.proofs.Common.{◌≡◌, ◌∙◌, ◌∷◌, ◌+◌, Some, ap, sym, subst, drop}
use Rattle.std.proofs.lemmas.List.{drop_more}
use Rattle.psu_map.proofs.Lists.{all_at}
use Rattle.psu_map.specs.Batch.{Edit, changed}
use Rattle.psu_map.specs.Target.{aimed}
use Rattle.psu_map.proofs.target.Target.make_all.Goals as goal

pub loop-edit-preserved : goal.loop-edit-preserved
loop-edit-preserved g c =
    let l = c.loop-edit in
    let n = l.edit-index in
    let edits = c.args.edits.now in
    let edit = c.edit-item.result in
    let make = c.in_ok-make.ensures in
    let next : edit ∷ drop (n + 1) edits ≡ drop n edits = ap (λ (e : Edit). e ∷ drop (n + 1) edits) c.edit-item.is ∙ sym (drop_more edits n edit c.loop-edit-test.true) in
    record {
      before = make.before ∙ l.invariant.before;
      aimed = ap (λ m. changed m (drop (n + 1) edits)) make.aimed ∙ ap (changed (aimed l.self)) next ∙ l.invariant.aimed;
      standing = λ key value had keeps.
          let its : edit.key ≡ key → edit.value ≡ Some value = subst (λ (e : Edit). e.key ≡ key → e.value ≡ Some value) (sym c.edit-item.is) (all_at (λ (e : Edit). e.key ≡ key → e.value ≡ Some value) edits n edit c.loop-edit-test.true keeps) in
          make.standing key value (l.invariant.standing key value had keeps) its;
    }
