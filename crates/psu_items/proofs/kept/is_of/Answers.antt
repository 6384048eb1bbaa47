use Rattle.std.proofs.Common.{◌≡◌, length, sym, ◌∙◌, ap, arith}
use Rattle.std.proofs.lemmas.Bool.Decides.{nat_tests}
use Rattle.psu_map.specs.Target.{Entry, item_in}
use Rattle.psu_items.proofs.Keeping.{has_it, size_of}
use Rattle.psu_items.proofs.kept.is_of.Goals as goal

pub returns-then-same_key : goal.returns-then-same_key
returns-then-same_key g c =
    let heads = c.args.heads.now in
    let item = item_in c.args.entry.now in
    let head = c.index-heads-at.result in
    let entry = c.entry.inside in
    let key : head.key ≡ item.key = sym c.key.ensures ∙ c.same_key.ensures.0 c.if-same_key.true ∙ ap (λ (e : Entry). e.key) c.entry.view_is in
    let value : length entry.value.now ≡ length item.value = ap (λ (e : Entry). length e.value) c.entry.view_is in
    let size = c.size.ensures in (
      λ same. has_it heads item c.args.at head c.index-heads-at.is c.requires key (let is : c.size.result ≡ length entry.value.now = grind (arith, nat_tests, same) in sym size ∙ is ∙ value),
      λ has. let is : c.size.result ≡ length entry.value.now = size ∙ size_of heads item c.args.at head c.index-heads-at.is has ∙ sym value in grind (arith, nat_tests, is),
    )
