use Rattle.std.proofs.Common.{◌+◌, ◌-◌, ◌/◌, ◌<◌, ◌≡◌, length, map, sym, ◌∙◌, arith}
use Rattle.std.proofs.lemmas.List.{length-map}
use Rattle.psu_map.proofs.Keys.{same_by_order}
use Rattle.psu_map.proofs.Sorted.{at_key, below_too}
use Rattle.psu_map.proofs.search.find.Goals as goal

pub loop-low-preserved-in-Less : goal.loop-low-preserved-in-Less
loop-low-preserved-in-Less g c =
    let low = c.loop-low.low in
    let high = c.loop-low.high in
    let items = map g.T.Keyed.item c.args.things.now in
    let most = c.loop-low.invariant.1 in
    let less = c.loop-low-test.true in
    let many : length items ≡ length c.args.things.now = length-map c.args.things.now g.T.Keyed.item in
    let inside : low + (high - low) / 2 < high = omega (arith, less) in
    let within : low + (high - low) / 2 < length items = omega (arith, many, most, inside) in (
      omega (arith, inside),
      most,
      below_too items c.args.key.now (low + (high - low) / 2) c.requires within (sym c.order.ensures ∙ c.in-Less.is),
      c.loop-low.invariant.3,
      c.loop-low.invariant.4,
    )

pub returns-in-Equal-clause-found : goal.returns-in-Equal-clause-found
returns-in-Equal-clause-found g c =
    let low = c.loop-low.low in
    let high = c.loop-low.high in
    let items = map g.T.Keyed.item c.args.things.now in
    let most = c.loop-low.invariant.1 in
    let less = c.loop-low-test.true in
    let many : length items ≡ length c.args.things.now = length-map c.args.things.now g.T.Keyed.item in
    let inside : low + (high - low) / 2 < high = omega (arith, less) in
    at_key items c.args.key.now (low + (high - low) / 2) c.requires (omega (arith, many, most, inside)) (same_by_order _ _ (sym c.order.ensures ∙ c.in-Equal.is))
