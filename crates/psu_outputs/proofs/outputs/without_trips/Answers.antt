use Rattle.std.proofs.Common.{◌≡◌, ℕ, ◌<◌, List, length, map, get_or, set, refl, sym, ◌∙◌, ap, arith}
use Rattle.std.proofs.lemmas.List.{get_or-map, length-map}
use Rattle.psu_outputs.specs.declared.supply.Supply.{Supply}
use Rattle.psu_outputs.specs.Outputs.{without_trip}
use Rattle.psu_outputs.proofs.Blank.{blank}
use Rattle.psu_outputs.proofs.Written.{all_written, next_is, one_more, written}
use Rattle.psu_outputs.proofs.outputs.without_trips.Goals as goal

pub loop-place-init : goal.loop-place-init
loop-place-init c = refl

pub loop-place-preserved : goal.loop-place-preserved
loop-place-preserved c =
    let k : ℕ = c.loop-place.place in
    let old = c.args.supplies in
    let new = map without_trip old in
    let lt = c.loop-place-test.true in
    let inside : k < length old = omega (arith, lt, c.requires.0) in
    let long : k < length new = rw (length-map old without_trip) inside in
    ap (λ (l : List Supply). set l k (without_trip (get_or l k blank))) c.loop-place.invariant
    ∙ ap (λ (s : Supply). set (written k new old) k (without_trip s)) (next_is k new old blank long inside)
    ∙ ap (set (written k new old) k) (sym (get_or-map without_trip old k blank blank inside))
    ∙ one_more k new old blank long inside

pub returns : goal.returns
returns c =
    let end : c.loop-place.place ≡ 4 = let most = c.loop-place.auto.place-end in let least = c.loop-place-test.false in omega (arith, most, least) in
    let same = length-map c.args.supplies without_trip in
    c.loop-place.invariant ∙ all_written c.loop-place.place (map without_trip c.args.supplies) c.args.supplies (end ∙ sym c.requires.0 ∙ sym same) same
