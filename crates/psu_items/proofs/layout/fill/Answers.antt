use Rattle.std.proofs.Common.{◌≡◌, ◌∙◌, ◌<◌, List, Some, ap, sym, subst, length, get_or, take, arith}
use Rattle.std.proofs.lemmas.List.{length-map, take_all}
use Rattle.psu_pages.proofs.Lists.{all_at, all_take}
use Rattle.psu_map.specs.Capacity.{Fits}
use Rattle.psu_map.specs.Target.{Entry, aimed, item_in, standing, IsOf}
use Rattle.psu_map.proofs.Aiming.{item_there, its_own}
use Rattle.psu_items.proofs.Laying.{slots_more, slots_planned, planned_still, roots_on}
use Rattle.psu_items.proofs.Sparing.{claims_step, slots_kept, kept_still}
use Rattle.psu_items.specs.Layout.{IsOneOf, heads_of, slots_of}
use Rattle.psu_items.proofs.Keeping.{have_more}
use Rattle.psu_items.proofs.Roster.{part_cost}
use Rattle.psu_items.proofs.Room.{cost_more, room_left}
use Rattle.psu_map.specs.Map.{Item, cost, get}
use Rattle.psu_map.proofs.Maps.{all_own}
use Rattle.psu_pages.specs.Image.{taken}
use Rattle.psu_items.proofs.layout.fill.Goals as goal

pub returns-in_err-slot-clause-planned : goal.returns-in_err-slot-clause-planned
returns-in_err-slot-clause-planned g c = let l = c.loop-entry in planned_still l.pages (let aim = c.args.target.now in aim.before) (aimed c.args.target.now) _ c.slot_for.new.pages c.slot_for.ensures.others (slots_of l.layout) l.invariant.slots

pub loop-entry-preserved : goal.loop-entry-preserved
loop-entry-preserved g c =
    let l = c.loop-entry in
    let s = c.slot_for.ensures in
    let aim = c.args.target.now in
    let there = c.entries-entry-items in
    let many : length there.result.now ≡ length (aimed aim) = ap (λ (xs : List Entry). length xs) there.ensures.all ∙ sym (length-map aim.entries item_in) in
    let is : c.entry-item.result ≡ get_or aim.entries l.entry-index c.entry-item.result = c.entry-item.is ∙ ap (λ (xs : List Entry). get_or xs l.entry-index c.entry-item.result) there.ensures.all in
    let within : l.entry-index < length (aimed aim) = omega (arith, c.loop-entry-test.true, many) in
    let of : IsOf aim.before c.entry-item.result = its_own aim.before aim.entries l.entry-index c.entry-item.result within is there.ensures.each in
    let more = c.add.ensures.slots in
    record {
      slots = slots_more l.pages c.slot_for.new.pages s.roots s.others aim.before (aimed aim) (slots_of l.layout) (slots_of c.add.new.layout) l.entry-index (item_in c.entry-item.result) (item_in c.entry-item.result) c.in_ok-slot.slot there.ensures.sorted within
          (item_there aim.entries l.entry-index c.entry-item.result within is) more (c.in_ok-slot.ensures.slot aim.before of) l.invariant.slots;
      standing = have_more aim.entries l.entry-index c.entry-item.result (omega (arith, c.loop-entry-test.true, ap (λ (xs : List Entry). length xs) there.ensures.all)) is (let p = c.args.pages.now in p.heads.items) (slots_of l.layout) (slots_of c.add.new.layout) c.in_ok-slot.slot more l.invariant.standing
          (λ stands head one. c.in_ok-slot.ensures.standing stands head (subst (λ hs. IsOneOf hs head) (sym (ap (λ v. v.items) l.invariant.roots.heads)) one));
      roots = roots_on c.args.pages.now l.pages c.slot_for.new.pages l.invariant.roots s.roots;
      claims = claims_step c.args.pages.now l.pages c.slot_for.new.pages (slots_of l.layout) (slots_of c.add.new.layout) c.in_ok-slot.slot more l.invariant.claims c.in_ok-slot.ensures.marks;
      there = c.add.ensures.there;
      heads_room = omega (arith, c.add.ensures.heads_len, c.add.ensures.heads_capacity, l.invariant.heads_room);
      places_room = omega (arith, c.add.ensures.places_len, c.add.ensures.places_capacity, l.invariant.places_room);
    }

pub returns-clause-planned : goal.returns-clause-planned
returns-clause-planned g c = let l = c.loop-entry in slots_planned l.pages (let aim = c.args.target.now in aim.before) (aimed c.args.target.now) _ (slots_of l.layout) l.invariant.slots

pub returns-in_err-slot-clause-kept : goal.returns-in_err-slot-clause-kept
returns-in_err-slot-clause-kept g c = let l = c.loop-entry in kept_still l.pages c.slot_for.new.pages c.slot_for.ensures.roots (slots_of l.layout) (slots_kept l.pages (let aim = c.args.target.now in aim.before) (aimed c.args.target.now) _ (slots_of l.layout) l.invariant.slots)

pub returns-clause-kept : goal.returns-clause-kept
returns-clause-kept g c = let l = c.loop-entry in slots_kept l.pages (let aim = c.args.target.now in aim.before) (aimed c.args.target.now) _ (slots_of l.layout) l.invariant.slots

pub slot_for-requires-clause-fits : goal.slot_for-requires-clause-fits
slot_for-requires-clause-fits g c =
    let aim = c.args.target.now in
    let there = c.entries-entry-items in
    let n = c.loop-entry.entry-index in
    let e = c.entry-item.result in
    let many : length there.result.now ≡ length (aimed aim) = ap (λ (xs : List Entry). length xs) there.ensures.all ∙ sym (length-map aim.entries item_in) in
    let is : e ≡ get_or aim.entries n e = c.entry-item.is ∙ ap (λ (xs : List Entry). get_or xs n e) there.ensures.all in
    let within : n < length (aimed aim) = omega (arith, c.loop-entry-test.true, many) in
    subst Fits (sym (item_there aim.entries n e within is)) (all_at Fits (aimed aim) n (item_in e) within c.requires.can.fits)

-- the heads in use have no more pages than the limit, and neither have the items up to this one
pub slot_for-requires-clause-room : goal.slot_for-requires-clause-room
slot_for-requires-clause-room g c =
    let l = c.loop-entry in
    let old = c.args.pages.now in
    let aim = c.args.target.now in
    let there = c.entries-entry-items in
    let n = l.entry-index in
    let e = c.entry-item.result in
    let many : length there.result.now ≡ length (aimed aim) = ap (λ (xs : List Entry). length xs) there.ensures.all ∙ sym (length-map aim.entries item_in) in
    let is : e ≡ get_or aim.entries n e = c.entry-item.is ∙ ap (λ (xs : List Entry). get_or xs n e) there.ensures.all in
    let within : n < length (aimed aim) = omega (arith, c.loop-entry-test.true, many) in
    let value : length e.value ≡ length (let i = get_or (aimed aim) n (item_in e) in i.value) = ap (λ (i : Item). length i.value) (item_there aim.entries n e within is) in
    let own = all_take (λ (i : Item). get (aimed aim) i.key ≡ Some i.value) n (aimed aim) (all_own (aimed aim) there.ensures.sorted) in
    let spent : length (taken (heads_of (slots_of l.layout))) ≡ cost (take n (aimed aim)) = part_cost l.pages aim.before (aimed aim) (take n (aimed aim)) (slots_of l.layout) l.invariant.slots own in
    let left = room_left (let p = l.pages in p.free) old.limit (taken old.heads.items) (taken (heads_of (slots_of l.layout))) (omega (arith, l.pages.sized, l.invariant.roots.limit))
    (λ page pool none others. l.invariant.claims page others ∙ c.requires.spare page pool none) in
    omega (arith, left, spent, value, old.roster.cost, c.requires.can.cost, cost_more (aimed aim) n (item_in e) within)

pub returns-clause-standing : goal.returns-clause-standing
returns-clause-standing g c = λ head value one stands.
    let l = c.loop-entry in
    let there = c.entries-entry-items in
    let entries = (let aim = c.args.target.now in aim.entries) in
    let all : take l.entry-index entries ≡ entries = take_all l.entry-index entries (omega (arith, c.loop-entry-test.false, ap (λ (xs : List Entry). length xs) there.ensures.all)) in
    l.invariant.standing head value one (ap (λ (es : List Entry). standing es head.key) all ∙ stands)
