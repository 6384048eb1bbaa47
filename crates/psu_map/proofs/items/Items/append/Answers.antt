use Rattle.psu_map.specs.Map.{item_of}
use Rattle.psu_map.proofs.Sorted.{append_sorted}
use Rattle.psu_map.proofs.items.Items.append.Goals as goal

pub invariant_of-self-2 : goal.invariant_of-self-2
invariant_of-self-2 g c = append_sorted c.self.inside.pairs.items c.args.self.now _ (item_of c.args.key.items c.args.value) _ c.self.view_is c.self.invariant c.in_ok-push.ensures.items c.new.ensures c.requires
