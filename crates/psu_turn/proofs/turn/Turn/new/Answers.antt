use Rattle.std.proofs.Common.{◌≡◌, ap, rules, sym, refl, subst, Some, [], ◌∷◌}
use Rattle.atomic_table.specs.Table.{opening}
use Rattle.psu_turn.specs.Rule.{OneHistory, newcomer}
use Rattle.psu_turn.proofs.Keeping.{opens_on}
use Rattle.psu_turn.proofs.turn.Turn.new.Goals as goal

pub new-requires : goal.new-requires
new-requires g c = let items : c.push_reserved.new.self.items ≡ Some (record { object = c.args.object; count = 0 }) ∷ [] = search rules in
    subst (λ l. OneHistory g.T.Machine.state g.T.Machine.allows (g.T.Machine.state c.of-about.result.value) (opening (0 ∷ 0 ∷ 0 ∷ []) l (newcomer (g.T.Machine.state c.of-about.result.value)))) (sym items)
    (opens_on g.T.Machine.state g.T.Machine.allows _ (record { object = c.args.object; count = 0 }) (ap g.T.Machine.state (sym c.of-about.ensures)) refl)
