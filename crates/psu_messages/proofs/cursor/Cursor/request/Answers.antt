use Rattle.std.proofs.Common.{◌≡◌, ◌∙◌, ap}
use Rattle.psu_lex.specs.Message.{part}
use Rattle.psu_messages.specs.Units.{path_at}
use Rattle.psu_messages.proofs.Places.{first_path, next_path, read_at}
use Rattle.psu_messages.proofs.cursor.Cursor.request.Goals as goal
use Rattle.psu_messages.proofs.cursor.Cursor.request.Goals.{then-unit, else-unit}

pub returns-clause-request : goal.returns-clause-request
returns-clause-request c =
    let from : c.if-unit.self.path ≡ path_at c.args.self.now.path (part c.args.unit.now)
    = elim c.if-unit.branch [
      | then-unit w ↦ first_path c.args.self.now.path c.if-unit.self.path (part c.args.unit.now) w.if-unit.true (ap (λ s. s.path) w.self-is ∙ w.clear.ensures)
      | else-unit w ↦ next_path c.args.self.now.path c.if-unit.self.path (part c.args.unit.now) w.if-unit.false (ap (λ s. s.path) w.self-is)
    ] in
    read_at c.args.inside c.args.self.now.path c.if-unit.self.path c.request_into.new.path (part c.args.unit.now) c.request_into.new.request from c.request_into.ensures.reading c.request_into.ensures.moves c.request_into.ensures.call c.request_into.ensures.inside
