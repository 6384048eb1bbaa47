use Rattle.std.proofs.Common.{◌≡◌, ◌≤◌, ◌-◌}
use Rattle.psu_messages.specs.Places.{IsCursor}
use Rattle.psu_messages.proofs.cursor.Cursor.pass_to.Given as goal

abbrev pub invariant-loop-self : goal.invariant-loop-self
invariant-loop-self l = record {
  place : IsCursor l.fn.inside l.initial.self → IsCursor l.fn.inside l.self;
  text : l.self.text ≡ l.initial.self.text;
  count : l.initial.self.read ≤ l.fn.count → l.self.read ≤ l.fn.count;
}

abbrev pub decreases-loop-self : goal.decreases-loop-self
decreases-loop-self l = l.fn.count - l.self.read
