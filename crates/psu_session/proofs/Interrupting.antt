-- The calls of the device for a transmission that is interrupted.
use Rattle.std.proofs.Common.{◌≡◌, List, [], ◌∷◌, sym, ap, subst, map}
use Rattle.psu_tree.specs.declared.command.Request.{Request}
use Rattle.psu_replies.specs.Reply.{Answer}
use Rattle.psu_messages.specs.ResponseBuffer.{Text}
use Rattle.psu_messages.specs.Effects as messages
use Rattle.psu_messages.specs.Effects.{Effect}
use Rattle.psu_messages.specs.Relations.{Relations}
use Rattle.psu_messages.specs.Executions.{Advances, Interruption, Progress, StopsAt, tried}
use Rattle.psu_messages.specs.Executions.Interruption.{Failed, Stopped, NotBuffered}
use Rattle.psu_messages.proofs.Going.{behind, tries}
use Rattle.psu_session.specs.Orders.{Order}
use Rattle.psu_session.specs.Events.{Call, call_of}
use Rattle.psu_session.specs.Serving.{Runs}
use Rattle.psu_session.specs.Stopping.{CallsAdvancing}

module _ {X V S : Type 0} (r : Relations X S) (made : V → Call → V → Type 0) (device : X → V)
    (step : (x y : X) (effect : Effect) → r.does x effect y → made (device x) (call_of effect) (device y)) (fail : (x y : X) (request : Request) (stop : S) → r.fails x request stop y → ⊥)
    (same : (x y : X) (stop : S) → r.stops x stop y → device y ≡ device x) where
  calls_made : (x : X) (added : List Effect) (y : X) → messages.Runs r.does x added y → Runs made (device x) (map call_of added) (device y)
  calls_made x [] y e = ap device e
  calls_made x (effect ∷ added) y (mid, d, more) = (device mid, step x mid effect d, calls_made mid added y more)

  -- effects, after which the device is not called
  advanced_to : (order : Order) (x : X) (c : Progress) (y : X) (d : Progress) (z : X) → Advances r.does order.source x c y d → device z ≡ device y → CallsAdvancing made order c (device x) (device z)
  advanced_to order x c y d z a e = record {
    effects = a.added;
    new = d;
    reaches = a.reaches;
    runs = subst (λ (v : V). Runs made (device x) (map call_of a.added) v) (sym e) (calls_made x a.added y a.runs);
  }

  at_last : (order : Order) (x : X) (c : Progress) (mid : X) (d : Progress) (stop : S) (y : X) → Advances r.does order.source x c mid d → Interruption r order.source mid d stop y → CallsAdvancing made order c (device x) (device y)
  at_last order x c mid d stop y a (Failed request next unparked f) = absurd (fail mid y request stop f)
  at_last order x c mid d stop y a (Stopped unended s) = advanced_to order x c mid d y a (same mid y stop s)
  at_last order x c mid d stop y a (NotBuffered here request next effect response try done s) =
      advanced_to order x c here (tried d (Answer response)) y
      (behind r.does order.source x mid here c d (tried d (Answer response)) a (tries r.does order.source mid here d request (Answer response) next (record { effect = effect; done = done; is = try })))
      (same here y stop s)

  pub interrupted : (order : Order) (x : X) (c : Progress) (stop : S) (y : X) (left : Text) → StopsAt r order.source x c stop y left → CallsAdvancing made order c (device x) (device y)
  interrupted order x c stop y left a = at_last order x c a.mid a.new stop y a.advances a.interruption
