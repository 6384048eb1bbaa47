-- The units of an expansion.
use Rattle.std.proofs.Common.{◌≡◌, ℕ, ◌+◌, Bool, true, false, List, refl, subst}
use Rattle.psu_lex.specs.Message.{Part}
use Rattle.psu_tree.specs.declared.command.Request.{Request}
use Rattle.psu_messages.specs.ResponseBuffer.{Text}
use Rattle.psu_messages.specs.Effects.{Effect}
use Rattle.psu_messages.specs.Units.{IsBehind, IsUnit, Source}
use Rattle.psu_messages.specs.Executions.{Advances}
use Rattle.psu_messages.specs.Stepping.{plain, within}
use Rattle.psu_messages.specs.Turns.{IsInside}
use Rattle.psu_messages.specs.declared.cursor.Cursor.{Cursor}
use Rattle.psu_messages.proofs.Going.{leaves}

-- the unit that a cursor of an expansion has read
pub inside_at : (body : List ℕ) (done : ℕ) (cursor : Cursor) (part : Part) (request : Request) → cursor.text.now ≡ body → cursor.read ≡ done → IsUnit true cursor.text.now cursor.read part request → IsInside body done request
inside_at body done cursor part request text read unit =
    (part, subst (λ (n : ℕ). IsUnit true body n part request) read (subst (λ (bytes : List ℕ). IsUnit true bytes cursor.read part request) text unit))

-- all units of an expansion are done
pub leaves_all : {X : Type 0} (does : X → Effect → X → Type 0) (source : Source) (was : X) (place : ℕ) (body : List ℕ) (done : ℕ) (parked : Bool) (text : Text) → IsBehind body done
    → Advances does source was (within place body done parked text) was (plain (place + 1) false text)
leaves_all does source was place body done parked text behind = leaves does source was (within place body done parked text) (body, done, refl, refl, behind)
