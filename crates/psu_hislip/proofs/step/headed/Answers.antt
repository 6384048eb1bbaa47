use Rattle.std.proofs.Common.{◌≡◌, arith, IsSome, subst, [], ◌∷◌, List, ℕ, Option, None}
use Rattle.psu_hislip.specs.Channel.{Moves}
use Rattle.psu_hislip.specs.Channel.Awaited.{Partial, Passing, Ended}
use Rattle.psu_hislip.specs.Stream.Received.{Oversize, BadHeader}
use Rattle.psu_hislip.proofs.Channels.{headed_only, moves_bad, moves_oversize}
use Rattle.psu_hislip.specs.declared.header.Header.{Header}
use Rattle.psu_hislip.proofs.step.headed.Goals as goal

none_some : (r : Option Header) → r ≡ None → IsSome r → ⊥
none_some r e s = absurd (grind (arith, e, s))

pub returns-in_default-clause-moves : goal.returns-in_default-clause-moves
returns-in_default-clause-moves g c =
    headed_only c.args.bytes.now c.args.after.now c.args.used (BadHeader ∷ []) Ended
    (moves_bad c.args.bytes.now c.told-bytes (λ h. none_some c.read.result c.in_default.is (c.read.ensures.some.1 h)))

pub returns-then-header-gt-PAYLOAD_MOST-clause-moves : goal.returns-then-header-gt-PAYLOAD_MOST-clause-moves
returns-then-header-gt-PAYLOAD_MOST-clause-moves g c =
    let h = c.in-Some.header in
    headed_only c.args.bytes.now c.args.after.now c.args.used (Oversize h ∷ []) (Passing h.length)
    (subst (λ (z : List ℕ). Moves (Partial z) [] (Oversize h ∷ []) (Passing h.length)) c.in-Some.ensures.bytes
    (moves_oversize h c.in-Some.ensures.fits c.if-header-gt-PAYLOAD_MOST.true))
