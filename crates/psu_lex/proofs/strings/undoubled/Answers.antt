use Rattle.std.proofs.Common.{◌≡◌, ◌+◌, ◌<◌, ◌++◌, ℕ, List, true, false, length, drop, refl, sym, ap, ◌∙◌, add-one, drop-cons}
use Rattle.psu_lex.specs.Scan.{single}
use Rattle.psu_lex.proofs.strings.undoubled.Goals as goal

skipped : (q : ℕ) (body : List ℕ) (i : ℕ) → i < length body → single true q (drop i body) ≡ single false q (drop (i + 1) body)
skipped q body i lt = rw (drop-cons body i 0 lt, add-one i) refl

pub loop-byte-preserved-then-second : goal.loop-byte-preserved-then-second
loop-byte-preserved-then-second g c =
    ap (λ (z : List ℕ). c.loop-byte.list.items ++ z) (sym (skipped c.args.quote c.args.body.now c.loop-byte.byte-index c.loop-byte-test.true)) ∙ rw c.if-second.true at c.loop-byte.invariant
