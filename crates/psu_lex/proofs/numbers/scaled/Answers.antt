use Rattle.std.proofs.Common.{◌+◌, ◌-◌, ◌++◌, ◌^◌, length, arith, length-append}
use Rattle.psu_lex.proofs.Rounding.{scaled_up, cut_away, cut, held_append, digits_apart}
use Rattle.psu_lex.proofs.numbers.scaled.Goals as goal

pub returns-then-up-down : goal.returns-then-up-down
returns-then-up-down c =
    scaled_up (c.args.whole.now ++ c.args.fraction.now) c.args.up c.args.down c.appended-then-up-down.result c.shifted.result (omega (arith, c.if-up-down.true))
    (held_append (10 ^ 15) 0 c.appended.result c.appended-then-up-down.result c.args.whole.now c.args.fraction.now c.appended.ensures.value c.appended-then-up-down.ensures.value) c.shifted.ensures

pub appended-requires-clause-each : goal.appended-requires-clause-each
appended-requires-clause-each c = (digits_apart c.args.whole.now c.args.fraction.now c.requires).0

pub appended-requires-then-up-down-clause-each : goal.appended-requires-then-up-down-clause-each
appended-requires-then-up-down-clause-each c = (digits_apart c.args.whole.now c.args.fraction.now c.requires).1

pub returns-then-cut-total : goal.returns-then-cut-total
returns-then-cut-total c =
    cut_away (c.args.whole.now ++ c.args.fraction.now) c.args.up c.args.down c.requires (omega (arith, c.if-up-down.false))
    (omega (arith, c.if-cut-total.true, length-append c.args.whole.now c.args.fraction.now))

pub returns-then-digit_at-ge53 : goal.returns-then-digit_at-ge53
returns-then-digit_at-ge53 c =
    let ds = c.args.whole.now ++ c.args.fraction.now in
    let long = length-append c.args.whole.now c.args.fraction.now in
    let kept = length c.args.whole.now + length c.args.fraction.now - (c.args.down - c.args.up) in
    let parts = cut ds c.args.up c.args.down kept c.requires (omega (arith, c.if-up-down.false)) (omega (arith, long, c.if-cut-total.false, c.if-up-down.false)) in
    omega (arith, parts.0 (omega (arith, c.digit_at.ensures, c.if-digit_at-ge53.true)), c.held-value.ensures, c.min.ensures)

pub returns-else-digit_at-ge53 : goal.returns-else-digit_at-ge53
returns-else-digit_at-ge53 c =
    let ds = c.args.whole.now ++ c.args.fraction.now in
    let long = length-append c.args.whole.now c.args.fraction.now in
    let kept = length c.args.whole.now + length c.args.fraction.now - (c.args.down - c.args.up) in
    let parts = cut ds c.args.up c.args.down kept c.requires (omega (arith, c.if-up-down.false)) (omega (arith, long, c.if-cut-total.false, c.if-up-down.false)) in
    omega (arith, parts.1 (omega (arith, c.digit_at.ensures, c.if-digit_at-ge53.false)), c.held-value.ensures)
