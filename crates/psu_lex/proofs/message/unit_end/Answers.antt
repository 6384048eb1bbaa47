use Rattle.std.proofs.Common.{sym, ap, ◌∙◌, ◌≡◌, arith, length, length-drop, true}
use Rattle.psu_lex.specs.Message.{opens_first}
use Rattle.psu_lex.proofs.UnitScans.{plain_at, step_run, unit_step, unit_fault}
use Rattle.psu_lex.proofs.message.unit_end.Goals as goal

pub returns-then-not-opens_first-clause-ok : goal.returns-then-not-opens_first-clause-ok
returns-then-not-opens_first-clause-ok c = λ first units m.
    let plain = plain_at c.args.bytes.now c.after-rest.result.now c.after-piece.result.now c.pieces.at c.plain_end-plain.result c.after-rest.ensures c.after-piece.ensures c.plain_end-plain.ensures.free in
    c.pieces.invariant.so_far first units (step_run first c.args.bytes.now c.pieces.at c.plain_end-plain.result units plain.1 plain.2 m)

pub returns-in_default-clause-err : goal.returns-in_default-clause-err
returns-in_default-clause-err c = λ first.
    let plain = plain_at c.args.bytes.now c.after-rest.result.now c.after-piece.result.now c.pieces.at c.plain_end-plain.result c.after-rest.ensures c.after-piece.ensures c.plain_end-plain.ensures.free in
    let opened : opens_first c.after-piece.result.now ≡ true = sym c.opens_first.ensures ∙ c.if-not-opens_first.false in
    c.pieces.invariant.so_far first _
    (unit_fault first c.args.bytes.now c.after-piece.result.now c.pieces.at c.plain_end-plain.result c.fault_at.result plain.0 plain.1 plain.2
    opened c.in_default.ensures.none c.fault_at.ensures)

pub pieces-preserved : goal.pieces-preserved
pieces-preserved c =
    let rest = c.after-rest.result.now in
    let plain = plain_at c.args.bytes.now rest c.after-piece.result.now c.pieces.at c.plain_end-plain.result c.after-rest.ensures c.after-piece.ensures c.plain_end-plain.ensures.free in
    record {
      within = omega (
        arith,
        c.pieces.invariant.within,
        ap length c.after-rest.ensures,
        length-drop c.pieces.at c.args.bytes.now,
        c.plain_end-plain.ensures.within,
        ap length c.after-piece.ensures,
        length-drop c.plain_end-plain.result rest,
        c.in-Some.ensures.within.1,
      );
      so_far = λ first units m. c.pieces.invariant.so_far first units
          (unit_step first c.args.bytes.now c.after-piece.result.now c.pieces.at c.plain_end-plain.result c.in-Some.length units
          plain.0 plain.1 plain.2 c.in-Some.ensures.some.0 c.in-Some.ensures.some.1 m);
    }
