use Rattle.std.proofs.Common.{◌≡◌, ◌<◌, ◌∙◌, ◌∷◌, ◌++◌, sym, ap, subst, [], List, true, false, length, rules, arith, length-append}
use Rattle.std.proofs.lemmas.Grind.{common_steps}
use Rattle.psu_nv.specs.Contents.{Macro, has_label}
use Rattle.psu_nv.proofs.MacroBytes.{ReadSo, no_macro, not_good, twice, continues, all_read}
use Rattle.psu_nv.proofs.written.macros_of.Goals as goal

pub returns-in_default-clause-none : goal.returns-in_default-clause-none
returns-in_default-clause-none c =
    let some : c.loop-rest.rest.now ≡ [] → ⊥ = search rules in
    no_macro c.args.bytes.now c.loop-rest.rest.now c.loop-rest.found.items c.loop-rest.invariant.so some c.in_default.ensures.none

pub returns-then-not-is_good-clause-none : goal.returns-then-not-is_good-clause-none
returns-then-not-is_good-clause-none c =
    let some : c.loop-rest.rest.now ≡ [] → ⊥ = search rules in
    let bad : c.is_good.result ≡ false = search rules in
    not_good c.args.bytes.now c.loop-rest.rest.now c.loop-rest.found.items c.loop-rest.invariant.so some c.in-Some.written c.in-Some.after.now c.in-Some.ensures.body c.in-Some.ensures.found (c.is_good.ensures.none bad)

pub returns-then-has_label-clause-none : goal.returns-then-has_label-clause-none
returns-then-has_label-clause-none c =
    let some : c.loop-rest.rest.now ≡ [] → ⊥ = search rules in
    let has : has_label c.loop-rest.found.items c.in-Some.written.label ≡ true =
    ap (λ (l : List Macro). has_label l c.in-Some.written.label) (sym c.as_slice.ensures.value) ∙ ap (λ (m : Macro). has_label c.as_slice.result.now m.label) (sym c.written.view_is) ∙ sym c.has_label.ensures ∙ c.if-has_label.true in
    twice c.args.bytes.now c.loop-rest.rest.now c.loop-rest.found.items c.loop-rest.invariant.so some c.in-Some.written c.in-Some.after.now c.in-Some.ensures.body c.in-Some.ensures.found has

pub loop-rest-preserved : goal.loop-rest-preserved
loop-rest-preserved c =
    let some : c.loop-rest.rest.now ≡ [] → ⊥ = search rules in
    let free : has_label c.loop-rest.found.items c.in-Some.written.label ≡ false =
    ap (λ (l : List Macro). has_label l c.in-Some.written.label) (sym c.as_slice.ensures.value) ∙ ap (λ (m : Macro). has_label c.as_slice.result.now m.label) (sym c.written.view_is) ∙ sym c.has_label.ensures ∙ c.if-has_label.false in
    let pushed : c.try_push.new.self.items ≡ c.loop-rest.found.items ++ c.in-Some.written ∷ [] = search rules in
    let room : length c.loop-rest.found.items < 32 = search rules in
    record {
      so = subst (ReadSo c.args.bytes.now c.in-Some.after.now) (sym pushed) (continues c.args.bytes.now c.loop-rest.rest.now c.loop-rest.found.items c.loop-rest.invariant.so some c.in-Some.written c.in-Some.after.now c.in-Some.ensures.body c.in-Some.ensures.found (c.is_good.ensures.found c.if-not-is_good.false) free);
      count = omega (arith, room, ap length pushed, length-append c.loop-rest.found.items (c.in-Some.written ∷ []));
    }

pub returns-clause-found : goal.returns-clause-found
returns-clause-found c =
    let none : c.loop-rest.rest.now ≡ [] = grind (arith, common_steps) in
    all_read c.args.bytes.now c.loop-rest.rest.now c.loop-rest.found.items c.loop-rest.invariant.so none c.loop-rest.invariant.count
