use Rattle.std.proofs.Common.{◌≡◌, ◌<◌, ◌∙◌, ◌++◌, ◌∷◌, [], List, ℕ, ap, false, length, arith}
use Rattle.psu_nv.specs.Contents.{Contents, contents_of, has_label}
use Rattle.psu_nv.specs.Commands.{macro_of}
use Rattle.psu_nv.proofs.Keeping.{kept_push}
use Rattle.psu_nv.proofs.contents.Contents.put_macro.Goals as goal

pub invariant_of-self-2 : goal.invariant_of-self-2
invariant_of-self-2 g c =
    let s = c.self.inside in
    let free : has_label s.macros c.args.label.now ≡ false = ap (λ (k : Contents). has_label k.macros c.args.label.now) c.self.view_is ∙ c.requires.free in
    let room : length s.macros < 32 = omega (arith, ap (λ (k : Contents). length k.macros) c.self.view_is, c.requires.room) in
    kept_push (contents_of s.registers s.user s.macros s.enables s.files s.recall) c.define.new.self c.args.label.now c.args.body c.self.invariant
    (c.in_ok-define.ensures.ok ∙ ap (λ (l : List ℕ). s.macros ++ macro_of l c.args.body ∷ []) c.new.ensures) c.requires.label c.requires.body free room
