use Rattle.std.proofs.Common.{◌≡◌, [], length, sym, ◌∙◌, subst, arith}
use Rattle.psu_pages.proofs.Places.{page_gated}
use Rattle.psu_pages.specs.declared.root.Root.TheVariants.{First}
use Rattle.psu_pages.specs.Shown.{Encodes}
use Rattle.psu_pages.specs.Spelling.{AreRootContents}
use Rattle.psu_pages.proofs.Formatting.{encodes_z}
use Rattle.psu_pages.proofs.format.lay_out.Goals as goal

pub returns-clause-spelled : goal.returns-clause-spelled
returns-clause-spelled g c = λ h.
    let d = g.D.Disk in
    page_gated First 165 c.args.contents.now (d.state c.write_contents.new.disk).bytes (d.state c.set_gate-3.new.disk).bytes
    (omega (arith, c.requires.roots, c.write_contents.ensures.step.extent, c.set_gate-2.ensures.step.extent, c.set_gate.ensures.step.extent, g.met.D.Disk.sized h c.write_contents.new.disk)) (c.in_ok-write_contents.ensures.has_contents h) (c.set_gate-3.ensures.seen h) (c.in_ok-set_gate-3.ensures.done h)

pub returns-clause-encoded : goal.returns-clause-encoded
returns-clause-encoded g c = λ h limit number are_contents least most room image left.
    let d = g.D.Disk in
    let x = (d.state c.set_gate-2.new.disk).bytes in
    let y = (d.state c.write_contents.new.disk).bytes in
    let z = (d.state c.set_gate-3.new.disk).bytes in
    let contents : AreRootContents limit number [] c.args.contents.now x = record { contents_are = are_contents.contents_are; number_fits = are_contents.number_fits; roster = are_contents.roster; there = tt } in
    let sized : length x ≡ d.extent c.args.disk.now = g.met.D.Disk.sized h c.set_gate-2.new.disk ∙ c.set_gate-2.ensures.step.extent ∙ c.set_gate.ensures.step.extent in
    subst (Encodes First 2 limit number [] []) (sym (c.in_ok-set_gate-3.ensures.synced h image left))
    (encodes_z limit number c.args.contents.now x y z contents least most (omega (arith, room, sized)) (c.in_ok-set_gate-2.ensures.done h) (c.write_contents.ensures.seen h) (c.in_ok-write_contents.ensures.has_contents h) (c.set_gate-3.ensures.seen h) (c.in_ok-set_gate-3.ensures.done h))
