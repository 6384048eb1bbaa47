use Rattle.std.proofs.Common.{ℕ, ◌+◌, sym, ◌∙◌, ap, arith}
use Rattle.psu_disk.specs.Disk.{Range}
use Rattle.psu_disk.specs.Ranges.{range_written}
use Rattle.psu_pages.proofs.Places.{gate_low}
use Rattle.psu_pages.proofs.gates.write_contents.Goals as goal

pub returns-clause-has_contents : goal.returns-clause-has_contents
returns-clause-has_contents g c = λ h.
    let d = g.D.Disk in
    let old = (d.state c.args.disk.now).bytes in
    let new = (d.state c.put.new.disk).bytes in
    let contents = c.args.contents.now in
    ap (λ (r : ℕ). Range (r + 1) 511 new) (sym c.gate.ensures)
    ∙ ap (λ (n : ℕ). Range (c.gate.result + 1) n new) (sym c.requires.contents)
    ∙ range_written (c.gate.result + 1) contents old new (omega (arith, c.gate.ensures, c.requires.contents, c.requires.roots, gate_low c.args.root, g.met.D.Disk.sized h c.args.disk.now)) (c.in_ok-put.ensures.done h)
