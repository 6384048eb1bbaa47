use Rattle.psu_nv.specs.Contents.{contents_of}
use Rattle.psu_nv.proofs.Keeping.{kept_put}
use Rattle.psu_nv.proofs.contents.Contents.put_file.Goals as goal

pub invariant_of-self-2 : goal.invariant_of-self-2
invariant_of-self-2 g c =
    kept_put (contents_of c.self.inside.registers c.self.inside.user c.self.inside.macros c.self.inside.enables c.self.inside.files c.self.inside.recall) c.insert.new.self c.in_ok-to_vec.field-0.items c.args.name.now c.args.value.items c.self.invariant
    (c.in_ok-to_vec.ensures.items_if_clones_equal (λ x y e. e)) c.in_ok-insert.ensures.ok (record { name = c.requires.name; kind = c.requires.kind; most = c.requires.most })
