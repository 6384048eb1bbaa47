use Rattle.psu_durability.proofs.stores.open_again.Goals as goal

pub returns : goal.returns
returns c =
    let before = c.args.before.now in
    c.open.ensures.finds tt before.limit before.items (λ image is. c.items.ensures.represents tt image (c.requires.kept image is))
