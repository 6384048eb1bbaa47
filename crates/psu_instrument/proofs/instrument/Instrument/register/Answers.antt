use Rattle.psu_instrument.proofs.instrument.Instrument.register.Goals as goal

pub returns-in-Save : goal.returns-in-Save
returns-in-Save g c = λ limit available. rw c.in-Save.is (c.save.ensures limit c.args.contents.now available)

pub returns-in-Recall : goal.returns-in-Recall
returns-in-Recall g c = λ limit available. rw c.in-Recall.is (c.recall.ensures limit available)
