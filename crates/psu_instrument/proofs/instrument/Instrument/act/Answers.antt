use Rattle.psu_instrument.proofs.instrument.Instrument.act.Goals as goal

pub returns-in-Load : goal.returns-in-Load
returns-in-Load g c = rw c.in-Load.is (c.load.ensures c.args.limit c.args.contents.now c.args.available)

pub returns-in-Level : goal.returns-in-Level
returns-in-Level g c = rw c.in-Level.is (rw c.level_of.ensures at (c.set.ensures c.args.limit c.args.contents.now c.args.available))

pub returns-in-Switch : goal.returns-in-Switch
returns-in-Switch g c = rw c.in-Switch.is (rw c.switch_of.ensures at (c.set-in-Switch.ensures c.args.limit c.args.contents.now c.args.available))

pub returns-in-UserData : goal.returns-in-UserData
returns-in-UserData g c = rw c.in-UserData.is (rw c.as_slice.ensures at (c.user_data.ensures c.args.limit c.args.contents.now c.args.available))

pub returns-in-Contents : goal.returns-in-Contents
returns-in-Contents g c = rw c.in-Contents.is (c.stored.ensures c.args.limit c.args.contents.now c.args.self.now c.args.available)

pub returns-in-Names : goal.returns-in-Names
returns-in-Names g c = rw c.in-Names.is (c.on_two.ensures c.args.limit c.args.contents.now c.args.self.now c.args.available)

pub returns-in-StateFile : goal.returns-in-StateFile
returns-in-StateFile g c = rw c.in-StateFile.is (c.state_moved.ensures c.args.limit c.args.contents.now c.args.self.now c.args.available)

pub returns-in-MacroFile : goal.returns-in-MacroFile
returns-in-MacroFile g c = rw c.in-MacroFile.is (c.macro_moved.ensures c.args.limit c.args.contents.now c.args.self.now c.args.available)
