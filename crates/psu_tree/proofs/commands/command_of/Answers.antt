use Rattle.std.proofs.Common.{sym, subst}
use Rattle.psu_tree.specs.Commands.{CommandReads}
use Rattle.psu_tree.specs.declared.form.Form.{Form}
use Rattle.psu_tree.proofs.commands.command_of.Goals as goal

pub returns-in-Define : goal.returns-in-Define
returns-in-Define c = λ list h. subst (λ (z : Form). CommandReads z c.args.output list c.define.result) (sym c.in-Define.is) (c.define.ensures c.args.output list h)

pub returns-in-Macro : goal.returns-in-Macro
returns-in-Macro c = λ list h. subst (λ (z : Form). CommandReads z c.args.output list c.on_macro.result) (sym c.in-Macro.is) (c.on_macro.ensures c.args.output list h)

pub returns-in-Contents : goal.returns-in-Contents
returns-in-Contents c = λ list h. subst (λ (z : Form). CommandReads z c.args.output list c.contents.result) (sym c.in-Contents.is) (c.contents.ensures c.args.output list h)

pub returns-in-File : goal.returns-in-File
returns-in-File c = λ list h. subst (λ (z : Form). CommandReads z c.args.output list c.on_file.result) (sym c.in-File.is) (c.on_file.ensures c.args.output list h)

pub returns-in-Names : goal.returns-in-Names
returns-in-Names c = λ list h. subst (λ (z : Form). CommandReads z c.args.output list c.on_names.result) (sym c.in-Names.is) (c.on_names.ensures c.args.output list h)

pub returns-in-StateFile : goal.returns-in-StateFile
returns-in-StateFile c = λ list h. subst (λ (z : Form). CommandReads z c.args.output list c.state_file.result) (sym c.in-StateFile.is) (c.state_file.ensures c.args.output list h)

pub returns-in-MacroFile : goal.returns-in-MacroFile
returns-in-MacroFile c = λ list h. subst (λ (z : Form). CommandReads z c.args.output list c.macro_file.result) (sym c.in-MacroFile.is) (c.macro_file.ensures c.args.output list h)
