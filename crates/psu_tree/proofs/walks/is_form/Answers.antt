use Rattle.std.proofs.Common.{sym}
use Rattle.psu_tree.proofs.Forms.{longer_than}
use Rattle.psu_tree.proofs.walks.is_form.Goals as goal

pub returns-then-word-name : goal.returns-then-word-name
returns-then-word-name c = sym (longer_than c.args.name.now c.args.word.now c.if-word-name.true)
