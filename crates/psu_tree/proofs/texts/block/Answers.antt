use Rattle.psu_tree.proofs.Taking.{block_taken}
use Rattle.psu_tree.proofs.texts.block.Goals as goal

pub returns-in-Block : goal.returns-in-Block
returns-in-Block c = λ (more, is). block_taken c.args.datum.now.class c.args.datum.now.text.now more c.bytes.result.now c.in-Block.is c.bytes.ensures is
