use Rattle.psu_nv.specs.Commands.{apply}
use Rattle.psu_nv.specs.Views.{command_of}
use Rattle.psu_nv.proofs.Totals.{parts_total}
use Rattle.psu_nv.proofs.contents.Contents.cost_after.Goals as goal

pub returns : goal.returns
returns g c =
    parts_total (apply c.args.self.now (command_of c.args.command.now)) _ _ _ _ _ _ c.total.result c.registers_after.ensures.are
    c.enables_after.ensures c.registers_after.ensures.value c.user_after.ensures c.macros_after.ensures.value c.files_after.ensures.value c.recall_after.ensures c.total.ensures
