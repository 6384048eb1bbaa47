use Rattle.std.proofs.Common.{sym, ◌∙◌, ap}
use Rattle.psu_nv.specs.declared.command.NvCommand.{NvCommand}
use Rattle.psu_nv.specs.Commands.{refused}
use Rattle.psu_nv.specs.Views.{command_of}
use Rattle.psu_nv.proofs.contents.Contents.refusal.Goals as goal

pub returns-in-LoadState : goal.returns-in-LoadState
returns-in-LoadState g c = c.state_refusal.ensures c.in-LoadState.field-0.number ∙ ap (λ (x : NvCommand). refused c.args.self.now (command_of x)) (sym c.in-LoadState.is)
