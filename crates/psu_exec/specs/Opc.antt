-- Which units are `*OPC?`.
use Rattle.std.specs.Prelude.{Bool, true, false, Result, Ok}
use Rattle.psu_lex.specs.declared.scpi_error.ScpiError.{ScpiError}
use Rattle.psu_tree.specs.declared.command.Command.{Command}
use Rattle.psu_tree.specs.declared.command.Command.TheVariants as command
use Rattle.psu_tree.specs.declared.queries.Query.TheVariants as query

-- whether a unit reads as `*OPC?`
abbrev pub asks_opc : Result Command ScpiError → Bool
asks_opc (Ok (command.Query query.OperationComplete)) = true
asks_opc _ = false
