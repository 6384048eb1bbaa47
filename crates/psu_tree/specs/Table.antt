-- The table of commands. Sources: IEEE 488.2, chapter 10; SCPI-1999 volume 2; the commands of `SIMulation` and
-- `DIAGnostic` are this instrument's own.
use Rattle.std.specs.Prelude.{List, [], ◌∷◌, codes}
use Rattle.psu_tree.specs.Headers.{Entry, both, only, asks, kept, kept_while_false}
use Rattle.psu_tree.specs.declared.form.Form.TheVariants.{Action, Query, OutputQuery, ClearTrip, Enable, Flag, Filter, Register, Load, Level, LevelQuery, Switch, Protect, PowerOn, UserData, Define, Macro, Contents, File, Names, StateFile, MacroFile}
use Rattle.psu_tree.specs.declared.queries.Action.TheVariants as a
use Rattle.psu_tree.specs.declared.queries.Query.TheVariants as q
use Rattle.psu_tree.specs.declared.values.Enable.TheVariants as e
use Rattle.psu_tree.specs.declared.values.Flag.TheVariants as g
use Rattle.psu_status.specs.declared.groups.Group.TheVariants.{Operation, Questionable}
use Rattle.psu_status.specs.declared.groups.Filter.TheVariants as f
use Rattle.psu_tree.specs.declared.queries.OutputQuery.TheVariants as o
use Rattle.psu_tree.specs.declared.values.Level.TheVariants as l
use Rattle.psu_tree.specs.declared.values.Switch.TheVariants as s
use Rattle.psu_tree.specs.declared.values.OnMacro.TheVariants as m
use Rattle.psu_tree.specs.declared.values.OnFile.TheVariants as on_file
use Rattle.psu_tree.specs.declared.values.OnNames.TheVariants as on_names
use Rattle.psu_tree.specs.declared.values.OnRegister.TheVariants as on_register
use Rattle.psu_tree.specs.declared.values.Transfer.TheVariants as transfer

abbrev pub table : List Entry
table =
    asks (codes "*ESR") (Query q.EventStatus)
    ∷ asks (codes "*STB") (Query q.StatusByte)
    ∷ both (codes "*OPC") (Action a.OperationComplete) (Query q.OperationComplete)
    ∷ only (codes "*CLS") (Action a.ClearStatus)
    ∷ kept_while_false (both (codes "*ESE") (Enable e.EventStatus) (Query (q.Enable e.EventStatus)))
    ∷ kept_while_false (both (codes "*SRE") (Enable e.ServiceRequest) (Query (q.Enable e.ServiceRequest)))
    ∷ asks (codes "*IDN") (Query q.Identification)
    ∷ asks (codes "*TST") (Query q.SelfTest)
    ∷ only (codes "*RST") (Action a.Reset)
    ∷ only (codes "*WAI") (Action a.Wait)
    ∷ kept (both (codes "*PSC") (Flag g.PowerOnClear) (Query (q.Flag g.PowerOnClear)))
    ∷ kept (only (codes "*SAV") (Register on_register.Save))
    ∷ only (codes "*RCL") (Register on_register.Recall)
    ∷ kept (both (codes "*PUD") UserData (Query q.UserData))
    ∷ kept (only (codes "*DMC") Define)
    ∷ asks (codes "*GMC") (Macro m.Ask)
    ∷ kept (only (codes "*RMC") (Macro m.Remove))
    ∷ asks (codes "*LMC") (Query q.Labels)
    ∷ kept (only (codes "*PMC") (Action a.PurgeMacros))
    ∷ both (codes "*EMC") (Flag g.Macros) (Query (q.Flag g.Macros))
    ∷ asks (codes "SYSTem:ERRor[:NEXT]") (Query q.NextError)
    ∷ asks (codes "SYSTem:ERRor:COUNt") (Query q.ErrorCount)
    ∷ asks (codes "SYSTem:VERSion") (Query q.Version)
    ∷ asks (codes "STATus:OPERation[:EVENt]") (Query (q.Event Operation))
    ∷ asks (codes "STATus:OPERation:CONDition") (Query (q.Condition Operation))
    ∷ both (codes "STATus:OPERation:ENABle") (Filter Operation f.Enable) (Query (q.Filter Operation f.Enable))
    ∷ both (codes "STATus:OPERation:PTRansition") (Filter Operation f.Positive) (Query (q.Filter Operation f.Positive))
    ∷ both (codes "STATus:OPERation:NTRansition") (Filter Operation f.Negative) (Query (q.Filter Operation f.Negative))
    ∷ asks (codes "STATus:QUEStionable[:EVENt]") (Query (q.Event Questionable))
    ∷ asks (codes "STATus:QUEStionable:CONDition") (Query (q.Condition Questionable))
    ∷ both (codes "STATus:QUEStionable:ENABle") (Filter Questionable f.Enable) (Query (q.Filter Questionable f.Enable))
    ∷ both (codes "STATus:QUEStionable:PTRansition") (Filter Questionable f.Positive) (Query (q.Filter Questionable f.Positive))
    ∷ both (codes "STATus:QUEStionable:NTRansition") (Filter Questionable f.Negative) (Query (q.Filter Questionable f.Negative))
    ∷ only (codes "STATus:PRESet") (Action a.PresetStatus)
    ∷ both (codes "OUTPut<n>[:STATe]") (Switch s.Output) (OutputQuery o.State)
    ∷ kept (both (codes "OUTPut:PON:STATe") PowerOn (Query (q.Flag g.Recall)))
    ∷ asks (codes "MEASure<n>[:SCALar]:VOLTage[:DC]") (OutputQuery o.Voltage)
    ∷ asks (codes "MEASure<n>[:SCALar]:CURRent[:DC]") (OutputQuery o.Current)
    ∷ both (codes "SIMulation:LOAD<n>") Load (OutputQuery o.Load)
    ∷ both (codes "DIAGnostic:PUD:PROTect") Protect (Query (q.Flag g.UserDataProtection))
    ∷ asks (codes "MMEMory:CATalog") (Query q.Catalog)
    ∷ kept (both (codes "MMEMory:DATA") Contents (File on_file.Ask))
    ∷ kept (only (codes "MMEMory:DELete") (File on_file.Delete))
    ∷ kept (only (codes "MMEMory:COPY") (Names on_names.Copy))
    ∷ kept (only (codes "MMEMory:MOVE") (Names on_names.Move))
    ∷ kept (only (codes "MMEMory:STORe:STATe") (StateFile transfer.Store))
    ∷ kept (only (codes "MMEMory:LOAD:STATe") (StateFile transfer.Load))
    ∷ kept (only (codes "MMEMory:STORe:MACRo") (MacroFile transfer.Store))
    ∷ kept (only (codes "MMEMory:LOAD:MACRo") (MacroFile transfer.Load))
    ∷ both (codes "[SOURce<n>:]VOLTage[:LEVel][:IMMediate][:AMPLitude]") (Level l.Voltage) (LevelQuery l.Voltage)
    ∷ both (codes "[SOURce<n>:]CURRent[:LEVel][:IMMediate][:AMPLitude]") (Level l.Current) (LevelQuery l.Current)
    ∷ both (codes "[SOURce<n>:]VOLTage:PROTection[:LEVel]") (Level l.Protection) (LevelQuery l.Protection)
    ∷ both (codes "[SOURce<n>:]VOLTage:PROTection:STATe") (Switch s.Protection) (OutputQuery o.Protection)
    ∷ asks (codes "[SOURce<n>:]VOLTage:PROTection:TRIPped") (OutputQuery o.Tripped)
    ∷ only (codes "[SOURce<n>:]VOLTage:PROTection:CLEar") ClearTrip
    ∷ []
