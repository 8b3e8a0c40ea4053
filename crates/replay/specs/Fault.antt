-- Which fault of the program a fault of the script is.
use Rattle.script.specs.declared.script.ScriptFault.{ScriptFault}
use Rattle.script.specs.declared.script.ScriptFault.TheVariants as script_fault
use Rattle.replay.specs.declared.fault.ProgramFault.{ProgramFault}
use Rattle.gated_log.specs.declared.refusal.Refusal.{Refusal}
use Rattle.gated_log.specs.declared.refusal.Refusal.TheVariants as refusal
use Rattle.replay.specs.declared.fault.ProgramFault.TheVariants.{Device, NoMemory, ScriptLine}

abbrev pub fault_of_script : ScriptFault → ProgramFault
fault_of_script (script_fault.BadLine k) = ScriptLine k
fault_of_script script_fault.NoMemory = NoMemory

-- of a refusal of a device in memory
abbrev pub fault_of_refusal : Refusal → ProgramFault
fault_of_refusal refusal.NoMemory = NoMemory
fault_of_refusal refusal.Device = Device
fault_of_refusal (refusal.Damaged file offset) = Device
fault_of_refusal refusal.NotInitialised = Device
fault_of_refusal refusal.Version = Device
fault_of_refusal refusal.TooLarge = Device
