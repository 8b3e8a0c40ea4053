-- Why a session ends.
use Rattle.frames.specs.declared.fault.Fault.{Fault as FrameFault}
use Rattle.frames.specs.declared.fault.Fault.TheVariants as frame
use Rattle.session.specs.declared.fault.Fault.{Fault}
use Rattle.session.specs.declared.fault.Fault.TheVariants as fault

-- the fault of a session whose stream shows this one
abbrev pub fault_of : FrameFault → Fault
fault_of frame.TooLarge = fault.TooLarge
fault_of frame.BadSizes = fault.BadSizes
fault_of frame.Unreadable = fault.Unreadable
fault_of frame.Missing = fault.Missing
fault_of frame.BadPayload = fault.BadPayload
fault_of frame.NoMemory = fault.NoMemory
