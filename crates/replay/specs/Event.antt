-- Lines of a script as what happens to a machine, and the node's verdicts as outcomes of a line.
use Rattle.disk.specs.declared.crash_shelf.CrashForm.{CrashForm}
use Rattle.disk.specs.declared.crash_shelf.CrashForm.TheVariants as form
use Rattle.disk.specs.declared.crash_shelf.Fuse.TheVariants as fuse
use Rattle.gated_log.specs.declared.refusal.Refusal.{Refusal}
use Rattle.gated_log.specs.declared.refusal.Refusal.TheVariants as refusal
use Rattle.node.specs.declared.event.Event.TheVariants as event
use Rattle.node.specs.declared.event.TopicEvent.TheVariants as topic_event
use Rattle.session.specs.declared.fault.Fault.{Fault}
use Rattle.session.specs.declared.fault.Fault.TheVariants as fault
use Rattle.node.specs.declared.event.Verdict.{Verdict}
use Rattle.node.specs.declared.event.Verdict.TheVariants as verdict
use Rattle.script.specs.declared.line.Line.{Line}
use Rattle.script.specs.declared.line.Line.TheVariants as line
use Rattle.script.specs.declared.line.CrashAs.{CrashAs}
use Rattle.script.specs.declared.line.CrashAs.TheVariants as crash_as
use Rattle.script.specs.declared.output.StorageRefusal.{StorageRefusal}
use Rattle.script.specs.declared.output.StorageRefusal.TheVariants as storage_refusal
use Rattle.replay.specs.declared.event.Task.{Task}
use Rattle.replay.specs.declared.event.Task.TheVariants as task
use Rattle.script.specs.declared.output.Outcome.{Outcome}
use Rattle.script.specs.declared.output.Outcome.TheVariants as outcome
use Rattle.script.specs.declared.output.SessionFault.{SessionFault}
use Rattle.script.specs.declared.output.SessionFault.TheVariants as session_fault

-- what a crash is to leave
abbrev pub form_of : CrashAs → CrashForm
form_of crash_as.Old = form.Old
form_of crash_as.New = form.New
form_of (crash_as.Fill byte) = form.Fill byte

-- what a line asks of the machine
abbrev pub task_of : Line → Task
task_of line.Open = task.Event event.Open
task_of (line.Bytes session bytes) = task.Event (event.Bytes session bytes)
task_of (line.Pump session) = task.Event (event.Pump session)
task_of (line.Close session) = task.Event (event.Close session)
task_of (line.Flush topic) = task.Event (event.OnTopic topic topic_event.Flush)
task_of (line.Take topic) = task.Event (event.OnTopic topic topic_event.Take)
task_of (line.Write topic) = task.Event (event.OnTopic topic topic_event.Write)
task_of (line.Finish topic) = task.Event (event.OnTopic topic topic_event.Finish)
task_of (line.Reopen topic) = task.Event (event.OnTopic topic topic_event.Reopen)
task_of (line.Fail k) = task.Arm (fuse.Fail k)
task_of (line.Stop k) = task.Arm (fuse.Stop k)
task_of (line.FailRead k) = task.Arm (fuse.FailRead k)
task_of (line.Crash as_) = task.Crash (form_of as_)
task_of line.Status = task.Status

-- the word of a session's fault
abbrev pub fault_of : Fault → SessionFault
fault_of fault.TooLarge = session_fault.TooLarge
fault_of fault.BadSizes = session_fault.BadSizes
fault_of fault.Unreadable = session_fault.Unreadable
fault_of fault.Missing = session_fault.Missing
fault_of fault.BadPayload = session_fault.BadPayload
fault_of fault.UnknownCommand = session_fault.UnknownCommand
fault_of fault.OutOfTurn = session_fault.OutOfTurn
fault_of fault.TooManyPermits = session_fault.TooManyPermits
fault_of fault.NoMemory = session_fault.NoMemory

-- the word of a store's refusal
abbrev pub refusal_of : Refusal → StorageRefusal
refusal_of refusal.Device = storage_refusal.Device
refusal_of (refusal.Damaged file offset) = storage_refusal.Damaged
refusal_of refusal.NotInitialised = storage_refusal.NotInitialised
refusal_of refusal.Version = storage_refusal.Version
refusal_of refusal.NoMemory = storage_refusal.NoMemory
refusal_of refusal.TooLarge = storage_refusal.TooLarge

-- how an event ended
abbrev pub outcome_of : Verdict → Outcome
outcome_of verdict.Done = outcome.Done
outcome_of (verdict.Ended why) = outcome.Ended (fault_of why)
outcome_of (verdict.Refused why) = outcome.Refused (refusal_of why)
outcome_of verdict.Full = outcome.Full
outcome_of verdict.Unknown = outcome.Unknown
