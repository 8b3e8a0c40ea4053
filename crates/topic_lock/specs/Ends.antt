-- How the write of a batch ends, across two locks.
use Rattle.std.specs.Prelude.{ℕ, Bool, ◌||◌, nat_eq, Result, Ok, Err}
use Rattle.topic_stores.specs.declared.error.WriteError.{WriteError}
use Rattle.topic_stores.specs.declared.error.WriteError.TheVariants as write
use Rattle.topic_lock.specs.declared.fault.FlushFault.{FlushFault}
use Rattle.topic_lock.specs.declared.fault.FlushFault.TheVariants.{Device, NoMemory, Apart}

-- whether so many of so many entries may be durable after a write that ended so
abbrev pub may_have_added : ℕ → Result ℕ FlushFault → ℕ → Bool
may_have_added entries (Ok base) added = nat_eq added entries
may_have_added entries (Err NoMemory) added = nat_eq added 0
may_have_added entries (Err Device) added = nat_eq added 0 || nat_eq added entries
may_have_added entries (Err Apart) added = nat_eq added 0

-- as the topic takes it: stores that don't go with their topic fail it, as a device does that failed
abbrev pub end_of : Result ℕ FlushFault → Result ℕ WriteError
end_of (Ok base) = Ok base
end_of (Err NoMemory) = Err write.NoMemory
end_of (Err Device) = Err write.Device
end_of (Err Apart) = Err write.Device

-- how a write of the stores ended
abbrev pub fault_of : Result ℕ WriteError → Result ℕ FlushFault
fault_of (Ok base) = Ok base
fault_of (Err write.NoMemory) = Err NoMemory
fault_of (Err write.Device) = Err Device
