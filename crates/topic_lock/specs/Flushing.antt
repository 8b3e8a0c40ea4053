-- A flush in three parts, each under one lock.
use Rattle.std.specs.Prelude.{◌≡◌, ℕ, min, Option, Some, None, Result, Ok, Err}
use Rattle.topic_stores.specs.declared.batch.Batch.{Batch}
use Rattle.topic_stores.specs.declared.error.WriteError.{WriteError}
use Rattle.topic_stores.specs.declared.error.WriteError.TheVariants as write
use Rattle.topic_stores.specs.Views.{StoreView}
use Rattle.topic_stores.specs.Writing.{Fits, Remembers}
use Rattle.topic_core.specs.State.{Topic, floor, entries_of}
use Rattle.topic_core.specs.Flush.{finished, taken_back, failed}
use Rattle.topic_lock.specs.declared.counted.flushing.Taken.{Taken}
use Rattle.topic_lock.specs.declared.counted.flushing.Taken.TheVariants as taken
use Rattle.topic_lock.specs.declared.counted.flushing.Flushed.{Flushed}
use Rattle.topic_lock.specs.declared.counted.flushing.TakenBatch.{TakenBatch}
use Rattle.topic_lock.specs.declared.fault.FlushFault.{FlushFault}
use Rattle.topic_lock.specs.declared.fault.FlushFault.TheVariants.{Device, NoMemory, Apart}

-- why no batch was taken, where a flush says so
abbrev pub none_of : Result ℕ FlushFault → Result (Option Batch) WriteError
none_of (Ok count) = Ok None
none_of (Err NoMemory) = Err write.NoMemory
none_of (Err Device) = Err write.Device
none_of (Err Apart) = Err write.Device

-- the batch that was taken, or why none was
abbrev pub taken_of : Taken → Result (Option Batch) WriteError
taken_of (taken.Nothing flushed) = none_of flushed.count
taken_of (taken.Batch that) = Ok (Some that.batch)

abbrev pub IfNothing : Taken → (Flushed → Type 0) → Type 0
IfNothing (taken.Nothing flushed) says = says flushed
IfNothing (taken.Batch that) says = Unit {0}

abbrev pub IfBatch : Taken → (TakenBatch → Type 0) → Type 0
IfBatch (taken.Nothing flushed) says = Unit {0}
IfBatch (taken.Batch that) says = says that

-- a batch is the stores' to write: it was taken of their topic, and fits what they remember
abbrev pub IsTheirs : StoreView → ℕ → Batch → Type 0
IsTheirs stores topic batch = (topic ≡ stores.topic) × Fits stores batch

-- what the stores remember after a write: a batch that isn't theirs isn't tried
abbrev pub Writes : StoreView → ℕ → Batch → Result ℕ FlushFault → StoreView → Type 0
Writes old topic batch (Ok base) new = IsTheirs old topic batch × Remembers old batch (Ok base) new
Writes old topic batch (Err NoMemory) new = IsTheirs old topic batch × Remembers old batch (Err write.NoMemory) new
Writes old topic batch (Err Device) new = IsTheirs old topic batch × Remembers old batch (Err write.Device) new
Writes old topic batch (Err Apart) new = IsTheirs old topic batch → ⊥

-- a flush ends as its write did: what was handed on is committed, or waits again, or the topic fails
abbrev pub FinishStep : Topic → Result ℕ FlushFault → Result ℕ FlushFault → Topic → Type 0
FinishStep old (Ok base) result new = (result ≡ Ok (entries_of old.doubt)) × (new ≡ finished old (min base (floor old)))
FinishStep old (Err NoMemory) result new = (result ≡ Err NoMemory) × (new ≡ taken_back old)
FinishStep old (Err Device) result new = (result ≡ Err Device) × (new ≡ failed old)
FinishStep old (Err Apart) result new = (result ≡ Err Apart) × (new ≡ failed old)

-- the count of a flush that ended well, or why it did not
abbrev pub told_of : Result ℕ FlushFault → Result ℕ WriteError → Result ℕ FlushFault
told_of (Ok base) (Ok count) = Ok count
told_of (Ok base) (Err why) = Ok 0
told_of (Err why) ended = Err why
