-- What is told of a node.
use Rattle.std.specs.Prelude.{◌≡◌, ◌⊎◌, ℕ, List, Some, length, slice_get}
use Rattle.disk.specs.Disk.{Disk, Image, Failed}
use Rattle.gated_log.specs.declared.refusal.Refusal.{Refusal}
use Rattle.managed_ledger.specs.Entries.{Ledger}
use Rattle.records.specs.Maps.{Kept}
use Rattle.topic_stores.specs.declared.store.TopicStore.{Ghosts as StoreMembers}
use Rattle.node.specs.State.{State}
use Rattle.node.specs.Driving.{StatusIn, HasSegments, SegmentsAt}
use Rattle.node.specs.Opening.{IsJustOpened, IsFirstFault}
use Rattle.node.specs.declared.held.Held.{Held}
use Rattle.node.specs.declared.status.TopicStatus.{TopicStatus}
use Rattle.folder.specs.declared.fault.FolderFault.{FolderFault}
use Rattle.folder.specs.declared.fault.FolderFault.TheVariants.{Refused, AlreadyInitialised, HoldsTopics, InUse}
use Rattle.folder.specs.Faults.{IsOutage}

-- each of these topics is told by its number
abbrev pub AreOf : State → List TopicStatus → Type 0
AreOf state statuses = (number : ℕ) (status : TopicStatus) → slice_get statuses number ≡ Some status → StatusIn (Some number) state (Some status)

-- all topics are told, in the order of their numbers
pub record AreTold (state : State) (statuses : List TopicStatus) : Type 0 where
  pub all : length statuses ≡ length state.broker.topics
  pub each : AreOf state statuses

-- with as many segment files as these stores count in the files
abbrev pub AreCounted : {T : Type 0} {store : StoreMembers T} → (ℕ → Image → List ℕ → Type 0) → List (Held T store) → Image → List TopicStatus → Type 0
AreCounted laid held files statuses = (number : ℕ) (status : TopicStatus) → slice_get statuses number ≡ Some status → SegmentsAt laid number held files (Some status)

-- with as many as each topic has, by the files alone
abbrev pub HaveSegments : (ℕ → Image → List ℕ → Type 0) → Image → List TopicStatus → Type 0
HaveSegments laid files statuses = (number : ℕ) (status : TopicStatus) → slice_get statuses number ≡ Some status → HasSegments laid number files status.segments

-- the topics are told of the node that the files stand for, with the segment files that are there
abbrev pub AreFound : (ℕ → Image → Ledger → Kept → Type 0) → (ℕ → Image → List ℕ → Type 0) → Image → List TopicStatus → Type 0
AreFound files_stand laid files statuses = (state : State) × IsJustOpened files_stand files state × AreTold state statuses × HaveSegments laid files statuses

-- the first fault that stands in the files
abbrev pub IsFoundFault : (ℕ → Image → Ledger → Kept → Type 0) → (ℕ → Image → Refusal → Type 0) → Image → FolderFault → Type 0
IsFoundFault files_stand faulty files (Refused why) = IsFirstFault files_stand faulty files why
IsFoundFault files_stand faulty files AlreadyInitialised = ⊥
IsFoundFault files_stand faulty files HoldsTopics = ⊥
IsFoundFault files_stand faulty files InUse = ⊥

-- memory was refused, or the device failed, or that
abbrev pub IsFaultOfLooking : (ℕ → Image → Ledger → Kept → Type 0) → (ℕ → Image → Refusal → Type 0) → Image → FolderFault → Type 0
IsFaultOfLooking files_stand faulty files fault = IsOutage fault ⊎ IsFoundFault files_stand faulty files fault

-- the device, which the call keeps, came to have failed more often
pub record DeviceFails {S : Type 0} (disk : S → Disk) (shelf : S) : Type 0 where
  pub after : S
  pub failed : Failed (disk shelf) (disk after)
