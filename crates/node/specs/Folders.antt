-- What the files of a folder hold, and what a node has that is opened over them.
use Rattle.std.specs.Prelude.{◌≡◌, ◌⊎◌, ℕ, None, List, [], map}
use Rattle.disk.specs.Disk.{Disk, Image}
use Rattle.gated_log.specs.declared.refusal.Refusal.{Refusal}
use Rattle.managed_ledger.specs.Entries.{Ledger}
use Rattle.records.specs.Maps.{Kept}
use Rattle.catalog.specs.Catalogs.{OldCounts}
use Rattle.topic_core.specs.Messages.{marks_of}
use Rattle.topic_core.specs.State.{Topic, opened}
use Rattle.session.specs.Broker.{Broker}
use Rattle.node.specs.State.{State}
use Rattle.node.specs.Standing.{AtRest}
use Rattle.node.specs.Opening.{IsJustOpened}
use Rattle.node.specs.Runs.{StateCrash}
use Rattle.node.specs.Upgrading.{Content, IsOld, IsNew, IsUpgradeFault}

-- files hold one content at most, and are a folder of one version at most
pub record HoldOneContent (files : Image) : Type 0 where
  pub old : (x y : Content) → IsOld x files → IsOld y files → x ≡ y
  pub new : (x y : Content) → IsNew x files → IsNew y files → x ≡ y
  pub apart : (x y : Content) → IsOld x files → ¬ IsNew y files

abbrev pub FoldersHoldOneContent : Type 0
FoldersHoldOneContent = (files : Image) → HoldOneContent files

-- a topic that was opened over these entries and subscriptions, and that nothing happened to since
abbrev pub topic_over : ℕ → Ledger × Kept → Topic
topic_over per_ledger part = opened per_ledger part.0 (marks_of part.0) part.1

-- the broker with such topics, which clients find by this URL
abbrev pub broker_over : Content → List ℕ → Broker
broker_over x url = record {
  per_ledger = x.per_ledger;
  service_url = url;
  names = x.names;
  doubtful = None;
  topics = map (λ part. topic_over x.per_ledger part) x.topics;
}

-- that broker without a session, on a device that hasn't failed
abbrev pub state_over : Content → List ℕ → State
state_over x url = record { broker = broker_over x url; stages = []; sessions = []; used = 0; faults = 0 }

-- what the broker's topics hold that is durable
abbrev pub content_of : Broker → Content
content_of b = record { per_ledger = b.per_ledger; names = b.names; topics = map (λ (t : Topic). (t.ledger, t.kept)) b.topics }

-- A folder of version 2 is what a node serves. Where whatever a crash leaves is one that holds this, a node of just this is at rest; what
-- that is opened as, behind whatever crash, is just this; files that hold this open as just this; and files hold what they opened as.
pub record NewFoldersAreServed {S : Type 0} (disk : S → Disk) (files_stand : ℕ → Image → Ledger → Kept → Type 0) : Type 0 where
  pub rests : (x : Content) (url : List ℕ) (shelf : S) → (disk shelf).honest → ((files : Image) → (disk shelf).may_leave files → IsNew x files)
      → AtRest files_stand (state_over x url) (disk shelf)
  pub crashes : (x : Content) (url : List ℕ) (new : State) → StateCrash (state_over x url) new → new.broker ≡ broker_over x url
  pub opens : (x : Content) (files : Image) (state : State) → IsNew x files → IsJustOpened files_stand files state → state.broker ≡ broker_over x state.broker.service_url
  pub holds : (files : Image) (state : State) → ¬ OldCounts files → IsJustOpened files_stand files state → IsNew (content_of state.broker) files

-- An upgrade is refused for one fault of the files, and for none of those of a folder of either version.
pub record HaveOneUpgradeFault (files : Image) : Type 0 where
  pub one : (why other : Refusal) → IsUpgradeFault files why → IsUpgradeFault files other → why ≡ other
  pub none : (x : Content) (why : Refusal) → IsOld x files ⊎ IsNew x files → ¬ IsUpgradeFault files why

abbrev pub UpgradesHaveOneFault : Type 0
UpgradesHaveOneFault = (files : Image) → HaveOneUpgradeFault files
