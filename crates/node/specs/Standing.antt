-- How a node and its device hold the abstract node together.
use Rattle.std.specs.Prelude.{◌≡◌, ◌⊎◌, ◌<◌, ◌≤◌, ℕ, false, Option, Some, None, List, [], ◌∷◌, ◌++◌, length, map as each, slice_get, slice_index_or}
use Rattle.std.specs.FinMap as map
use Rattle.disk.specs.Disk.{Disk, Image, Leaves}
use Rattle.disk.specs.Contents.{Settled}
use Rattle.catalog.specs.Catalogs.{StandsFor as NamesStand, Holds as NamesHeld, OldCounts, remembered, per_ledger, failed}
use Rattle.gated_log.specs.declared.read_error.ReadError.{ReadError}
use Rattle.managed_ledger.specs.Entries.{Ledger, whole}
use Rattle.records.specs.Maps.{Kept}
use Rattle.topic_stores.specs.declared.store.TopicStore.{Ghosts as StoreMembers}
use Rattle.topic_stores.specs.Views.{StoreView}
use Rattle.topic_stores.specs.Writing.{StandsFor, IsOneMoreAtMost}
use Rattle.topic_core.specs.Crashes.{IsLeft}
use Rattle.topic_core.specs.Standing.{Phase, Lost, Standing}
use Rattle.topic_core.specs.State.{Topic}
use Rattle.session.specs.Broker.{Broker, topic_at}
use Rattle.node.specs.State.{State, Stage, MayRefuse, stage_in}
use Rattle.node.specs.Naming.{IsFormed, Gains, Grows}
use Rattle.node.specs.Steps.{Spot}
use Rattle.node.specs.Flights.{stage_of, phase_at}
use Rattle.node.specs.declared.held.Held.{Held}
use Rattle.node.specs.declared.topics.Topics.{Topics}
use Rattle.node.specs.declared.node.Node.{Node}

-- The catalog's file stands for the broker's names; where a name is in doubt, for these or for that one too, and the files of its
-- topic stand for a fresh one.
abbrev pub NamesLeft : (ℕ → Image → Ledger → Kept → Type 0) → Option (List ℕ) → Broker → Image → Type 0
NamesLeft files_stand None b files = NamesStand b.per_ledger files b.names
NamesLeft files_stand (Some name) b files =
    NamesStand b.per_ledger files b.names ⊎ (NamesStand b.per_ledger files (b.names ++ name ∷ []) × files_stand (length b.topics) files (whole []) map.empty)

-- the files stand for what a crash leaves of the broker: its names, and each topic; and no folder of version 1 counts beside them
pub record StandsForBroker (files_stand : ℕ → Image → Ledger → Kept → Type 0) (b : Broker) (files : Image) : Type 0 where
  pub formed : IsFormed b
  pub newest : ¬ OldCounts files
  pub names : NamesLeft files_stand b.doubtful b files
  pub topics : (number : ℕ) (t : Topic) → slice_get b.topics number ≡ Some t → StandsFor (files_stand number) (IsLeft t) files

-- they stand for what a crash leaves of one of these brokers
abbrev pub StandsForSome : (ℕ → Image → Ledger → Kept → Type 0) → (Broker → Type 0) → Image → Type 0
StandsForSome files_stand Is files = (broker : Broker) × Is broker × StandsForBroker files_stand broker files

-- ---- the segments that stores know of

-- A failure leaves a store knowing of as many segments as before, or of one more, which it had begun; from then on that stays.
pub record StillKnows (old new : Phase) (known now : ℕ) : Type 0 where
  pub stays : old ≡ Lost → new ≡ Lost → now ≡ known
  pub since : new ≡ Lost → IsOneMoreAtMost known now

-- of how many the store of the topic of a number knows, where these know of so many
abbrev pub known_in : List ℕ → ℕ → ℕ
known_in known number = slice_index_or known number 0

-- ---- one topic

module _ {T : Type 0} {store : StoreMembers T} where
  -- what the store remembers and holds
  abbrev pub view_in : Held T store → StoreView
  view_in h = store.view h.stores

  -- the topic with its flush, and how often the device has failed
  abbrev pub spot_of : Held T store → ℕ → Spot
  spot_of h faults = record { topic = h.core; stage = stage_of h.flight; faults = faults }

  -- how far the store is, beside the topic
  abbrev pub phase_in : Held T store → Phase
  phase_in h = phase_at h.core.failed (stage_of h.flight)

  -- topic, store and device hold the topic together
  abbrev pub HeldStands : Held T store → Disk → Type 0
  HeldStands h disk = Standing store.stands (phase_in h) h.core (view_in h) disk

  -- how many segments the store knows of
  abbrev pub known_by : Held T store → ℕ
  known_by h = length (view_in h).counts

  abbrev pub HeldKnows : Held T store → Held T store → Type 0
  HeldKnows old new = StillKnows (phase_in old) (phase_in new) (known_by old) (known_by new)

-- ---- all of them

module _ {T S : Type 0} {store : StoreMembers T} where
  abbrev pub broker_of : Topics T S store → Broker
  broker_of t = record {
    per_ledger = per_ledger t.catalog;
    service_url = t.url;
    names = remembered t.catalog;
    doubtful = t.doubtful;
    topics = each (λ h. h.core) t.held.items;
  }

  -- how far the flushes are that come in parts, by the numbers of their topics
  abbrev pub stages_of : Topics T S store → List Stage
  stages_of t = each (λ h. stage_of h.flight) t.held.items

  -- of how many segments the stores know, by the numbers of their topics
  abbrev pub known_of : Topics T S store → List ℕ
  known_of t = each (λ h. known_by h) t.held.items

  -- how far the store of the topic of a number is
  abbrev pub phase_of_topic : Topics T S store → ℕ → Phase
  phase_of_topic t number = phase_at (topic_at (broker_of t) number).failed (stage_in (stages_of t) number)

  -- what the stores know goes on
  pub record StillKnow (old new : Topics T S store) : Type 0 where
    pub each : (number : ℕ) → number < length old.held.items → StillKnows (phase_of_topic old number) (phase_of_topic new number) (known_in (known_of old) number) (known_in (known_of new) number)

  module _ (disk : S → Disk) where
    -- The device is honest, and holds each topic; whatever a crash leaves stands for their names, or one more that is in doubt.
    pub record TopicsStand (t : Topics T S store) : Type 0 where
      pub honest : (disk t.shelf).honest
      pub each : (number : ℕ) (h : Held T store) → slice_get t.held.items number ≡ Some h → HeldStands h (disk t.shelf)
      pub newest : (files : Image) → (disk t.shelf).may_leave files → ¬ OldCounts files
      pub names : (files : Image) → (disk t.shelf).may_leave files → NamesLeft store.stands t.doubtful (broker_of t) files
      pub settled : failed t.catalog ≡ false → Settled (NamesHeld t.catalog) (disk t.shelf) (remembered t.catalog)

    -- A call of a port, which writes nothing: the device still holds the topics; what a crash leaves of them, it left before, and
    -- so at any moment of the call.
    pub record Passed (old new : Topics T S store) : Type 0 where
      pub standing : TopicsStand new
      pub left : (number : ℕ) (ledger : Ledger) (kept : Kept) → IsLeft (topic_at (broker_of new) number) ledger kept → IsLeft (topic_at (broker_of old) number) ledger kept
      pub any_moment : Leaves (StandsForBroker store.stands (broker_of old)) (disk old.shelf) (disk new.shelf)
      pub url : new.url ≡ old.url
      pub catalog : new.catalog ≡ old.catalog
      pub doubtful : new.doubtful ≡ old.doubtful
      pub stages : stages_of new ≡ stages_of old
      pub known : known_of new ≡ known_of old
      pub faults : (disk old.shelf).faults ≤ (disk new.shelf).faults

    -- A call of a port that may make topics of these names, or of the one in doubt: of the others, what a crash leaves it left before; what
    -- it leaves of those that are made is that of fresh ones; and so at any moment of the call.
    pub record Worked (names : List (List ℕ)) (old new : Topics T S store) : Type 0 where
      pub standing : TopicsStand new
      pub grows : Grows names (broker_of old) (broker_of new)
      pub any_moment : Leaves (StandsForSome store.stands (λ broker. Gains names (broker_of old) broker)) (disk old.shelf) (disk new.shelf)
      pub stages : (number : ℕ) → stage_in (stages_of new) number ≡ stage_in (stages_of old) number
      pub known : (number : ℕ) → number < length old.held.items → known_in (known_of new) number ≡ known_in (known_of old) number
      pub faults : (disk old.shelf).faults ≤ (disk new.shelf).faults

    abbrev pub Works : List (List ℕ) → Topics T S store → Topics T S store → Type 0
    Works names old new = (length old.held.items ≤ length new.held.items) × (TopicsStand old → Worked names old new)

    abbrev pub Passes : Topics T S store → Topics T S store → Type 0
    Passes old new = (length old.held.items ≤ length new.held.items) × (TopicsStand old → Passed old new)

    -- the device failed between the two
    abbrev pub Fails : Topics T S store → Topics T S store → Type 0
    Fails old new = TopicsStand old → (disk old.shelf).faults < (disk new.shelf).faults

    -- a message of the topic of this number was refused so between the two
    abbrev pub Refuses : Topics T S store → ℕ → ReadError → Topics T S store → Type 0
    Refuses old number why new = TopicsStand old → MayRefuse (stages_of old) (disk old.shelf).faults (disk new.shelf).faults number why

    -- the abstract node
    abbrev pub state_of : Node T S store → State
    state_of n = record { broker = broker_of n.topics; stages = stages_of n.topics; sessions = n.sessions.items; used = n.used; faults = (disk n.topics.shelf).faults }

    abbrev pub disk_of : Node T S store → Disk
    disk_of n = disk n.topics.shelf

    -- the device is honest, and it and the node hold the abstract node together
    abbrev pub Stands : Node T S store → Type 0
    Stands n = TopicsStand n.topics

-- a node that is down: whatever a crash now leaves of the device stands for what a crash leaves of this state
pub record AtRest (files_stand : ℕ → Image → Ledger → Kept → Type 0) (state : State) (disk : Disk) : Type 0 where
  pub honest : disk.honest
  pub left : (files : Image) → disk.may_leave files → StandsForBroker files_stand state.broker files
  pub faults : state.faults ≤ disk.faults
