-- The durable half of a topic, in one view.
use Rattle.std.specs.Prelude.{◌≡◌, ◌⊎◌, ℕ, ◌+◌, ◌≤◌, ◌^◌, Bool, false, ◌||◌, List}
use Rattle.disk.specs.declared.file_id.TopicId.{TopicId}
use Rattle.disk.specs.Disk.{Disk, Image}
use Rattle.disk.specs.Areas.{Agree, OfTopic, served}
use Rattle.disk.specs.Contents.{Steady}
use Rattle.disk.specs.declared.file_id.FileId.TheVariants.{Segment}
use Rattle.gated_log.specs.declared.refusal.Refusal.{Refusal}
use Rattle.gated_log.specs.declared.refusal.Refusal.TheVariants.{Damaged}
use Rattle.gated_log.specs.Batches.{Bodies}
use Rattle.gated_log.specs.declared.start.Start.{Start}
use Rattle.managed_ledger.specs.Entries.{Ledger, end_of}
use Rattle.managed_ledger.specs.Shape.{total}
use Rattle.records.specs.Maps.{Kept}

pub record StoreView : Type 1 where
  pub topic : ℕ  -- the number of the topic
  pub base : ℕ  -- the position of the first entry that is there, as it remembers it
  pub count : ℕ  -- how many entries came in all, as it remembers it
  pub counts : List ℕ  -- how many entries each segment has that is there, the oldest first; after a failure of those that were last known to be whole
  pub per_ledger : ℕ  -- how many make a segment full
  pub kept : Kept  -- the subscriptions that it remembers; also after a failure the old ones
  pub failed : Bool  -- a write failed: it refuses until it is opened again
  pub holds : Image → Ledger → Kept → Type 0  -- it works, and the files have these entries and subscriptions just as it remembers them
  pub written : Image → Bodies  -- the bodies of changes in its files, as many as it remembers

-- The store works, with these entries and subscriptions, in the same bodies.
abbrev pub Settled : StoreView → Disk → Ledger → Kept → Type 0
Settled v disk ledger kept = Steady (λ files (content : Ledger × Kept). v.holds files content.0 content.1) v.written disk (ledger, kept)

-- What holds of a store at any time, where these are what files of a topic stand for.
pub record AreLaws (files_stand : ℕ → Image → Ledger → Kept → Type 0) (v : StoreView) : Type 0 where
  pub works : (c : Image) (ledger : Ledger) (kept : Kept) → v.holds c ledger kept → v.failed ≡ false
  pub begins : (c : Image) (ledger : Ledger) (kept : Kept) → v.holds c ledger kept → v.base ≡ ledger.base
  pub counts : (c : Image) (ledger : Ledger) (kept : Kept) → v.holds c ledger kept → v.count ≡ end_of ledger
  pub remembers : (c : Image) (ledger : Ledger) (kept : Kept) → v.holds c ledger kept → v.kept ≡ kept
  pub stands : (c : Image) (ledger : Ledger) (kept : Kept) → v.holds c ledger kept → files_stand v.topic c ledger kept
  -- it looks at the files of its topic alone
  pub local : (a b : Image) (ledger : Ledger) (kept : Kept) → Agree (OfTopic v.topic) a b → v.holds a ledger kept → v.holds b ledger kept
  pub written_local : (a b : Image) (ledger : Ledger) (kept : Kept) → Agree (OfTopic v.topic) a b → v.holds a ledger kept → v.written b ≡ v.written a

-- ---- of two stores

pub record EntryView : Type 1 where
  pub topic : TopicId
  pub start : Start
  pub counts : List ℕ
  pub per_ledger : ℕ
  pub failed : Bool
  pub holds : Image → Ledger → Type 0

pub record SubView : Type 1 where
  pub topic : TopicId
  pub start : Start
  pub kept : Kept
  pub failed : Bool
  pub holds : ℕ → Start → Image → Kept → Type 0
  pub written : Image → Bodies

-- They are of one topic of a folder that is served, the ledger begins where the slots say, and each holds its half.
pub record BothHold (e : EntryView) (s : SubView) (files : Image) (ledger : Ledger) (kept : Kept) : Type 0 where
  pub one_topic : s.topic ≡ e.topic
  pub is_served : e.topic ≡ served e.topic.number
  pub one_start : e.start ≡ s.start
  pub entries : e.holds files ledger
  pub subscriptions : s.holds (end_of ledger) s.start files kept

abbrev pub both : EntryView → SubView → StoreView
both e s = record {
  topic = e.topic.number;
  base = s.start.base;
  count = e.start.base + total e.counts;
  counts = e.counts;
  per_ledger = e.per_ledger;
  kept = s.kept;
  failed = e.failed || s.failed;
  holds = λ files ledger kept. BothHold e s files ledger kept;
  written = s.written;
}

abbrev pub entry_view : {E : Type 0} → (E → TopicId) → (E → Start) → (E → List ℕ) → (E → ℕ) → (E → Bool) → (E → Image → Ledger → Type 0) → E → EntryView
entry_view topic_of start_of counts per_ledger failed holds store = record { topic = topic_of store; start = start_of store; counts = counts store; per_ledger = per_ledger store; failed = failed store; holds = holds store }

abbrev pub sub_view : {C : Type 0} → (C → TopicId) → (C → Start) → (C → Kept) → (C → Bool) → (C → ℕ → Start → Image → Kept → Type 0) → (C → Image → Bodies) → C → SubView
sub_view topic_of start_of content failed holds written store = record { topic = topic_of store; start = start_of store; kept = content store; failed = failed store; holds = holds store; written = written store }

-- The files of a topic stand for these entries and subscriptions: its segments for the ledger that begins where its slots say.
abbrev pub stand : (TopicId → Start → Image → Ledger → Type 0) → (TopicId → ℕ → Start → Image → Kept → Type 0) → TopicId → Image → Ledger → Kept → Type 0
stand entries_stand subscriptions_stand topic files ledger kept = (said : Start) × entries_stand topic said files ledger × subscriptions_stand topic (end_of ledger) said files kept

-- no ledger has more entries, and none begins in a later segment
abbrev pub InRange : Start → Type 0
InRange start = (start.base ≤ 2 ^ 62) × (start.first ≤ 2 ^ 62)

-- what a segment is refused for that isn't there
abbrev pub missing_segment : TopicId → ℕ → Refusal
missing_segment topic number = Damaged (Segment topic number) 0

-- the first fault of the segments from there on, or of the slots beside segments that stand for entries
abbrev pub FaultThere : (TopicId → Start → Image → Ledger → Type 0) → (TopicId → Start → Image → Refusal → Type 0) → (TopicId → ℕ → Image → Refusal → Type 0) → TopicId → Start → Image → Refusal → Type 0
FaultThere entries_stand segments_faulty slots_faulty topic start files refusal =
    segments_faulty topic start files refusal ⊎ ((ledger : Ledger) × entries_stand topic start files ledger × slots_faulty topic (end_of ledger) files refusal)

-- where the ledger begins there, their first fault; where it can't begin there, that segment isn't there
abbrev pub FaultFrom : (TopicId → Start → Image → Ledger → Type 0) → (TopicId → Start → Image → Refusal → Type 0) → (TopicId → ℕ → Image → Refusal → Type 0) → TopicId → Start → Image → Refusal → Type 0
FaultFrom entries_stand segments_faulty slots_faulty topic start files refusal =
    ((¬ InRange start) × (refusal ≡ missing_segment topic start.first))
    ⊎ (InRange start × FaultThere entries_stand segments_faulty slots_faulty topic start files refusal)

-- the first fault, where the ledger begins as the slots say
abbrev pub fault : (TopicId → Image → Start → Type 0) → (TopicId → Start → Image → Ledger → Type 0) → (TopicId → Start → Image → Refusal → Type 0) → (TopicId → ℕ → Image → Refusal → Type 0) → TopicId → Image → Refusal → Type 0
fault begins entries_stand segments_faulty slots_faulty topic files refusal =
    (said : Start) × begins topic files said × FaultFrom entries_stand segments_faulty slots_faulty topic said files refusal

-- the slots stand for this start and some subscriptions, beside a ledger of some length
pub record SlotsTell (subscriptions_stand : TopicId → ℕ → Start → Image → Kept → Type 0) (topic : TopicId) (files : Image) (said : Start) : Type 0 where
  pub entries : ℕ
  pub few : entries ≤ 2 ^ 62
  pub kept : Kept
  pub stand : subscriptions_stand topic entries said files kept

-- the segments of the topic, from where its slots tell on, have so many entries each
abbrev pub lay : (TopicId → ℕ → Image → List ℕ → Type 0) → (TopicId → ℕ → Start → Image → Kept → Type 0) → TopicId → Image → List ℕ → Type 0
lay entries_laid subscriptions_stand topic files counts = (said : Start) × SlotsTell subscriptions_stand topic files said × entries_laid topic said.first files counts
