-- The abstract topic. Of what is durable the code keeps the number of entries alone.
use Rattle.std.specs.Prelude.{◌≡◌, ℕ, ◌+◌, Bool, false, Option, Some, None, List, [], length, take, sum_by}
use Rattle.std.specs.FinMap as map
use Rattle.managed_ledger.specs.Entries.{Ledger, end_of, whole}
use Rattle.subscriptions.specs.State.{Subscriptions}
use Rattle.subscriptions.specs.Marks.{Marks, no_marks}
use Rattle.subscriptions.specs.Steps as subscriptions
use Rattle.records.specs.declared.record.Record.{Record}
use Rattle.records.specs.Maps.{Kept}
use Rattle.topic_core.specs.declared.producer.Producer.{Producer}
use Rattle.reply_queues.specs.Replies.{SessionReplies, receipts_in}

-- how much a flush handed on that hasn't come to a good end; the replies are counted in their queues
pub record Doubt : Type 0 where
  pub entries : ℕ  -- of the first waiting ones
  pub changes : ℕ  -- of the first changes of the subscriptions
  pub trim : ℕ  -- the position up to which the ledger may be trimmed with it

pub record Topic : Type 0 where
  pub per_ledger : ℕ  -- how many entry ids a ledger id has
  pub committed : ℕ  -- how many entries are committed
  pub ledger : Ledger  -- these entries, but for those that a trim took
  pub kept : Kept  -- the durable subscriptions: each name's acknowledged positions
  pub waiting : List (List ℕ)  -- the accepted entries that aren't
  pub accepted : ℕ  -- how many SENDs were accepted since the node opened
  pub handed : ℕ  -- how many receipts were collected since then
  pub producers : List Producer
  pub subs : Subscriptions  -- and the changes of them that aren't durable yet
  pub queues : List SessionReplies  -- one a session at most
  pub doubt : Option Doubt
  pub failed : Bool

-- what is counted beside the topic too stays: the SENDs that it accepted, and the receipts that were collected
pub record CountsStay (old new : Topic) : Type 0 where
  pub accepted : new.accepted ≡ old.accepted
  pub handed : new.handed ≡ old.handed

-- a topic that was opened over these committed entries, with these marks, and these durable subscriptions, and that nothing happened to since
abbrev pub opened : ℕ → Ledger → Marks → Kept → Topic
opened per_ledger ledger marks kept = record {
  per_ledger = per_ledger;
  committed = end_of ledger;
  ledger = ledger;
  kept = kept;
  waiting = [];
  accepted = 0;
  handed = 0;
  producers = [];
  subs = subscriptions.marked (subscriptions.opened kept) marks.slots marks.messages;
  queues = [];
  doubt = None;
  failed = false;
}

-- a topic that was just made
abbrev pub just_made : ℕ → Topic
just_made per_ledger = opened per_ledger (whole []) no_marks map.empty

-- how many of the waiting entries and of the changes a flush handed on
abbrev pub entries_of : Option Doubt → ℕ
entries_of None = 0
entries_of (Some doubt) = doubt.entries

abbrev pub changes_of : Option Doubt → ℕ
changes_of None = 0
changes_of (Some doubt) = doubt.changes

-- the position below which a trim may take entries: where the ledger begins, but for a flush that is under way
abbrev pub floor_of : ℕ → Option Doubt → ℕ
floor_of base None = base
floor_of base (Some doubt) = doubt.trim

abbrev pub floor : Topic → ℕ
floor t = floor_of t.ledger.base t.doubt

-- those entries and changes
abbrev pub entries_in_doubt : Topic → List (List ℕ)
entries_in_doubt t = take (entries_of t.doubt) t.waiting

abbrev pub changes_in_doubt : Topic → List Record
changes_in_doubt t = take (changes_of t.doubt) t.subs.changes

-- the position that the next accepted entry gets
abbrev pub next_position : Topic → ℕ
next_position t = t.committed + length t.waiting

-- how many bytes the waiting entries have
abbrev pub waiting_bytes : Topic → ℕ
waiting_bytes t = sum_by length t.waiting

-- how many receipts are due
abbrev pub receipts_due : List SessionReplies → ℕ
receipts_due queues = sum_by (λ q. receipts_in q.due) queues
