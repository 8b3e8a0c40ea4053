-- The abstract topic that a `TopicCore` stands for.
use Rattle.std.specs.Prelude.{Option, Some, None}
use Rattle.topic_core.specs.declared.topic.Doubt.{Doubt as Counts}
use Rattle.topic_core.specs.declared.topic.TopicCore.TheInside.{Inside}
use Rattle.topic_core.specs.State.{Topic, Doubt}

abbrev pub doubt_of : Option Counts → Option Doubt
doubt_of None = None
doubt_of (Some doubt) = Some (record { entries = doubt.entries; changes = doubt.changes; trim = doubt.trim })

abbrev pub core_of : {G Told : Type 0} → Inside G Told → Topic
core_of t = record {
  per_ledger = t.per_ledger;
  committed = t.committed;
  ledger = t.durable.ledger;
  kept = t.durable.kept;
  waiting = t.waiting.items;
  accepted = t.accepted;
  handed = t.handed;
  producers = t.producers;
  subs = t.subs;
  queues = t.queues;
  doubt = doubt_of t.doubt;
  failed = t.failed;
}
