-- What is told of a topic that is served, beside its subscriptions.
use Rattle.std.specs.Prelude.{length}
use Rattle.topic_core.specs.State.{Topic, waiting_bytes}
use Rattle.topic_core.specs.declared.summary.TopicSummary.{TopicSummary}

abbrev pub summary_of : Topic → TopicSummary
summary_of t = record {
  entries = t.committed;
  waiting = length t.waiting;
  waiting_bytes = waiting_bytes t;
  accepted = t.accepted;
  handed = t.handed;
  producers = length t.producers;
  subscriptions = length t.subs.subs;
  is_failed = t.failed;
}
