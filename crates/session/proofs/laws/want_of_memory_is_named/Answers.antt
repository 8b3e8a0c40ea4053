use Rattle.session.specs.Table.{topic_of}
use Rattle.session.proofs.Wanting.{frame_wants, redelivers, closes_consumer}
use Rattle.session.proofs.laws.want_of_memory_is_named.Goals as goal

pub returns : goal.returns
returns c = record {
  ends = λ old frame new none step some. frame_wants old.client.fault old.client.connected old frame new none none step some;
  redeliver = λ old asked new step. redelivers (topic_of old.client.consumers asked.consumer_id) old asked new step;
  close_consumer = λ old asked new step. closes_consumer (topic_of old.client.consumers asked.consumer_id) old asked new step;
}
