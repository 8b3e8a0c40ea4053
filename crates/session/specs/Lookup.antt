-- LOOKUP and PARTITIONED_METADATA, as a session works them. Neither makes a topic.
use Rattle.std.specs.Prelude.{Bool, true, false, Some, None, Ok, Err}
use Rattle.commands.specs.declared.lookup.LookupTopic.{LookupTopic}
use Rattle.commands.specs.declared.lookup.PartitionedTopicMetadata.{PartitionedTopicMetadata}
use Rattle.commands.specs.declared.reply.Reply.TheVariants as reply
use Rattle.commands.specs.declared.server_error.ServerError.TheVariants.{InvalidTopicName}
use Rattle.names.specs.Names.{is_topic_name}
use Rattle.session.specs.Client.{Play, SaysAlone}

-- by whether a topic may have the name: this broker serves it
abbrev pub LookupIn : Bool → Play → LookupTopic → Play → Type 0
LookupIn true old asked new = SaysAlone old (reply.LookupResponse asked.request_id (Ok old.broker.service_url)) new
LookupIn false old asked new = SaysAlone old (reply.LookupResponse asked.request_id (Err InvalidTopicName)) new

abbrev pub LookupStep : Play → LookupTopic → Play → Type 0
LookupStep old asked new = LookupIn (is_topic_name asked.topic) old asked new

-- by whether a topic may have the name: it has no partitions
abbrev pub PartitionsIn : Bool → Play → PartitionedTopicMetadata → Play → Type 0
PartitionsIn true old asked new = SaysAlone old (reply.PartitionedMetadataResponse asked.request_id None) new
PartitionsIn false old asked new = SaysAlone old (reply.PartitionedMetadataResponse asked.request_id (Some InvalidTopicName)) new

abbrev pub PartitionsStep : Play → PartitionedTopicMetadata → Play → Type 0
PartitionsStep old asked new = PartitionsIn (is_topic_name asked.topic) old asked new
