use Rattle.std.proofs.Common.{sym, ◌∙◌}
use Rattle.names.proofs.Parts.{name_is_utf8}
use Rattle.names.proofs.topic_name.TopicName.read.Goals as goal

pub unreachable-requires : goal.unreachable-requires
unreachable-requires c = c.in_default.ensures.cases.0 (name_is_utf8 c.args.bytes.now (sym c.is_topic_name.ensures ∙ c.if-not-is_topic_name.false))
