use Rattle.std.proofs.Common.{sym}
use Rattle.records.specs.Applied.{name_is_text}
use Rattle.records.proofs.read.first_name.Goals as goal

pub unreachable-requires : goal.unreachable-requires
unreachable-requires c = c.in_default-from_utf8.ensures.cases.0 (name_is_text _ (sym c.if-not-is_subscription_name.ensures))
