use Rattle.std.proofs.Common.{Err, ◌^◌, ◌∙◌, ap}
use Rattle.topic_stores.proofs.Sizes.{records_fit}
use Rattle.topic_stores.proofs.appending.prepare_changes.Goals as goal

pub unreachable-requires : goal.unreachable-requires
unreachable-requires g c = records_fit (2 ^ 62) _ c.args.changes.now c.requires.formed c.requires.few (c.prepare.ensures.too_large.0 (c.in-Err-TooLarge.is ∙ ap Err c.in-Err-TooLarge.field-0-is))
