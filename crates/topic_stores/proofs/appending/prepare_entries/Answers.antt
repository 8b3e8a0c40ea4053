use Rattle.std.proofs.Common.{Err, ◌∙◌, ap}
use Rattle.topic_stores.proofs.Sizes.{entries_fit}
use Rattle.topic_stores.proofs.appending.prepare_entries.Goals as goal

pub unreachable-requires : goal.unreachable-requires
unreachable-requires g c = entries_fit c.args.entries.now c.requires.few c.requires.small (c.prepare.ensures.too_large.0 (c.in-Err-TooLarge.is ∙ ap Err c.in-Err-TooLarge.field-0-is))
