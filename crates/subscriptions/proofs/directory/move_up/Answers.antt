use Rattle.std.proofs.Common.{rules}
use Rattle.std.proofs.lemmas.Map.Made.{map_same_pairs}
use Rattle.subscriptions.specs.Directory.{moved_up}
use Rattle.subscriptions.proofs.directory.move_up.Goals as goal

pub returns : goal.returns
returns c = map_same_pairs _ (moved_up c.args.gone) _ (λ k v b w f' t. search rules) _ _ c.retain.ensures.filtered
