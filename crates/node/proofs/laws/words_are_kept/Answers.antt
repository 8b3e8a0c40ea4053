use Rattle.node.proofs.Promising.{word_kept}
use Rattle.node.proofs.laws.words_are_kept.Goals as goal

pub returns : goal.returns
returns c = word_kept
