use Rattle.subscriptions.proofs.Forgotten.{counts_are_forgotten}
use Rattle.subscriptions.proofs.laws.counts_are_forgotten.Goals as goal

pub returns : goal.returns
returns c = λ t. counts_are_forgotten t
