use Rattle.commands.proofs.Occurrences as occurrences
use Rattle.commands.proofs.laws.reads_occurrences.Goals as goal

pub returns : goal.returns
returns c = occurrences.reads_occurrences
