use Rattle.commands.proofs.Entries as entries
use Rattle.commands.proofs.laws.reads_entries.Goals as goal

pub returns : goal.returns
returns c = entries.reads_entries
