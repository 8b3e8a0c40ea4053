use Rattle.commands.proofs.ByType as types
use Rattle.commands.proofs.laws.reads_commands.Goals as goal

pub returns : goal.returns
returns c = types.reads_commands
