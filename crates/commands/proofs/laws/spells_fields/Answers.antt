use Rattle.commands.proofs.Spelled as spelled
use Rattle.commands.proofs.laws.spells_fields.Goals as goal

pub returns : goal.returns
returns c = spelled.spells_fields
