use Rattle.records.proofs.Maps.{taken_out}
use Rattle.records.proofs.kept.remove.Goals as goal

pub returns : goal.returns
returns c = taken_out c.args.cursors.now c.remove.new.self c.args.name.now c.remove.ensures.updates
