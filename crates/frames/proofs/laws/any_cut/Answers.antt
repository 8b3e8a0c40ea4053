use Rattle.frames.proofs.Pieces as read
use Rattle.frames.proofs.laws.any_cut.Goals as goal

pub returns-clause-pieces : goal.returns-clause-pieces
returns-clause-pieces c = read.any_pieces

pub returns-clause-cuts : goal.returns-clause-cuts
returns-clause-cuts c = read.any_cut
