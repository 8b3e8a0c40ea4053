use Rattle.std.proofs.Common.{sym}
use Rattle.script.proofs.Texts.{pieces-some, pieces-none}
use Rattle.script.proofs.text.first_piece.Goals as goal

pub returns-in-Some-clause-pieces : goal.returns-in-Some-clause-pieces
returns-in-Some-clause-pieces c = (pieces-some c.args.bytes.now (c.in-Some.piece.now, c.in-Some.rest.now) (sym c.in-Some.ensures)).0

pub returns-in-Some-clause-shorter : goal.returns-in-Some-clause-shorter
returns-in-Some-clause-shorter c = (pieces-some c.args.bytes.now (c.in-Some.piece.now, c.in-Some.rest.now) (sym c.in-Some.ensures)).1

pub returns-in-None-clause-pieces : goal.returns-in-None-clause-pieces
returns-in-None-clause-pieces c = pieces-none c.args.bytes.now (sym c.in-None.ensures)
