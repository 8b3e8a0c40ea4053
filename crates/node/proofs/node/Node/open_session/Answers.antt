use Rattle.node.specs.Passing.{passes_nothing}
use Rattle.node.proofs.node.Node.open_session.Goals as goal

pub returns-then-len-ge-MOST_SESSIONS-clause-passes : goal.returns-then-len-ge-MOST_SESSIONS-clause-passes
returns-then-len-ge-MOST_SESSIONS-clause-passes g c = passes_nothing g.S.Shelf.disk c.args.self.now.topics

pub returns-then-is_err-clause-passes : goal.returns-then-is_err-clause-passes
returns-then-is_err-clause-passes g c = passes_nothing g.S.Shelf.disk c.args.self.now.topics

pub returns-clause-passes : goal.returns-clause-passes
returns-clause-passes g c = passes_nothing g.S.Shelf.disk c.args.self.now.topics
