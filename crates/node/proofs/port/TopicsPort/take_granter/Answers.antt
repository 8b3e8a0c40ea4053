use Rattle.node.specs.Passing.{passes_nothing}
use Rattle.node.proofs.port.TopicsPort.take_granter.Goals as goal

pub returns-clause-passes : goal.returns-clause-passes
returns-clause-passes g c = passes_nothing g.S.Shelf.disk c.args.self.now
