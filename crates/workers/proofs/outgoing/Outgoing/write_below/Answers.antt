use Rattle.std.proofs.Common.{rules}
use Rattle.workers.proofs.Written.{wrote_none, same_consumer, wrote_both}
use Rattle.workers.proofs.outgoing.Outgoing.write_below.Goals as goal

pub loop-init : goal.loop-init
loop-init g c = (search rules, wrote_none g.W.Write.contents c.args.self.now)

pub loop-preserved : goal.loop-preserved
loop-preserved g c =
    let e = c.in_ok-write_one_below.ensures in
    (same_consumer c.args.self.now.replies c.loop.self.replies c.write_one_below.new.self.replies c.loop.invariant.0 e.ring, wrote_both g.W.Write.contents c.args.self.now c.loop.self c.write_one_below.new.self c.loop.invariant.1 e.wrote)

pub returns-clause-wrote : goal.returns-clause-wrote
returns-clause-wrote g c = wrote_both g.W.Write.contents c.args.self.now c.loop.self c.write_one_below.new.self c.loop.invariant.1 c.in_ok-write_one_below.ensures.wrote
