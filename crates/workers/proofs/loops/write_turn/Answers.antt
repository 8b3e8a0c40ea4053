use Rattle.workers.proofs.Written.{wrote_both}
use Rattle.workers.proofs.loops.write_turn.Goals as goal

pub returns-clause-wrote : goal.returns-clause-wrote
returns-clause-wrote g c = wrote_both g.W.Write.contents c.args.outgoing.now c.write.new.outgoing c.write_below-2.new.self c.in_ok-ended.ensures.wrote c.in_ok-write_below-2.ensures.wrote
