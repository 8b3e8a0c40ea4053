use Rattle.std.proofs.Common.{rules}
use Rattle.workers.proofs.Written.{wrote_both, wrote_none, same_consumer}
use Rattle.workers.proofs.loops.write_loop.Goals as goal

pub loop-init : goal.loop-init
loop-init g c = (search rules, wrote_none g.W.Write.contents c.args.outgoing.now)

pub loop-preserved : goal.loop-preserved
loop-preserved g c =
    let e = c.in_ok-write_turn.ensures in
    let a = c.args.outgoing.now in
    let b = c.loop.outgoing in
    let d = c.write_turn.new.outgoing in
    (same_consumer a.replies b.replies d.replies c.loop.invariant.0 e.ring, wrote_both g.W.Write.contents a b d c.loop.invariant.1 e.wrote)

pub returns-then-branch-clause-wrote : goal.returns-then-branch-clause-wrote
returns-then-branch-clause-wrote g c = wrote_both g.W.Write.contents c.args.outgoing.now c.loop.outgoing c.write_turn.new.outgoing c.loop.invariant.1 c.in_ok-write_turn.ensures.wrote
