use Rattle.std.proofs.Common.{refl, arith}
use Rattle.workers.specs.declared.outgoing.Outgoing.{Outgoing}
use Rattle.workers.proofs.Written.{wrote_both, wrote_passed}
use Rattle.workers.proofs.outgoing.Outgoing.pass_over.Goals as goal

pub returns-clause-wrote : goal.returns-clause-wrote
returns-clause-wrote g c =
    let a = c.args.self.now in
    let below = c.write_below.new.self in
    let after : Outgoing g.row.W.Denot = record { writer = below.writer; replies = below.replies; next = c.max-self.result; replied = below.replied } in
    wrote_both g.W.Write.contents a below after c.in_ok-write_below.ensures.wrote (wrote_passed g.W.Write.contents below after refl refl (omega arith) refl)
