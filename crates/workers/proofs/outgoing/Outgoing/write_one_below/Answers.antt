use Rattle.std.proofs.Common.{refl}
use Rattle.workers.specs.declared.outgoing.Outgoing.{Outgoing}
use Rattle.workers.proofs.Written.{wrote_both, wrote_looked}
use Rattle.workers.proofs.outgoing.Outgoing.write_one_below.Goals as goal

pub returns-clause-wrote : goal.returns-clause-wrote
returns-clause-wrote g c =
    let a = c.args.self.now in
    let seen : Outgoing g.row.W.Denot = record { writer = a.writer; replies = c.slots.new.self; next = a.next; replied = a.replied } in
    wrote_both g.W.Write.contents a seen c.write_known.new.self (wrote_looked g.W.Write.contents a seen refl c.slots.ensures.looked.1 refl refl) c.in_ok-write_known.ensures.wrote
