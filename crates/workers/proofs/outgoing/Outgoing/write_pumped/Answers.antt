use Rattle.std.proofs.Common.{◌+◌, refl, subst}
use Rattle.std.specs.Io.KnownBytes.{Appends}
use Rattle.workers.specs.declared.outgoing.Outgoing.{Outgoing}
use Rattle.workers.proofs.Written.{wrote_both, wrote_pumped, wrote_served}
use Rattle.workers.proofs.outgoing.Outgoing.write_pumped.Goals as goal

pub returns-clause-wrote : goal.returns-clause-wrote
returns-clause-wrote g c =
    let a = c.args.self.now in
    let x = c.args.output.now in
    let below = c.write_below.new.self in
    let after : Outgoing g.row.W.Denot = record { writer = c.write_all.new.self; replies = below.replies; next = x.number + 1; replied = below.replied } in
    let bytes = subst (Appends (g.W.Write.contents below.writer) (g.W.Write.contents c.write_all.new.self)) c.as_slice.ensures.value c.in_ok-write_all.ensures.bytes in
    wrote_both g.W.Write.contents a below after c.in_ok-write_below.ensures.wrote (wrote_pumped g.W.Write.contents below after x bytes refl c.if-output-self.false refl refl)

pub returns-clause-served : goal.returns-clause-served
returns-clause-served g c =
    let x = c.args.output.now in
    let below = c.write_below.new.self in
    let after : Outgoing g.row.W.Denot = record { writer = c.write_all.new.self; replies = below.replies; next = x.number + 1; replied = below.replied } in
    let bytes = subst (Appends (g.W.Write.contents below.writer) (g.W.Write.contents c.write_all.new.self)) c.as_slice.ensures.value c.in_ok-write_all.ensures.bytes in
    wrote_served g.W.Write.contents c.args.self.now below after x c.in_ok-write_below.ensures.wrote bytes refl c.if-output-self.false refl refl
