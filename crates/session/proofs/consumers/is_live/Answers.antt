use Rattle.std.proofs.Common.{sym, arith}
use Rattle.session.proofs.Absent.{has_consumer-absent}
use Rattle.session.proofs.consumers.is_live.Goals as goal

pub returns-then-entry-topics : goal.returns-then-entry-topics
returns-then-entry-topics g c = λ s. sym (has_consumer-absent (g.P.Port.broker c.args.port.now) c.args.entry.topic _ _ (omega (arith, c.if-entry-topics.true, c.topics.ensures, g.met.P.Port.counts_topics _ s)))
