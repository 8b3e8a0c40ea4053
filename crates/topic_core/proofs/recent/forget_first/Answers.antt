use Rattle.topic_core.proofs.LastEntries.{one_gone}
use Rattle.topic_core.proofs.recent.forget_first.Goals as goal

pub loop-left-preserved-in-Some : goal.loop-left-preserved-in-Some
loop-left-preserved-in-Some c = one_gone c.args.entries.now.items c.loop-left.entries.items c.pop_front.new.self.items c.in-Some.first c.loop-left.invariant c.in-Some.ensures.items

pub loop-left-preserved : goal.loop-left-preserved
loop-left-preserved c = one_gone c.args.entries.now.items c.loop-left.entries.items c.pop_front.new.self.items c.in-Some.first c.loop-left.invariant c.in-Some.ensures.items
