use Rattle.topic_core.proofs.LastEntries.{one_gone}
use Rattle.topic_core.proofs.recent.forget_trimmed.Goals as goal

pub loop-entries-preserved-in-Some : goal.loop-entries-preserved-in-Some
loop-entries-preserved-in-Some c = one_gone c.args.entries.now.items c.loop-entries.entries.items c.pop_front.new.self.items c.in-Some.first c.loop-entries.invariant c.in-Some.ensures.items

pub loop-entries-preserved : goal.loop-entries-preserved
loop-entries-preserved c = one_gone c.args.entries.now.items c.loop-entries.entries.items c.pop_front.new.self.items c.in-Some.first c.loop-entries.invariant c.in-Some.ensures.items
