use Rattle.std.proofs.Common.{take}
use Rattle.std.specs.Io.KnownBytes.{Appends}
use Rattle.admin.specs.Status.{status_lines}
use Rattle.admin.proofs.status.print_topic.Given as goal

-- the topic's line and those of the first subscriptions are written
abbrev pub invariant-loop-subscription : goal.invariant-loop-subscription
invariant-loop-subscription g l = Appends (g.W.Write.contents l.fn.writer) (g.W.Write.contents l.writer) (status_lines l.status.number l.status.name l.status.entries l.status.base l.status.segments (take l.subscription-index l.status.subscriptions.items))
