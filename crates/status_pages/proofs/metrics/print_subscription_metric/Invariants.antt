use Rattle.std.proofs.Common.{take}
use Rattle.std.specs.Io.KnownBytes.{Appends}
use Rattle.status_pages.specs.Metrics.{subscription_metric_text}
use Rattle.status_pages.proofs.metrics.print_subscription_metric.Given as goal

-- the samples of the first subscriptions are written
abbrev pub invariant-loop-subscription : goal.invariant-loop-subscription
invariant-loop-subscription g l = Appends (g.W.Write.contents l.fn.writer) (g.W.Write.contents l.writer) (subscription_metric_text l.metric l.topic (take l.subscription-index l.subscriptions))
