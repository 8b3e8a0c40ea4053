use Rattle.std.proofs.Common.{◌≡◌, take}
use Rattle.std.specs.Prelude.{sum_by}
use Rattle.status_pages.specs.Metrics.{backlog_of, capped}
use Rattle.status_pages.proofs.metrics.backlogs_of.Given as goal

-- the first backlogs are counted
abbrev pub invariant-loop-subscription : goal.invariant-loop-subscription
invariant-loop-subscription l = l.sum ≡ capped (sum_by (backlog_of l.entries) (take l.subscription-index l.subscriptions))
