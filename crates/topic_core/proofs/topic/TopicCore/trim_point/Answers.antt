use Rattle.std.proofs.Common.{rules, inr, ◌≡◌, ℕ, ◌<◌, ◌≤◌, ◌-◌, ◌%◌, ap, length}
use Rattle.std.specs.List.{AllByRecursion}
use Rattle.subscriptions.specs.Trimming.{IsPast}
use Rattle.topic_core.proofs.Floors.{passed_start}
use Rattle.topic_core.proofs.topic.TopicCore.trim_point.Goals as goal

pub returns : goal.returns
returns g c =
    let per_ledger : c.from.result ≡ c.args.self.now.per_ledger = search rules in
    let rises : c.args.self.now.ledger.base ≤ c.in-Some.position - c.in-Some.position % c.from.result = search rules in
    let committed : c.in-Some.position ≤ c.args.self.now.committed = search rules in
    let some : 0 < length c.args.self.now.subs.subs = search rules in
    let past : AllByRecursion (IsPast c.in-Some.position) c.args.self.now.subs.subs = search rules in
    inr (passed_start c.args.self.now c.in-Some.position (c.in-Some.position - c.in-Some.position % c.from.result)
    (ap (λ (n : ℕ). c.in-Some.position - c.in-Some.position % n) per_ledger) rises committed some past)
