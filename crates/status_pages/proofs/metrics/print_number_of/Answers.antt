use Rattle.std.proofs.Common.{List, ℕ, OnOk, subst}
use Rattle.std.specs.Io.KnownBytes.{Appends}
use Rattle.status_pages.specs.Metrics.{subscription_metric_name, subscription_sample}
use Rattle.status_pages.proofs.metrics.print_number_of.Goals as goal

pub returns : goal.returns
returns g c =
    let old = g.W.Write.contents c.args.writer.now in
    let new = g.W.Write.contents c.print_subscription_sample.new.writer in
    let sub = c.as_str-of.result.now in
    let value = c.value-value.result in
    let name = subscription_metric_name c.args.metric in
    let ByName : List ℕ → Type 0 = λ (it : List ℕ). OnOk c.print_subscription_sample.result (Appends old new (subscription_sample it c.as_str-name.result.now sub value)) in
    let ByTopic : List ℕ → Type 0 = λ (it : List ℕ). OnOk c.print_subscription_sample.result (Appends old new (subscription_sample name it sub value)) in
    let BySubscription : List ℕ → Type 0 = λ (it : List ℕ). OnOk c.print_subscription_sample.result (Appends old new (subscription_sample name c.args.topic.now.name it value)) in
    let ByValue : ℕ → Type 0 = λ (it : ℕ). OnOk c.print_subscription_sample.result (Appends old new (subscription_sample name c.args.topic.now.name c.args.subscription.now.status.name it)) in
    subst ByValue c.value-value.ensures (subst BySubscription c.as_str-of.ensures (subst ByTopic c.as_str-name.ensures.text (subst ByName c.name.ensures c.print_subscription_sample.ensures)))
