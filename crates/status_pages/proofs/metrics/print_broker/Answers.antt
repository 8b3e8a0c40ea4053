use Rattle.std.proofs.Common.{codes}
use Rattle.status_pages.specs.Metrics.{broker_metric_text, since_text}
use Rattle.status_pages.proofs.Written.{appends_both}
use Rattle.status_pages.proofs.metrics.print_broker.Goals as goal

pub returns : goal.returns
returns g c =
    appends_both (g.W.Write.contents c.args.writer.now) (g.W.Write.contents c.print_broker_metric.new.writer) (g.W.Write.contents c.print_since.new.writer)
    (broker_metric_text (codes "pulsar_active_connections") (codes "Clients that are connected.") c.args.broker.now.connections) (since_text c.args.broker.now.since)
    c.in_ok-print_broker_metric.ensures c.in_ok-print_since.ensures
