use Rattle.std.proofs.Common.{arith}
use Rattle.std.proofs.lemmas.Grind.{common_steps}
use Rattle.status_pages.specs.Pages.{Prints, metric_parts}
use Rattle.status_pages.proofs.ToldLemmas.{turn_at}
use Rattle.status_pages.proofs.pages.print_metrics.Goals as goal

pub loop-part-preserved : goal.loop-part-preserved
loop-part-preserved g c =
    let topic_told = g.B.Board.topic_told c.args.board.now in
    let subscription_told = g.B.Board.subscription_told c.args.board.now in
    turn_at (Prints topic_told subscription_told) metric_parts c.loop-part.part-index _ (g.W.Write.contents c.print_broker.new.writer) (g.W.Write.contents c.loop-part.writer) (g.W.Write.contents c.print_part.new.writer)
    c.loop-part.invariant c.in_ok-print_part.ensures (grind (arith, common_steps))
