use Rattle.std.proofs.Common.{Some}
use Rattle.status_pages.proofs.ToldLemmas.{working_more}
use Rattle.status_pages.proofs.health.is_healthy.Goals as goal

pub loop-number-preserved : goal.loop-number-preserved
loop-number-preserved g c =
    let told : g.B.Board.topic_told c.args.board.now c.loop-number.number (Some c.in-Some.topic) = rw c.in-Some.is at c.in_ok-topic.ensures in
    working_more (g.B.Board.topic_told c.args.board.now) c.loop-number.number c.in-Some.topic c.loop-number.invariant told c.if-topic.false
