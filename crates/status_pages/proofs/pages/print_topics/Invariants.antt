use Rattle.status_pages.proofs.ToldLemmas.{Printed}
use Rattle.status_pages.proofs.pages.print_topics.Given as goal

-- what the part says of the first topics is written
abbrev pub invariant-loop-number : goal.invariant-loop-number
invariant-loop-number g l = Printed (g.B.Board.topic_told l.board) (g.B.Board.subscription_told l.board) l.part l.number (g.W.Write.contents l.fn.writer) (g.W.Write.contents l.writer)
