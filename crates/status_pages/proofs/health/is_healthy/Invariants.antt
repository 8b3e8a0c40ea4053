use Rattle.status_pages.proofs.ToldLemmas.{Working}
use Rattle.status_pages.proofs.health.is_healthy.Given as goal

-- the first topics work
abbrev pub invariant-loop-number : goal.invariant-loop-number
invariant-loop-number g l = Working (g.B.Board.topic_told l.board) l.number
