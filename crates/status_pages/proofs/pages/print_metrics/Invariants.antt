use Rattle.std.proofs.Common.{take}
use Rattle.status_pages.specs.Pages.{InTurn, Prints}
use Rattle.status_pages.proofs.pages.print_metrics.Given as goal

-- the first metrics are written, behind those of the whole broker
abbrev pub invariant-loop-part : goal.invariant-loop-part
invariant-loop-part g l =
    InTurn (Prints (g.B.Board.topic_told l.board) (g.B.Board.subscription_told l.board)) (take l.part-index l.part-items) (g.W.Write.contents l.initial.writer) (g.W.Write.contents l.writer)
