use Rattle.std.proofs.Common.{subst, arith}
use Rattle.cursor.specs.Positions.{Has}
use Rattle.subscriptions.specs.Progress.{State}
use Rattle.subscriptions.proofs.Fronts.{past_joined}
use Rattle.subscriptions.proofs.progress.Progress.mark_delete.Goals as goal

pub returns : goal.returns
returns c = λ i low.
    subst (λ (s : State). Has s.acked i) c.self.view_is (past_joined c.self.inside.acked c.self.inside.late.items i (c.mark_delete.ensures.least i (omega arith) low))
