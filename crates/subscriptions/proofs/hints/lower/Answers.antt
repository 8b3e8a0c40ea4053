use Rattle.std.proofs.Common.{◌∙◌, ap, arith}
use Rattle.subscriptions.specs.declared.hint.Hint.{Hint}
use Rattle.subscriptions.specs.Hints.{lowered}
use Rattle.subscriptions.proofs.Lists.{firsts-next, firsts-all}
use Rattle.subscriptions.proofs.hints.lower.Goals as goal

pub loop-i-preserved : goal.loop-i-preserved
loop-i-preserved c = firsts-next (lowered c.args.least) c.loop-i.i _ _ c.index_mut-hint.result.now _ c.loop-i.invariant c.index_mut-hint.ensures.value
    (ap (λ n. let h : Hint = record { key = c.index_mut-hint.result.now.key; below = n } in h) c.min-hint.ensures)

pub returns : goal.returns
returns c = c.loop-i.invariant ∙ firsts-all (lowered c.args.least) c.loop-i.i _ (omega arith)
