use Rattle.journal.proofs.Dropping.{on_ok_both, emptied}
use Rattle.journal.proofs.drop_before.drop_segment.Goals as goal

pub returns-clause-empty : goal.returns-clause-empty
returns-clause-empty g c =
    on_ok_both c.sync.result _ _ _ c.sync.ensures.synced c.sync.ensures.seen
    (λ synced same honest. let still = c.cut.ensures.kept.honest honest in emptied _ _ _ _ (c.in_ok-cut.ensures.cut honest) (same still) (synced still))
