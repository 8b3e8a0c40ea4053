use Rattle.std.proofs.Common.{length, ◌∙◌, ap}
use Rattle.gated_log.specs.declared.log_id.LogId.{LogId}
use Rattle.disk.specs.Areas.{folder_of}
use Rattle.gated_log.specs.Batches.{opened}
use Rattle.journal.specs.Chains.{batches_of}
use Rattle.journal.proofs.journal.Journal.last_end.Goals as goal

pub returns-clause-end : goal.returns-clause-end
returns-clause-end c = λ image chain holds.
    c.end.ensures.end image (batches_of chain.last) holds.last.holds ∙ ap (λ (i : LogId). length (opened (folder_of i.file) i.label (batches_of chain.last))) holds.last.id_is
