use Rattle.std.proofs.Common.{refl, ◌∙◌, ap, subst}
use Rattle.disk.specs.Areas.{folder_of}
use Rattle.gated_log.specs.declared.header.AtHeader.{AtHeader}
use Rattle.gated_log.specs.Headers.{IsAtHeader}
use Rattle.gated_log.specs.Labels.{header_size}
use Rattle.gated_log.proofs.Further.{read_none}
use Rattle.gated_log.proofs.reader.LogReader.begin.Goals as goal

pub returns-else-head-gate-clause-begun : goal.returns-else-head-gate-clause-begun
returns-else-head-gate-clause-begun c = λ image is.
    let file = c.args.head.now.file in
    let here = subst (λ (k : AtHeader). IsAtHeader (folder_of file) (image file) k) c.in-Labelled.is is.header_is in
    read_none _ image c.in-Labelled.label here.1 refl (c.header_size-gate.ensures ∙ ap header_size c.folder_of.ensures) is.size_is refl
