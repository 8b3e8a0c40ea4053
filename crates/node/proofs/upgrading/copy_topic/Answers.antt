use Rattle.std.proofs.Common.{subst}
use Rattle.disk.specs.Disk.{Image}
use Rattle.topic_stores.specs.Old.{AreIn, old}
use Rattle.topic_stores.proofs.OldTopics.{held_in, on_ok}
use Rattle.node.proofs.upgrading.copy_topic.Goals as goal

pub returns-clause-copied : goal.returns-clause-copied
returns-clause-copied g c = λ honest.
    let number = c.args.number in
    let found = c.in_ok-topic.ensures.opened honest in
    let held = held_in c.in_ok-topic.topic number (g.S.Shelf.disk c.open.new.shelf) found.0 found.1 found.2 in
    let was = subst (λ (i : Image). AreIn (old number) i found.0 found.1) (c.in_ok-topic.ensures.seen honest (λ no. cc)) held in
    on_ok c.copy_to-copied.result (λ there. record { ledger = found.0; kept = found.1; was = was; is = there }) (c.copy_to-copied.ensures.copied number found.0 found.1 found.2)
