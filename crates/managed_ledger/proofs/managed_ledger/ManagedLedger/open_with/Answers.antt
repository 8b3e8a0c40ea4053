use Rattle.std.proofs.Common.{ℕ, List, Option, refl, ◌∙◌, ap, subst}
use Rattle.journal.specs.Chains.{links_of}
use Rattle.managed_ledger.specs.declared.ledger_index.LedgerIndex.{LedgerIndex}
use Rattle.managed_ledger.specs.declared.segment_index.SegmentIndex.{SegmentIndex}
use Rattle.managed_ledger.specs.Folded.{HasRead}
use Rattle.managed_ledger.specs.Shape.{start_at}
use Rattle.managed_ledger.proofs.Folding.{opened_ledger}
use Rattle.managed_ledger.proofs.managed_ledger.ManagedLedger.open_with.Goals as goal
use Rattle.disk.specs.declared.file_id.Folder.{Folder}
use Rattle.disk.specs.declared.file_id.TopicId.{TopicId}

pub returns-clause-opened : goal.returns-clause-opened
returns-clause-opened g c = λ held.
    let opened = c.in_ok-journal.ensures.opened (refl, held) in
    let base = c.args.start.base in
    let folder = c.args.topic.folder in
    let holds = g.E.EntryFold.holds c.in_ok-journal.field-0-1.entries in
    let read = subst (λ (r : ℕ × Folder). HasRead r.1 r.0 holds c.in_ok-journal.field-0-1.index (links_of opened.0)) c.in_ok-journal.ensures.rule opened.2 in
    opened_ledger folder base holds _ c.in-Some.field-0 (g.S.Shelf.disk c.args.shelf.now) (g.S.Shelf.disk c.open_with.new.shelf) opened.0 opened.1
    (subst (λ (o : Option LedgerIndex). HasRead folder base holds o (links_of opened.0)) c.in-Some.is read) c.from_vec.ensures.items refl (ap (λ (t : TopicId). t.folder) c.in_ok-journal.ensures.topic)

pub returns-clause-start : goal.returns-clause-start
returns-clause-start g c =
    let last = c.in-Some.field-0.last.first in
    let base = ◌∙◌ {A = ℕ} (ap (λ (l : List SegmentIndex). start_at l last 0) c.from_vec.ensures.items) (◌∙◌ {A = ℕ} (c.in_ok-journal.field-0-1.begins c.in-Some.field-0 c.in-Some.is) (ap (λ (r : ℕ × Folder). r.0) c.in_ok-journal.ensures.rule)) in
    (λ i. record { base = base i; first = c.in_ok-journal.ensures.first i })
