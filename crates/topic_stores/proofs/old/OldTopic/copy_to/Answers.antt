use Rattle.std.proofs.Common.{ap, subst}
use Rattle.disk.specs.Disk.{Image}
use Rattle.disk.specs.declared.file_id.TopicId.{TopicId}
use Rattle.disk.specs.Areas.{FilesOf, Within, both_within}
use Rattle.journal.specs.Chains.{SegmentsOf}
use Rattle.two_slot.specs.Slots.{SlotsOf}
use Rattle.gated_log.specs.declared.start.Start.{Start}
use Rattle.managed_ledger.specs.Entries.{end_of, Stands as EntriesStand}
use Rattle.cursor_store.specs.Cursors as cursors
use Rattle.topic_stores.specs.Laws.{segment_own, slot_own}
use Rattle.topic_stores.specs.Old.{AreIn}
use Rattle.topic_stores.proofs.OldTopics.{other, still_steady, on_ok, copied}
use Rattle.topic_stores.proofs.Writing.{made_within}
use Rattle.topic_stores.proofs.old.OldTopic.copy_to.Goals as goal

pub copy_to-requires-clause-other : goal.copy_to-requires-clause-other
copy_to-requires-clause-other g c = other _ c.served-topic.result c.args.self.now.old_entries (ap (λ (t : TopicId). t.folder) c.served-topic.ensures)

pub copy_to-requires-clause-folder : goal.copy_to-requires-clause-folder
copy_to-requires-clause-folder g c = ap (λ (t : TopicId). t.folder) c.served-topic.ensures

pub returns-clause-copied : goal.returns-clause-copied
returns-clause-copied g c = λ from ledger kept held.
    let T = c.served-topic.result in
    let slots = c.args.self.now.stores.subscriptions in
    let start = cursors.start_of slots in
    let d1 = g.S.Shelf.disk c.copy_to.new.shelf in
    let d2 = g.S.Shelf.disk c.copy_to-2.new.shelf in
    let honest = c.copy_to.ensures.kept.honest held.entries.honest in
    let segments : (i : Image) → d1.may_leave i → EntriesStand T start i ledger = λ i may. subst (λ (s : Start). EntriesStand T s i ledger) held.one_start (c.in_ok-copy_to.ensures.copied ledger held.entries i may) in
    let steady = still_steady slots T (g.S.Shelf.disk c.args.shelf.now) d1 (end_of ledger) start kept honest (c.copy_to.ensures.others held.entries.honest) held.subscriptions in
    on_ok c.copy_to-2.result
    (λ there i may. subst (λ (t : TopicId). AreIn t i ledger kept) c.served-topic.ensures (copied T start ledger kept d1 d2 segments (c.copy_to-2.ensures.others honest) there i may))
    (c.copy_to-2.ensures.copied (end_of ledger) start kept steady)

pub returns-in_err-copy_to-clause-others : goal.returns-in_err-copy_to-clause-others
returns-in_err-copy_to-clause-others g c = λ honest.
    let T = c.served-topic.result in
    let d0 = g.S.Shelf.disk c.args.shelf.now in
    let d1 = g.S.Shelf.disk c.copy_to.new.shelf in
    subst (λ (t : TopicId). Within (FilesOf t) (λ i. Unit {0}) d0 d1) c.served-topic.ensures (made_within (SegmentsOf T) (FilesOf T) d0 d1 (λ f a. segment_own T f a) (c.copy_to.ensures.others honest))

pub returns-clause-others : goal.returns-clause-others
returns-clause-others g c = λ honest.
    let T = c.served-topic.result in
    let d0 = g.S.Shelf.disk c.args.shelf.now in
    let d1 = g.S.Shelf.disk c.copy_to.new.shelf in
    let d2 = g.S.Shelf.disk c.copy_to-2.new.shelf in
    subst (λ (t : TopicId). Within (FilesOf t) (λ i. Unit {0}) d0 d2) c.served-topic.ensures
    (both_within (FilesOf T) (λ i. Unit {0}) (λ i. Unit {0}) (λ i. Unit {0}) d0 d1 d2 (λ i x. x) (λ i x. x)
    (made_within (SegmentsOf T) (FilesOf T) d0 d1 (λ f a. segment_own T f a) (c.copy_to.ensures.others honest))
    (made_within (SlotsOf T) (FilesOf T) d1 d2 (λ f b. slot_own T f b) (c.copy_to-2.ensures.others (c.copy_to.ensures.kept.honest honest))))
