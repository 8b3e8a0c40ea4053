use Rattle.std.proofs.Common.{[], sym, subst, ◌∙◌}
use Rattle.disk.specs.Disk.{Image}
use Rattle.disk.specs.declared.file_id.FileId.{FileId}
use Rattle.disk.specs.Areas.{Agree, FilesOf, Within, both_within}
use Rattle.topic_stores.proofs.Writing.{entries_meanwhile, settled_both, made_within}
use Rattle.topic_stores.specs.Views.{entry_view, sub_view}
use Rattle.gated_log.specs.declared.start.Start.{Start}
use Rattle.disk.specs.Contents.{Steady}
use Rattle.topic_stores.specs.Laws.{is_served, are_apart, segment_own, slot_own}
use Rattle.managed_ledger.specs.Entries.{whole}
use Rattle.std.specs.FinMap as map
use Rattle.topic_stores.proofs.stores.TopicStoresTopicStore.create.Goals as goal

pub returns-in_err-subscriptions-clause-others : goal.returns-in_err-subscriptions-clause-others
returns-in_err-subscriptions-clause-others g c = λ honest.
    let T = c.served-id.result in
    let d0 = g.S.Shelf.disk c.args.shelf.now in
    let d1 = g.S.Shelf.disk c.create.new.shelf in
    let d2 = g.S.Shelf.disk c.create-2.new.shelf in
    subst (λ t. Within (FilesOf t) (λ i. Unit {0}) d0 d2) c.served-id.ensures
    (both_within (FilesOf T) (λ i. Unit {0}) (λ i. Unit {0}) (λ i. Unit {0}) d0 d1 d2 (λ i x. x) (λ i x. x)
    (made_within (g.E.EntryStore.area T) (FilesOf T) d0 d1 (λ f a. segment_own T f (g.met.E.EntryStore.area_segments T f a)) (c.create.ensures.others honest))
    (made_within (g.C.SubStore.area T) (FilesOf T) d1 d2 (λ f b. slot_own T f (g.met.C.SubStore.area_slots T f b)) (c.create-2.ensures.others (c.create.ensures.kept.honest honest))))

pub returns-clause-created : goal.returns-clause-created
returns-clause-created g c = λ honest.
    let T = c.served-id.result in
    let d1 = g.S.Shelf.disk c.create.new.shelf in
    let d2 = g.S.Shelf.disk c.create-2.new.shelf in
    let E = c.in_ok-entries.entries in
    let ea = g.E.EntryStore.area T in
    let ca = g.C.SubStore.area T in
    let later = c.create.ensures.kept.honest honest in
    let topic_is = c.in_ok-entries.ensures.topic in
    let apart : (f : FileId) → ea f → ca f → ⊥ = λ f a b. are_apart T f (g.met.E.EntryStore.area_segments T f a) (g.met.C.SubStore.area_slots T f b) in
    let local : (a b : Image) → Agree ea a b → g.E.EntryStore.holds E a (whole []) → g.E.EntryStore.holds E b (whole []) =
    λ a b ag x. g.met.E.EntryStore.holds_local E a b (whole []) (subst (λ t. Agree (g.E.EntryStore.area t) a b) (sym topic_is) ag) x in
    settled_both (entry_view g.E.EntryStore.topic_of g.E.EntryStore.start_of g.E.EntryStore.counts g.E.EntryStore.per_ledger g.E.EntryStore.failed g.E.EntryStore.holds E)
    (sub_view g.C.SubStore.topic_of g.C.SubStore.start_of g.C.SubStore.content g.C.SubStore.failed g.C.SubStore.holds g.C.SubStore.written c.in_ok-subscriptions.subscriptions) d2 (whole []) map.empty
    (c.in_ok-subscriptions.ensures.topic ∙ sym topic_is)
    (is_served (g.E.EntryStore.topic_of E) c.args.topic (topic_is ∙ c.served-id.ensures))
    (c.in_ok-entries.ensures.start ∙ sym c.in_ok-subscriptions.ensures.start)
    (entries_meanwhile (λ i l. g.E.EntryStore.holds E i l) ea ca (λ i. Unit {0}) d1 d2 (whole []) local apart (c.create-2.ensures.kept.honest later) (c.create-2.ensures.others later) (c.in_ok-entries.ensures.created honest))
    (subst (λ (said : Start). Steady (g.C.SubStore.holds c.in_ok-subscriptions.subscriptions 0 said) (g.C.SubStore.written c.in_ok-subscriptions.subscriptions) d2 map.empty) (sym c.in_ok-subscriptions.ensures.start) (c.in_ok-subscriptions.ensures.created 0 later))

pub returns-clause-others : goal.returns-clause-others
returns-clause-others g c = λ honest.
    let T = c.served-id.result in
    let d0 = g.S.Shelf.disk c.args.shelf.now in
    let d1 = g.S.Shelf.disk c.create.new.shelf in
    let d2 = g.S.Shelf.disk c.create-2.new.shelf in
    subst (λ t. Within (FilesOf t) (λ i. Unit {0}) d0 d2) c.served-id.ensures
    (both_within (FilesOf T) (λ i. Unit {0}) (λ i. Unit {0}) (λ i. Unit {0}) d0 d1 d2 (λ i x. x) (λ i x. x)
    (made_within (g.E.EntryStore.area T) (FilesOf T) d0 d1 (λ f a. segment_own T f (g.met.E.EntryStore.area_segments T f a)) (c.create.ensures.others honest))
    (made_within (g.C.SubStore.area T) (FilesOf T) d1 d2 (λ f b. slot_own T f (g.met.C.SubStore.area_slots T f b)) (c.create-2.ensures.others (c.create.ensures.kept.honest honest))))
