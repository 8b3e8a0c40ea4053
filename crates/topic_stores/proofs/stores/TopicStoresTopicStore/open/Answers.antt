use Rattle.std.proofs.Common.{subst, ap, arith}
use Rattle.gated_log.specs.declared.start.Start.{Start}
use Rattle.topic_stores.specs.Old.{AreSettledIn}
use Rattle.topic_stores.specs.Views.{entry_view, sub_view}
use Rattle.topic_stores.proofs.Openings.{ok_both, both_opened}
use Rattle.topic_stores.proofs.stores.TopicStoresTopicStore.open.Goals as goal

pub returns-clause-opened : goal.returns-clause-opened
returns-clause-opened g c = λ holds.
    let d = g.S.Shelf.disk c.open_in.new.shelf in
    ok_both c.open_in.result _ _ _ (c.open_in.ensures.opened holds) c.open_in.ensures.start (λ opened x same.
    let e = entry_view g.E.EntryStore.topic_of g.E.EntryStore.start_of g.E.EntryStore.counts g.E.EntryStore.per_ledger g.E.EntryStore.failed g.E.EntryStore.holds opened.0.entries in
    let s = sub_view g.C.SubStore.topic_of g.C.SubStore.start_of g.C.SubStore.content g.C.SubStore.failed g.C.SubStore.holds g.C.SubStore.written opened.0.subscriptions in (
      x.0,
      λ honest. both_opened c.args.topic e s d x.0 (subst (λ t. AreSettledIn t e s d x.0) c.served.ensures (x.1 honest)),
      omega (arith, x.2, ap (λ (b : Start). b.base) same),
      x.3,
    ))
