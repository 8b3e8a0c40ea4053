use Rattle.std.proofs.Common.{◌≡◌, ◌++◌, ◌∷◌, [], Some, inl, inr, ⊎_elim, length, slice_get, refl, sym, ap, subst, ◌∙◌, arith, rules}
use Rattle.std.proofs.lemmas.Option.{slice_get_read}
use Rattle.catalog.specs.Catalogs.{remembered}
use Rattle.topic_lock.proofs.AllOpening.{err_as, reads_as, going_first, going_more, going_read, going_rest, one_failed, now_honest, topic_fault}
use Rattle.topic_lock.specs.Opening.{AreOpened}
use Rattle.topic_lock.proofs.opening.open_topics.Goals as goal

pub loop-number-init : goal.loop-number-init
loop-number-init g c = going_first {store = g.T.TopicStore} g.S.Shelf.disk (remembered c.args.catalog.now) c.entries_per_ledger-per_ledger.result c.args.shelves.now.items _ c.new-parts.ensures.items

pub loop-number-preserved : goal.loop-number-preserved
loop-number-preserved g c =
    let i = c.loop-number.invariant in
    let e = c.in-Ok.ensures in
    let shelves = c.loop-number.shelves.items in
    let x = c.index_mut-shelf.result.now in
    let at : slice_get shelves c.loop-number.number ≡ Some x = slice_get_read shelves (length shelves) c.loop-number.number x refl (omega (arith, c.loop-number-test.true, c.len-number-end.ensures.count, c.requires, i.devices)) c.index_mut-shelf.ensures.value in
    let pushed : c.push.new.self.items ≡ c.loop-number.parts.items ++ c.in-Ok.part ∷ [] = search rules in
    going_more {store = g.T.TopicStore} g.S.Shelf.disk (remembered c.args.catalog.now) c.entries_per_ledger-per_ledger.result c.args.shelves.now.items shelves c.loop-number.parts.items c.loop-number.number i x at
    c.open_part.new.shelf _ c.in-Ok.part c.push.new.self.items refl pushed (e.named.0, c.in_ok-name.ensures ∙ ap (λ n. Some n) (sym e.named.1)) e.found e.stands
    (reads_as _ ⊥ _ _ _ (λ no. cc) e.read)

pub returns-in-Err-clause-faulty : goal.returns-in-Err-clause-faulty
returns-in-Err-clause-faulty g c = λ all.
    let i = c.loop-number.invariant in
    let shelves = c.loop-number.shelves.items in
    let x = c.index_mut-shelf.result.now in
    let at : slice_get shelves c.loop-number.number ≡ Some x = slice_get_read shelves (length shelves) c.loop-number.number x refl (omega (arith, c.loop-number-test.true, c.len-number-end.ensures.count, c.requires, i.devices)) c.index_mut-shelf.ensures.value in
    let first = c.args.shelves.now.items in
    let names = remembered c.args.catalog.now in
    let disk = g.S.Shelf.disk in
    ⊎_elim (λ memory. inl memory)
    (λ other. inr (⊎_elim (λ device. inl device)
    (λ fault. inr (topic_fault {store = g.T.TopicStore} disk names c.entries_per_ledger-per_ledger.result first shelves c.loop-number.parts.items c.loop-number.number i x at all g.T.TopicStore.faulty (length names) (omega (arith, c.loop-number-test.true, c.len-number-end.ensures.count)) c.in-Err.why fault))
    other))
    (c.in-Err.ensures.faulty (now_honest {store = g.T.TopicStore} disk names c.entries_per_ledger-per_ledger.result first shelves c.loop-number.parts.items c.loop-number.number i x at all))

pub returns-in-Err-clause-cause : goal.returns-in-Err-clause-cause
returns-in-Err-clause-cause g c = λ is.
    let i = c.loop-number.invariant in
    let shelves = c.loop-number.shelves.items in
    let x = c.index_mut-shelf.result.now in
    let at : slice_get shelves c.loop-number.number ≡ Some x = slice_get_read shelves (length shelves) c.loop-number.number x refl (omega (arith, c.loop-number-test.true, c.len-number-end.ensures.count, c.requires, i.devices)) c.index_mut-shelf.ensures.value in
    one_failed {store = g.T.TopicStore} g.S.Shelf.disk (remembered c.args.catalog.now) c.entries_per_ledger-per_ledger.result c.args.shelves.now.items shelves c.loop-number.parts.items c.loop-number.number i x at c.open_part.new.shelf _ refl (c.in-Err.ensures.cause (err_as _ _ is))

pub returns-in-Err-clause-read : goal.returns-in-Err-clause-read
returns-in-Err-clause-read g c =
    let i = c.loop-number.invariant in
    let shelves = c.loop-number.shelves.items in
    let x = c.index_mut-shelf.result.now in
    let at : slice_get shelves c.loop-number.number ≡ Some x = slice_get_read shelves (length shelves) c.loop-number.number x refl (omega (arith, c.loop-number-test.true, c.len-number-end.ensures.count, c.requires, i.devices)) c.index_mut-shelf.ensures.value in
    going_read {store = g.T.TopicStore} g.S.Shelf.disk (remembered c.args.catalog.now) c.entries_per_ledger-per_ledger.result c.args.shelves.now.items shelves c.loop-number.parts.items c.loop-number.number i _ x c.open_part.new.shelf at (reads_as _ _ _ _ _ (λ is. err_as _ _ is) c.in-Err.ensures.read)

pub returns-in_err-reserve-clause-read : goal.returns-in_err-reserve-clause-read
returns-in_err-reserve-clause-read g c = going_rest {store = g.T.TopicStore} g.S.Shelf.disk (remembered c.args.catalog.now) c.entries_per_ledger-per_ledger.result c.args.shelves.now.items c.loop-number.shelves.items c.loop-number.parts.items c.loop-number.number c.loop-number.invariant _

pub returns-in_err-name-clause-read : goal.returns-in_err-name-clause-read
returns-in_err-name-clause-read g c = going_rest {store = g.T.TopicStore} g.S.Shelf.disk (remembered c.args.catalog.now) c.entries_per_ledger-per_ledger.result c.args.shelves.now.items c.loop-number.shelves.items c.loop-number.parts.items c.loop-number.number c.loop-number.invariant _

pub returns-clause-read : goal.returns-clause-read
returns-clause-read g c = going_rest {store = g.T.TopicStore} g.S.Shelf.disk (remembered c.args.catalog.now) c.entries_per_ledger-per_ledger.result c.args.shelves.now.items c.loop-number.shelves.items c.loop-number.parts.items c.loop-number.number c.loop-number.invariant _

pub returns-clause-found : goal.returns-clause-found
returns-clause-found g c = subst (λ n. AreOpened g.S.Shelf.disk n c.args.shelves.now.items c.loop-number.shelves.items c.loop-number.parts.items) c.entries_per_ledger-per_ledger.ensures.number c.loop-number.invariant.opened
