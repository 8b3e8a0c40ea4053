use Rattle.std.proofs.Common.{Err, inl, inr, ⊎_elim, refl, sym, ap, subst, ◌∙◌, arith}
use Rattle.catalog.specs.Catalogs.{StandsFor as NamesStand, remembered, per_ledger}
use Rattle.catalog.specs.Laws.{holds_stands}
use Rattle.node.specs.Numbers.{AreNumbered}
use Rattle.node.specs.Passing.{settled_names}
use Rattle.node.proofs.Making.{both_kept, both_left}
use Rattle.node.proofs.AllOpening.{node_stands, just_opened, few_each, fault_before, opens_at}
use Rattle.node.proofs.Opening.{state_crash, refused_rests}
use Rattle.node.proofs.node.Node.open.Goals as goal

pub returns-in-Err-clause-refused : goal.returns-in-Err-clause-refused
returns-in-Err-clause-refused g c = λ old rest.
    let e = c.in-Err.ensures in
    refused_rests g.T.TopicStore.stands g.T.TopicStore.faulty g.met.T.TopicStore.stands_sound old (g.S.Shelf.disk c.args.site.shelf) (g.S.Shelf.disk c.open_newest.new.shelf) c.in-Err.why rest (g.met.S.Shelf.lawful c.args.site.shelf rest.honest).leaves_seen
    (e.any_moment rest.honest) e.kept (⊎_elim (λ memory. inl memory) (λ other. inr (⊎_elim (λ device. inl device) (λ fault. inr (inl fault)) other)) (e.refused rest.honest)) (λ is. e.cause (ap (λ r. Err r) is))

pub returns-in-Err-open_topics-clause-refused : goal.returns-in-Err-open_topics-clause-refused
returns-in-Err-open_topics-clause-refused g c = λ old rest.
    let e1 = c.in-Ok.ensures in
    let e2 = c.in-Err-open_topics.ensures in
    let d0 = g.S.Shelf.disk c.args.site.shelf in
    let d1 = g.S.Shelf.disk c.open_newest.new.shelf in
    let d2 = g.S.Shelf.disk c.open_topics.new.shelf in
    let catalog = c.in-Ok.catalog in
    let honest = rest.honest in
    let h1 = e1.kept.honest honest in
    let same = e1.seen honest (λ no. cc) in
    let names = subst (λ i. NamesStand (per_ledger catalog) i (remembered catalog)) same (holds_stands catalog d1.seen (remembered catalog) (e1.opened honest).now) in
    refused_rests g.T.TopicStore.stands g.T.TopicStore.faulty g.met.T.TopicStore.stands_sound old d0 d2 c.in-Err-open_topics.why rest (g.met.S.Shelf.lawful c.args.site.shelf rest.honest).leaves_seen
    (both_left d0 d1 d2 (e1.any_moment honest) (e2.any_moment h1)) (both_kept d0 d1 d2 e1.kept e2.kept)
    (⊎_elim (λ memory. inl memory) (λ other. inr (⊎_elim (λ device. inl device)
    (λ fault. inr (fault_before g.T.TopicStore.stands g.T.TopicStore.faulty d0.seen d1.seen (per_ledger catalog) c.len.result (remembered catalog) _ same (e1.newest honest).1 names (sym c.len.ensures.count) fault)) other)) (e2.refused h1))
    (λ is. let later = e2.cause (ap (λ r. Err r) is) in omega (arith, e1.kept.faults, later))

pub returns-in-Err-open_topics-clause-faulty : goal.returns-in-Err-open_topics-clause-faulty
returns-in-Err-open_topics-clause-faulty g c = λ honest.
    let e1 = c.in-Ok.ensures in
    let d0 = g.S.Shelf.disk c.args.site.shelf in
    let d1 = g.S.Shelf.disk c.open_newest.new.shelf in
    let catalog = c.in-Ok.catalog in
    let same = e1.seen honest (λ no. cc) in
    let names = subst (λ i. NamesStand (per_ledger catalog) i (remembered catalog)) same (holds_stands catalog d1.seen (remembered catalog) (e1.opened honest).now) in
    ⊎_elim (λ memory. inl memory) (λ other. inr (⊎_elim (λ device. inl device)
    (λ fault. inr (fault_before g.T.TopicStore.stands g.T.TopicStore.faulty d0.seen d1.seen (per_ledger catalog) c.len.result (remembered catalog) _ same (e1.newest honest).1 names (sym c.len.ensures.count) fault)) other))
    (c.in-Err-open_topics.ensures.refused (e1.kept.honest honest))

pub invariant_of-result : goal.invariant_of-result
invariant_of-result g c =
    let e2 = c.in-Ok-open_topics.ensures in
    record {
      numbered = subst (λ n. AreNumbered n c.in-Ok-open_topics.held.items) c.entries_per_ledger-per_ledger.ensures.number e2.numbered;
      named = sym c.len.ensures.count ∙ sym e2.count;
      doubted = sym c.in-Ok.ensures.works;
    }

pub returns-clause-found : goal.returns-clause-found
returns-clause-found g c = λ honest.
    let e1 = c.in-Ok.ensures in
    let e2 = c.in-Ok-open_topics.ensures in
    let d0 = g.S.Shelf.disk c.args.site.shelf in
    let d1 = g.S.Shelf.disk c.open_newest.new.shelf in
    let d2 = g.S.Shelf.disk c.open_topics.new.shelf in
    let catalog = c.in-Ok.catalog in
    let h1 = e1.kept.honest honest in
    let same = e1.seen honest (λ no. cc) in
    let opened = e1.opened honest in
    let names = subst (λ i. NamesStand (per_ledger catalog) i (remembered catalog)) same (holds_stands catalog d1.seen (remembered catalog) opened.now) in
    let settled = settled_names d1 d2 catalog (record { seen = λ h. e2.seen h (λ no. cc); any_moment = e2.any_moment; kept = e2.kept }) opened in
    let opens = opens_at g.T.TopicStore.stands c.entries_per_ledger-per_ledger.result (per_ledger catalog) d1.seen d0.seen c.in-Ok-open_topics.held.items c.entries_per_ledger-per_ledger.ensures.number same (e2.found h1) in (
      node_stands g.S.Shelf.disk _ refl (λ files may. (e1.newest honest).0 files ((e2.any_moment h1).now files may)) settled (e2.stand h1),
      just_opened (per_ledger catalog) c.args.site.url (remembered catalog) c.in-Ok-open_topics.held.items d0.seen (e2.count ∙ c.len.ensures.count) names opens g.met.T.TopicStore.stands_below c.new.result.items d2.faults c.new.ensures.items,
    )

pub returns-clause-opened : goal.returns-clause-opened
returns-clause-opened g c = λ old rest url.
    let honest = rest.honest in
    let e1 = c.in-Ok.ensures in
    let e2 = c.in-Ok-open_topics.ensures in
    let d0 = g.S.Shelf.disk c.args.site.shelf in
    let d1 = g.S.Shelf.disk c.open_newest.new.shelf in
    let d2 = g.S.Shelf.disk c.open_topics.new.shelf in
    let catalog = c.in-Ok.catalog in
    let h1 = e1.kept.honest honest in
    let same = e1.seen honest (λ no. cc) in
    let opened = e1.opened honest in
    let names = subst (λ i. NamesStand (per_ledger catalog) i (remembered catalog)) same (holds_stands catalog d1.seen (remembered catalog) opened.now) in
    let settled = settled_names d1 d2 catalog (record { seen = λ h. e2.seen h (λ no. cc); any_moment = e2.any_moment; kept = e2.kept }) opened in
    let opens = opens_at g.T.TopicStore.stands c.entries_per_ledger-per_ledger.result (per_ledger catalog) d1.seen d0.seen c.in-Ok-open_topics.held.items c.entries_per_ledger-per_ledger.ensures.number same (e2.found h1) in (
      node_stands g.S.Shelf.disk _ refl (λ files may. (e1.newest honest).0 files ((e2.any_moment h1).now files may)) settled (e2.stand h1),
      state_crash g.T.TopicStore.stands g.met.T.TopicStore.stands_one old _ d0.seen (rest.left d0.seen (g.met.S.Shelf.lawful c.args.site.shelf honest).leaves_seen)
          (just_opened (per_ledger catalog) c.args.site.url (remembered catalog) c.in-Ok-open_topics.held.items d0.seen (e2.count ∙ c.len.ensures.count) names opens g.met.T.TopicStore.stands_below c.new.result.items d2.faults c.new.ensures.items) (few_each (per_ledger catalog) c.args.site.url (remembered catalog) c.in-Ok-open_topics.held.items d0.seen (e2.count ∙ c.len.ensures.count) names opens g.met.T.TopicStore.stands_below) url (omega (arith, rest.faults, e1.kept.faults, e2.kept.faults)),
    )

pub returns-clause-any_moment : goal.returns-clause-any_moment
returns-clause-any_moment g c = λ honest.
    let e1 = c.in-Ok.ensures in
    both_left (g.S.Shelf.disk c.args.site.shelf) (g.S.Shelf.disk c.open_newest.new.shelf) (g.S.Shelf.disk c.open_topics.new.shelf) (e1.any_moment honest) (c.in-Ok-open_topics.ensures.any_moment (e1.kept.honest honest))
