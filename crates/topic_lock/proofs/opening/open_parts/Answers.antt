use Rattle.std.proofs.Common.{inl, inr, ⊎_elim, subst}
use Rattle.disk.specs.Disk.{Image}
use Rattle.catalog.specs.Catalogs.{OldCounts, remembered, per_ledger}
use Rattle.topic_lock.proofs.AllOpening.{err_as, all_as, none_read, names_found}
use Rattle.topic_lock.proofs.opening.open_parts.Goals as goal

pub returns-in-Err-clause-faulty : goal.returns-in-Err-clause-faulty
returns-in-Err-clause-faulty g c = λ honest all.
    ⊎_elim (λ memory. inl memory) (λ other. inr (⊎_elim (λ device. inl device) (λ fault. inr (inl fault)) other)) (c.in-Err.ensures.refused honest)

pub returns-in-Err-clause-cause : goal.returns-in-Err-clause-cause
returns-in-Err-clause-cause g c = λ is. inl (c.in-Err.ensures.cause (err_as _ _ is))

pub returns-in-Err-clause-read : goal.returns-in-Err-clause-read
returns-in-Err-clause-read g c =
    let e = c.in-Err.ensures in
    record { catalog = record { seen = λ honest no. e.seen honest (λ is. no (err_as _ _ is)); others = e.others; any_moment = e.any_moment; kept = e.kept }; topics = none_read g.S.Shelf.disk _ c.args.devices.now.topics.items }

pub returns-in-Err-open_topics-clause-faulty : goal.returns-in-Err-open_topics-clause-faulty
returns-in-Err-open_topics-clause-faulty g c = λ honest all.
    let e1 = c.in-Ok.ensures in
    let catalog = c.in-Ok.catalog in
    let names = names_found catalog (g.S.Shelf.disk c.args.devices.now.catalog) (g.S.Shelf.disk c.open_newest.new.shelf) (e1.seen honest (λ no. cc)) (e1.opened honest) in
    ⊎_elim (λ memory. inl memory) (λ other. inr (⊎_elim (λ device. inl device) (λ fault. inr (inr (subst (λ (i : Image). ¬ OldCounts i) (e1.seen honest (λ no. cc)) (e1.newest honest).1, per_ledger catalog, remembered catalog, names, fault))) other)) (c.in-Err-open_topics.ensures.faulty all)

pub returns-in-Err-open_topics-clause-cause : goal.returns-in-Err-open_topics-clause-cause
returns-in-Err-open_topics-clause-cause g c = λ is. inr (c.in-Err-open_topics.ensures.cause (err_as _ _ is))

pub returns-in-Err-open_topics-clause-read : goal.returns-in-Err-open_topics-clause-read
returns-in-Err-open_topics-clause-read g c =
    let e = c.in-Ok.ensures in
    record { catalog = record { seen = λ honest no. e.seen honest (λ is. cc); others = e.others; any_moment = e.any_moment; kept = e.kept }; topics = all_as g.S.Shelf.disk _ _ c.args.devices.now.topics.items c.open_topics.new.shelves.items (λ is. err_as _ _ is) c.in-Err-open_topics.ensures.read }

pub returns-clause-names : goal.returns-clause-names
returns-clause-names g c = λ honest.
    let e = c.in-Ok.ensures in
    record {
      named = names_found c.in-Ok.catalog (g.S.Shelf.disk c.args.devices.now.catalog) (g.S.Shelf.disk c.open_newest.new.shelf) (e.seen honest (λ no. cc)) (e.opened honest);
      settled = e.opened honest;
    }

pub returns-clause-read : goal.returns-clause-read
returns-clause-read g c =
    let e = c.in-Ok.ensures in
    record {
      catalog = record { seen = λ honest no. e.seen honest (λ is. cc); others = e.others; any_moment = e.any_moment; kept = e.kept };
      topics = all_as g.S.Shelf.disk _ _ c.args.devices.now.topics.items c.open_topics.new.shelves.items (λ is. absurd cc) c.in-Ok-open_topics.ensures.read;
    }
