use Rattle.std.proofs.Common.{◌≡◌, ◌≤◌, ◌^◌, refl, sym, ap, ◌∙◌, arith}
use Rattle.managed_ledger.specs.Entries.{end_of}
use Rattle.topic_core.specs.Messages.{marks_of}
use Rattle.topic_core.specs.declared.durable.Durable.{Durable}
use Rattle.topic_core.proofs.Slotted.{are_marks}
use Rattle.topic_core.proofs.Openings.{sound-opened, receipts-opened, kept-filled}
use Rattle.topic_core.proofs.topic.TopicCore.open.Goals as goal

pub invariant_of-core : goal.invariant_of-core
invariant_of-core g c =
    let kept = (g.T.TopicStore.view c.in_ok-opened.opened.stores).kept in
    let ledger = c.in_ok-opened.opened.durable.ledger in
    let marks = marks_of ledger in
    let added = c.in_ok-opened.ensures.added in
    let size : c.len-committed.result ≡ end_of ledger = c.len-committed.ensures.len ∙ sym added.0 in
    let few : end_of ledger ≤ 2 ^ 62 = omega (arith, size, c.len-committed.ensures.few) in
    rw (c.over.ensures, c.new.ensures.items, c.new-2.ensures, c.new-3.ensures, added.1, added.2, size) (
      refl,
      sound-opened c.args.per_ledger ledger marks kept c.requires.numbered few (are_marks ledger) c.in_ok-opened.ensures.durable,
      receipts-opened c.args.per_ledger ledger marks kept,
      c.base-base.ensures ∙ sym added.3,
    )

pub returns-clause-matched : goal.returns-clause-matched
returns-clause-matched g c =
    let added = c.in_ok-opened.ensures.added in
    record {
      kept = kept-filled c.len-committed.result (g.T.TopicStore.view c.in_ok-opened.opened.stores).kept _ _ _ _ added.1 (ap (λ (d : Durable). d.kept) c.over.ensures ∙ added.2) c.in_ok-opened.ensures.durable;
      numbered = c.in_ok-opened.ensures.per_ledger;
      remembers = record { core_works = refl; works = c.in_ok-opened.ensures.works; counted = sym c.len-committed.ensures.len; kept = sym (ap (λ (d : Durable). d.kept) c.over.ensures ∙ added.2); begins = omega (arith, ap (λ (d : Durable). d.ledger.base) c.over.ensures, added.3) };
    }
