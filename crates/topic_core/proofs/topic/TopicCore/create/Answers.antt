use Rattle.std.proofs.Common.{[], refl, sym, ap, ◌∙◌, arith}
use Rattle.topic_core.specs.declared.durable.Durable.{Durable}
use Rattle.managed_ledger.specs.Entries.{whole}
use Rattle.subscriptions.specs.Marks.{no_marks}
use Rattle.std.specs.FinMap as map
use Rattle.topic_core.proofs.Openings.{sound-opened, receipts-opened, kept-filled, none_durable, empty_subs}
use Rattle.topic_core.proofs.Slotted.{nothing_marked}
use Rattle.topic_core.proofs.topic.TopicCore.create.Goals as goal

pub invariant_of-core : goal.invariant_of-core
invariant_of-core g c =
    rw (c.over.ensures, c.new.ensures.items, c.new-2.ensures, c.new-4.ensures, c.none.ensures.0, c.none.ensures.1, c.new-3.ensures, empty_subs) (
      refl,
      sound-opened c.args.per_ledger (whole []) no_marks map.empty c.requires.numbered (omega arith) nothing_marked none_durable,
      receipts-opened c.args.per_ledger (whole []) no_marks map.empty,
      refl,
    )

pub returns-clause-fresh : goal.returns-clause-fresh
returns-clause-fresh g c = rw (c.over.ensures, c.new.ensures.items, c.new-2.ensures, c.new-4.ensures, c.none.ensures.0, c.none.ensures.1, c.new-3.ensures, empty_subs) refl

pub returns-clause-matched : goal.returns-clause-matched
returns-clause-matched g c = record {
  kept = kept-filled 0 map.empty _ [] [] _ (c.new-3.ensures ∙ empty_subs) (ap (λ (d : Durable). d.kept) c.over.ensures ∙ c.none.ensures.1) none_durable;
  numbered = c.in_ok-stores.ensures.counts.1;
  remembers = record { core_works = refl; works = c.in_ok-stores.ensures.works; counted = c.in_ok-stores.ensures.empty.0; kept = c.in_ok-stores.ensures.empty.1 ∙ sym c.none.ensures.1 ∙ sym (ap (λ (d : Durable). d.kept) c.over.ensures); begins = omega (arith, c.in_ok-stores.ensures.base) };
}
