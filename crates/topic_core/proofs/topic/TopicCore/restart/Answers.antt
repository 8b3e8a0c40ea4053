use Rattle.std.proofs.Common.{◌≡◌, ◌≤◌, ◌^◌, true, refl, sym, ap, subst, ◌∙◌, arith}
use Rattle.topic_core.specs.State.{Topic}
use Rattle.topic_core.specs.Held.{core_of}
use Rattle.managed_ledger.specs.Entries.{end_of}
use Rattle.topic_core.specs.Messages.{marks_of}
use Rattle.topic_core.specs.declared.durable.Durable.{Durable}
use Rattle.topic_core.proofs.Slotted.{are_marks}
use Rattle.topic_core.proofs.Openings.{sound-reopened, receipts-reopened, kept-filled}
use Rattle.topic_core.proofs.topic.TopicCore.restart.Goals as goal

pub invariant_of-self : goal.invariant_of-self
invariant_of-self g c =
    let t = core_of c.self.inside in
    let kept = (g.T.TopicStore.view c.args.again.stores).kept in
    let ledger = c.args.again.durable.ledger in
    let marks = marks_of ledger in
    let added = c.requires.added in
    let size : c.len-self-inside.result ≡ end_of ledger = c.len-self-inside.ensures.len ∙ sym added.0 in
    let few : end_of ledger ≤ 2 ^ 62 = omega (arith, added.0, c.requires.few) in
    let was : t.failed ≡ true = subst (λ (k : Topic). k.failed ≡ true) (sym c.self.view_is) c.requires.failed in
    let known = ap (λ (k : Topic). k.committed) c.self.view_is in
    let more : t.committed ≤ end_of ledger = omega (arith, known, added.0, c.requires.more) in
    rw (c.over.ensures, c.new.ensures.items, c.new-2.ensures, added.1, added.2, size) (
      refl,
      sound-reopened t ledger marks kept c.self.invariant.1 was more few (are_marks ledger) c.requires.durable,
      receipts-reopened t ledger marks kept c.self.invariant.1 c.self.invariant.2 was more,
      c.base-self-inside.ensures ∙ sym added.3,
    )

pub returns-clause-matched : goal.returns-clause-matched
returns-clause-matched g c =
    let added = c.requires.added in
    record {
      kept = kept-filled c.len-self-inside.result (g.T.TopicStore.view c.args.again.stores).kept _ _ _ _ added.1 (ap (λ (d : Durable). d.kept) c.over.ensures ∙ added.2) c.requires.durable;
      numbered = c.requires.numbered ∙ sym (ap (λ (t : Topic). t.per_ledger) c.self.view_is);
      remembers = record { core_works = refl; works = c.requires.works; counted = sym c.len-self-inside.ensures.len; kept = sym (ap (λ (d : Durable). d.kept) c.over.ensures ∙ added.2); begins = omega (arith, ap (λ (d : Durable). d.ledger.base) c.over.ensures, added.3) };
    }
