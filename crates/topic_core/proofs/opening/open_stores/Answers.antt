use Rattle.std.proofs.Common.{◌≡◌, ℕ, List, ◌++◌, length, replicate, sym, ◌∙◌, ap, arith}
use Rattle.std.specs.Prelude.{map as each}
use Rattle.std.specs.FinMap as map
use Rattle.records.specs.declared.kept_cursor.KeptCursor.{KeptCursor}
use Rattle.subscriptions.specs.Steps.{opened_all, marked}
use Rattle.managed_ledger.specs.Entries.{Ledger, begun_at, end_of}
use Rattle.std.proofs.lemmas.List.{length-map}
use Rattle.subscriptions.specs.Marks.{Marks, behind}
use Rattle.topic_core.specs.Slots.{slot_of_entry}
use Rattle.topic_core.specs.Messages.{marks_of}
use Rattle.topic_core.proofs.Cursors.{distinct_cursors, durable_cursors, kept_found}
use Rattle.topic_core.proofs.opening.open_stores.Goals as goal

pub opened-requires-clause-distinct : goal.opened-requires-clause-distinct
opened-requires-clause-distinct g c = distinct_cursors c.in_ok-cursors.cursors.items (g.T.TopicStore.view c.in_ok-stores.stores).kept c.in_ok-cursors.ensures.kept

pub returns-clause-added : goal.returns-clause-added
returns-clause-added g c =
    let v = g.T.TopicStore.view c.in_ok-stores.stores in
    let kept = v.kept in
    let taken = c.in_ok-stores.ensures.opened (c.none.ensures.0, λ i. record { slots = c.new.ensures.0 i; messages = c.new.ensures.1 i }) in
    let ledger : c.of-durable.result.ledger ≡ begun_at v.base taken.0 =
    c.of-durable.ensures.0 ∙ ap (λ (n : ℕ). begun_at n c.in_ok-stores.entries.durable.ledger.entries) c.base-base.ensures ∙ ap (λ (l : Ledger). begun_at v.base l.entries) taken.3.0 in
    let marks : c.put_before.new.self ≡ marks_of c.of-durable.result.ledger =
    c.put_before.ensures ∙ ap (λ (n : ℕ). behind n c.in_ok-stores.entries.marks) c.base-base.ensures ∙ ap (λ (m : Marks). behind v.base m) taken.3.1 ∙ ap (λ (l : Ledger). marks_of l) (sym ledger) in (
      omega (arith, ap (λ (l : Ledger). end_of l) ledger, taken.2),
      c.in_ok-subs.ensures ∙ (λ i. marked (opened_all (c.in_ok-cursors.ensures.kept i)) (marks i).slots (marks i).messages),
      ◌∙◌ {b = map.from_sorted (each (λ (k : KeptCursor). (k.name, k.acked)) c.in_ok-cursors.cursors.items)} c.of-durable.ensures.1 (kept_found c.in_ok-cursors.cursors.items kept c.in_ok-cursors.ensures.kept),
      ap (λ (l : Ledger). l.base) ledger,
    )

pub returns-clause-settled : goal.returns-clause-settled
returns-clause-settled g c = λ honest.
    let v = g.T.TopicStore.view c.in_ok-stores.stores in
    let taken = c.in_ok-stores.ensures.opened (c.none.ensures.0, λ i. record { slots = c.new.ensures.0 i; messages = c.new.ensures.1 i }) in
    let ledger : c.of-durable.result.ledger ≡ begun_at v.base taken.0 =
    c.of-durable.ensures.0 ∙ ap (λ (n : ℕ). begun_at n c.in_ok-stores.entries.durable.ledger.entries) c.base-base.ensures ∙ ap (λ (l : Ledger). begun_at v.base l.entries) taken.3.0 in
    rw ledger (taken.1 honest)

pub put_before-requires : goal.put_before-requires
put_before-requires g c =
    let taken = c.in_ok-stores.ensures.opened (c.none.ensures.0, λ i. record { slots = c.new.ensures.0 i; messages = c.new.ensures.1 i }) in
    omega (arith, c.base-base.ensures, taken.2, ap (λ (m : Marks). length m.slots) taken.3.1, length-map taken.0 slot_of_entry, c.len.ensures.len, c.len.ensures.few)

pub returns-clause-durable : goal.returns-clause-durable
returns-clause-durable g c = durable_cursors c.in_ok-cursors.cursors.items (g.T.TopicStore.view c.in_ok-stores.stores).kept c.in_ok-cursors.ensures.kept c.in_ok-cursors.ensures.few c.in_ok-cursors.ensures.named
