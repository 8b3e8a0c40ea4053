use Rattle.std.proofs.Common.{◌-◌, ℕ, List, drop, min, refl, ◌∙◌, ap, subst}
use Rattle.journal.specs.Drops.{AreEmpty}
use Rattle.managed_ledger.specs.declared.segment_index.SegmentIndex.{SegmentIndex}
use Rattle.managed_ledger.specs.Ledgers.{ledger_topic, start_of}
use Rattle.managed_ledger.specs.Settled.{settled_as}
use Rattle.managed_ledger.proofs.Dropping.{left_order, left_base, left_counts, left_end, first_there, dropped_within, dropped_settled}
use Rattle.managed_ledger.proofs.managed_ledger.ManagedLedger.drop_before.Goals as goal

pub returns-in_err-drop_before-clause-within : goal.returns-in_err-drop_before-clause-within
returns-in_err-drop_before-clause-within g c = λ l s.
    let self = c.args.self.now in
    let d = g.S.Shelf.disk c.args.shelf.now in
    dropped_within self c.args.start c.requires.begins c.min-first.result (c.min-first.ensures ∙ ap (λ (n : ℕ). min c.args.start.first n) c.last.ensures) d l s (g.S.Shelf.disk c.drop_before.new.shelf) (c.drop_before.ensures.within s.now.chain (settled_as self d l s).journal)

pub invariant_of-self-2 : goal.invariant_of-self-2
invariant_of-self-2 g c =
    let self = c.args.self.now in
    record {
      in_order = left_order self c.args.start c.requires.begins c.forget_first.new.tables.items (◌∙◌ {A = List SegmentIndex} c.forget_first.ensures (ap (λ (n : ℕ). drop (c.args.start.first - n) c.args.self.now.closed.items) c.first.ensures.first));
      few = self.few;
    }

pub returns-clause-trimmed : goal.returns-clause-trimmed
returns-clause-trimmed g c = λ l s.
    let self = c.args.self.now in
    let d = g.S.Shelf.disk c.args.shelf.now in
    dropped_settled self c.args.start c.requires.begins c.min-first.result (c.min-first.ensures ∙ ap (λ (n : ℕ). min c.args.start.first n) c.last.ensures) d l s _ (g.S.Shelf.disk c.drop_before.new.shelf) (◌∙◌ {A = List SegmentIndex} c.forget_first.ensures (ap (λ (n : ℕ). drop (c.args.start.first - n) c.args.self.now.closed.items) c.first.ensures.first)) refl c.drop_before.ensures.topic (c.in_ok-drop_before.ensures.dropped s.now.chain (settled_as self d l s).journal)

pub returns-clause-start : goal.returns-clause-start
returns-clause-start g c = λ l s.
    let self = c.args.self.now in
    let base = left_base self c.args.start c.requires.begins c.forget_first.new.tables.items (◌∙◌ {A = List SegmentIndex} c.forget_first.ensures (ap (λ (n : ℕ). drop (c.args.start.first - n) c.args.self.now.closed.items) c.first.ensures.first)) in
    let first = ◌∙◌ {A = ℕ} c.in_ok-drop_before.ensures.first (first_there self c.args.start c.requires.begins c.min-first.result (c.min-first.ensures ∙ ap (λ (n : ℕ). min c.args.start.first n) c.last.ensures) (g.S.Shelf.disk c.args.shelf.now) l s) in
    (λ i. record { base = base i; first = first i })

pub returns-clause-empty : goal.returns-clause-empty
returns-clause-empty g c = λ l s.
    let self = c.args.self.now in
    let d = g.S.Shelf.disk c.args.shelf.now in
    let d' = g.S.Shelf.disk c.drop_before.new.shelf in
    subst (λ (n : ℕ). AreEmpty (ledger_topic self) (start_of self).first n d') (first_there self c.args.start c.requires.begins c.min-first.result (c.min-first.ensures ∙ ap (λ (n : ℕ). min c.args.start.first n) c.last.ensures) d l s) (c.in_ok-drop_before.ensures.empty s.honest)

pub returns-clause-within : goal.returns-clause-within
returns-clause-within g c = λ l s.
    let self = c.args.self.now in
    let d = g.S.Shelf.disk c.args.shelf.now in
    dropped_within self c.args.start c.requires.begins c.min-first.result (c.min-first.ensures ∙ ap (λ (n : ℕ). min c.args.start.first n) c.last.ensures) d l s (g.S.Shelf.disk c.drop_before.new.shelf) (c.drop_before.ensures.within s.now.chain (settled_as self d l s).journal)

pub returns-clause-base : goal.returns-clause-base
returns-clause-base g c = left_base c.args.self.now c.args.start c.requires.begins c.forget_first.new.tables.items (◌∙◌ {A = List SegmentIndex} c.forget_first.ensures (ap (λ (n : ℕ). drop (c.args.start.first - n) c.args.self.now.closed.items) c.first.ensures.first))

pub returns-clause-counts : goal.returns-clause-counts
returns-clause-counts g c = left_counts c.args.self.now c.args.start c.requires.begins c.forget_first.new.tables.items (◌∙◌ {A = List SegmentIndex} c.forget_first.ensures (ap (λ (n : ℕ). drop (c.args.start.first - n) c.args.self.now.closed.items) c.first.ensures.first))

pub returns-clause-end_stays : goal.returns-clause-end_stays
returns-clause-end_stays g c = left_end c.args.self.now c.args.start c.requires.begins c.forget_first.new.tables.items (◌∙◌ {A = List SegmentIndex} c.forget_first.ensures (ap (λ (n : ℕ). drop (c.args.start.first - n) c.args.self.now.closed.items) c.first.ensures.first))
