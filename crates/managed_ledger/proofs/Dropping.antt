-- The first segments of a ledger are given back.
use Rattle.std.proofs.Common.{◌≡◌, ℕ, zero, suc, ◌+◌, ◌-◌, min, List, [], ◌∷◌, ◌++◌, length, drop, refl, sym, ◌∙◌, ap, subst, arith}
use Rattle.std.proofs.lemmas.List.{drop-append-le, length-map}
use Rattle.disk.specs.Disk.{Disk}
use Rattle.disk.specs.Areas.{Within, weaken_within}
use Rattle.disk.specs.Contents.{Settled}
use Rattle.journal.specs.Chains.{Chain, SegmentsOf, behind}
use Rattle.journal.specs.Chains as chains
use Rattle.journal.specs.Journals as journals
use Rattle.journal.specs.Links as links
use Rattle.managed_ledger.specs.declared.managed_ledger.ManagedLedger.{ManagedLedger}
use Rattle.managed_ledger.specs.declared.segment_index.SegmentIndex.{SegmentIndex}
use Rattle.gated_log.specs.declared.start.Start.{Start}
use Rattle.managed_ledger.specs.Behind.{few_before, many_before, rest_index, rest_few, rest_stands}
use Rattle.managed_ledger.specs.Entries.{Ledger, Stands, trimmed}
use Rattle.managed_ledger.specs.Ledgers.{Holds, IndexHolds, ledger_topic, start_of, counts_of}
use Rattle.managed_ledger.specs.Points.{Begins}
use Rattle.managed_ledger.specs.Segments.{closed_count}
use Rattle.managed_ledger.specs.Settled.{settled_from}
use Rattle.managed_ledger.specs.Shape.{total, starts_from, start_at, sizes_of, AreInOrder}
use Rattle.managed_ledger.specs.Totals.{total_push, start_first, last_behind}
use Rattle.managed_ledger.proofs.Pointing.{start_total}
use Rattle.disk.specs.declared.file_id.TopicId.{TopicId}

-- tables without the first ones
sizes_behind : (n : ℕ) (indexes : List SegmentIndex) → sizes_of (drop n indexes) ≡ drop n (sizes_of indexes)
sizes_behind zero indexes = refl
sizes_behind (suc n) [] = refl
sizes_behind (suc n) (i ∷ indexes) = sizes_behind n indexes

start_behind : (n : ℕ) (indexes : List SegmentIndex) (last : ℕ) → start_at (drop n indexes) last 0 ≡ start_at indexes last n
start_behind zero indexes last = refl
start_behind (suc n) [] last = refl
start_behind (suc n) (i ∷ indexes) last = start_behind n indexes last

order_behind : (n : ℕ) (indexes : List SegmentIndex) (last : ℕ) → AreInOrder indexes last → AreInOrder (drop n indexes) last
order_behind zero indexes last order = order
order_behind (suc n) [] last order = order
order_behind (suc n) (i ∷ indexes) last order =
    let tail = ap (λ (l : List ℕ). drop 1 l) order in
    let first = start_first (i.first + length i.places.items) indexes last tail in
    order_behind n indexes last (tail ∙ ap (λ (k : ℕ). starts_from k (sizes_of indexes)) (sym first))

module _ (ledger : ManagedLedger) (start : Start) (begins : Begins (start_of ledger) (counts_of ledger) start) where
  abbrev dropped : ℕ
  dropped = start.first - (start_of ledger).first

  abbrev end : ℕ
  end = ledger.last.first

  dropped_is : dropped ≡ begins.number
  dropped_is = omega (arith, begins.first_is)

  -- the tables that are left
  module _ (tables : List SegmentIndex) (left : tables ≡ drop dropped ledger.closed.items) where
    pub left_order : AreInOrder tables end
    left_order = subst (λ (l : List SegmentIndex). AreInOrder l end) (sym left) (order_behind dropped ledger.closed.items end ledger.in_order)

    pub left_base : start_at tables end 0 ≡ start.base
    left_base =
        ap (λ (l : List SegmentIndex). start_at l end 0) left ∙ start_behind dropped ledger.closed.items end ∙ ap (λ (n : ℕ). start_at ledger.closed.items end n) dropped_is
        ∙ start_total (start_of ledger).base ledger.closed.items end begins.number ledger.in_order (few_before ledger start begins) ∙ sym (many_before ledger start begins)

    pub left_counts : sizes_of tables ++ length ledger.last.places.items ∷ [] ≡ drop dropped (counts_of ledger)
    left_counts =
        let sizes : length (sizes_of ledger.closed.items) ≡ length ledger.closed.items = length-map ledger.closed.items (λ (index : SegmentIndex). length index.places.items) in
        ap (λ (l : List ℕ). l ++ length ledger.last.places.items ∷ []) (ap sizes_of left ∙ sizes_behind dropped ledger.closed.items)
        ∙ sym (drop-append-le dropped (sizes_of ledger.closed.items) (length ledger.last.places.items ∷ []) (omega (arith, dropped_is, few_before ledger start begins, sizes)))

    pub left_end : start_at tables end 0 + total (sizes_of tables ++ length ledger.last.places.items ∷ []) ≡ (start_of ledger).base + total (counts_of ledger)
    left_end =
        omega (
          arith,
          total_push (sizes_of tables) (length ledger.last.places.items),
          total_push (sizes_of ledger.closed.items) (length ledger.last.places.items),
          last_behind tables end left_order,
          last_behind ledger.closed.items end ledger.in_order,
        )

  -- the journal drops as many
  module _ (first : ℕ) (least : first ≡ min start.first (journals.last_of ledger.journal)) (d : Disk) (l : Ledger) (s : Settled (Holds ledger) d l) where
    abbrev chain : Chain
    chain = s.now.chain

    pub first_there : first ≡ start.first
    first_there =
        let tables = closed_count (ledger_topic ledger).folder l.base ledger.closed.items chain.closed s.now.index.before s.now.index.closed_hold in
        let logs = links.closed_length ledger.journal.topic ledger.journal.first d.seen ledger.journal.closed.items chain.closed s.now.journal.closed in
        omega (arith, least, begins.first_is, few_before ledger start begins, tables, logs)

    rest_is : behind (first - (start_of ledger).first) chain ≡ behind begins.number chain
    rest_is = ap (λ (n : ℕ). behind n chain) (let same : first - (start_of ledger).first ≡ begins.number = omega (arith, first_there, begins.first_is) in same)

    pub dropped_within : (d' : Disk) → Within (SegmentsOf (ledger_topic ledger)) (λ c. chains.Stands (ledger_topic ledger) first c (behind (first - (start_of ledger).first) chain)) d d'
        → Within (SegmentsOf (ledger_topic ledger)) (λ c. Stands (ledger_topic ledger) start c (trimmed start.base l)) d d'
    dropped_within d' within =
        weaken_within (SegmentsOf (ledger_topic ledger)) (λ c. chains.Stands (ledger_topic ledger) first c (behind (first - (start_of ledger).first) chain)) (λ c. Stands (ledger_topic ledger) start c (trimmed start.base l)) d d'
        (λ c stands. rest_stands ledger start begins chain l s.now.few s.now.index c (subst (λ (n : ℕ). chains.Stands (ledger_topic ledger) n c (behind begins.number chain)) first_there (subst (λ (k : Chain). chains.Stands (ledger_topic ledger) first c k) rest_is stands)))
        within

    pub dropped_settled : (new : ManagedLedger) (d' : Disk) → new.closed.items ≡ drop dropped ledger.closed.items → new.last ≡ ledger.last → ledger_topic new ≡ ledger_topic ledger → journals.Settled new.journal d' (behind (first - (start_of ledger).first) chain) → Settled (Holds new) d' (trimmed start.base l)
    dropped_settled new d' left last topic_is settled =
        let tables : new.closed.items ≡ drop begins.number ledger.closed.items = left ∙ ap (λ (n : ℕ). drop n ledger.closed.items) dropped_is in
        settled_from new d' (behind begins.number chain) (trimmed start.base l) (record {
          journal = subst (λ (k : Chain). journals.Settled new.journal d' k) rest_is settled;
          index = subst (λ (t : TopicId). IndexHolds t.folder new.closed.items new.last (behind begins.number chain) (trimmed start.base l)) (sym topic_is)
              (subst (λ (t : List SegmentIndex). IndexHolds (ledger_topic ledger).folder t new.last (behind begins.number chain) (trimmed start.base l)) (sym tables)
              (subst (λ (i : SegmentIndex). IndexHolds (ledger_topic ledger).folder (drop begins.number ledger.closed.items) i (behind begins.number chain) (trimmed start.base l)) (sym last) (rest_index ledger start begins chain l s.now.few s.now.index)));
          few = rest_few ledger start begins chain l s.now.few s.now.index;
        })
