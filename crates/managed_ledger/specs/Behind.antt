-- A ledger from one of its segments on.
use Rattle.std.proofs.Common.{◌≡◌, ℕ, zero, suc, ◌+◌, ◌-◌, ◌≤◌, ◌^◌, max, List, [], ◌∷◌, ◌++◌, length, take, drop, sym, ◌∙◌, ap, subst, arith, length-append}
use Rattle.std.proofs.lemmas.List.{take-append-le, drop-append-le, length-map, length-drop}
use Rattle.disk.specs.Disk.{Image}
use Rattle.journal.specs.Chains.{Link, Chain, behind}
use Rattle.journal.specs.Chains as chains
use Rattle.journal.specs.Links as links
use Rattle.managed_ledger.specs.declared.managed_ledger.ManagedLedger.{ManagedLedger}
use Rattle.managed_ledger.specs.declared.segment_index.SegmentIndex.{SegmentIndex}
use Rattle.gated_log.specs.declared.start.Start.{Start}
use Rattle.managed_ledger.specs.Entries.{Entries, Ledger, Stands, end_of, trimmed}
use Rattle.managed_ledger.specs.Ledgers.{SegmentHolds, ClosedHold, IndexHolds, Holds, ledger_topic, start_of, counts_of}
use Rattle.managed_ledger.specs.Places.{found_length}
use Rattle.managed_ledger.specs.Points.{Begins}
use Rattle.managed_ledger.specs.Segments.{closed_count, index_base, index_ledger}
use Rattle.managed_ledger.specs.Shape.{total, sizes_of}
use Rattle.managed_ledger.specs.Trims.{end_trimmed}
use Rattle.disk.specs.declared.file_id.Folder.{Folder}

dropped_front : {A : Type 0} (front rest : List A) (k : ℕ) → drop (length front + k) (front ++ rest) ≡ drop k rest
dropped_front [] rest k = ap (λ (n : ℕ). drop n rest) (let same : 0 + k ≡ k = omega arith in same)
dropped_front (e ∷ front) rest k =
    ap (λ (n : ℕ). drop n (e ∷ (front ++ rest))) (let same : length (e ∷ front) + k ≡ suc (length front + k) = omega arith in same) ∙ dropped_front front rest k

-- closed segments without the first ones, which have so many entries
record ClosedBehind (folder : Folder) (first n k : ℕ) (indexes : List SegmentIndex) (links : List Link) (entries : Entries) : Type 0 where
  pub within : k ≤ length entries
  pub hold : ClosedHold folder (first + k) (drop n indexes) (drop n links) (drop k entries)

closed_behind : (folder : Folder) (first n : ℕ) (indexes : List SegmentIndex) (links : List Link) (entries : Entries) → n ≤ length indexes → ClosedHold folder first indexes links entries → ClosedBehind folder first n (total (take n (sizes_of indexes))) indexes links entries
closed_behind folder first zero indexes links entries low hold =
    let none : first ≡ first + 0 = omega arith in
    record { within = omega arith; hold = subst (λ (m : ℕ). ClosedHold folder m indexes links entries) none hold }
closed_behind folder first (suc n) [] links entries low hold = absurd (omega (arith, low))
closed_behind folder first (suc n) (i ∷ indexes) [] entries low hold = absurd hold
closed_behind folder first (suc n) (i ∷ indexes) (l ∷ links) entries low hold =
    let own : Entries = hold.0 in
    let k = total (take n (sizes_of indexes)) in
    let all = length i.places.items + k in
    let rest = closed_behind folder (first + length own) n indexes links hold.1 (omega (arith, low)) hold.4 in
    let size : length i.places.items ≡ length own = found_length hold.3 in
    let at : first + length own + k ≡ first + all = omega (arith, size) in
    let same : drop all entries ≡ drop k hold.1 = (λ j. drop (size j + k) (hold.2 j)) ∙ dropped_front own hold.1 k in
    record {
      within = omega (arith, size, rest.within, ap length hold.2, length-append own hold.1);
      hold = subst (λ (e : Entries). ClosedHold folder (first + all) (drop n indexes) (drop n links) e) (sym same) (subst (λ (m : ℕ). ClosedHold folder m (drop n indexes) (drop n links) (drop k hold.1)) at rest.hold);
    }

-- the tables without the first ones
index_behind : (folder : Folder) (closed : List SegmentIndex) (last : SegmentIndex) (chain : Chain) (l : Ledger) (n b : ℕ) → n ≤ length closed → b ≡ l.base + total (take n (sizes_of closed)) → IndexHolds folder closed last chain l
    → IndexHolds folder (drop n closed) last (behind n chain) (trimmed b l) × (b ≤ end_of l)
index_behind folder closed last chain l n b low is holds =
    let k = total (take n (sizes_of closed)) in
    let part = closed_behind folder l.base n closed chain.closed holds.before low holds.closed_hold in
    let at : l.base + k ≡ max l.base b = omega (arith, is) in
    let k_is : b - l.base ≡ k = omega (arith, is) in
    let last_at : l.base + length holds.before ≡ max l.base b + length (drop k holds.before) = omega (arith, is, part.within, length-drop k holds.before) in (
      record {
        before = drop k holds.before;
        own = holds.own;
        closed_hold = subst (λ (m : ℕ). ClosedHold folder m (drop n closed) (drop n chain.closed) (drop k holds.before)) at part.hold;
        last_holds = subst (λ (m : ℕ). SegmentHolds folder m last chain.last holds.own) last_at holds.last_holds;
        entries_are = (λ i. drop (k_is i) (holds.entries_are i)) ∙ drop-append-le k holds.before holds.own part.within;
      },
      omega (arith, is, part.within, ap length holds.entries_are, length-append holds.before holds.own),
    )

module _ (ledger : ManagedLedger) (start : Start) (begins : Begins (start_of ledger) (counts_of ledger) start) where
  -- it is one of the tables' segments, or the last one
  pub few_before : begins.number ≤ length ledger.closed.items
  few_before =
      omega (arith, begins.there, length-append (sizes_of ledger.closed.items) (length ledger.last.places.items ∷ []), length-map ledger.closed.items (λ (index : SegmentIndex). length index.places.items))

  -- how many entries stand before it
  pub many_before : start.base ≡ (start_of ledger).base + total (take begins.number (sizes_of ledger.closed.items))
  many_before =
      let sizes : length (sizes_of ledger.closed.items) ≡ length ledger.closed.items = length-map ledger.closed.items (λ (index : SegmentIndex). length index.places.items) in
      omega (arith, begins.base_is, ap total (take-append-le begins.number (sizes_of ledger.closed.items) (length ledger.last.places.items ∷ []) (omega (arith, few_before, sizes))))

  module _ (chain : Chain) (l : Ledger) (few : end_of l ≤ 2 ^ 62) (index : IndexHolds (ledger_topic ledger).folder ledger.closed.items ledger.last chain l) where
    both : IndexHolds (ledger_topic ledger).folder (drop begins.number ledger.closed.items) ledger.last (behind begins.number chain) (trimmed start.base l) × (start.base ≤ end_of l)
    both =
        index_behind (ledger_topic ledger).folder ledger.closed.items ledger.last chain l begins.number start.base few_before (omega (arith, many_before, index_base (ledger_topic ledger).folder ledger.closed.items ledger.last chain l index)) index

    pub rest_index : IndexHolds (ledger_topic ledger).folder (drop begins.number ledger.closed.items) ledger.last (behind begins.number chain) (trimmed start.base l)
    rest_index = both.0

    pub rest_few : end_of (trimmed start.base l) ≤ 2 ^ 62
    rest_few = omega (arith, few, end_trimmed l start.base both.1)

    -- the chain from there on is what is left of the ledger
    pub rest_stands : (image : Image) → chains.Stands (ledger_topic ledger) start.first image (behind begins.number chain) → Stands (ledger_topic ledger) start image (trimmed start.base l)
    rest_stands image segments = record {
      chain = behind begins.number chain;
      segments = segments;
      ledger = index_ledger (ledger_topic ledger).folder (drop begins.number ledger.closed.items) ledger.last (behind begins.number chain) (trimmed start.base l) rest_few rest_index;
      begins = omega (arith, many_before, index_base (ledger_topic ledger).folder ledger.closed.items ledger.last chain l index);
    }

-- The files of a ledger stand for what is left of it from each of its segments on.
pub held_behind : (ledger : ManagedLedger) (image : Image) (l : Ledger) (start : Start) → Holds ledger image l → Begins (start_of ledger) (counts_of ledger) start → Stands (ledger_topic ledger) start image (trimmed start.base l)
held_behind ledger image l start holds begins =
    let topic = ledger_topic ledger in
    let count = closed_count (ledger_topic ledger).folder l.base ledger.closed.items holds.chain.closed holds.index.before holds.index.closed_hold in
    let segments = links.stands_behind topic (start_of ledger).first begins.number image holds.chain (omega (arith, few_before ledger start begins, count)) (links.holds_stands ledger.journal image holds.chain holds.journal) in
    rest_stands ledger start begins holds.chain l holds.few holds.index image (subst (λ (k : ℕ). chains.Stands topic k image (behind begins.number holds.chain)) (sym begins.first_is) segments)
