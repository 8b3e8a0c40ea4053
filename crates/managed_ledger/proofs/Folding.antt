-- A ledger's segments are read one after another.
use Rattle.std.proofs.Common.{◌≡◌, ◌≢◌, ℕ, ◌+◌, ◌≤◌, ◌^◌, List, [], ◌∷◌, ◌++◌, length, refl, sym, ◌∙◌, ap, subst, arith, length-append, None, Some}
use Rattle.disk.specs.Disk.{Disk}
use Rattle.gated_log.specs.Folds as folds
use Rattle.journal.specs.Chains.{Link, Chain, links_of, grown, rolled, begun}
use Rattle.journal.specs.Journals as journals
use Rattle.managed_ledger.specs.declared.ledger_index.LedgerIndex.{LedgerIndex}
use Rattle.managed_ledger.specs.declared.managed_ledger.ManagedLedger.{ManagedLedger}
use Rattle.managed_ledger.specs.declared.segment_index.SegmentIndex.{SegmentIndex}
use Rattle.managed_ledger.specs.Entries.{Entries, begun_at, end_of, AreSegments}
use Rattle.managed_ledger.specs.Bodies.{IsBody}
use Rattle.managed_ledger.specs.Ledgers.{IndexHolds, Holds, counts_of, ledger_topic}
use Rattle.managed_ledger.specs.One.{segments_one}
use Rattle.managed_ledger.specs.Segments.{index_total}
use Rattle.managed_ledger.specs.Shape.{total}
use Rattle.disk.specs.Contents.{Settled}
use Rattle.managed_ledger.specs.Folded.{AreLedger, HasRead, ReadsBody, ReadsSegment, position, counted, last_of, less_of, chain_segments, indexed_ledger}
use Rattle.managed_ledger.proofs.Indexing.{begun_indexed}
use Rattle.disk.specs.declared.file_id.Folder.{Folder}
use Rattle.gated_log.specs.declared.label.Label.{Label}
use Rattle.gated_log.specs.Labels.{plain, header_size}

snoc_one : (xs ys : List Link) (x y : Link) → xs ++ x ∷ [] ≡ ys ++ y ∷ [] → (xs ≡ ys) × (x ≡ y)
snoc_one [] [] x y same = let head : x ≡ y = cc in (refl, head)
snoc_one [] (b ∷ []) x y same = cc
snoc_one [] (b ∷ c ∷ ys) x y same = cc
snoc_one (a ∷ []) [] x y same = cc
snoc_one (a ∷ c ∷ xs) [] x y same = cc
snoc_one (a ∷ xs) (b ∷ ys) x y same =
    let head : a ≡ b = cc in
    let tail : xs ++ x ∷ [] ≡ ys ++ y ∷ [] = cc in
    let rest = snoc_one xs ys x y tail in
    ((λ i. head i ∷ rest.0 i), rest.1)

module _ (folder : Folder) (base : ℕ) (held : Entries → Type 0) where
  -- the entries that were read
  read_entries : (index : LedgerIndex) (links : List Link) → (read : HasRead folder base held (Some index) links) → AreSegments base links read.2.entries
  read_entries index links read = subst (λ (l : List Link). AreSegments base l read.2.entries) (sym read.1) (chain_segments read.0 (begun_at base read.2.entries) (indexed_ledger folder base index read.0 read.2))

  -- the first segment
  pub begins_first : (index : LedgerIndex) (links : List Link) (label : Label) → HasRead folder base held None links → label ≡ plain base → index.closed.items ≡ [] → index.last.first ≡ base → index.last.places.items ≡ [] → index.end ≡ header_size folder → HasRead folder base held (Some index) (links ++ folds.begun label ∷ [])
  begins_first index links label none base_is closed first places end =
      let more = begun_indexed folder base index closed first places end in
      (begun base, (λ i. none.0 i ++ folds.begun (base_is i) ∷ []), more.0, subst held (sym more.1) none.1)

  -- a segment more
  pub begins_more : (index new : LedgerIndex) (links : List Link) (number : ℕ) (label : Label) → label ≡ plain number → HasRead folder base held (Some index) links → ReadsSegment folder base index number (Some new) → HasRead folder base held (Some new) (links ++ folds.begun label ∷ [])
  begins_more index new links number label label_is read reads =
      let more = reads read.0 read.2 in
      (rolled read.0 number, (λ i. read.1 i ++ folds.begun (label_is i) ∷ []), more.0, subst held (sym more.1) read.3)

  -- a number that isn't the position of a first entry
  pub number_bad : (index : LedgerIndex) (links : List Link) (label : Label) → HasRead folder base held (Some index) links → label.number ≢ position index → ¬ AreLedger base (links ++ folds.begun label ∷ [])
  number_bad index links label read other is =
      let last = last_of base links (folds.begun label) is.0 is.1 in
      let number : label.number ≡ base + length last.before = ap (λ (l : Label). l.number) last.last.label_is in
      let same = segments_one base base links last.before read.2.entries last.closed (read_entries index links read) in
      other (omega (arith, number, ap length same, counted folder base index read.0 read.2))

  -- a label that says more than a number
  pub label_bad : (links : List Link) (label : Label) → label ≢ plain label.number → ¬ AreLedger base (links ++ folds.begun label ∷ [])
  label_bad links label more is =
      let last = last_of base links (folds.begun label) is.0 is.1 in
      more (last.last.label_is ∙ ap (λ (l : Label). plain l.number) (sym last.last.label_is))

  -- a body that isn't of entries, or of too many
  pub body_bad : (index : LedgerIndex) (links : List Link) (link : Link) (body : List ℕ) → HasRead folder base held (Some index) (links ++ link ∷ []) → length body ≤ 33554432
      → ((entries : Entries) → IsBody body entries → ¬ (position index + length entries ≤ 2 ^ 62)) → ¬ AreLedger base (links ++ folds.grown link body ∷ [])
  body_bad index links link body read fits none is =
      let less = less_of base links link body is.0 is.1 in
      let same = segments_one base base (links ++ link ∷ []) less.front read.2.entries less.segments (read_entries index (links ++ link ∷ []) read) in
      none less.batch (record { bytes = less.body_is; each = less.each; fits = fits }) (omega (arith, is.2, ap length less.entries_are, length-append less.front less.batch, ap length same, counted folder base index read.0 read.2))

  -- a body more
  pub body_good : (held' : Entries → Type 0) (index new : LedgerIndex) (links : List Link) (link : Link) (body : List ℕ) → (read : HasRead folder base held (Some index) (links ++ link ∷ [])) → folds.FitsFile (folds.grown link body) → ReadsBody folder base index body read.2.entries held' (Some new)
      → HasRead folder base held' (Some new) (links ++ folds.grown link body ∷ [])
  body_good held' index new links link body read few reads =
      let both = snoc_one links read.0.closed link read.0.last read.1 in
      let more = reads read.0 (subst (λ (l : Link). folds.FitsFile (folds.grown l body)) both.1 few) read.2 refl in
      (grown read.0 body, (λ i. both.0 i ++ folds.grown (both.1 i) body ∷ []), more.0, more.1)

  -- the ledger that was opened
  pub opened_ledger : (ledger : ManagedLedger) (index : LedgerIndex) (first disk : Disk) (chain : Chain) → (first.honest → journals.Settled ledger.journal disk chain) → HasRead folder base held (Some index) (links_of chain) → ledger.closed.items ≡ index.closed.items → ledger.last ≡ index.last → (ledger_topic ledger).folder ≡ folder
      → (entries : Entries) × (first.honest → Settled (Holds ledger) disk (begun_at base entries)) × (length entries ≡ total (counts_of ledger)) × held entries
  opened_ledger ledger index first disk chain settled read closed last folder_is =
      let both = snoc_one chain.closed read.0.closed chain.last read.0.last read.1 in
      let same : read.0 ≡ chain = (λ i. record { closed = (sym both.0) i; last = (sym both.1) i }) in
      let so = read.2 in
      let holds : IndexHolds folder ledger.closed.items ledger.last chain (begun_at base so.entries) =
      subst (λ (c : Chain). IndexHolds folder ledger.closed.items ledger.last c (begun_at base so.entries)) same
      (subst (λ (l : List SegmentIndex). IndexHolds folder l ledger.last read.0 (begun_at base so.entries)) (sym closed) (subst (λ (s : SegmentIndex). IndexHolds folder index.closed.items s read.0 (begun_at base so.entries)) (sym last) so.holds)) in
      let its : IndexHolds (ledger_topic ledger).folder ledger.closed.items ledger.last chain (begun_at base so.entries) =
      subst (λ (f : Folder). IndexHolds f ledger.closed.items ledger.last chain (begun_at base so.entries)) (sym folder_is) holds in
      let few : end_of (begun_at base so.entries) ≤ 2 ^ 62 = omega (arith, index.few, counted folder base index read.0 so) in
      let all : first.honest → Settled (Holds ledger) disk (begun_at base so.entries) = λ h.
      let there = settled h in
      record {
        honest = there.honest;
        now = record { chain = chain; journal = there.now; index = its; few = few };
        left = λ c may. record { chain = chain; journal = there.left c may; index = its; few = few };
      } in
      (so.entries, all, sym (index_total folder ledger.closed.items ledger.last chain (begun_at base so.entries) holds), read.3)
