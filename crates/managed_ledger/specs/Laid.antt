-- How the entries of a topic are laid out in its segments.
use Rattle.std.proofs.Common.{◌≡◌, ℕ, ◌+◌, ◌≤◌, List, [], ◌∷◌, ◌++◌, length, refl, sym, ◌∙◌, ap, subst, if◌then◌else◌, true, false, Bool}
use Rattle.std.specs.Prelude.{nat_le}
use Rattle.std.proofs.lemmas.Bool.{leb-true}
use Rattle.disk.specs.declared.file_id.TopicId.{TopicId}
use Rattle.disk.specs.Disk.{Image}
use Rattle.disk.specs.Areas.{Agree}
use Rattle.journal.specs.Chains.{Link, Chain, SegmentsOf, links_of}
use Rattle.journal.specs.Chains as chains
use Rattle.journal.specs.Links as links
use Rattle.managed_ledger.specs.declared.segment_index.SegmentIndex.{SegmentIndex}
use Rattle.managed_ledger.specs.declared.managed_ledger.ManagedLedger.{ManagedLedger}
use Rattle.managed_ledger.specs.Entries.{Entries, Ledger, AreBatches, body_of}
use Rattle.managed_ledger.specs.Shape.{sizes_of, counts_after}
use Rattle.managed_ledger.specs.Ledgers.{Holds, ClosedHold, IndexHolds, ledger_topic, start_of, counts_of}
use Rattle.managed_ledger.specs.One.{entries_one, batches_joined}
use Rattle.managed_ledger.specs.Places.{found_length}
use Rattle.disk.specs.declared.file_id.Folder.{Folder}

-- the batches of a segment have so many entries
pub record HasEntries (link : Link) (count : ℕ) : Type 0 where
  pub entries : Entries
  pub batches : AreBatches link.bodies entries
  pub counted : length entries ≡ count

-- one segment after another has so many entries
abbrev pub HaveEntries : List Link → List ℕ → Type 0
HaveEntries [] [] = Unit {0}
HaveEntries [] (count ∷ counts) = ⊥
HaveEntries (link ∷ links) [] = ⊥
HaveEntries (link ∷ links) (count ∷ counts) = HasEntries link count × HaveEntries links counts

-- the segment files of the topic from this number on have so many entries each, the oldest first
pub record IsLaidOut (topic : TopicId) (first : ℕ) (image : Image) (counts : List ℕ) : Type 0 where
  pub chain : Chain
  pub segments : chains.Stands topic first image chain
  pub each : HaveEntries (links_of chain) counts

-- each segment but the last has n entries or more
abbrev pub AreFull : ℕ → List ℕ → Type 0
AreFull n [] = Unit {0}
AreFull n (last ∷ []) = Unit {0}
AreFull n (count ∷ next ∷ counts) = (n ≤ count) × AreFull n (next ∷ counts)

closed_laid : (folder : Folder) (first : ℕ) (indexes : List SegmentIndex) (links : List Link) (before : Entries) (last : SegmentIndex) (link : Link) → ClosedHold folder first indexes links before
    → HasEntries link (length last.places.items) → HaveEntries (links ++ link ∷ []) (sizes_of indexes ++ length last.places.items ∷ [])
closed_laid folder first [] [] before last link hold own = (own, tt)
closed_laid folder first [] (l ∷ links) before last link hold own = absurd hold
closed_laid folder first (i ∷ indexes) [] before last link hold own = absurd hold
closed_laid folder first (i ∷ indexes) (l ∷ links) before last link hold own = (
  record { entries = hold.0; batches = hold.3.segment.batches; counted = sym (found_length hold.3) },
  closed_laid folder (first + length hold.0) indexes links hold.1 last link hold.4 own,
)

-- the tables of a chain's segments have as many places as these have entries
pub index_laid : (folder : Folder) (closed : List SegmentIndex) (last : SegmentIndex) (chain : Chain) (l : Ledger) → IndexHolds folder closed last chain l → HaveEntries (links_of chain) (sizes_of closed ++ length last.places.items ∷ [])
index_laid folder closed last chain l index = closed_laid folder l.base closed chain.closed index.before last chain.last index.closed_hold (record {
  entries = index.own;
  batches = index.last_holds.segment.batches;
  counted = sym (found_length index.last_holds);
})

-- a ledger counts its segments as they are laid out
pub held_laid : (ledger : ManagedLedger) (image : Image) (l : Ledger) → Holds ledger image l → IsLaidOut (ledger_topic ledger) (start_of ledger).first image (counts_of ledger)
held_laid ledger image l holds = record {
  chain = holds.chain;
  segments = links.holds_stands ledger.journal image holds.chain holds.journal;
  each = index_laid (ledger_topic ledger).folder ledger.closed.items ledger.last holds.chain l holds.index;
}

each_one : (links : List Link) (one other : List ℕ) → HaveEntries links one → HaveEntries links other → one ≡ other
each_one [] [] [] have have' = refl
each_one [] [] (m ∷ other) have have' = absurd have'
each_one [] (n ∷ one) other have have' = absurd have
each_one (l ∷ links) [] other have have' = absurd have
each_one (l ∷ links) (n ∷ one) [] have have' = absurd have'
each_one (l ∷ links) (n ∷ one) (m ∷ other) have have' =
    let bodies : body_of have.0.entries ≡ body_of have'.0.entries = sym (batches_joined l.bodies have.0.entries have.0.batches) ∙ batches_joined l.bodies have'.0.entries have'.0.batches in
    let same = entries_one have.0.entries have'.0.entries have.0.batches.each have'.0.batches.each bodies in
    let here : n ≡ m = sym have.0.counted ∙ ap length same ∙ have'.0.counted in
    let rest = each_one links one other have.1 have'.1 in
    (λ i. here i ∷ rest i)

-- files are laid out in one way
pub laid_one : (topic : TopicId) (first : ℕ) (image : Image) (one other : List ℕ) → IsLaidOut topic first image one → IsLaidOut topic first image other → one ≡ other
laid_one topic first image one other is is' =
    each_one (links_of is.chain) one other is.each
    (subst (λ (c : Chain). HaveEntries (links_of c) other) (sym (links.stands_one topic first image is.chain is'.chain is.segments is'.segments)) is'.each)

pub laid_local : (topic : TopicId) (first : ℕ) (a b : Image) (counts : List ℕ) → Agree (SegmentsOf topic) a b → IsLaidOut topic first a counts → IsLaidOut topic first b counts
laid_local topic first a b counts same is = record { chain = is.chain; segments = links.stands_local topic first a b is.chain same is.segments; each = is.each }

full_behind : (n count : ℕ) (counts : List ℕ) → n ≤ count → AreFull n counts → AreFull n (count ∷ counts)
full_behind n count [] le full = tt
full_behind n count (next ∷ counts) le full = (le, full)

-- an append leaves all but the last segment full
pub full_after : (n more : ℕ) (counts : List ℕ) → AreFull n counts → AreFull n (counts_after n more counts)
full_after n more [] full = tt
full_after n more (last ∷ []) full = split (nat_le n last) refl
  where
    split : (b : Bool) → nat_le n last ≡ b → AreFull n (if b then last ∷ more ∷ [] else (last + more) ∷ [])
    split true is = (leb-true n last is, tt)
    split false is = tt
full_after n more (count ∷ next ∷ counts) full = full_behind n count (counts_after n more (next ∷ counts)) full.0 (full_after n more (next ∷ counts) full.1)
