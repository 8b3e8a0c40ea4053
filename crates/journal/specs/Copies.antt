-- What a copy of a chain leaves.
use Rattle.std.proofs.Common.{◌≡◌, ℕ, suc, ◌+◌, ◌<◌, ◌≤◌, List, [], ◌∷◌, length, sym, subst, arith}
use Rattle.disk.specs.declared.file_id.FileId.TheVariants.{Segment}
use Rattle.disk.specs.declared.file_id.TopicId.{TopicId}
use Rattle.disk.specs.Disk.{Disk, Image, Synced}
use Rattle.gated_log.specs.Batches.{IsLog}
use Rattle.journal.specs.Chains.{Link, Chain, Stands, ClosedStand, batches_of, closed_batches_of}

-- a crash leaves each of its segments as reads give it
abbrev pub AreSynced : TopicId → ℕ → Chain → Disk → Type 0
AreSynced topic first chain disk = (k : ℕ) → k ≤ length chain.closed → Synced (Segment topic (first + k)) disk

closed_same : (topic : TopicId) (from : ℕ) (a b : Image) (links : List Link) → ((k : ℕ) → k < length links → b (Segment topic (from + k)) ≡ a (Segment topic (from + k))) → ClosedStand topic from a links → ClosedStand topic from b links
closed_same topic from a b [] same stand = tt
closed_same topic from a b (link ∷ links) same stand =
    let here : from + 0 ≡ from = omega arith in (
      subst (λ (bytes : List ℕ). IsLog topic.folder link.label (closed_batches_of link) bytes) (sym (subst (λ (n : ℕ). b (Segment topic n) ≡ a (Segment topic n)) here (same 0 (omega arith)))) stand.0,
      closed_same topic (from + 1) a b links (λ k few. subst (λ (n : ℕ). b (Segment topic n) ≡ a (Segment topic n)) (next k) (same (suc k) (omega (arith, few)))) stand.1,
    )
  where
    next : (k : ℕ) → from + suc k ≡ from + 1 + k
    next k = omega arith

-- so a crash leaves the chain
pub left_stands : (topic : TopicId) (first : ℕ) (chain : Chain) (disk : Disk) → Stands topic first disk.seen chain → AreSynced topic first chain disk → (c : Image) → disk.may_leave c → Stands topic first c chain
left_stands topic first chain disk stands synced c may = record {
  closed = closed_same topic first disk.seen c chain.closed (λ k few. synced k (omega (arith, few)) c may) stands.closed;
  last = subst (λ (bytes : List ℕ). IsLog topic.folder chain.last.label (batches_of chain.last) bytes) (sym (synced (length chain.closed) (omega arith) c may)) stands.last;
}
