-- A status tells of the segments that are there, or that were last known to be whole.
use Rattle.std.proofs.Common.{◌≡◌, ℕ, List, length, subst}
use Rattle.disk.specs.Disk.{Disk, Image}
use Rattle.managed_ledger.specs.Entries.{Ledger}
use Rattle.records.specs.Maps.{Kept}
use Rattle.topic_stores.specs.Views.{StoreView}
use Rattle.topic_core.specs.State.{Topic}
use Rattle.topic_core.specs.Standing.{Phase, Before, Written, Lost, Standing}
use Rattle.node.specs.Driving.{TellsSegments}

pub tells_segments : (stands : ℕ → Image → Ledger → Kept → Type 0) (laid : ℕ → Image → List ℕ → Type 0) (phase : Phase) (core : Topic) (v : StoreView) (disk : Disk) (segments number : ℕ)
    → ((files : Image) (ledger : Ledger) (kept : Kept) → v.holds files ledger kept → laid v.topic files v.counts) → v.topic ≡ number → segments ≡ length v.counts → Standing stands phase core v disk → TellsSegments laid number phase disk.seen (length v.counts) segments
tells_segments stands laid Before core v disk segments number law is counted s = (v.counts, subst (λ t. laid t disk.seen v.counts) is (law disk.seen _ _ s.holds.settled.now), counted)
tells_segments stands laid (Written base) core v disk segments number law is counted s = (v.counts, subst (λ t. laid t disk.seen v.counts) is (law disk.seen _ _ s.holds.settled.now), counted)
tells_segments stands laid Lost core v disk segments number law is counted s = counted
