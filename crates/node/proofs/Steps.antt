-- What a crash leaves at any moment of a flush.
use Rattle.std.proofs.Common.{◌≡◌, inl, ℕ, Bool, true, false, refl, sym, subst}
use Rattle.disk.specs.Disk.{Disk, Image}
use Rattle.disk.specs.Areas.{OfTopic, Within, stays_within}
use Rattle.managed_ledger.specs.Entries.{Ledger}
use Rattle.records.specs.Maps.{Kept}
use Rattle.topic_stores.specs.Writing.{StandsFor}
use Rattle.topic_core.specs.State.{Topic}
use Rattle.topic_core.specs.Flush as topics
use Rattle.topic_core.specs.Crashes.{IsLeft}
use Rattle.node.specs.Steps.{flushing}

module _ {S : Type 0} (disk : S → Disk) (stands : Image → Ledger → Kept → Type 0) (t : Topic) (area : ℕ) (old new : S) (left : (files : Image) → (disk old).may_leave files → StandsFor stands (IsLeft t) files) where
  pub untouched : new ≡ old → Within (OfTopic area) (StandsFor stands (IsLeft t)) (disk old) (disk new)
  untouched same = subst (λ (s : S). Within (OfTopic area) (StandsFor stands (IsLeft t)) (disk old) (disk s)) (sym same) (stays_within (OfTopic area) (StandsFor stands (IsLeft t)) (disk old) left)

  -- over a flush with a limit, or one that begins nothing
  abbrev Leaving : Topic → Type 0
  Leaving u = Within (OfTopic area) (StandsFor stands (IsLeft u)) (disk old) (disk new)

  pub flush_within : (failed nothing : Bool) → (failed ≡ false → nothing ≡ false → (limit : ℕ) × topics.IsTrimPoint t limit × Leaving (topics.handed_on t limit)) → (failed ≡ true → new ≡ old) → (nothing ≡ true → new ≡ old)
      → (limit : ℕ) × topics.IsTrimPoint t limit × Leaving (flushing failed nothing t limit)
  flush_within true nothing within refused idle = (t.ledger.base, inl refl, untouched (refused refl))
  flush_within false true within refused idle = (t.ledger.base, inl refl, untouched (idle refl))
  flush_within false false within refused idle = within refl refl
