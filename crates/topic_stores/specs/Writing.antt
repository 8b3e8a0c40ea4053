-- A write of a batch.
use Rattle.std.specs.Prelude.{◌≡◌, ◌⊎◌, ◌+◌, ◌≤◌, ◌^◌, max, true, false, Result, Ok, Err, ℕ, zero, suc, List, length, drop}
use Rattle.disk.specs.Disk.{Image}
use Rattle.managed_ledger.specs.Entries.{Entries, Ledger, lengthened, trimmed}
use Rattle.managed_ledger.specs.Points.{counts_with}
use Rattle.managed_ledger.specs.Shape.{counts_after, AreLastWhole}
use Rattle.records.specs.Floors.{HaveBelow, StartFrom}
use Rattle.records.specs.declared.record.Record.{Record}
use Rattle.records.specs.Maps.{Kept}
use Rattle.records.specs.Records.{AreFormed, after_all}
use Rattle.topic_stores.specs.declared.batch.Batch.{Batch}
use Rattle.topic_stores.specs.declared.error.WriteError.{WriteError}
use Rattle.topic_stores.specs.declared.error.WriteError.TheVariants.{Device, NoMemory}
use Rattle.gated_log.specs.declared.refusal.Refusal.{Refusal}
use Rattle.gated_log.specs.declared.refusal.Refusal.TheVariants as refusal
use Rattle.topic_stores.specs.Views.{StoreView}

-- what the store remembers takes it: there are numbers for its entries, each change is of its form, and none makes a subscription
-- that begins before the ledger does
pub record Fits (v : StoreView) (batch : Batch) : Type 0 where
  pub few : v.count + length batch.entries.items ≤ 2 ^ 62
  pub formed : AreFormed (v.count + length batch.entries.items) v.kept batch.changes.items
  pub starts : StartFrom v.base batch.changes.items

-- A trim of the ledger: it begins at the old base or later, not behind the limit, and each subscription has what is gone.
pub record IsTrim (from : Ledger) (limit : ℕ) (kept : Kept) (to : Ledger) : Type 0 where
  pub rises : from.base ≤ to.base
  pub below : to.base ≤ max from.base limit
  pub acknowledged : HaveBelow to.base kept
  pub is : to ≡ trimmed to.base from

-- What a crash leaves of these entries and subscriptions, with more entries and changes in doubt, and a trim up to a limit: the
-- old ones, or the ledger has the entries too, or both have what is in doubt, and the ledger may be trimmed. Changes come only where
-- the entries came, and a trim only where the changes came.
abbrev pub IsLeft : Ledger → Kept → Entries → List Record → ℕ → Ledger → Kept → Type 0
IsLeft ledger kept entries changes limit new_ledger new_kept =
    ((new_ledger ≡ ledger) × (new_kept ≡ kept))
    ⊎ (((new_ledger ≡ lengthened ledger entries) × (new_kept ≡ kept))
    ⊎ (IsTrim (lengthened ledger entries) limit new_kept new_ledger × (new_kept ≡ after_all changes kept)))

-- these files stand for entries and subscriptions of which this holds
pub record StandsFor (files_stand : Image → Ledger → Kept → Type 0) (P : Ledger → Kept → Type 0) (files : Image) : Type 0 where
  pub ledger : Ledger
  pub kept : Kept
  pub is_left : P ledger kept
  pub stands : files_stand files ledger kept

-- it remembers the batch, and where the ledger begins then
pub record IsAdded (old : StoreView) (batch : Batch) (base : ℕ) (new : StoreView) : Type 0 where
  pub begins : new.base ≡ base
  pub below : base ≤ max old.base batch.trim
  pub count : new.count ≡ old.count + length batch.entries.items
  pub gone : ℕ
  pub counts : new.counts ≡ drop gone (counts_with old.per_ledger (length batch.entries.items) old.counts)
  pub per_ledger : new.per_ledger ≡ old.per_ledger
  pub kept : new.kept ≡ after_all batch.changes.items old.kept
  pub works : old.failed ≡ false → new.failed ≡ false

-- it remembers what it did
pub record IsAsBefore (old new : StoreView) : Type 0 where
  pub base : new.base ≡ old.base
  pub count : new.count ≡ old.count
  pub counts : new.counts ≡ old.counts
  pub per_ledger : new.per_ledger ≡ old.per_ledger
  pub kept : new.kept ≡ old.kept
  pub failed : new.failed ≡ old.failed

-- The segments that are known to be whole, where the device failed in writing so many entries or what comes behind them: the old ones, or,
-- where there are entries, those with a new one begun, or those that have the entries too.
abbrev pub AreKnownWhole : ℕ → ℕ → List ℕ → List ℕ → Type 0
AreKnownWhole n zero old new = new ≡ old
AreKnownWhole n (suc more) old new = AreLastWhole n old new ⊎ (new ≡ counts_after n (suc more) old)

-- it is the same number, or the next one
abbrev pub IsOneMoreAtMost : ℕ → ℕ → Type 0
IsOneMoreAtMost known now = (now ≡ known) ⊎ (now ≡ suc known)

-- it is failed, with the old entries or the batch's behind them, and with the old subscriptions or what the changes make of them
pub record IsFailed (old : StoreView) (batch : Batch) (new : StoreView) : Type 0 where
  pub failed : new.failed ≡ true
  pub count : (new.count ≡ old.count) ⊎ (new.count ≡ old.count + length batch.entries.items)
  pub counts : AreKnownWhole old.per_ledger (length batch.entries.items) old.counts new.counts
  pub counts_stay : old.failed ≡ true → new.counts ≡ old.counts
  pub per_ledger : new.per_ledger ≡ old.per_ledger
  pub kept : (new.kept ≡ old.kept) ⊎ (new.kept ≡ after_all batch.changes.items old.kept)

-- what the store remembers after a write
abbrev pub Remembers : StoreView → Batch → Result ℕ WriteError → StoreView → Type 0
Remembers old batch (Ok base) new = IsAdded old batch base new
Remembers old batch (Err NoMemory) new = IsAsBefore old new
Remembers old batch (Err Device) new = IsFailed old batch new

-- a refused write, as a node tells it
abbrev pub refusal_of : WriteError → Refusal
refusal_of Device = refusal.Device
refusal_of NoMemory = refusal.NoMemory
