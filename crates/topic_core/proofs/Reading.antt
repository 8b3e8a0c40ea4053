-- What a read gives of the committed entries, whether a flush is under way or not.
use Rattle.std.proofs.Common.{◌≡◌, ◌⊎◌, inr, ℕ, ◌<◌, ◌≤◌, true, Some, Result, Ok, Err, List, sym, ◌∙◌, arith}
use Rattle.std.specs.Prelude.{IfOk, IfErr, IsErrOf}
use Rattle.disk.specs.Disk.{Disk, Image}
use Rattle.managed_ledger.specs.Entries.{Ledger, end_of, entry_at, trimmed}
use Rattle.managed_ledger.specs.Trims.{end_lengthened, end_trimmed, entry_stays, kept_trimmed}
use Rattle.records.specs.Maps.{Kept}
use Rattle.gated_log.specs.declared.read_error.ReadError.{ReadError}
use Rattle.gated_log.specs.declared.read_error.ReadError.TheVariants.{Device, NoMemory}
use Rattle.topic_stores.specs.Views.{StoreView}
use Rattle.topic_core.specs.State.{Topic, floor, entries_in_doubt}
use Rattle.topic_core.specs.Crashes.{longer, changed}
use Rattle.topic_core.specs.Standing.{Phase, Before, Written, Lost, Standing}

not_refused : {T : Type 0} (e : T) → (let r : Result T ReadError = Ok e in r ≡ Err Device) → ⊥
not_refused e is = absurd (cc)

same_error : {T : Type 0} (e : ReadError) → (let r : Result T ReadError = Err e in r ≡ Err Device) → e ≡ Device
same_error e is = cc

module _ {T : Type 0} (bytes : T → List ℕ) (stands : ℕ → Image → Ledger → Kept → Type 0) (t : Topic) (v : StoreView) (d : Disk) (position : ℕ) (above : floor t ≤ position) (within : position < t.committed) where
  pub reads_entry : (phase : Phase) (r : Result T ReadError) → Standing stands phase t v d
      → ((ledger : Ledger) (kept : Kept) → d.honest → v.holds d.seen ledger kept → IfOk r (λ e. entry_at ledger position ≡ Some (bytes e))) → (v.failed ≡ true → IsErrOf r Device) → IfOk r (λ e. entry_at t.ledger position ≡ Some (bytes e))
  reads_entry Before (Ok e) h entry failed = entry t.ledger t.kept h.honest h.holds.settled.now
  reads_entry (Written base) (Ok e) h entry failed =
      sym (entry_stays t.ledger (entries_in_doubt t) position (omega (arith, within, h.counted)))
      ∙ sym (kept_trimmed (longer t) base position (omega (arith, above, h.matched.remembers.within)))
      ∙ entry (trimmed base (longer t)) (changed t) h.honest h.holds.settled.now
  reads_entry Lost (Ok e) h entry failed = absurd (not_refused e (failed h.matched.remembers.failed))
  reads_entry phase (Err e) h entry failed = tt

  pub reads_refused : (phase : Phase) (r : Result T ReadError) → Standing stands phase t v d
      → ((ledger : Ledger) (kept : Kept) → d.honest → v.holds d.seen ledger kept → ledger.base ≤ position → position < end_of ledger → IfErr r (λ e. (e ≡ NoMemory) ⊎ (e ≡ Device))) → (v.failed ≡ true → IsErrOf r Device) → IfErr r (λ e. (e ≡ NoMemory) ⊎ (e ≡ Device))
  reads_refused phase (Ok e) h refused failed = tt
  reads_refused Before (Err e) h refused failed = refused t.ledger t.kept h.honest h.holds.settled.now (omega (arith, above, h.acknowledged.rises)) (omega (arith, within, h.counted))
  reads_refused (Written base) (Err e) h refused failed =
      refused (trimmed base (longer t)) (changed t) h.honest h.holds.settled.now (omega (arith, above, h.acknowledged.rises, h.matched.remembers.within))
      (omega (
        arith,
        within,
        h.counted,
        above,
        h.matched.remembers.within,
        end_lengthened t.ledger (entries_in_doubt t),
        end_trimmed (longer t) base (omega (arith, within, h.counted, above, h.matched.remembers.within, end_lengthened t.ledger (entries_in_doubt t))),
      ))
  reads_refused Lost (Err e) h refused failed = inr (same_error e (failed h.matched.remembers.failed))
