-- How a write ends, once all of its batch is there: trimmed, or not.
use Rattle.std.proofs.Common.{◌≡◌, inr, ⊎_elim, ℕ, ◌≤◌, Option, Some, None, List, refl, sym, ap, subst, ◌∙◌}
use Rattle.disk.specs.declared.file_id.TopicId.{TopicId}
use Rattle.disk.specs.declared.file_id.FileId.{FileId}
use Rattle.disk.specs.Disk.{Disk, Image}
use Rattle.disk.specs.Contents.{BeforeOrAfter}
use Rattle.gated_log.specs.declared.start.Start.{Start}
use Rattle.managed_ledger.specs.Entries.{Entries, Ledger, lengthened, trimmed}
use Rattle.records.specs.Floors.{HaveBelow}
use Rattle.cursor_store.specs.Trimming.{IsKeptBehind}
use Rattle.records.specs.declared.record.Record.{Record}
use Rattle.records.specs.Maps.{Kept}
use Rattle.records.specs.Records.{after_all}
use Rattle.topic_stores.specs.Appends.{PreparedFor}
use Rattle.topic_stores.specs.Views.{EntryView, SubView, Settled, both, stand}
use Rattle.topic_stores.specs.Laws.{EntryLaws, SubLaws, both_stand, both_laws}
use Rattle.topic_stores.specs.Writing.{IsLeft, IsTrim, StandsFor}
use Rattle.topic_stores.proofs.Trimming.{trimmed_none, no_trim, a_trim}
use Rattle.topic_stores.proofs.Writing.{below}

-- what is kept behind what was prepared
pub kept_behind : {P : Type 0} (is_for : P → List Record → Type 0) (prepared : Option P) (changes : List Record) (old later : Kept) → after_all changes old ≡ later → PreparedFor is_for prepared changes → IsKeptBehind is_for old prepared later
kept_behind is_for None changes old later same none = sym same ∙ ap (λ (rs : List Record). after_all rs old) none
kept_behind is_for (Some prepared) changes old later same it = (changes, it, sym same)

module _ (es : TopicId → Start → Image → Ledger → Type 0) (ss : TopicId → ℕ → Start → Image → Kept → Type 0) (ea ca : TopicId → FileId → Type 0) (e : EntryView) (s : SubView) (el : EntryLaws es ea e) (sl : SubLaws ss ca s) where
  settled_below : (d : Disk) (l : Ledger) (k : Kept) → Settled (both e s) d l k → HaveBelow l.base k
  settled_below d l k x = below es ss ea ca e s el sl d.seen l k (both_stand es ss ea ca e s el sl d.seen l k x.settled.now)

  settled_base : (d : Disk) (l : Ledger) (k : Kept) → Settled (both e s) d l k → s.start.base ≡ l.base
  settled_base d l k x = (both_laws es ss ea ca e s el sl).begins d.seen l k x.settled.now

  -- nothing was trimmed
  pub none_settled : (d : Disk) (l : Ledger) (k : Kept) (b : ℕ) → b ≡ s.start.base → Settled (both e s) d l k → Settled (both e s) d (trimmed b l) k
  none_settled d l k b same x = subst (λ (m : Ledger). Settled (both e s) d m k) (sym (trimmed_none l b (same ∙ settled_base d l k x))) x

  pub none_trimmed : (d : Disk) (l : Ledger) (k : Kept) (limit b : ℕ) → b ≡ s.start.base → Settled (both e s) d l k → IsTrim l limit k (trimmed b l)
  none_trimmed d l k limit b same x = subst (λ (m : Ledger). IsTrim l limit k m) (sym (trimmed_none l b (same ∙ settled_base d l k x))) (no_trim l limit k (settled_below d l k x))

  -- something was
  pub some_settled : (d : Disk) (l : Ledger) (k : Kept) (a b : ℕ) → a ≡ b → Settled (both e s) d (trimmed b l) k → Settled (both e s) d (trimmed a l) k
  some_settled d l k a b same x = subst (λ (n : ℕ). Settled (both e s) d (trimmed n l) k) (sym same) x

  pub some_trimmed : (d : Disk) (l : Ledger) (k : Kept) (limit a b : ℕ) → a ≡ b → b ≤ limit → Settled (both e s) d (trimmed b l) k → IsTrim l limit k (trimmed a l)
  some_trimmed d l k limit a b same low x = subst (λ (n : ℕ). IsTrim l limit k (trimmed n l)) (sym same) (a_trim l limit b k low (settled_below d (trimmed b l) k x))

  -- whichever a crash leaves
  pub either_left : (ledger : Ledger) (batch : Entries) (kept : Kept) (changes : List Record) (limit b : ℕ) → b ≤ limit
      → (c : Image) → BeforeOrAfter (λ i l. stand es ss e.topic i l (after_all changes kept)) (lengthened ledger batch) (trimmed b (lengthened ledger batch)) c
      → StandsFor (stand es ss e.topic) (λ l k. IsLeft ledger kept batch changes limit l k) c
  either_left ledger batch kept changes limit b low c either =
      let all = lengthened ledger batch in
      let later = after_all changes kept in
      ⊎_elim
      (λ is. record { ledger = all; kept = later; is_left = inr (inr (no_trim all limit later (below es ss ea ca e s el sl c all later is), refl)); stands = is })
      (λ is. record { ledger = trimmed b all; kept = later; is_left = inr (inr (a_trim all limit b later low (below es ss ea ca e s el sl c (trimmed b all) later is), refl)); stands = is }) either
