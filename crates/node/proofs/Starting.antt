-- Topics that were just opened are sound, and owe nothing.
use Rattle.std.proofs.Common.{◌≡◌, ℕ, ◌<◌, ◌≤◌, ◌^◌, refl, sym, subst, arith}
use Rattle.managed_ledger.specs.Entries.{Ledger, end_of}
use Rattle.records.specs.Floors.{HaveBelow}
use Rattle.records.specs.Maps.{Kept}
use Rattle.subscriptions.specs.Steps as subscriptions
use Rattle.subscriptions.specs.Laws.{AreDurable}
use Rattle.subscriptions.proofs.Durable.{are_kept}
use Rattle.subscriptions.specs.Marks.{Marks}
use Rattle.topic_core.specs.Messages.{marks_of}
use Rattle.topic_core.specs.State.{Topic, opened}
use Rattle.topic_core.specs.Soundness.{IsSoundTopic}
use Rattle.topic_core.proofs.Floors.{opened_acknowledged}
use Rattle.topic_core.proofs.Openings.{sound-opened, receipts-opened}
use Rattle.topic_core.proofs.Slotted.{are_marks, marks_none}
use Rattle.node.specs.Finding.{IsQuiet}

-- a topic is as it was opened
abbrev pub IsAsOpened : ℕ → Topic → Type 0
IsAsOpened n t = t ≡ opened n t.ledger (marks_of t.ledger) t.kept

opened_sound : (n : ℕ) (ledger : Ledger) (kept : Kept) → 0 < n → end_of ledger ≤ 2 ^ 62 → AreDurable kept → HaveBelow ledger.base kept → IsSoundTopic (opened n ledger (marks_of ledger) kept)
opened_sound n ledger kept some few durable below = record {
  state = sound-opened n ledger (marks_of ledger) kept some few (are_marks ledger) durable;
  receipts = receipts-opened n ledger (marks_of ledger) kept;
  counted = refl;
  kept = are_kept.mark (end_of ledger) kept (subscriptions.opened kept) (marks_of ledger).slots (marks_of ledger).messages (are_kept.opened (end_of ledger) kept durable);
  marks = marks_none ledger;
  acknowledged = opened_acknowledged n ledger (marks_of ledger) kept below;
}

pub starts_sound : (n : ℕ) (t : Topic) → IsAsOpened n t → 0 < n → end_of t.ledger ≤ 2 ^ 62 → AreDurable t.kept → HaveBelow t.ledger.base t.kept → IsSoundTopic t
starts_sound n t is some few durable below = subst (λ (x : Topic). IsSoundTopic x) (sym is) (opened_sound n t.ledger t.kept some few durable below)

opened_quiet : (n : ℕ) (ledger : Ledger) (marks : Marks) (kept : Kept) → IsQuiet (opened n ledger marks kept)
opened_quiet n ledger marks kept = record { queues = refl; waiting = refl; sure = refl; counted = refl; trims = omega arith }

pub starts_quiet : (n : ℕ) (t : Topic) → IsAsOpened n t → IsQuiet t
starts_quiet n t is = subst (λ (x : Topic). IsQuiet x) (sym is) (opened_quiet n t.ledger (marks_of t.ledger) t.kept)
