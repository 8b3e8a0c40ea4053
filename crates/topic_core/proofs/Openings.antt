-- A topic that was opened, or opened again, is sound.
use Rattle.std.proofs.Common.{◌≡◌, ℕ, ◌^◌, ◌≤◌, ◌<◌, true, Option, None, Some, is_some, List, [], ◌∷◌, length, take, drop, nat_eq, refl, ap, sym, subst, ◌∙◌, arith}
use Rattle.std.specs.Ordering.{nat_cmp}
use Rattle.std.specs.Cmp.Lexicographic.{slice_cmp}
use Rattle.std.specs.FinMap as map
use Rattle.cursor.specs.Positions.{Positions}
use Rattle.std.specs.List.{AllByRecursion, IsDistinct}
use Rattle.commands.specs.declared.reply.Reply.{Reply}
use Rattle.managed_ledger.specs.Entries.{Ledger, end_of}
use Rattle.records.specs.Maps.{Kept}
use Rattle.reply_queues.specs.Replies.{SessionReplies, receipts_in}
use Rattle.subscriptions.specs.Steps as subscriptions
use Rattle.subscriptions.specs.Laws.{AreDurable, IsKept}
use Rattle.subscriptions.specs.Marks.{Marks}
use Rattle.subscriptions.specs.State.{Subscriptions}
use Rattle.subscriptions.proofs.Durable.{are_kept}
use Rattle.subscriptions.proofs.Limits.{each_sound, each_committed}
use Rattle.topic_core.specs.State.{Topic, opened, entries_of}
use Rattle.topic_core.specs.Crashes.{reopened}
use Rattle.topic_core.specs.Soundness.{IsSound, AreReceipts, HasReceipts, IsReceiptWithin}
use Rattle.topic_core.proofs.Floors.{opened_floor}
use Rattle.topic_core.proofs.Queues.{all-each, all-both, sum_by-none}
use Rattle.topic_core.proofs.Receipts.{within-wider, all-replies}
use Rattle.topic_core.proofs.Slotted.{AreMarks}

no_sessions : IsDistinct nat_eq []
unfolding IsDistinct
no_sessions = tt

pub sound-opened : (n : ℕ) (ledger : Ledger) (marks : Marks) (kept : Kept) → 0 < n → end_of ledger ≤ 2 ^ 62 → AreMarks marks.slots marks.messages (end_of ledger) → AreDurable kept → IsSound (opened n ledger marks kept)
sound-opened n ledger marks kept some few are durable = record {
  numbered = some;
  few = omega arith;
  small = omega arith;
  each_small = λ k d h. absurd (omega (arith, h));
  readable = tt;
  entries = omega (arith, few);
  sends = omega arith;
  receipts = omega arith;
  handed_on = omega arith;
  promises = omega arith;
  changes = omega arith;
  sessions = no_sessions;
  within = tt;
  sure = λ none. tt;
  closing = λ none. tt;
  told = λ failed. tt;
  subs = each_sound.mark (subscriptions.opened kept) marks.slots marks.messages are.few (each_sound.opened kept durable);
  slotted = omega (arith, are.slotted);
  counted = omega (arith, are.counted);
  sent = each_committed.mark (end_of ledger) (subscriptions.opened kept) marks.slots marks.messages (each_committed.opened (end_of ledger) kept);
  trims = opened_floor n ledger marks kept;
}

pub receipts-opened : (n : ℕ) (ledger : Ledger) (marks : Marks) (kept : Kept) → AreReceipts (opened n ledger marks kept)
receipts-opened n ledger marks kept = record { each = tt; single = λ k. omega arith }

-- what is durable is kept, with the marks of the entries
pub kept-filled : (n : ℕ) (kept found : Kept) (slots messages : List ℕ) (subs : Subscriptions) → subs ≡ subscriptions.marked (subscriptions.opened kept) slots messages → found ≡ kept → AreDurable kept
    → IsKept n found subs
kept-filled n kept found slots messages subs filled same durable = subst (λ (k : Kept). IsKept n k subs) (sym same)
    (subst (λ (s : Subscriptions). IsKept n kept s) (sym filled) (are_kept.mark n kept (subscriptions.opened kept) slots messages (are_kept.opened n kept durable)))

none-handed : (q : SessionReplies) → (q.pending ≡ []) × (q.handed_on ≤ length q.pending) → q.handed_on ≡ 0
none-handed q x = omega (arith, x.1, ap (λ (rs : List Reply). length rs) x.0)

none-first : (q : SessionReplies) → (q.pending ≡ []) × (q.handed_on ≤ length q.pending) → take q.handed_on q.pending ≡ []
none-first q x = ap (λ n. take n q.pending) (none-handed q x)

none-left : (q : SessionReplies) → (q.pending ≡ []) × (q.handed_on ≤ length q.pending) → drop q.handed_on q.pending ≡ []
none-left q x = ap (λ n. drop n q.pending) (none-handed q x) ∙ x.0

module _ (t : Topic) (ledger : Ledger) (marks : Marks) (kept : Kept) (sound : IsSound t) where
  -- nothing of a failed topic awaits a flush
  quiet : t.failed ≡ true → AllByRecursion (λ q. (q.pending ≡ []) × (q.handed_on ≤ length q.pending)) t.queues
  quiet was = all-both (λ q. q.pending ≡ []) (λ q. q.handed_on ≤ length q.pending) t.queues (sound.told was) sound.within

  pub sound-reopened : t.failed ≡ true → t.committed ≤ end_of ledger → end_of ledger ≤ 2 ^ 62 → AreMarks marks.slots marks.messages (end_of ledger) → AreDurable kept → IsSound (reopened t ledger marks kept)
  sound-reopened was more few have durable =
      let on = sum_by-none (λ (q : SessionReplies). receipts_in (take q.handed_on q.pending)) t.queues (all-each _ _ t.queues (λ q x. ap (λ rs. receipts_in rs) (none-first q x)) (quiet was)) in
      let left = sum_by-none (λ (q : SessionReplies). receipts_in (drop q.handed_on q.pending)) t.queues (all-each _ _ t.queues (λ q x. ap (λ rs. receipts_in rs) (none-left q x)) (quiet was)) in
      record {
        numbered = sound.numbered;
        few = omega arith;
        small = omega arith;
        each_small = λ k d h. absurd (omega (arith, h));
        readable = tt;
        entries = omega (arith, few);
        sends = sound.sends;
        receipts = omega (arith, sound.receipts, more);
        handed_on = omega (arith, on);
        promises = omega (arith, left);
        changes = omega arith;
        sessions = sound.sessions;
        within = sound.within;
        sure = λ none. all-each _ _ t.queues (λ q x. none-handed q x) (quiet was);
        closing = λ none. tt;
        told = λ failed. all-each _ _ t.queues (λ q x. x.0) (quiet was);
        subs = each_sound.mark (subscriptions.opened kept) marks.slots marks.messages have.few (each_sound.opened kept durable);
        slotted = omega (arith, have.slotted);
        counted = omega (arith, have.counted);
        sent = each_committed.mark (end_of ledger) (subscriptions.opened kept) marks.slots marks.messages (each_committed.opened (end_of ledger) kept);
        trims = record { counted = refl; rises = omega arith; committed = omega arith; made = tt; beside = tt };
      }

  pub receipts-reopened : AreReceipts t → t.failed ≡ true → t.committed ≤ end_of ledger → AreReceipts (reopened t ledger marks kept)
  receipts-reopened are was more =
      let n = t.per_ledger in
      let h = entries_of t.doubt in
      let w = length t.waiting in
      record {
        each = all-each (λ q. HasReceipts n t.committed h w q × ((q.pending ≡ []) × (q.handed_on ≤ length q.pending))) (HasReceipts n (end_of ledger) 0 0) t.queues
            (λ q x. record {
              given = all-replies (IsReceiptWithin n 0 t.committed) (IsReceiptWithin n 0 (end_of ledger)) q.due (λ r y. within-wider n 0 t.committed 0 (end_of ledger) r (omega arith) more y) x.0.given;
              awaited = rw (none-first q x.1) tt;
              promised = rw (none-left q x.1) tt;
            })
            (all-both (HasReceipts n t.committed h w) (λ q. (q.pending ≡ []) × (q.handed_on ≤ length q.pending)) t.queues are.each (quiet was));
        single = λ k. are.single k;
      }

-- ---- a topic that is made

is_none : {X : Type 0} (o : Option X) → o ≡ None → is_some o ≡ true → ⊥
is_none None is some = cc
is_none (Some x) is some = cc

-- no durable subscription is there yet
pub none_durable : AreDurable map.empty
none_durable = record {
  few = omega (arith, map.len-empty (slice_cmp nat_cmp) Positions);
  named = λ name there. absurd (is_none _ (map.get-empty (slice_cmp nat_cmp) name) there);
}

no_entries : {X : Type 0} (es : List X) → length es ≡ 0 → es ≡ []
no_entries [] none = refl
no_entries (e ∷ es) none = absurd (omega (arith, none))

pub empty_subs : subscriptions.none_yet ≡ subscriptions.marked (subscriptions.opened map.empty) [] []
empty_subs =
    let kept : Kept = map.empty in
    let none : map.entries kept ≡ [] = no_entries (map.entries kept) (sym (map.len-entries kept) ∙ map.len-empty (slice_cmp nat_cmp) Positions) in
    ap (λ (es : List (List ℕ × Positions)). subscriptions.marked (subscriptions.opened_all es) [] []) (sym none)
