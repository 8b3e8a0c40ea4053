-- What a trim takes, and what it may take.
use Rattle.std.proofs.Common.{◌≡◌, ◌⊎◌, inl, inr, ℕ, ◌+◌, ◌-◌, ◌*◌, ◌/◌, ◌%◌, ◌<◌, ◌≤◌, max, Bool, true, false, cond, Option, None, Some, List, [], ◌∷◌, ◌++◌, length, drop, map, replicate, refl, sym, ap, subst, ◌∙◌, arith, append-nil}
use Rattle.std.specs.List.{AllByRecursion, find}
use Rattle.std.specs.Option.{option_map}
use Rattle.std.proofs.lemmas.Bool.{true≢false, cases_lt}
use Rattle.std.proofs.lemmas.Nat.{div-add-mod'}
use Rattle.std.proofs.Math.Nat.{mul-mod_left}
use Rattle.std.proofs.lemmas.List.{drop-append-le, length-take-le, take_all, drop_all, take-append-drop, drop-map}
use Rattle.cursor.specs.Positions.{Positions}
use Rattle.records.specs.Floors.{HasBelow, HaveBelow, StartsFrom, StartFrom}
use Rattle.records.specs.Staying.{stays_all}
use Rattle.holds.specs.declared.consumer.ConsumerKey.{ConsumerKey}
use Rattle.managed_ledger.specs.Entries.{Entries, Ledger, end_of, lengthened, trimmed}
use Rattle.managed_ledger.specs.Trims.{end_lengthened, end_trimmed, lengthened_both}
use Rattle.records.specs.declared.record.Record.{Record}
use Rattle.records.specs.declared.record.Record.TheVariants.{Made, Removed, Acknowledged, AcknowledgedThrough, AcknowledgedRange}
use Rattle.records.specs.Maps.{Kept}
use Rattle.records.specs.Records.{after_all}
use Rattle.subscriptions.specs.Laws.{IsKept, IsOpenFor, acked_as}
use Rattle.subscriptions.specs.State.{Subscription, Subscriptions}
use Rattle.subscriptions.specs.Soundness.{HasLimits}
use Rattle.subscriptions.specs.Steps.{is_named, is_on}
use Rattle.subscriptions.specs.Trimming.{IsPast}
use Rattle.subscriptions.proofs.Fronts.{past_lower}
use Rattle.subscriptions.proofs.Kept.{acked_found, after_parts}
use Rattle.subscriptions.proofs.Limits.{picked}
use Rattle.subscriptions.specs.Marks.{Marks, marks_in}
use Rattle.topic_core.specs.Slots.{slot_of_entry}
use Rattle.topic_core.specs.Messages.{messages_of_entry, marks_of}
use Rattle.topic_core.proofs.Slotted.{known_of, known_trimmed}
use Rattle.topic_core.specs.State.{Topic, Doubt, floor, floor_of, opened, entries_of, changes_of, entries_in_doubt, changes_in_doubt}
use Rattle.topic_core.specs.Soundness.{HasFloor, IsAcknowledged}
use Rattle.topic_core.specs.Flush.{IsPassed, IsTrimPoint, handed_on, finished, taken_back, failed}
use Rattle.topic_core.specs.Crashes.{IsLeft, reopened, longer, changed}
use Rattle.topic_core.specs.Dispatch.{Admits}
use Rattle.topic_core.proofs.Receipts.{all-append}

-- ---- a ledger that grows behind a trim

pub trimmed_lengthened : (l : Ledger) (b : ℕ) (more : Entries) → b ≤ end_of l → lengthened (trimmed b l) more ≡ trimmed b (lengthened l more)
trimmed_lengthened l b more low = (λ i. record { base = max l.base b; entries = sym (drop-append-le (b - l.base) l.entries more (omega (arith, low))) i })

-- a trim up to where it begins takes nothing
pub trimmed_at : (l : Ledger) (b : ℕ) → b ≤ l.base → trimmed b l ≡ l
trimmed_at l b low =
    let base : max l.base b ≡ l.base = omega (arith, low) in
    let none : b - l.base ≡ 0 = omega (arith, low) in
    (λ i. record { base = base i; entries = drop (none i) l.entries })

pub trimmed_at_base : (l : Ledger) → trimmed l.base l ≡ l
trimmed_at_base l = trimmed_at l l.base (omega arith)

-- or what it takes from there on
pub trimmed_same : (l : Ledger) (b : ℕ) → trimmed b l ≡ trimmed (max l.base b) l
trimmed_same l b =
    let base : max l.base b ≡ max l.base (max l.base b) = omega arith in
    let gone : b - l.base ≡ max l.base b - l.base = omega arith in
    (λ i. record { base = base i; entries = drop (gone i) l.entries })

-- ---- positions below a lower one

pub starts_lower : (b c : ℕ) (rs : List Record) → b ≤ c → StartFrom c rs → StartFrom b rs
starts_lower b c [] low all = tt
starts_lower b c (Made name start ∷ rs) low all = (omega (arith, low, all.0), starts_lower b c rs low all.1)
starts_lower b c (Removed name ∷ rs) low all = (tt, starts_lower b c rs low all.1)
starts_lower b c (Acknowledged name p ∷ rs) low all = (tt, starts_lower b c rs low all.1)
starts_lower b c (AcknowledgedThrough name p ∷ rs) low all = (tt, starts_lower b c rs low all.1)
starts_lower b c (AcknowledgedRange name p q ∷ rs) low all = (tt, starts_lower b c rs low all.1)

pub have_lower : (b c : ℕ) (kept : Kept) → b ≤ c → HaveBelow c kept → HaveBelow b kept
have_lower b c kept low have name acked there i less = have name acked there i (omega (arith, low, less))

-- ---- changes more

-- these subscriptions have changes more, of which none makes a subscription that begins before the floor
pub record AddsFrom (b : ℕ) (old new : Subscriptions) : Type 0 where
  pub more : List Record
  pub is : new.changes ≡ old.changes ++ more
  pub from : StartFrom b more

pub adds_none : (b : ℕ) (old new : Subscriptions) → new.changes ≡ old.changes → AddsFrom b old new
adds_none b old new same = record { more = []; is = same ∙ sym (append-nil old.changes); from = tt }

pub with_changes : (t : Topic) (subs : Subscriptions) → changes_of t.doubt ≤ length t.subs.changes → AddsFrom (floor t) t.subs subs → HasFloor t → HasFloor (record t { subs = subs })
with_changes t subs few adds f = record {
  counted = f.counted;
  rises = f.rises;
  committed = f.committed;
  made = subst (λ (cs : List Record). StartFrom t.ledger.base cs) (sym adds.is) (all-append (StartsFrom t.ledger.base) t.subs.changes adds.more f.made (starts_lower t.ledger.base (floor t) adds.more f.rises adds.from));
  beside =
      subst (λ (cs : List Record). StartFrom (floor t) (drop (changes_of t.doubt) cs)) (sym adds.is)
      (subst (λ (cs : List Record). StartFrom (floor t) cs) (sym (drop-append-le (changes_of t.doubt) t.subs.changes adds.more few))
      (all-append (StartsFrom (floor t)) (drop (changes_of t.doubt) t.subs.changes) adds.more f.beside adds.from));
}

pub point_rises : (t : Topic) (p : ℕ) → IsTrimPoint t p → t.ledger.base ≤ p
point_rises t p (inl is) = omega (arith, is)
point_rises t p (inr is) = is.rises

-- the last position up to one that is passed which begins a ledger id is passed, too
pub passed_start : (t : Topic) (p start : ℕ) → start ≡ p - p % t.per_ledger → t.ledger.base ≤ start → p ≤ t.committed → 0 < length t.subs.subs → AllByRecursion (IsPast p) t.subs.subs → IsPassed t start
passed_start t p start is rises committed some past =
    let whole : start ≡ p / t.per_ledger * t.per_ledger = omega (arith, is, div-add-mod' p t.per_ledger) in
    record {
      begins = ap (λ (n : ℕ). n % t.per_ledger) whole ∙ mul-mod_left (p / t.per_ledger) t.per_ledger;
      rises = rises;
      committed = omega (arith, is, committed);
      some = some;
      past = past_lower p start t.subs.subs (omega (arith, is)) past;
    }

-- ---- what is past

-- all subscriptions are past a position where the map that they are has all below it
pub past_named : (b : ℕ) (name : List ℕ) (acked : Positions) (subs : List Subscription) → AllByRecursion (IsPast b) subs → acked_as name subs ≡ Some acked → HasBelow b acked
past_named b name acked [] all is = absurd (none_is acked is)
  where
    none_is : (s : Positions) → (let o : Option Positions = None in o ≡ Some s) → ⊥
    none_is s same = cc
past_named b name acked (s ∷ subs) all is = by_test (is_named name s) (λ rest. past_named b name acked subs all.1 rest) is
  where
    same_set : (x y : Positions) → Some x ≡ Some y → x ≡ y
    same_set x y same = cc

    by_test : (t : Bool) → (acked_as name subs ≡ Some acked → HasBelow b acked) → option_map (λ (z : Subscription). z.acked) (cond t (Some s) (find (is_named name) subs)) ≡ Some acked → HasBelow b acked
    by_test true behind same = subst (λ (x : Positions). HasBelow b x) (same_set s.acked acked same) all.0
    by_test false behind rest = behind rest

module _ (t : Topic) (kept : IsKept t.committed t.kept t.subs) (f : HasFloor t) (acknowledged : IsAcknowledged t) where
  -- the durable subscriptions with all changes have all below the floor
  pub all_below : HaveBelow (floor t) (after_all t.subs.changes t.kept)
  all_below =
      subst (λ (k : Kept). HaveBelow (floor t) k) (after_parts (changes_of t.doubt) t.subs.changes t.kept)
      (stays_all (floor t) (changed t) (drop (changes_of t.doubt) t.subs.changes) acknowledged.doubted f.beside)

  base_below : HaveBelow t.ledger.base (after_all t.subs.changes t.kept)
  base_below = stays_all t.ledger.base t.kept t.subs.changes acknowledged.durable f.made

  -- and where each subscription is past a position, they have all below it
  past_below : (b : ℕ) → AllByRecursion (IsPast b) t.subs.subs → HaveBelow b (after_all t.subs.changes t.kept)
  past_below b all name acked there = past_named b name acked t.subs.subs all (sym (kept.same name) ∙ there)

  pub point_below : (p : ℕ) → IsTrimPoint t p → HaveBelow p (after_all t.subs.changes t.kept)
  point_below p (inl is) = subst (λ (b : ℕ). HaveBelow b (after_all t.subs.changes t.kept)) (sym is) base_below
  point_below p (inr is) = past_below p is.past

  -- what may be given to a consumer isn't below the floor
  open_above : HasLimits t.subs → (key : ConsumerKey) (i : ℕ) (o : Option Subscription) → find (is_on key) t.subs.subs ≡ o → IsOpenFor o t.committed i → floor t ≤ i
  open_above limits key i None found is = absurd is
  open_above limits key i (Some s) found is =
      let has = all_below s.name s.acked (kept.same s.name ∙ acked_found (is_on key) t.subs.subs s limits.names found) i in
      elim (cases_lt i (floor t)) [
        | inl less ↦ absurd (true≢false (sym (has less) ∙ is.is_unacked))
        | inr more ↦ more
      ]

  pub admitted_above : HasLimits t.subs → (key : ConsumerKey) (i : ℕ) → Admits t key i → floor t ≤ i
  admitted_above limits key i a = open_above limits key i (find (is_on key) t.subs.subs) refl (picked t.subs key t.committed i a.admitted)

  -- ---- the parts of a flush

  pub handed_on_acknowledged : (p : ℕ) → IsTrimPoint t p → IsAcknowledged (handed_on t p)
  handed_on_acknowledged p point = record {
    rises = point_rises t p point;
    durable = acknowledged.durable;
    doubted = subst (λ (cs : List Record). HaveBelow p (after_all cs t.kept)) (sym (take_all (length t.subs.changes) t.subs.changes (omega arith))) (point_below p point);
  }

pub point_committed : (t : Topic) (p : ℕ) → HasFloor t → IsTrimPoint t p → p ≤ t.committed
point_committed t p f (inl is) = omega (arith, is, f.rises, f.committed)
point_committed t p f (inr is) = is.committed

pub handed_on_floor : (t : Topic) (p : ℕ) → IsTrimPoint t p → HasFloor t → HasFloor (handed_on t p)
handed_on_floor t p point f = record {
  counted = f.counted;
  rises = point_rises t p point;
  committed = point_committed t p f point;
  made = f.made;
  beside = subst (λ (cs : List Record). StartFrom p cs) (sym (drop_all (length t.subs.changes) t.subs.changes (omega arith))) tt;
}

pub taken_back_floor : (t : Topic) → HasFloor t → HasFloor (taken_back t)
taken_back_floor t f = record { counted = f.counted; rises = omega arith; committed = omega (arith, f.rises, f.committed); made = f.made; beside = f.made }

pub failed_floor : (t : Topic) → HasFloor t → HasFloor (failed t)
failed_floor t f = record { counted = f.counted; rises = f.rises; committed = f.committed; made = f.made; beside = f.beside }

pub taken_back_acknowledged : (t : Topic) → IsAcknowledged t → IsAcknowledged (taken_back t)
taken_back_acknowledged t is = record { rises = omega arith; durable = is.durable; doubted = is.durable }

pub failed_acknowledged : (t : Topic) → IsAcknowledged t → IsAcknowledged (failed t)
failed_acknowledged t is = record { rises = is.rises; durable = is.durable; doubted = is.doubted }

-- what is read of two topics that have the same ledger, durable subscriptions, doubt and changes in doubt
pub same_acknowledged : (old new : Topic) → new.ledger ≡ old.ledger → new.kept ≡ old.kept → new.doubt ≡ old.doubt → changes_in_doubt new ≡ changes_in_doubt old → IsAcknowledged old → IsAcknowledged new
same_acknowledged old new ledger kept doubt changes is = record {
  rises = omega (arith, is.rises, ap (λ (l : Ledger). l.base) ledger, ap (λ (l : Ledger). floor_of l.base new.doubt) ledger, ap (λ (o : Option Doubt). floor_of old.ledger.base o) doubt);
  durable = subst (λ (l : Ledger). HaveBelow l.base new.kept) (sym ledger) (subst (λ (k : Kept). HaveBelow old.ledger.base k) (sym kept) is.durable);
  doubted =
      subst (λ (l : Ledger). HaveBelow (floor_of l.base new.doubt) (changed new)) (sym ledger)
      (subst (λ (o : Option Doubt). HaveBelow (floor_of old.ledger.base o) (changed new)) (sym doubt)
      (subst (λ (cs : List Record). HaveBelow (floor old) (after_all cs new.kept)) (sym changes)
      (subst (λ (k : Kept). HaveBelow (floor old) (after_all (changes_in_doubt old) k)) (sym kept) is.doubted)));
}

module _ (t : Topic) (b : ℕ) (few : entries_of t.doubt ≤ length t.waiting) (f : HasFloor t) (low : b ≤ floor t) where
  longer_end : end_of (longer t) ≡ t.committed + entries_of t.doubt
  longer_end = omega (arith, f.counted, end_lengthened t.ledger (entries_in_doubt t), length-take-le (entries_of t.doubt) t.waiting few)

  pub trimmed_end : end_of (trimmed b (longer t)) ≡ t.committed + entries_of t.doubt
  trimmed_end = end_trimmed (longer t) b (omega (arith, longer_end, low, f.committed)) ∙ longer_end

  pub finished_floor : HasFloor (finished t b)
  finished_floor = record {
    counted = trimmed_end;
    rises = omega arith;
    committed = omega (arith, low, f.rises, f.committed);
    made = starts_lower (max t.ledger.base b) (floor t) (drop (changes_of t.doubt) t.subs.changes) (omega (arith, low, f.rises)) f.beside;
    beside = starts_lower (max t.ledger.base b) (floor t) (drop (changes_of t.doubt) t.subs.changes) (omega (arith, low, f.rises)) f.beside;
  }

  pub finished_acknowledged : IsAcknowledged t → IsAcknowledged (finished t b)
  finished_acknowledged is = record {
    rises = omega arith;
    durable = have_lower (max t.ledger.base b) (floor t) (changed t) (omega (arith, low, f.rises)) is.doubted;
    doubted = have_lower (max t.ledger.base b) (floor t) (changed t) (omega (arith, low, f.rises)) is.doubted;
  }

  -- the marks that are forgotten are those of what is gone
  finished_known : (gone : ℕ) (of : List ℕ → ℕ) (known : List ℕ) → known ≡ known_of gone of (lengthened t.ledger t.waiting)
      → replicate (max t.ledger.base b) gone ++ drop (max t.ledger.base b) known ≡ known_of gone of (lengthened (finished t b).ledger (finished t b).waiting)
  finished_known gone of known is =
      let n = entries_of t.doubt in
      let whole : lengthened t.ledger t.waiting ≡ lengthened (longer t) (drop n t.waiting) =
      ap (λ (z : Entries). lengthened t.ledger z) (sym (take-append-drop n t.waiting)) ∙ sym (lengthened_both t.ledger (entries_in_doubt t) (drop n t.waiting)) in
      let within : b ≤ end_of (longer t) = omega (arith, longer_end, low, f.committed) in
      ap (λ (s : List ℕ). replicate (max t.ledger.base b) gone ++ drop (max t.ledger.base b) s) (is ∙ ap (λ (l : Ledger). known_of gone of l) whole)
      ∙ known_trimmed gone of (lengthened (longer t) (drop n t.waiting)) b
      ∙ ap (λ (l : Ledger). known_of gone of l) (sym (trimmed_lengthened (longer t) b (drop n t.waiting) within))

  pub finished_marks : marks_in t.subs ≡ marks_of (lengthened t.ledger t.waiting) → marks_in (finished t b).subs ≡ marks_of (lengthened (finished t b).ledger (finished t b).waiting)
  finished_marks is =
      let slots = finished_known 0 slot_of_entry t.subs.slots (ap (λ (m : Marks). m.slots) is) in
      let messages = finished_known 1 messages_of_entry t.subs.messages (ap (λ (m : Marks). m.messages) is) in
      (λ i. record { slots = slots i; messages = messages i })

-- ---- a topic that was opened

pub opened_floor : (n : ℕ) (ledger : Ledger) (marks : Marks) (kept : Kept) → HasFloor (opened n ledger marks kept)
opened_floor n ledger marks kept = record { counted = refl; rises = omega arith; committed = omega arith; made = tt; beside = tt }

pub opened_acknowledged : (n : ℕ) (ledger : Ledger) (marks : Marks) (kept : Kept) → HaveBelow ledger.base kept → IsAcknowledged (opened n ledger marks kept)
opened_acknowledged n ledger marks kept have = record { rises = omega arith; durable = have; doubted = have }

pub reopened_acknowledged : (t : Topic) (ledger : Ledger) (marks : Marks) (kept : Kept) → HaveBelow ledger.base kept → IsAcknowledged (reopened t ledger marks kept)
reopened_acknowledged t ledger marks kept have = record { rises = omega arith; durable = have; doubted = have }

-- whatever a crash leaves is acknowledged below its first entry
pub left_below : (t : Topic) (ledger : Ledger) (kept : Kept) → IsAcknowledged t → IsLeft t ledger kept → HaveBelow ledger.base kept
left_below t ledger kept is (inl same) = subst (λ (l : Ledger). HaveBelow l.base kept) (sym same.0) (subst (λ (k : Kept). HaveBelow t.ledger.base k) (sym same.1) is.durable)
left_below t ledger kept is (inr (inl more)) = subst (λ (l : Ledger). HaveBelow l.base kept) (sym more.0) (subst (λ (k : Kept). HaveBelow t.ledger.base k) (sym more.1) is.durable)
left_below t ledger kept is (inr (inr trim)) = trim.0.acknowledged

-- and has as many entries in all as were committed, or those in doubt too
pub left_end : (t : Topic) (ledger : Ledger) (kept : Kept) → HasFloor t → IsLeft t ledger kept → (end_of ledger ≡ t.committed) ⊎ (end_of ledger ≡ end_of (longer t))
left_end t ledger kept f (inl same) = inl (ap (λ (l : Ledger). end_of l) same.0 ∙ f.counted)
left_end t ledger kept f (inr (inl more)) = inr (ap (λ (l : Ledger). end_of l) more.0)
left_end t ledger kept f (inr (inr trim)) =
    let low : ledger.base ≤ end_of (longer t) = omega (arith, trim.0.below, f.rises, f.committed, f.counted, end_lengthened t.ledger (entries_in_doubt t)) in
    inr (ap (λ (l : Ledger). end_of l) trim.0.is ∙ end_trimmed (longer t) ledger.base low)
